-- "No weight of a bounded flow exceeds that flow's bound, nor does its allowance, and the bound is at most its period. Sums therefore stay inside 64 bits under these limits".
use Prim.Native.Nat.{ℕ, zero, suc, ◌+◌, ◌-◌, ◌*◌, ◌≤◌, ◌<◌, min}
use mathlib.Core.Path.{◌≡◌, refl}
use mathlib.Core.Bool.{Bool, true, false, not, false≢true}
use mathlib.Core.List.{List, [], ◌∷◌, map}
use native.Mathlib.Nat.{le_refl, mul-le-mul}
use native.Mathlib.Omega.{arith}
use lib.ListN.{length}
use Rattle.plan_values.specs.declared.Platform.{Platform}
use Rattle.plan_values.specs.declared.Flow.{Flow}
use Rattle.plan.specs.Legal.{LegalPlatform, LegalFlow, Legal, flow}
use Rattle.mesh.proofs.Theorems.{route_most}
use Rattle.std.proofs.lemmas.List.Elements.{All-cons}
use Rattle.std.proofs.lemmas.List.Sums.{sum_by-cons}
use Rattle.recurrence.specs.Rounding.{up}
use Rattle.recurrence.specs.Sums.{sum_over}
use Rattle.recurrence.specs.Recurrence.{Term, delay, right_side}
use Rattle.recurrence.specs.Verdicts.{Bound}
use Rattle.recurrence.specs.Limits.{Fair, AllFair}
use Rattle.recurrence.proofs.Quotients.{up_mono}
use Rattle.model.specs.declared.Method.{Method}
use Rattle.model.specs.declared.Method.TheVariants.{SB, XLWX, IBN}
use Rattle.model.specs.declared.Verdict.{Verdict}
use Rattle.model.specs.declared.Verdict.TheVariants.{Bounded, Late, Waits}
use Rattle.model.specs.Links.{route_of}
use Rattle.model.specs.Latency.{method_used, flits_sent, latency, limit}
use Rattle.model.specs.Interference.{direct_for, indirect_for, comes_before, upstream_for, downstream_for, keep, those}
use Rattle.model.specs.Delays.{hits, hit_sum, buffered, allowance, weight, term, terms}
use Rattle.model.specs.Verdicts.{bound_in, is_bounded, terms_of, recurrence_of}
use Rattle.model.specs.Rules.{AllBounded, Says}
use Rattle.model.proofs.Links.{ends, route_within}
use Rattle.framing.proofs.Tests.{and_left}

-- ---- latencies and hits are small
-- The two parts of a latency are at most these: "link cycles x (flits + length - 1)", with up to 8 priority flits, and "routing cycles x (length - 1)".
abbrev pub link_most : ℕ
link_most = 16 * 65558

abbrev pub routing_most : ℕ
routing_most = 16 * 15

module _ {p : Platform} {f : Flow} (lp : LegalPlatform p) (l : LegalFlow p f) where
  pub flits_few : flits_sent p f ≤ 65543
  flits_few = omega (arith, l.flits.1, lp.priority_flits.1)

  pub link_part : p.link * (flits_sent p f + length (route_of p f) - 1) ≤ link_most
  link_part = mul-le-mul {n₂ = 16} {m₂ = 65558} lp.link.1 (omega (arith, flits_few, route_most (ends lp l)))

  pub routing_part : p.routing * (length (route_of p f) - 1) ≤ routing_most
  routing_part = mul-le-mul {n₂ = 16} {m₂ = 15} lp.routing.1 (omega (arith, route_most (ends lp l)))

  pub latency_small : latency p f ≤ link_most + routing_most
  unfolding latency
  latency_small = omega (arith, link_part, routing_part)

  -- A latency is not 0: a flit passes a link.
  pub latency_some : 1 ≤ latency p f
  unfolding latency
  latency_some =
      let n : 1 ≤ flits_sent p f + length (route_of p f) - 1 = omega (arith, route_within lp l) in
      omega (arith, mul-le-mul {n₁ = 1} {m₁ = 1} {n₂ = p.link} {m₂ = flits_sent p f + length (route_of p f) - 1} lp.link.0 n)

-- ---- the hits of some flows cost no more than the packets of more flows
-- A term whose delay a flow's hits times its cost do not exceed.
pub record Above (cost : Flow → ℕ) (t : Flow → Term) (k : Flow) : Type 0 where
  pub period : (t k).period ≡ k.period
  pub shift : k.jitter ≤ (t k).shift
  pub weight : cost k ≤ (t k).weight

module _ (small big : Flow → Bool) (more : (k : Flow) → small k ≡ true → big k ≡ true) (cost : Flow → ℕ) (t : Flow → Term) (above : (k : Flow) → Above cost t k) (R : ℕ) where
  one_below : (k : Flow) → hits R k * cost k ≤ delay (t k) R
  one_below k =
      let n : up (R + k.jitter) k.period ≤ up (R + (t k).shift) k.period = up_mono k.period (omega (arith, (above k).shift)) in
      mul-le-mul (rw (above k).period n) (above k).weight

  pub hits_below : (fs : List Flow) → hit_sum cost R (those small fs) ≤ sum_over (map t (those big fs)) (λ t. delay t R)
  unfolding those sum_over
  hits_below [] = omega arith
  hits_below (k ∷ fs) = go (small k) (big k) (more k) (hits_below fs)
    where
      go :
          (a b : Bool) → (a ≡ true → b ≡ true) → hit_sum cost R (those small fs) ≤ sum_over (map t (those big fs)) (λ t. delay t R) →
          hit_sum cost R (keep a k (those small fs)) ≤ sum_over (map t (keep b k (those big fs))) (λ t. delay t R)
      go true true h rest = omega (arith, one_below k, sum_by-cons (λ j. hits R j * cost j) k (those small fs), sum_by-cons (λ u. delay u R) (t k) (map t (those big fs)))
      go true false h rest = absurd (false≢true (h refl))
      go false true h rest = omega (arith, sum_by-cons (λ u. delay u R) (t k) (map t (those big fs)))
      go false false h rest = rest

-- What one flow of a plan brings to a sum over those that pass a test.
pub those_one : (test : Flow → Bool) (figure : Flow → ℕ) (fs : List Flow) (k : ℕ) → k < length fs → test (flow fs k) ≡ true → figure (flow fs k) ≤ sum_over (those test fs) figure
unfolding those sum_over
those_one test figure [] k l e = absurd (omega arith)
those_one test figure (f ∷ fs) zero l e = rw e (omega (arith, sum_by-cons figure f (those test fs)))
those_one test figure (f ∷ fs) (suc k) l e = go (test f) (those_one test figure fs k (omega arith) e)
  where
    go : (b : Bool) → figure (flow fs k) ≤ sum_over (those test fs) figure → figure (flow fs k) ≤ sum_over (keep b f (those test fs)) figure
    go true rest = omega (arith, sum_by-cons figure f (those test fs))
    go false rest = rest

-- A term's weight is at least the flow's latency.
pub weight_least : (m : Method) (p : Platform) (fs : List Flow) (R : ℕ) (i j : Flow) → latency p j ≤ weight m p fs R i j
unfolding weight
weight_least SB p fs R i j = le_refl _
weight_least XLWX p fs R i j = omega arith
weight_least IBN p fs R i j = omega arith

-- A flow upstream or downstream for (i, j) is direct for j.
pub indirect_direct : (p : Platform) (i j k : Flow) → indirect_for p i j k ≡ true → direct_for p j k ≡ true
unfolding indirect_for
indirect_direct p i j k e = and_left (direct_for p j k) _ e

pub upstream_direct : (p : Platform) (i j k : Flow) → upstream_for p i j k ≡ true → direct_for p j k ≡ true
upstream_direct p i j k e = indirect_direct p i j k (and_left (indirect_for p i j k) (comes_before p i j k) e)

pub downstream_direct : (p : Platform) (i j k : Flow) → downstream_for p i j k ≡ true → direct_for p j k ≡ true
downstream_direct p i j k e = indirect_direct p i j k (and_left (indirect_for p i j k) (not (comes_before p i j k)) e)

-- ---- R solves the recurrence of j
module _ (p : Platform) (fs : List Flow) (bound : Flow → ℕ) (m : Method) (j : Flow) (R : ℕ) (solves : right_side (latency p j) (terms m p fs bound j) R ≡ R) where
  -- The hits of some of its direct flows, at no more than their latency, with its own latency.
  pub hits_within :
      (test : Flow → Bool) → ((k : Flow) → test k ≡ true → direct_for p j k ≡ true) → (cost : Flow → ℕ) → ((k : Flow) → cost k ≤ latency p k) →
      latency p j + hit_sum cost R (those test fs) ≤ R
  unfolding terms term
  hits_within test sub cost low =
      let above : (k : Flow) → Above cost (λ k. term m p fs (bound k) j k) k = λ k. record {
        period = refl;
        shift = omega arith;
        weight = omega (arith, low k, weight_least m p fs (bound k) j k);
      } in
      omega (arith, hits_below test (direct_for p j) sub cost (λ k. term m p fs (bound k) j k) above R fs, solves)

  pub latency_within : latency p j ≤ R
  latency_within = omega (arith, solves)

  -- The hits of one direct flow.
  pub hit_small : (k : ℕ) → k < length fs → direct_for p j (flow fs k) ≡ true → hits R (flow fs k) * latency p (flow fs k) ≤ R
  hit_small k l d =
      omega (arith, those_one (direct_for p j) (λ k. hits R k * latency p k) fs k l d, hits_within (direct_for p j) (λ k e. e) (latency p) (λ k. le_refl _))

  pub upstream_within : (i : Flow) → latency p j + hit_sum (latency p) R (those (upstream_for p i j) fs) ≤ R
  upstream_within i = hits_within (upstream_for p i j) (upstream_direct p i j) (latency p) (λ k. le_refl _)

  pub downstream_within : (i : Flow) (cost : Flow → ℕ) → ((k : Flow) → cost k ≤ latency p k) → latency p j + hit_sum cost R (those (downstream_for p i j) fs) ≤ R
  downstream_within i cost low = hits_within (downstream_for p i j) (downstream_direct p i j) cost low

  pub allowance_within : (m' : Method) (i : Flow) → allowance m' p fs R i j ≤ R
  unfolding allowance
  allowance_within SB i = omega arith
  allowance_within XLWX i = omega (arith, upstream_within i)
  allowance_within IBN i = omega arith

  pub weight_within : (m' : Method) (i : Flow) → weight m' p fs R i j ≤ R
  unfolding weight
  weight_within SB i = latency_within
  weight_within XLWX i = downstream_within i (latency p) (λ k. le_refl _)
  weight_within IBN i = downstream_within i (λ k. min (latency p k) (buffered p i j)) (λ k. omega arith)

-- "the bound is at most its period": the deadline is, and the limit is at most the deadline.
pub limit_period : {p : Platform} {j : Flow} → LegalFlow p j → limit j ≤ j.period
limit_period l = omega (arith, l.deadline)

-- What a bounded flow's answer says.
pub bound_said :
    (p : Platform) (fs : List Flow) (answer : Flow → Verdict) (j : Flow) (v : Verdict) → is_bounded v ≡ true → Says p fs answer j v →
    Bound (recurrence_of p fs answer j) (limit j) (bound_in v)
bound_said p fs answer j (Bounded r k) e s = s.bound
bound_said p fs answer j (Late k) e s = absurd (false≢true e)
bound_said p fs answer j (Waits n) e s = absurd (false≢true e)

module _ (p : Platform) (fs : List Flow) (answer : Flow → Verdict) (j : Flow) (l : LegalFlow p j) (R : ℕ) (b : Bound (recurrence_of p fs answer j) (limit j) R) where
  pub bound_within : (R ≤ j.period) × (R ≤ 1_000_000_000)
  bound_within = let h : limit j ≤ j.period = limit_period l in omega (arith, b.within, l.period)

  -- So a bounded direct flow's term is fair.
  pub term_fair : (i : Flow) → Fair (term (method_used p) p fs R i j)
  unfolding term
  term_fair i =
      let m = method_used p in
      let a = allowance_within p fs (λ j. bound_in (answer j)) m j R b.solves m i in
      let w = weight_within p fs (λ j. bound_in (answer j)) m j R b.solves m i in
      record {
        some = omega (arith, l.period);
        period = l.period.1;
        shift = omega (arith, a, bound_within, l.jitter);
        light = omega (arith, w, bound_within);
      }

fair_those : (test : Flow → Bool) (t : Flow → Term) (fs : List Flow) → ((k : ℕ) → k < length fs → test (flow fs k) ≡ true → Fair (t (flow fs k))) → AllFair (map t (those test fs))
unfolding those
fair_those test t [] h = λ k d l. absurd (omega (arith, l))
fair_those test t (f ∷ fs) h = go (test f) (h 0 (omega arith)) (fair_those test t fs (λ k l. h (suc k) (omega arith)))
  where
    go : (b : Bool) → (b ≡ true → Fair (t f)) → AllFair (map t (those test fs)) → AllFair (map t (keep b f (those test fs)))
    go true e rest = All-cons Fair (t f) (map t (those test fs)) (e refl) rest
    go false e rest = rest

pub either : (v : Verdict) → (is_bounded v ≡ false → ⊥) → is_bounded v ≡ true
either (Bounded r k) h = refl
either (Late k) h = absurd (h refl)
either (Waits n) h = absurd (h refl)

-- The terms of a flow that does not wait are fair, if the answers to its direct flows are right.
pub terms_fair :
    (p : Platform) (fs : List Flow) → Legal p fs → (answer : Flow → Verdict) (i : Flow) →
    ((k : ℕ) → k < length fs → direct_for p i (flow fs k) ≡ true → Says p fs answer (flow fs k) (answer (flow fs k))) →
    AllBounded p fs answer i → AllFair (terms_of p fs answer i)
unfolding terms
terms_fair p fs legal answer i right free =
    fair_those (direct_for p i) (λ j. term (method_used p) p fs (bound_in (answer j)) i j) fs
    (λ k l d.
    let e : is_bounded (answer (flow fs k)) ≡ true = either (answer (flow fs k)) (λ h. free k (record { inside = l; direct = d; unbounded = h })) in
    term_fair p fs answer (flow fs k) (legal.each k l) (bound_in (answer (flow fs k))) (bound_said p fs answer (flow fs k) (answer (flow fs k)) e (right k l d)) i)
