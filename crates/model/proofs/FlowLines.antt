-- Demands 2 and 3 of the tender, each as one theorem, for every flow of an accepted plan and its line in the answer.
-- The deadline of their sentences is `limit`: by document 02 (L3) it is read as the deadline less the flow's own jitter.
use Prim.Native.Nat.{ℕ, zero, suc, ◌+◌, ◌-◌, ◌^◌, ◌≤◌, ◌<◌}
use mathlib.Core.Path.{◌≡◌, refl, ap, subst, ◌∙◌}
use mathlib.Core.Bool.{true}
use mathlib.Core.Logic.{◌↔◌}
use mathlib.Core.List.{List, [], ◌∷◌, map}
use native.Mathlib.Decide.{dec_lt}
use native.Mathlib.Omega.{arith}
use lib.ListN.{length, get_or, length-map}
use Rattle.plan_values.specs.declared.Platform.{Platform}
use Rattle.plan_values.specs.declared.Flow.{Flow}
use Rattle.plan.specs.Reading.{accepted, read_plan}
use Rattle.plan.specs.Legal.{Legal, flow}
use Rattle.plan.proofs.Exact.{legal}
use Rattle.recurrence.specs.declared.Settled.{Settled}
use Rattle.recurrence.specs.declared.Settled.TheVariants.{Bounded as BoundedAt, Late as LateAfter}
use Rattle.std.proofs.lemmas.List.Folds.{fold-map}
use Rattle.recurrence.specs.Rounding.{up}
use Rattle.recurrence.specs.Sums.{sum_over}
use Rattle.recurrence.specs.Recurrence.{Term, released}
use Rattle.recurrence.specs.Verdicts.{Bound, NoBound, replaced, Rounds, rounds_of, Allowed}
use Rattle.recurrence.proofs.Theorems.{bounded_exactly, late_exactly, rounds_exactly, rounds_zero, each_raises, rounds_four_bytes, rounds_bounded, rounds_late, rounds_plan, sums_fit}
use Rattle.model.specs.declared.Verdict.{Verdict}
use Rattle.model.specs.declared.Verdict.TheVariants.{Bounded, Late, Waits}
use Rattle.model.specs.declared.Answer.{Answer}
use Rattle.model.specs.Latency.{method_used, latency, limit}
use Rattle.model.specs.Interference.{direct_for, those}
use Rattle.model.specs.Delays.{allowance, weight, term, terms}
use Rattle.model.specs.Verdicts.{is_bounded, bound_in, rounds_in, terms_of, recurrence_of, packets_in, settled_verdict, verdict, answer_to, answers}
use Rattle.model.specs.Rules.{Unbounded, AllBounded, IsWaiting, Says}
use Rattle.model.proofs.Those.{those_few}
use Rattle.model.proofs.Judged.{said_allowed, says_once}
use Rattle.model.proofs.Verdicts.{verdict_says}
use Rattle.model.proofs.Fits.{latency_small, allowance_within, weight_within, limit_period, bound_said, bound_within, terms_fair}

-- "For each flow, in plan order": line k of the answer is flow k's.
pub answers_at : (p : Platform) (fs : List Flow) (blank : Answer) (k : ℕ) → k < length fs → get_or (answers p fs) k blank ≡ answer_to p fs (flow fs k)
unfolding answers
answers_at p fs blank = go fs
  where
    go : (gs : List Flow) (k : ℕ) → k < length gs → get_or (map (answer_to p fs) gs) k blank ≡ answer_to p fs (flow gs k)
    go [] k l = absurd (omega arith)
    go (g ∷ gs) zero l = refl
    go (g ∷ gs) (suc k) l = go gs k (omega arith)

-- ---- demand 2
-- What line `a` of flow i says, exactly.
pub record VerdictLine (p : Platform) (fs : List Flow) (i : Flow) (a : Answer) : Type 0 where
  pub id : a.id ≡ i.id
  -- "A bounded flow gets the least whole number that solves its recurrence within its deadline."
  pub bounded : (r : ℕ) → ((n : ℕ) × (a.verdict ≡ Bounded r n)) ↔ (AllBounded p fs (verdict p fs) i × Bound (recurrence_of p fs (verdict p fs) i) (limit i) r)
  -- "It is called late exactly if no such number exists and all its direct interferers are bounded;
  pub late : ((n : ℕ) × (a.verdict ≡ Late n)) ↔ (AllBounded p fs (verdict p fs) i × NoBound (recurrence_of p fs (verdict p fs) i) (limit i))
  -- it waits exactly if one of them is not."
  pub waits : ((id : ℕ) × (a.verdict ≡ Waits id)) ↔ ((k : ℕ) × Unbounded p fs (verdict p fs) i k)
  -- "It names the unbounded direct flow of highest priority."
  pub names : (id : ℕ) → (a.verdict ≡ Waits id) ↔ IsWaiting p fs (verdict p fs) i id
  -- Each verdict with its rounds.
  pub exactly : (v : Verdict) → (a.verdict ≡ v) ↔ Says p fs (verdict p fs) i v

-- What the recurrence of a flow that does not wait comes to.
abbrev Settles : Platform → List Flow → Flow → Verdict → Type 0
Settles p fs i v = (o : Settled) × (v ≡ settled_verdict o) × Allowed (recurrence_of p fs (verdict p fs) i) (latency p i) (limit i) o

module _ (p : Platform) (fs : List Flow) (i : Flow) where
  settles : (v : Verdict) → Says p fs (verdict p fs) i v → AllBounded p fs (verdict p fs) i → Settles p fs i v
  settles (Bounded r k) s free = (BoundedAt r k, refl, said_allowed p fs (verdict p fs) i (BoundedAt r k) s)
  settles (Late k) s free = (LateAfter k, refl, said_allowed p fs (verdict p fs) i (LateAfter k) s)
  settles (Waits id) s free = absurd (free s.place s.waits)

  waits_if : (v : Verdict) → Says p fs (verdict p fs) i v → (k : ℕ) → Unbounded p fs (verdict p fs) i k → (id : ℕ) × (v ≡ Waits id)
  waits_if (Bounded r n) s k u = absurd (s.free k u)
  waits_if (Late n) s k u = absurd (s.free k u)
  waits_if (Waits id) s k u = (id, refl)

  says_exactly : Legal p fs → (v : Verdict) → (verdict p fs i ≡ v) ↔ Says p fs (verdict p fs) i v
  says_exactly w v = (
    (λ e. subst (Says p fs (verdict p fs) i) e (verdict_says p fs i)),
    (λ s. says_once p fs (verdict p fs) i w (verdict p fs i) v (verdict_says p fs i) s),
  )

  verdict_exactly : Legal p fs → VerdictLine p fs i (answer_to p fs i)
  verdict_exactly w = record {
    id = refl;
    bounded = λ r. (
      (λ (n, e). let s = (says_exactly w (Bounded r n)).0 e in (s.free, s.bound)),
      (λ (free, b).
          let (o, e, a) = settles (verdict p fs i) (verdict_says p fs i) free in
          let (n, f) = (bounded_exactly (latency p i) (limit i) (terms_of p fs (verdict p fs) i) a r).1 b in
          (n, e ∙ ap settled_verdict f)),
    );
    late = (
      (λ (n, e). let s = (says_exactly w (Late n)).0 e in (s.free, s.none)),
      (λ (free, none).
          let (o, e, a) = settles (verdict p fs i) (verdict_says p fs i) free in
          let (n, f) = (late_exactly (latency p i) (limit i) (terms_of p fs (verdict p fs) i) a).1 none in
          (n, e ∙ ap settled_verdict f)),
    );
    waits = (
      (λ (id, e). let s = (says_exactly w (Waits id)).0 e in (s.place, s.waits)),
      (λ (k, u). waits_if (verdict p fs i) (verdict_says p fs i) k u),
    );
    names = λ id. says_exactly w (Waits id);
    exactly = says_exactly w;
  }

-- ---- demand 3
-- What is said of the rounds in line `a` of flow i.
pub record RoundsLine (p : Platform) (fs : List Flow) (i : Flow) (a : Answer) : Type 0 where
  -- "the evaluations of its recurrence, starting at its unloaded latency, until a value repeats or passes the deadline;
  pub exactly : AllBounded p fs (verdict p fs) i → (n : ℕ) → (rounds_in a.verdict ≡ n) ↔ Rounds (recurrence_of p fs (verdict p fs) i) (latency p i) (limit i) n
  -- zero for a flow that waits
  pub waiting : (k : ℕ) → Unbounded p fs (verdict p fs) i k → rounds_in a.verdict ≡ 0
  -- or whose unloaded latency is above its deadline."
  pub too_long : limit i < latency p i → rounds_in a.verdict ≡ 0
  -- "a bounded flow has rounds at most 2 + N(R) - N(C)",
  pub bounded : (r n : ℕ) → a.verdict ≡ Bounded r n → n + packets_in p fs (verdict p fs) i (latency p i) ≤ 2 + packets_in p fs (verdict p fs) i r
  -- "and a late one with C not above the deadline at most 1 + N(deadline) - N(C)."
  pub late : latency p i ≤ limit i → (n : ℕ) → a.verdict ≡ Late n → n + packets_in p fs (verdict p fs) i (latency p i) ≤ 1 + packets_in p fs (verdict p fs) i (limit i)
  -- "Either is at most 2 + sum over direct j of up((deadline - C) / period_j), which needs nothing but the plan."
  pub plan : rounds_in a.verdict ≤ 2 + sum_over (those (direct_for p i) fs) (λ j. up (limit i - latency p i) j.period)
  -- "Each replacement except possibly the last raises x,
  pub raises :
      AllBounded p fs (verdict p fs) i → (n : ℕ) → n + 1 < rounds_in a.verdict →
      replaced (recurrence_of p fs (verdict p fs) i) (latency p i) n < replaced (recurrence_of p fs (verdict p fs) i) (latency p i) (n + 1)
  -- so rounds fit four bytes."
  pub four_bytes : rounds_in a.verdict < 2 ^ 32

pub sum_map : {A B : Type 0} (g : A → B) (f : B → ℕ) (l : List A) → sum_over (map g l) f ≡ sum_over l (λ a. f (g a))
unfolding sum_over
sum_map g f l = fold-map (λ n b. n + f b) g 0 l

rounds_same : (o : Settled) → rounds_in (settled_verdict o) ≡ rounds_of o
rounds_same (BoundedAt r k) = refl
rounds_same (LateAfter k) = refl

module _ (p : Platform) (fs : List Flow) (i : Flow) where
  released_plan : (stretch : ℕ) → released (terms_of p fs (verdict p fs) i) stretch ≡ sum_over (those (direct_for p i) fs) (λ j. up stretch j.period)
  unfolding terms term
  released_plan stretch = sum_map (λ j. term (method_used p) p fs (bound_in (verdict p fs j)) i j) (λ t. up stretch t.period) (those (direct_for p i) fs)

  module _ (low : limit i ≤ 1_000_000_000) where
    -- How many rounds a verdict may hold, by nothing but the plan.
    abbrev Few : Verdict → Type 0
    Few v =
        (limit i < latency p i → rounds_in v ≡ 0)
        × (rounds_in v ≤ 2 + sum_over (those (direct_for p i) fs) (λ j. up (limit i - latency p i) j.period))
        × (rounds_in v < 2 ^ 32)

    settled_few : (o : Settled) → Allowed (recurrence_of p fs (verdict p fs) i) (latency p i) (limit i) o → Few (settled_verdict o)
    settled_few o a =
        let ts = terms_of p fs (verdict p fs) i in
        rw (rounds_same o) ((rounds_zero (latency p i) (limit i) ts a).1, by_plan (dec_lt (limit i) (latency p i)), rounds_four_bytes (latency p i) (limit i) ts a low)
      where
        by_plan : Dec (limit i < latency p i) → rounds_of o ≤ 2 + sum_over (those (direct_for p i) fs) (λ j. up (limit i - latency p i) j.period)
        by_plan (yes h) = omega (arith, (rounds_zero (latency p i) (limit i) (terms_of p fs (verdict p fs) i) a).1 h)
        by_plan (no h) = rw (released_plan (limit i - latency p i)) at (rounds_plan (latency p i) (limit i) (terms_of p fs (verdict p fs) i) (omega arith) o a)

    few : (v : Verdict) → Says p fs (verdict p fs) i v → Few v
    few (Bounded r k) s = settled_few (BoundedAt r k) (said_allowed p fs (verdict p fs) i (BoundedAt r k) s)
    few (Late k) s = settled_few (LateAfter k) (said_allowed p fs (verdict p fs) i (LateAfter k) s)
    few (Waits id) s = ((λ h. refl), omega arith, omega arith)

    rounds_counted : RoundsLine p fs i (answer_to p fs i)
    rounds_counted =
        let says = verdict_says p fs i in
        let ts = terms_of p fs (verdict p fs) i in
        record {
          exactly = λ free n. let (o, e, a) = settles p fs i (verdict p fs i) says free in rw (e, rounds_same o) (rounds_exactly (latency p i) (limit i) ts a n);
          waiting = λ k u. ap rounds_in (waits_if p fs i (verdict p fs i) says k u).1;
          too_long = (few (verdict p fs i) says).0;
          bounded = λ r n e. rounds_bounded (latency p i) (limit i) ts r n (said_allowed p fs (verdict p fs) i (BoundedAt r n) (subst (Says p fs (verdict p fs) i) e says));
          late = λ h n e. rounds_late (latency p i) (limit i) ts h n (said_allowed p fs (verdict p fs) i (LateAfter n) (subst (Says p fs (verdict p fs) i) e says));
          plan = (few (verdict p fs i) says).1;
          raises = λ free n h. let (o, e, a) = settles p fs i (verdict p fs i) says free in each_raises (latency p i) (limit i) ts a n (rw (e, rounds_same o) at h);
          four_bytes = (few (verdict p fs i) says).2;
        }

-- ---- "No weight of a bounded flow exceeds that flow's bound, nor does its allowance, and the bound is at most its period."
pub record WithinBound (p : Platform) (fs : List Flow) (j : Flow) : Type 0 where
  pub weight : (i : Flow) → weight (method_used p) p fs (bound_in (verdict p fs j)) i j ≤ bound_in (verdict p fs j)
  pub allowance : (i : Flow) → allowance (method_used p) p fs (bound_in (verdict p fs j)) i j ≤ bound_in (verdict p fs j)
  pub bound : bound_in (verdict p fs j) ≤ j.period

-- "Sums therefore stay inside 64 bits under these limits": the right side does, and all that is summed on the way.
abbrev pub SumsFit : Platform → List Flow → Flow → Type 0
SumsFit p fs i = AllBounded p fs (verdict p fs) i → (x : ℕ) → x ≤ limit i → recurrence_of p fs (verdict p fs) i x < 2 ^ 38

module _ {p : Platform} {fs : List Flow} (w : Legal p fs) (k : ℕ) (l : k < length fs) where
  low_limit : limit (flow fs k) ≤ 1_000_000_000
  low_limit = let h : limit (flow fs k) ≤ (flow fs k).period = limit_period (w.each k l) in omega (arith, (w.each k l).period)

  pub within : is_bounded (verdict p fs (flow fs k)) ≡ true → WithinBound p fs (flow fs k)
  within e =
      let j = flow fs k in
      let R = bound_in (verdict p fs j) in
      let b = bound_said p fs (verdict p fs) j (verdict p fs j) e (verdict_says p fs j) in
      record {
        weight = weight_within p fs (λ j. bound_in (verdict p fs j)) (method_used p) j R b.solves (method_used p);
        allowance = allowance_within p fs (λ j. bound_in (verdict p fs j)) (method_used p) j R b.solves (method_used p);
        bound = (bound_within p fs (verdict p fs) j (w.each k l) R b).0;
      }

  pub sums_stay : SumsFit p fs (flow fs k)
  unfolding terms
  sums_stay free x low =
      let t : Flow → Term = λ j. term (method_used p) p fs (bound_in (verdict p fs j)) (flow fs k) j in
      let js = those (direct_for p (flow fs k)) fs in
      sums_fit
      (latency p (flow fs k))
      (terms_of p fs (verdict p fs) (flow fs k))
      x
      (omega (arith, latency_small w.platform (w.each k l)))
      (omega (arith, length-map js t, those_few (direct_for p (flow fs k)) fs, w.few))
      (terms_fair p fs w (verdict p fs) (flow fs k) (λ m h d. verdict_says p fs (flow fs m)) free)
      (omega (arith, low_limit))

-- ---- the two demands, from the bytes on
module _ (s : List ℕ) (p : Platform) (fs : List Flow) (e : read_plan s ≡ accepted p fs) (blank : Answer) (k : ℕ) (l : k < length fs) where
  pub verdict_line : VerdictLine p fs (flow fs k) (get_or (answers p fs) k blank)
  verdict_line = rw (answers_at p fs blank k l) (verdict_exactly p fs (flow fs k) (legal s p fs e))

  pub rounds_line : RoundsLine p fs (flow fs k) (get_or (answers p fs) k blank)
  rounds_line = rw (answers_at p fs blank k l) (rounds_counted p fs (flow fs k) (low_limit (legal s p fs e) k l))
