-- The recurrences that are used are equations (3), (6) and (10) of source document 002, for every legal plan, every flow of it and every window.
use Prim.Native.Nat.{ℕ, suc, ◌+◌, ◌-◌, ◌*◌, ◌/◌, ◌%◌, ◌≤◌, ◌<◌, min}
use mathlib.Core.Path.{◌≡◌, refl, sym, ap, ap₂}
use mathlib.Core.Bool.{Bool, true, false, cond}
use mathlib.Core.Logic.{◌↔◌}
use mathlib.Core.List.{List, [], ◌∷◌}
use native.Mathlib.Nat.{le_refl, add_assoc, mul-add, mul_comm, mod-lt, div-add-mod', div-lt_iff_lt-mul}
use native.Mathlib.Omega.{arith}
use lib.Dec.{eqb}
use lib.ListN.{length, get_or}
use borrow.Author.Tests.{eqb-true, eqb-false}
use Rattle.plan_values.specs.declared.Platform.{Platform}
use Rattle.plan_values.specs.declared.Flow.{Flow}
use Rattle.plan.specs.Legal.{LegalPlatform, LegalFlow, Legal, flow}
use Rattle.plan.specs.Reading.{accepted, read_plan}
use Rattle.plan.proofs.Exact.{legal}
use Rattle.std.proofs.lemmas.List.Sums.{sum_by-cons}
use Rattle.recurrence.specs.Rounding.{up}
use Rattle.recurrence.specs.Sums.{sum_over}
use Rattle.recurrence.specs.Recurrence.{delay, right_side}
use Rattle.recurrence.specs.Verdicts.{Bound, NoBound}
use Rattle.recurrence.proofs.Quotients.{up_covers}
use Rattle.model.specs.declared.Method.{Method}
use Rattle.model.specs.declared.Method.TheVariants.{SB, XLWX, IBN}
use Rattle.model.specs.declared.Verdict.{Verdict}
use Rattle.model.specs.declared.Verdict.TheVariants.{Bounded, Late}
use Rattle.model.specs.declared.Answer.{Answer}
use Rattle.model.specs.Links.{route_of}
use Rattle.model.specs.Latency.{method_used, flits_sent, latency, limit}
use Rattle.model.specs.Interference.{direct_for, upstream_for, downstream_for, keep, those}
use Rattle.model.specs.Delays.{hits, hit_sum, buffered, allowance, weight, term, terms}
use Rattle.model.specs.Verdicts.{bound_in, recurrence_of, verdict, answers}
use Rattle.model.specs.Rules.{AllBounded}
use Rattle.model.specs.PaperSets.{T, J, C, FlowSet, sum, Sᴰ}
use Rattle.model.specs.PaperEquations.{⌈◌÷◌⌉, hits_in, bi₇, Jᴵ, R₃, Iᵘᵖ₄, Iᵈᵒʷⁿ₅, R₆, Iᵈᵒʷⁿ₉, R₁₀, equation_of}
use Rattle.model.proofs.Links.{route_within}
use Rattle.model.proofs.FlowLines.{sum_map, verdict_line}
use Rattle.model.proofs.PaperSets.{direct_is, upstream_is, downstream_is}

-- ---- figures of one flow
-- The quotient, and one more where something is left over, covers a with no period too many.
ceiling_is : (a b : ℕ) → 0 < b → ⌈ a ÷ b ⌉ ≡ up a b
unfolding ⌈◌÷◌⌉
ceiling_is a b some = go (eqb (a % b) 0) refl
  where
    whole : a / b * b + a % b ≡ a
    whole = div-add-mod' a b

    least : a ≤ up a b * b
    least = (up_covers a (up a b) some).0 (le_refl (up a b))

    low : a / b < suc (up a b)
    low = (div-lt_iff_lt-mul some).1 (omega (arith, least))

    go : (t : Bool) → eqb (a % b) 0 ≡ t → a / b + cond t 0 1 ≡ up a b
    go true e =
        let none : a % b ≡ 0 = eqb-true _ _ e in
        let high : up a b ≤ a / b = (up_covers a (a / b) some).1 (omega (arith, whole)) in
        omega (arith, low)
    go false e =
        let more : a % b ≡ 0 → ⊥ = eqb-false _ _ e in
        let high : up a b ≤ suc (a / b) = (up_covers a (suc (a / b)) some).1 (omega (arith, whole, mod-lt a some)) in
        let other : a / b ≡ up a b → ⊥ = λ same. omega (arith, whole, rw (← same) at least) in
        omega (arith, low)

-- The header's way and the flits behind it: "link cycles x (flits + length - 1) + routing cycles x (length - 1)".
pub latency_is : {p : Platform} {f : Flow} → LegalPlatform p → LegalFlow p f → C p f ≡ latency p f
unfolding C latency
latency_is {p} {f} a w =
    let n = length (route_of p f) in
    let sent = flits_sent p f in
    let all : sent + n - 1 ≡ n + (sent - 1) = omega (arith, w.flits, route_within a w) in
    rw all (omega (arith, mul-add p.link n (sent - 1), mul_comm n p.link, mul_comm (sent - 1) p.link, mul_comm (n - 1) p.routing))

hits_are : {p : Platform} {k : Flow} → LegalFlow p k → (x : ℕ) → hits_in x k ≡ hits x k
hits_are {k = k} w x = ceiling_is (x + k.jitter) k.period (omega (arith, w.period))

buffered_is : (p : Platform) (i j : Flow) → bi₇ p i j ≡ buffered p i j
buffered_is p i j = omega arith

-- ⌈(x + J_j + A) / T_j⌉ W is j's term at x.
term_is : {p : Platform} {j : Flow} → LegalFlow p j → (x : ℕ) {A a W v : ℕ} → A ≡ a → W ≡ v → ⌈ (x + J j + A) ÷ T j ⌉ * W ≡ delay (record { shift = j.jitter + a; period = j.period; weight = v }) x
term_is {j = j} w x {A} same alike = rw (ceiling_is (x + j.jitter + A) j.period (omega (arith, w.period)), add_assoc x j.jitter A, same, alike)

-- ---- sums over a set of the plan's flows
sum_is :
    (S : FlowSet) (test : Flow → Bool) (g h : Flow → ℕ) (fs : List Flow) →
    ((k : ℕ) → k < length fs → S (flow fs k) ≡ test (flow fs k)) →
    ((k : ℕ) → k < length fs → test (flow fs k) ≡ true → g (flow fs k) ≡ h (flow fs k)) → sum fs S g ≡ sum_over (those test fs) h
unfolding sum those sum_over
sum_is S test g h [] sets figures = refl
sum_is S test g h (f ∷ fs) sets figures =
    rw (sets 0 (omega arith)) (go (test f) (figures 0 (omega arith)) (sum_is S test g h fs (λ k l. sets (suc k) (omega arith)) (λ k l. figures (suc k) (omega arith))))
  where
    go : (b : Bool) → (b ≡ true → g f ≡ h f) → sum fs S g ≡ sum_over (those test fs) h → cond b (g f) 0 + sum fs S g ≡ sum_over (keep b f (those test fs)) h
    go true e rest = omega (arith, e refl, rest, sum_by-cons h f (those test fs))
    go false e rest = omega (arith, rest)

-- ---- the equations
module _ {p : Platform} {fs : List Flow} (w : Legal p fs) (R : Flow → ℕ) (i : ℕ) (li : i < length fs) where
  C_is : (k : ℕ) → k < length fs → C p (flow fs k) ≡ latency p (flow fs k)
  C_is k l = latency_is w.platform (w.each k l)

  -- What hits on j cost, summed over the flows of a set that is one of document 01's.
  cost_is :
      (S : FlowSet) (test : Flow → Bool) (c cost : Flow → ℕ) (x : ℕ) → ((k : ℕ) → k < length fs → S (flow fs k) ≡ test (flow fs k)) →
      ((k : ℕ) → k < length fs → c (flow fs k) ≡ cost (flow fs k)) → sum fs S (λ k. hits_in x k * c k) ≡ hit_sum cost x (those test fs)
  cost_is S test c cost x sets costs =
      sum_is S test (λ k. hits_in x k * c k) (λ k. hits x k * cost k) fs sets (λ k l e. ap₂ (λ (m n : ℕ). m * n) (hits_are (w.each k l) x) (costs k l))

  -- A right side whose interference jitter is A and whose packets of j cost W.
  equation :
      (m : Method) (A W : Flow → ℕ) →
      ((j : ℕ) → j < length fs → direct_for p (flow fs i) (flow fs j) ≡ true → A (flow fs j) ≡ allowance m p fs (R (flow fs j)) (flow fs i) (flow fs j)) →
      ((j : ℕ) → j < length fs → direct_for p (flow fs i) (flow fs j) ≡ true → W (flow fs j) ≡ weight m p fs (R (flow fs j)) (flow fs i) (flow fs j)) →
      (x : ℕ) → right_side (latency p (flow fs i)) (terms m p fs R (flow fs i)) x ≡ C p (flow fs i) + sum fs (Sᴰ p (flow fs i)) (λ j. ⌈ (x + J j + A j) ÷ T j ⌉ * W j)
  unfolding terms term
  equation m A W allowed weighs x =
      rw (C_is i li, sum_map (λ j. term m p fs (R j) (flow fs i) j) (λ t. delay t x) (those (direct_for p (flow fs i)) fs))
      (ap (λ (n : ℕ). latency p (flow fs i) + n)
      (sym (sum_is (Sᴰ p (flow fs i)) (direct_for p (flow fs i)) _ _ fs (λ k l. direct_is p (flow fs i) (flow fs k)) (λ j l d. term_is (w.each j l) x (allowed j l d) (weighs j l d)))))

  pub sb_is_3 : (x : ℕ) → right_side (latency p (flow fs i)) (terms SB p fs R (flow fs i)) x ≡ R₃ p fs R (flow fs i) x
  unfolding allowance weight
  sb_is_3 = equation SB (Jᴵ p fs R) (C p) (λ j l d. omega (arith, C_is j l)) (λ j l d. C_is j l)

  pub xlwx_is_6 : (x : ℕ) → right_side (latency p (flow fs i)) (terms XLWX p fs R (flow fs i)) x ≡ R₆ p fs R (flow fs i) x
  unfolding allowance weight
  xlwx_is_6 =
      equation XLWX (λ j. Iᵘᵖ₄ p fs R j (flow fs i)) (λ j. C p j + Iᵈᵒʷⁿ₅ p fs R j (flow fs i))
      (λ j l d. cost_is _ (upstream_for p (flow fs i) (flow fs j)) (C p) (latency p) (R (flow fs j)) (λ k lk. upstream_is w i j k li l lk d) C_is)
      (λ j l d. ap₂ (λ (m n : ℕ). m + n) (C_is j l) (cost_is _ (downstream_for p (flow fs i) (flow fs j)) (C p) (latency p) (R (flow fs j)) (λ k lk. downstream_is w i j k li l lk d) C_is))

  pub ibn_is_10 : (x : ℕ) → right_side (latency p (flow fs i)) (terms IBN p fs R (flow fs i)) x ≡ R₁₀ p fs R (flow fs i) x
  unfolding allowance weight
  ibn_is_10 =
      equation IBN (Jᴵ p fs R) (λ j. C p j + Iᵈᵒʷⁿ₉ p fs R j (flow fs i)) (λ j l d. omega (arith, C_is j l))
      (λ j l d.
      ap₂ (λ (m n : ℕ). m + n) (C_is j l)
      (cost_is _ (downstream_for p (flow fs i) (flow fs j)) (λ k. min (bi₇ p (flow fs i) (flow fs j)) (C p k)) (λ k. min (latency p k) (buffered p (flow fs i) (flow fs j))) (R (flow fs j))
      (λ k lk. downstream_is w i j k li l lk d)
      (λ k lk. omega (arith, C_is k lk, buffered_is p (flow fs i) (flow fs j)))))

  -- The right side of each method is its equation's.
  pub equation_is : (m : Method) (x : ℕ) → right_side (latency p (flow fs i)) (terms m p fs R (flow fs i)) x ≡ equation_of p fs R m (flow fs i) x
  equation_is SB = sb_is_3
  equation_is XLWX = xlwx_is_6
  equation_is IBN = ibn_is_10

-- ---- the recurrence that is used
module _ {p : Platform} {fs : List Flow} (w : Legal p fs) (answer : Flow → Verdict) (i : ℕ) (li : i < length fs) where
  -- The equation of the method really used, from the answers to the other flows.
  pub recurrence_is : recurrence_of p fs answer (flow fs i) ≡ equation_of p fs (λ j. bound_in (answer j)) (method_used p) (flow fs i)
  recurrence_is = λ t x. equation_is w (λ j. bound_in (answer j)) i li (method_used p) x t

-- A flow's equation, R_j being the bounds that the answer gives.
abbrev pub equation_used : Platform → List Flow → Flow → ℕ → ℕ
equation_used p fs i = equation_of p fs (λ j. bound_in (verdict p fs j)) (method_used p) i

-- ---- for every flow of an accepted plan and its line in the answer
module _ (s : List ℕ) (p : Platform) (fs : List Flow) (e : read_plan s ≡ accepted p fs) (blank : Answer) (k : ℕ) (l : k < length fs) where
  -- Bounded by r exactly if its direct flows are bounded and r is the least whole number that solves its equation, and within its limit; late exactly if none is.
  pub bounded_by_equation :
      (r : ℕ) → ((n : ℕ) × ((get_or (answers p fs) k blank).verdict ≡ Bounded r n)) ↔ (AllBounded p fs (verdict p fs) (flow fs k) × Bound (equation_used p fs (flow fs k)) (limit (flow fs k)) r)
  bounded_by_equation r = rw (← recurrence_is (legal s p fs e) (verdict p fs) k l) ((verdict_line s p fs e blank k l).bounded r)

  pub late_by_equation :
      ((n : ℕ) × ((get_or (answers p fs) k blank).verdict ≡ Late n)) ↔ (AllBounded p fs (verdict p fs) (flow fs k) × NoBound (equation_used p fs (flow fs k)) (limit (flow fs k)))
  late_by_equation = rw (← recurrence_is (legal s p fs e) (verdict p fs) k l) (verdict_line s p fs e blank k l).late
