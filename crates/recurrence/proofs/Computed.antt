-- There is exactly one allowed outcome, and `comes_to` computes it.
use Prim.Native.Nat.{ℕ, zero, suc, ◌+◌, ◌-◌, ◌<◌}
use mathlib.Core.Path.{◌≡◌, refl, ap, ap₂, subst}
use mathlib.Core.Logic.{◌↔◌}
use mathlib.Core.Bool.{Bool, true, false}
use native.Mathlib.Nat.{le_antisymm}
use native.Mathlib.Omega.{arith}
use lib.Dec.{eqb, ltb}
use borrow.Author.Tests.{eqb-true, eqb-false, ltb-true, ltb-false}
use Rattle.recurrence.specs.declared.Settled.{Settled}
use Rattle.recurrence.specs.declared.Settled.TheVariants.{Bounded, Late}
use Rattle.recurrence.specs.Verdicts.{Bound, NoBound, RightVerdict, replaced, Last, Rounds, rounds_of, Allowed}
use Rattle.recurrence.specs.ComesTo.{comes_to_from, comes_to}
use Rattle.recurrence.proofs.Climbing.{Rising, Climbing, late_at_once, climbing_none, climbing_bounded, climbing_late, climbing_raised, climbing_more}

-- Of two first places where something holds, neither is before the other.
first_once : (P : ℕ → Type 0) {k l : ℕ} → ((i : ℕ) → i < k → P i → ⊥) → P k → ((i : ℕ) → i < l → P i → ⊥) → P l → k ≡ l
first_once P {k} {l} before_k at_k before_l at_l =
    let p : ¬ (k < l) = λ h. before_l k h at_k in let q : ¬ (l < k) = λ h. before_k l h at_l in omega arith

pub rounds_once : (F : ℕ → ℕ) (c limit k l : ℕ) → Rounds F c limit k → Rounds F c limit l → k ≡ l
unfolding Rounds
rounds_once F c limit zero zero a b = refl
rounds_once F c limit zero (suc l) a b = omega arith
rounds_once F c limit (suc k) zero a b = omega arith
rounds_once F c limit (suc k) (suc l) a b = ap suc (first_once (λ i. Last F limit (replaced F c i)) a.1 a.2 b.1 b.2)

bound_once : {F : ℕ → ℕ} {limit r s : ℕ} → Bound F limit r → Bound F limit s → r ≡ s
bound_once {F} {limit} {r} {s} a b = le_antisymm (a.least s b.solves) (b.least r a.solves)

pub allowed_once : {F : ℕ → ℕ} {c limit : ℕ} (o p : Settled) → Allowed F c limit o → Allowed F c limit p → o ≡ p
allowed_once {F} {c} {limit} o p a b =
    same o p a.verdict b.verdict (rounds_once F c limit (rounds_of o) (rounds_of p) a.rounds b.rounds)
  where
    same : (o p : Settled) → RightVerdict F limit o → RightVerdict F limit p → rounds_of o ≡ rounds_of p → o ≡ p
    same (Bounded r k) (Bounded s l) v w e = ap₂ Bounded (bound_once v w) e
    same (Bounded r k) (Late l) v w e = absurd (w r v.within v.solves)
    same (Late k) (Bounded s l) v w e = absurd (v s w.within w.solves)
    same (Late k) (Late l) v w e = ap Late e

module _ (F : ℕ → ℕ) (limit : ℕ) where
  pub verdict_bounded : (o : Settled) → RightVerdict F limit o → (r : ℕ) → ((k : ℕ) × (o ≡ Bounded r k)) ↔ Bound F limit r
  verdict_bounded (Bounded s k) v r = (
    (λ (l, e). let same : s ≡ r = cc in subst (Bound F limit) same v),
    (λ b. (k, ap (λ (n : ℕ). Bounded n k) (bound_once v b))),
  )
  verdict_bounded (Late k) v r =
      ((λ (l, e). let z : ◌≡◌ {A = ℕ} 0 1 = cc in absurd (omega arith)), (λ b. absurd (v r b.within b.solves)))

  pub verdict_late : (o : Settled) → RightVerdict F limit o → ((k : ℕ) × (o ≡ Late k)) ↔ NoBound F limit
  verdict_late (Bounded s k) v =
      ((λ (l, e). let z : ◌≡◌ {A = ℕ} 0 1 = cc in absurd (omega arith)), (λ none. absurd (none s v.within v.solves)))
  verdict_late (Late k) v = ((λ w. v), (λ none. (k, refl)))

-- What holds of each of two answers in its case holds of the answer that a test picks.
by_test : {A : Type 0} (P : A → Type 0) (b : Bool) {m n : A} → (b ≡ true → P m) → (b ≡ false → P n) → P (elim b [ true ↦ m | false ↦ n ])
by_test P true one other = one refl
by_test P false one other = other refl

module _ {F : ℕ → ℕ} {c : ℕ} (rising : Rising F c) where
  from_allowed : (fuel : ℕ) {limit x k : ℕ} → Climbing F c limit x k → limit < x + fuel → Allowed F c limit (comes_to_from fuel F limit x k)
  unfolding comes_to_from
  from_allowed zero s far = absurd (omega (arith, s.within))
  from_allowed (suc fuel) {limit} {x} {k} s far =
      by_test (Allowed F c limit) (eqb (F x) x)
      (λ same. climbing_bounded rising s refl (eqb-true _ _ same))
      (λ diff. let new = eqb-false _ _ diff in
      by_test (Allowed F c limit) (ltb limit (F x))
      (λ high. climbing_late rising s refl (ltb-true _ _ high))
      (λ low. from_allowed fuel (climbing_more rising s refl new (ltb-false _ _ low)) (omega (arith, climbing_raised rising s refl new))))

  pub computed_allowed : (limit : ℕ) → Allowed F c limit (comes_to F c limit)
  unfolding comes_to
  computed_allowed limit =
      by_test (Allowed F c limit) (ltb limit c)
      (λ high. late_at_once rising (ltb-true _ _ high))
      (λ low. from_allowed (suc (limit - c)) (climbing_none rising (ltb-false _ _ low)) (omega arith))
