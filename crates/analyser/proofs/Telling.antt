-- What the numbers of a verdict tell of it.
use Prim.Native.Nat.{ℕ, ◌≤◌}
use mathlib.Core.Path.{◌≡◌, refl, ap}
use mathlib.Core.Logic.{◌↔◌, ◌≢◌}
use native.Mathlib.Omega.{arith}
use Rattle.model.specs.declared.Verdict.{Verdict}
use Rattle.model.specs.declared.Verdict.TheVariants.{Bounded, Late, Waits}
use Rattle.model.specs.Verdicts.{verdict_number, named_flow, bound_in, rounds_in}

pub tells_bounded : (v : Verdict) (r : ℕ) → ((verdict_number v ≡ 0) × (bound_in v ≡ r)) ↔ ((n : ℕ) × (v ≡ Bounded r n))
tells_bounded v r = (go v, λ (n, e). (ap verdict_number e, ap bound_in e))
  where
    go : (v : Verdict) → (verdict_number v ≡ 0) × (bound_in v ≡ r) → (n : ℕ) × (v ≡ Bounded r n)
    go (Bounded s n) (e, f) = (n, ap (λ x. Bounded x n) f)
    go (Late n) (e, f) = absurd (omega arith)
    go (Waits id) (e, f) = absurd (omega arith)

pub tells_rounds : (v : Verdict) (n : ℕ) → ((verdict_number v ≡ 1) × (rounds_in v ≡ n)) ↔ (v ≡ Late n)
tells_rounds v n = (go v, λ e. (ap verdict_number e, ap rounds_in e))
  where
    go : (v : Verdict) → (verdict_number v ≡ 1) × (rounds_in v ≡ n) → v ≡ Late n
    go (Bounded r m) (e, f) = absurd (omega arith)
    go (Late m) (e, f) = ap Late f
    go (Waits id) (e, f) = absurd (omega arith)

pub tells_late : (v : Verdict) → (verdict_number v ≡ 1) ↔ ((n : ℕ) × (v ≡ Late n))
tells_late v = (λ e. (rounds_in v, (tells_rounds v (rounds_in v)).0 (e, refl)), λ (n, e). ap verdict_number e)

pub tells_names : (v : Verdict) (id : ℕ) → ((verdict_number v ≡ 2) × (named_flow v ≡ id)) ↔ (v ≡ Waits id)
tells_names v id = (go v, λ e. (ap verdict_number e, ap named_flow e))
  where
    go : (v : Verdict) → (verdict_number v ≡ 2) × (named_flow v ≡ id) → v ≡ Waits id
    go (Bounded r n) (e, f) = absurd (omega arith)
    go (Late n) (e, f) = absurd (omega arith)
    go (Waits m) (e, f) = ap Waits f

pub tells_waits : (v : Verdict) → (verdict_number v ≡ 2) ↔ ((id : ℕ) × (v ≡ Waits id))
tells_waits v = (λ e. (named_flow v, (tells_names v (named_flow v)).0 (e, refl)), λ (id, e). ap verdict_number e)

-- "The named flow is FFFF unless the verdict is 2; the bound is 0 unless the verdict is 0."
pub tells_only : (v : Verdict) → (verdict_number v ≤ 2) × (verdict_number v ≢ 2 → named_flow v ≡ 0xFFFF) × (verdict_number v ≢ 0 → bound_in v ≡ 0)
tells_only (Bounded r n) = (omega arith, (λ h. refl), λ h. absurd (h refl))
tells_only (Late n) = (omega arith, (λ h. refl), λ h. refl)
tells_only (Waits id) = (omega arith, (λ h. absurd (h refl)), λ h. refl)
