-- The platform's seventh byte: when it stands, and when it is written.
use Prim.Native.Nat.{ℕ, ◌+◌, ◌≤◌}
use native.Mathlib.Omega.{arith}
use native.Mathlib.Decide.{ℕ_discrete}
use mathlib.Core.Path.{◌≡◌}
use mathlib.Core.List.{List}
use mathlib.Core.Logic.{◌≢◌, ◌⊎◌, inl, inr, ⊎_elim}
use borrow.Author.Tests.{eq-eqb, ne_eqb}
use Rattle.framing.specs.First.{◌when◌else◌}
use Rattle.framing.specs.Header.{length_at}
use Rattle.framing_numbers.specs.Numbers.{one_at}
use Rattle.plan_values.specs.Values.{priority_flits_at, platform_length}
use Rattle.plan_values.specs.declared.Platform.{Platform}

module _ (s : List ℕ) (at : ℕ) where
  pub seventh : length_at s at ≡ 7 → priority_flits_at s at ≡ one_at s (at + 9)
  unfolding priority_flits_at ◌when◌else◌
  seventh e = simp (eq-eqb (length_at s at) 7 e)

  pub no_seventh : (length_at s at ≡ 7 → ⊥) → priority_flits_at s at ≡ 0
  unfolding priority_flits_at ◌when◌else◌
  no_seventh n = simp (ne_eqb (length_at s at) 7 n)

module _ (p : Platform) where
  pub six_for_none : p.priority_flits ≡ 0 → platform_length p ≡ 6
  unfolding platform_length ◌when◌else◌
  six_for_none e = simp (eq-eqb p.priority_flits 0 e)

  pub seven_for_some : (p.priority_flits ≡ 0 → ⊥) → platform_length p ≡ 7
  unfolding platform_length ◌when◌else◌
  seven_for_some n = simp (ne_eqb p.priority_flits 0 n)

  pub either_length : ((platform_length p ≡ 6) × (p.priority_flits ≡ 0)) ⊎ ((platform_length p ≡ 7) × (p.priority_flits ≢ 0))
  either_length = go (ℕ_discrete p.priority_flits 0)
    where
      go : Dec (p.priority_flits ≡ 0) → ((platform_length p ≡ 6) × (p.priority_flits ≡ 0)) ⊎ ((platform_length p ≡ 7) × (p.priority_flits ≢ 0))
      go (yes z) = inl (six_for_none z, z)
      go (no n) = inr (seven_for_some n, n)

  pub length_within : (6 ≤ platform_length p) × (platform_length p ≤ 7)
  length_within = ⊎_elim (λ w. (omega (arith, w.0), omega (arith, w.0))) (λ w. (omega (arith, w.0), omega (arith, w.0))) either_length
