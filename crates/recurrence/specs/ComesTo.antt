-- What a recurrence R = F(R) comes to from the latency c under a limit, computed. For a right side it is the one allowed (Theorems.comes_to_allowed).
use Rattle.std.specs.Prelude.{ℕ, zero, suc, ◌+◌, ◌-◌, true, false, eqb, ltb}
use Rattle.recurrence.specs.declared.Settled.{Settled}
use Rattle.recurrence.specs.declared.Settled.TheVariants.{Bounded, Late}

-- x is the value after k replacements; the fuel is more than the limit less x, so that it is never used up.
unfoldable pub comes_to_from : ℕ → (ℕ → ℕ) → ℕ → ℕ → ℕ → Settled
comes_to_from zero F limit x k = Late k
comes_to_from (suc fuel) F limit x k =
    let new : ℕ = F x in
    elim (eqb new x) [
      | true ↦ Bounded x (k + 1)
      | false ↦ elim (ltb limit new) [ true ↦ Late (k + 1) | false ↦ comes_to_from fuel F limit new (k + 1) ]
    ]

unfoldable pub comes_to : (ℕ → ℕ) → ℕ → ℕ → Settled
comes_to F c limit = elim (ltb limit c) [ true ↦ Late 0 | false ↦ comes_to_from (suc (limit - c)) F limit c 0 ]
