-- Whether an earlier flow has a value, by a search of the flows.
use Prim.Native.Nat.{ℕ}
use mathlib.Core.Path.{◌≡◌, refl, ap}
use mathlib.Core.Bool.{Bool, ◌||◌}
use mathlib.Core.List.{List, [], ◌∷◌, map}
use lib.Dec.{eqb}
use Rattle.std.specs.List.{list_any}
use Rattle.plan_checks.specs.Checks.{taken}

pub taken_any : {A : Type 0} (f : A → ℕ) (xs : List A) (value : ℕ) → taken (map f xs) value ≡ list_any (λ x. eqb (f x) value) xs
taken_any f [] value = refl
taken_any f (x ∷ xs) value = ap (λ (b : Bool). eqb (f x) value || b) (taken_any f xs value)
