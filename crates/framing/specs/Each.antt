-- Bytes made of each thing of a list, one after the other.
use Rattle.std.specs.Prelude.{ℕ, List, [], ◌∷◌, ◌++◌}

unfoldable pub each : {A : Type 0} → (A → List ℕ) → List A → List ℕ
each made [] = []
each made (a ∷ rest) = made a ++ each made rest
