-- A search for the highest priority among the places that pass a test.
use Rattle.std.specs.Prelude.{ℕ, ◌≤◌, ◌<◌, ◌≡◌, Bool, true, List, get_or, Option, Some, None}
use Rattle.std.specs.Option.{option_map}

-- `best` is the first place of the highest priority among the first n that pass; there is none where none does.
pub record Highest (passes : ℕ → Bool) (priority : ℕ → ℕ) (n : ℕ) (best : Option ℕ) : Type 0 where
  pub found : (b : ℕ) → best ≡ Some b → (b < n) × (passes b ≡ true)
  pub least : (b : ℕ) → best ≡ Some b → (k : ℕ) → k < n → passes k ≡ true → priority b ≤ priority k
  pub first : (b : ℕ) → best ≡ Some b → (k : ℕ) → k < b → passes k ≡ true → priority b < priority k
  pub none : best ≡ None → (k : ℕ) → k < n → passes k ≡ true → ⊥

-- `found` is what a list names at such a place among its first n.
pub record HighestNamed (passes : ℕ → Bool) (priority : ℕ → ℕ) (cells : List ℕ) (n : ℕ) (found : Option ℕ) : Type 0 where
  pub place : Option ℕ
  pub highest : Highest (λ m. passes (get_or cells m 0)) (λ m. priority (get_or cells m 0)) n place
  pub there : found ≡ option_map (λ m. get_or cells m 0) place
