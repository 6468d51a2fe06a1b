-- The places that pass a test, listed in an array of 64, and what is put along such a list.
use Rattle.std.specs.Prelude.{ℕ, zero, suc, ◌≤◌, ◌<◌, ◌≡◌, Bool, cond, List, [], ◌∷◌, ◌++◌, length, take, get_or}

-- The places below n that pass a test, in order.
unfoldable pub places : (ℕ → Bool) → ℕ → List ℕ
places test zero = []
places test (suc n) = places test n ++ cond (test n) (n ∷ []) []

-- The first n cells of an array name the places below count that pass.
pub record Listed (test : ℕ → Bool) (count : ℕ) (cells : List ℕ) (n : ℕ) : Type 0 where
  pub small : count ≤ 64
  pub few : n ≤ count
  pub room : length cells ≡ 64
  pub listed : take n cells ≡ places test count

-- The cells that the first n of `cells` name hold what is wanted there, and the others 0.
pub record Dealt (wanted : ℕ → ℕ) (cells : List ℕ) (n : ℕ) (out : List ℕ) : Type 0 where
  pub named : (m : ℕ) → m < n → get_or out (get_or cells m 0) 0 ≡ wanted (get_or cells m 0)
  pub others : (k : ℕ) → k < 64 → ((m : ℕ) → m < n → get_or cells m 0 ≡ k → ⊥) → get_or out k 0 ≡ 0
