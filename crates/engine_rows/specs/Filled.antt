-- The cells of an array of 64 below a place hold what is wanted there, and the others are blank.
use Rattle.std.specs.Prelude.{ℕ, ◌≤◌, ◌<◌, ◌≡◌, List, get_or}

pub record Filled {A : Type 0} (blank : A) (wanted : ℕ → A) (cells : List A) (n : ℕ) : Type 0 where
  pub cell : (k : ℕ) → k < n → get_or cells k blank ≡ wanted k

pub record Blank {A : Type 0} (blank : A) (cells : List A) (n : ℕ) : Type 0 where
  pub rest : (k : ℕ) → n ≤ k → k < 64 → get_or cells k blank ≡ blank
