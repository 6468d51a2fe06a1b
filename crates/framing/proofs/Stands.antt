-- Bytes that stand within others hold the same numbers there.
use Prim.Native.Nat.{ℕ, ◌+◌, ◌*◌, ◌≤◌, ◌<◌}
use mathlib.Core.Path.{◌≡◌, ap₂, ◌∙◌}
use mathlib.Core.List.{List}
use native.Mathlib.Nat.{add-zero, add_assoc}
use native.Mathlib.Omega.{arith}
use Rattle.framing_numbers.specs.Numbers.{one_at, two_at, four_at}
use Rattle.framing.specs.Header.{Headed}

-- From b on s holds the first n bytes of t.
pub record Stands (s : List ℕ) (b : ℕ) (t : List ℕ) (n : ℕ) : Type 0 where
  pub one : (d : ℕ) → d < n → one_at s (b + d) ≡ one_at t d

module _ {s : List ℕ} {b : ℕ} {t : List ℕ} {n : ℕ} (w : Stands s b t n) where
  pub two : (d : ℕ) → d + 2 ≤ n → two_at s (b + d) ≡ two_at t d
  two d h = rw add_assoc (ap₂ (λ x y. 256 * x + y) (w.one d (omega arith)) (w.one (d + 1) (omega arith)))

  pub four : (d : ℕ) → d + 4 ≤ n → four_at s (b + d) ≡ four_at t d
  four d h = rw (add_assoc b d 2) (ap₂ (λ x y. 65536 * x + y) (two d (omega arith)) (two (d + 2) (omega arith)))

  pub header : 3 ≤ n → {tag size : ℕ} → one_at t 0 ≡ tag → two_at t 1 ≡ size → Headed s b tag size
  header h e f = record { tag_is = rw add-zero at (w.one 0 (omega arith) ∙ e); size_is = two 1 (omega arith) ∙ f }
