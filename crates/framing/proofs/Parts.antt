-- A part of a list of bytes, and the parts that it is made of.
use Prim.Native.Nat.{ℕ, ◌+◌, ◌<◌}
use mathlib.Core.Path.{◌≡◌, sym, ap, ◌∙◌}
use mathlib.Core.List.{List, [], ◌∷◌, ◌++◌}
use lib.ListN.{length, take, drop}
use lib.Seq.{drop-cons, drop-drop, take-add}
use Rattle.framing_numbers.specs.Numbers.{one_at}

-- The n bytes from place `at` on.
abbrev pub part : List ℕ → ℕ → ℕ → List ℕ
part s at n = take n (drop at s)

module _ (s : List ℕ) where
  pub part_one : (at : ℕ) → at < length s → part s at 1 ≡ one_at s at ∷ []
  part_one at h = ap (take 1) (drop-cons s at 0 h)

  pub part_join : (at n m : ℕ) → part s at n ++ part s (at + n) m ≡ part s at (n + m)
  part_join at n m = ap (λ (x : List ℕ). part s at n ++ take m x) (sym (drop-drop n at s)) ∙ sym (take-add n m (drop at s))
