-- What is made of the things of a list: of the first ones and one more, how long it is, and what stands where.
use Prim.Native.Nat.{ℕ, zero, suc, ◌+◌, ◌*◌, ◌<◌}
use native.Mathlib.Omega.{arith}
use native.Mathlib.Nat.{zero-add, mul-zero, mul-suc}
use native.Mathlib.Numerals.{add-one}
use mathlib.Core.Path.{◌≡◌, refl, sym, ◌∙◌}
use mathlib.Core.List.{List, [], ◌∷◌, ◌++◌, append_assoc, append-nil}
use lib.ListN.{length, take, get_or, length-append, get_or-append}
use lib.Seq.{take-suc, get_or-append-add}
use Rattle.framing.specs.Each.{each}
use Rattle.framing_numbers.specs.Numbers.{one_at}

module _ {A : Type 0} (made : A → List ℕ) where
  pub each_append : (xs ys : List A) → each made (xs ++ ys) ≡ each made xs ++ each made ys
  unfolding each
  each_append [] ys = refl
  each_append (x ∷ xs) ys = rw (each_append xs ys) (sym (append_assoc (made x) (each made xs) (each made ys)))

  pub each_more : (l : List A) (i : ℕ) (d : A) → i < length l → each made (take (i + 1) l) ≡ each made (take i l) ++ made (get_or l i d)
  unfolding each
  each_more l i d h = rw (add-one, take-suc l i d h, each_append (take i l) (get_or l i d ∷ []), append-nil (made (get_or l i d)))

  -- Things that are all made as long.
  module _ (size : ℕ) (even : (a : A) → length (made a) ≡ size) where
    pub length_each : (xs : List A) → length (each made xs) ≡ size * length xs
    unfolding each
    length_each [] = sym (mul-zero size)
    length_each (x ∷ xs) = length-append (made x) (each made xs) ∙ rw mul-suc (omega (arith, even x, length_each xs))

    pub each_at : (list : List A) (rest : List ℕ) (blank : A) (k : ℕ) → k < length list → (d : ℕ) → d < size → one_at (each made list ++ rest) (size * k + d) ≡ one_at (made (get_or list k blank)) d
    unfolding each
    each_at [] rest blank k l d h = absurd (omega arith)
    each_at (a ∷ list) rest blank zero l d h = rw (append_assoc, mul-zero size, zero-add d) (get_or-append (made a) (each made list ++ rest) 0 d (omega (arith, even a)))
    each_at (a ∷ list) rest blank (suc k) l d h =
        let q : size * suc k + d ≡ length (made a) + (size * k + d) = rw mul-suc (omega (arith, even a)) in
        rw (append_assoc, q) (get_or-append-add (made a) (each made list ++ rest) (size * k + d) 0 ∙ each_at list rest blank k (omega arith) d h)
