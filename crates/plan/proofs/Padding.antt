-- An array of 64 that is filled from its start, with blanks behind.
use Prim.Native.Nat.{ℕ, zero, suc, ◌+◌, ◌-◌, ◌≤◌, ◌<◌}
use native.Mathlib.Omega.{arith}
use native.Mathlib.Numerals.{add-one}
use mathlib.Core.Path.{◌≡◌, refl, sym, ap, ◌∙◌}
use mathlib.Core.List.{List, [], ◌∷◌, ◌++◌}
use lib.ListN.{length, get_or, take, set, replicate, length-append, length-replicate}
use lib.Seq.{take-suc-set, length-take-le, set_at, append_snoc}
use Rattle.plan.specs.Padded.{padded}
use Rattle.plan_values.specs.Values.{blank_flow}
use Rattle.plan.specs.Reading.{accepted}
use Rattle.plan_values.specs.declared.Platform.{Platform}
use Rattle.plan_values.specs.declared.Flow.{Flow}
use Rattle.std.specs.Prelude.{Ok}

module _ {A : Type 0} (blank : A) where
  -- one more
  pub padded_set : (xs : List A) (x : A) {n : ℕ} → n ≡ length xs → n < 64 → set (padded blank xs) n x ≡ padded blank (xs ++ x ∷ [])
  padded_set xs x {n} e room =
      let blanks = replicate (63 - n) blank in
      let m : 64 - length xs ≡ suc (63 - n) = omega arith in
      let l : 64 - length (xs ++ x ∷ []) ≡ 63 - n = rw length-append (omega arith) in
      ap (λ (k : ℕ). set (xs ++ replicate k blank) n x) m
      ∙ set_at xs blank blanks x n (sym e)
      ∙ sym (append_snoc xs x blanks)
      ∙ ap (λ (k : ℕ). (xs ++ x ∷ []) ++ replicate k blank) (sym l)

  pub length_padded : (xs : List A) → length xs ≤ 64 → length (padded blank xs) ≡ 64
  length_padded xs h = length-append xs (replicate (64 - length xs) blank) ∙ omega (arith, length-replicate {A = A} (64 - length xs) blank)

  -- what stands behind
  blanks : (n k : ℕ) → get_or (replicate n blank) k blank ≡ blank
  blanks zero k = refl
  blanks (suc n) zero = refl
  blanks (suc n) (suc k) = blanks n k

  behind : (xs : List A) (n k : ℕ) → length xs ≤ k → get_or (xs ++ replicate n blank) k blank ≡ blank
  behind [] n k h = blanks n k
  behind (x ∷ xs) n zero h = absurd (omega arith)
  behind (x ∷ xs) n (suc k) h = behind xs n k (omega arith)

  pub padded_behind : (xs : List A) (k : ℕ) → length xs ≤ k → get_or (padded blank xs) k blank ≡ blank
  padded_behind xs k h = behind xs (64 - length xs) k h

-- the flows so far
pub accepted_is : (p : Platform) (flows : List Flow) (n : ℕ) → length flows ≡ 64 → n ≤ 64 → flows ≡ padded blank_flow (take n flows) → Ok (record { platform = p; flows = flows; count = n }) ≡ accepted p (take n flows)
unfolding accepted
accepted_is p flows n l h e = λ i. Ok (record { platform = p; flows = e i; count = sym (length-take-le n flows (omega arith)) i })

-- one more flow, or one more of its values
module _ {A : Type 0} (xs : List A) (count : ℕ) (x : A) (long : length xs ≡ 64) (room : count < 64) where
  pub taken_more : take (count + 1) (set xs count x) ≡ take count xs ++ x ∷ []
  taken_more = rw (add-one, take-suc-set xs count x (omega arith))

  pub padded_more : (blank : A) → xs ≡ padded blank (take count xs) → set xs count x ≡ padded blank (take (count + 1) (set xs count x))
  padded_more blank e =
      ap (λ (a : List A). set a count x) e
      ∙ padded_set blank (take count xs) x (sym (length-take-le count xs (omega arith))) room
      ∙ ap (padded blank) (sym taken_more)
