-- A loop that fills an array of 64 from a list, one cell for each of its elements.
use Prim.Native.Nat.{ℕ, ◌+◌, ◌≤◌, ◌<◌}
use native.Mathlib.Omega.{arith}
use native.Mathlib.Numerals.{add-one}
use mathlib.Core.Path.{◌≡◌, sym, ap, ◌∙◌}
use mathlib.Core.List.{List, [], ◌∷◌, ◌++◌, map, map-append}
use lib.ListN.{length, get_or, take, set, replicate, length-map}
use lib.Seq.{take-suc, take_all, length-take-le}
use Rattle.plan.specs.Padded.{padded}
use Rattle.plan.proofs.Padding.{padded_set}

pub record Filling {A B : Type 0} (blank : A) (make : B → A) (from : List B) (cells : List A) (i : ℕ) : Type 0 where
  pub few : length from ≤ 64
  pub within : i ≤ length from
  pub held : cells ≡ padded blank (map make (take i from))

pub filling_none : {A B : Type 0} (blank : A) (make : B → A) (from : List B) {cells : List A} → length from ≤ 64 → cells ≡ replicate 64 blank → Filling blank make from cells 0
filling_none blank make from h e = record { few = h; within = omega arith; held = e }

module _ {A B : Type 0} {blank : A} {make : B → A} {from : List B} {cells : List A} {i : ℕ} (w : Filling blank make from cells i) where
  made : length (map make (take i from)) ≡ i
  made = length-map (take i from) make ∙ length-take-le i from w.within

  pub filling_more : (d : B) {x : A} → i < length from → x ≡ make (get_or from i d) → Filling blank make from (set cells i x) (i + 1)
  filling_more d {x} h e =
      let t : take (i + 1) from ≡ take i from ++ get_or from i d ∷ [] = ap (λ (n : ℕ). take n from) (add-one i) ∙ take-suc from i d h in
      record {
        few = w.few;
        within = omega arith;
        held =
            ap (λ (c : List A). set c i x) w.held
            ∙ padded_set blank (map make (take i from)) x (sym made) (omega (arith, w.few))
            ∙ ap (λ (y : A). padded blank (map make (take i from) ++ y ∷ [])) e
            ∙ ap (padded blank) (sym (ap (map make) t ∙ map-append make (take i from) (get_or from i d ∷ [])));
      }

  pub filling_all : length from ≤ i → cells ≡ padded blank (map make from)
  filling_all h = w.held ∙ ap (λ (xs : List B). padded blank (map make xs)) (take_all i from h)
