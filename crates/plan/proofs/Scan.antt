-- The field scan: what is left of a record's fields decides, and fills what is left of its body.
use Prim.Native.Nat.{ℕ, ◌+◌, ◌≤◌, ◌<◌}
use native.Mathlib.Omega.{arith}
use native.Mathlib.Numerals.{add-one}
use mathlib.Core.Path.{◌≡◌, ap, ◌∙◌}
use mathlib.Core.Bool.{true, false}
use mathlib.Core.List.{List, [], ◌∷◌}
use lib.ListN.{length, get_or, drop, drop_of_length-le}
use lib.Seq.{drop-cons}
use Rattle.framing.specs.First.{◌when◌else◌}
use Rattle.framing.specs.Header.{length_at}
use Rattle.framing_numbers.specs.Numbers.{bytes_of, number_at}
use Rattle.plan_table.specs.Table.{body_length, fields_of, width, refusal_of}
use Rattle.plan_checks.specs.Checks.{limits_at, outside}
use Rattle.plan.specs.Records.{fields_from, fields_at}
use Rattle.plan_values.specs.declared.Platform.{Platform}
use Rattle.std.specs.Prelude.{Ok, Err}
use Rattle.plan_table.specs.declared.Field.{Field}
use Rattle.plan_table.specs.declared.Kind.{Kind}
use Rattle.plan_checks.specs.declared.Limits.{Limits}
use Rattle.plan_table.proofs.Lengths.{size_of, filled}

-- what the scan knows in front of field k, which stands at `offset`
pub record Scanning (s : List ℕ) (at : ℕ) (kind : Kind) (p : Platform) (l : Limits) (k offset : ℕ) : Type 0 where
  pub whole : at + 3 + body_length kind (length_at s at) ≤ length s
  pub room : offset + size_of (drop k (fields_of kind (length_at s at))) ≡ 3 + body_length kind (length_at s at)
  pub rest : fields_at s at kind p ≡ fields_from s at kind l offset (drop k (fields_of kind (length_at s at)))

pub scanning_none : (s : List ℕ) (at : ℕ) (kind : Kind) (p : Platform) {l : Limits} → at + 3 + body_length kind (length_at s at) ≤ length s → l ≡ limits_at s at kind p → Scanning s at kind p l 0 3
scanning_none s at kind p h e = record { whole = h; room = ap (λ (n : ℕ). 3 + n) (filled kind (length_at s at)); rest = rw e }

module _ {s : List ℕ} {at : ℕ} {kind : Kind} {p : Platform} {l : Limits} {k offset : ℕ} (w : Scanning s at kind p l k offset) {fields : List Field} (of : fields ≡ fields_of kind (length_at s at)) where
  module _ {f : Field} (none : Field) (h : k < length fields) (e : f ≡ get_or fields k none) where
    next_field : drop k (fields_of kind (length_at s at)) ≡ f ∷ drop (k + 1) (fields_of kind (length_at s at))
    next_field = rw (← of, drop-cons fields k none h, ← e, add-one k)

    size_left : size_of (drop k (fields_of kind (length_at s at))) ≡ bytes_of (width f) + size_of (drop (k + 1) (fields_of kind (length_at s at)))
    size_left = ap size_of next_field

    -- the field lies in the bytes
    pub field_inside : at + offset + bytes_of (width f) ≤ length s
    field_inside = omega (arith, w.whole, w.room, size_left)

    pub field_stops : {v : ℕ} → v ≡ number_at s (width f) (at + offset) → outside l f v ≡ true → fields_at s at kind p ≡ Err (refusal_of f v, at + offset)
    unfolding fields_from ◌when◌else◌
    field_stops q t = w.rest ∙ rw (next_field, ← q, t)

    pub scanning_more : {v : ℕ} → v ≡ number_at s (width f) (at + offset) → outside l f v ≡ false → Scanning s at kind p l (k + 1) (offset + bytes_of (width f))
    unfolding fields_from ◌when◌else◌
    scanning_more q t = record {
      whole = w.whole;
      room = omega (arith, w.room, size_left);
      rest = w.rest ∙ rw (next_field, ← q, t);
    }

  module _ (h : length fields ≤ k) where
    none_left : drop k (fields_of kind (length_at s at)) ≡ []
    none_left = rw (← of) (drop_of_length-le fields {i = k} h)

    pub scanned : fields_at s at kind p ≡ Ok kind
    unfolding fields_from
    scanned = w.rest ∙ rw none_left

    -- behind the last field the next record starts
    pub scanned_place : offset ≡ 3 + body_length kind (length_at s at)
    scanned_place = omega (arith, w.room, ap size_of none_left)
