-- Document 01, "What sends a plan back": the scan of a record's fields, and the order within a record.
-- `s` is the plan's bytes, `at` the place of the record's tag, `fs` the flows before it, `p` the platform.
use Rattle.std.specs.Prelude.{ℕ, ◌+◌, List, [], ◌∷◌, map, length, Result, Ok, Err}
use Rattle.framing.specs.First.{◌when◌else◌}
use Rattle.framing.specs.declared.returned.Refusal.{Refusal}
use Rattle.framing.specs.Header.{length_at}
use Rattle.framing_numbers.specs.Numbers.{bytes_of, number_at}
use Rattle.plan_table.specs.Table.{fields_of, width, refusal_of}
use Rattle.plan_table.specs.declared.Kind.{Kind}
use Rattle.plan_table.specs.declared.Field.{Field}
use Rattle.plan_values.specs.declared.Platform.{Platform}
use Rattle.plan_values.specs.declared.Flow.{Flow}
use Rattle.plan_checks.specs.Checks.{limits_at, outside, frame_at, rest_at}
use Rattle.plan_checks.specs.declared.Limits.{Limits}

-- "field by field": the fields from the one at this offset of the record on.
unfoldable pub fields_from : List ℕ → ℕ → Kind → Limits → ℕ → List Field → Result Kind Refusal
fields_from s at kind l offset [] = Ok kind
fields_from s at kind l offset (f ∷ rest) =
    let v = number_at s (width f) (at + offset) in
    Err (refusal_of f v, at + offset) when outside l f v else
    fields_from s at kind l (offset + bytes_of (width f)) rest

-- The first field stands behind the tag and the length; how many there are depends on the length.
abbrev pub fields_at : List ℕ → ℕ → Kind → Platform → Result Kind Refusal
fields_at s at kind p = fields_from s at kind (limits_at s at kind p) 3 (fields_of kind (length_at s at))

-- The ids and the priorities of flows.
abbrev pub ids_of : List Flow → List ℕ
ids_of fs = map (λ f. f.id) fs

abbrev pub priorities_of : List Flow → List ℕ
priorities_of fs = map (λ f. f.priority) fs

infixr 20 ◌then◌
-- The first fault met decides.
unfoldable pub ◌then◌ : Result Kind Refusal → Result Kind Refusal → Result Kind Refusal
(Err refusal) then next = Err refusal
(Ok kind) then next = next

unfoldable pub body_at : List ℕ → ℕ → Result Kind Refusal → Platform → List Flow → Result Kind Refusal
body_at s at (Err refusal) p fs = Err refusal
body_at s at (Ok kind) p fs = fields_at s at kind p then rest_at s at kind (ids_of fs) (priorities_of fs)

-- "Within a record the order is: header complete (1), 2, 4, 3, body complete (1), 6, then .. field by field, 9, 7, 8", and for the end record 10.
unfoldable pub record_at : List ℕ → ℕ → Platform → List Flow → Result Kind Refusal
record_at s at p fs = body_at s at (frame_at s at (length fs)) p fs
