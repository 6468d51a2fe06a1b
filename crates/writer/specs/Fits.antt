-- Document 02, L1: "Every value has its field's width."
use Rattle.std.specs.Prelude.{ℕ, ◌^◌, ◌<◌, List, [], ◌∷◌, length}
use Rattle.framing_numbers.specs.Numbers.{bytes_of}
use Rattle.plan.specs.Legal.{flow}
use Rattle.plan_table.specs.Table.{flow_fields, width}
use Rattle.plan_values.specs.declared.Flow.{Flow}
use Rattle.plan_table.specs.declared.Field.{Field}
use Rattle.writer_bytes.specs.PlanBytes.{flow_values}

-- Each value can be held by the bytes of its field.
abbrev pub Fits : List Field → List ℕ → Type 0
Fits [] values = Unit {0}
Fits (f ∷ fields) [] = Unit {0}
Fits (f ∷ fields) (v ∷ values) = (v < 256 ^ bytes_of (width f)) × Fits fields values

-- Those of every flow. A platform's values, a byte each, are written as they stand and read back whatever they are.
abbrev pub FitsEach : List Flow → Type 0
FitsEach fs = (k : ℕ) → k < length fs → Fits flow_fields (flow_values (flow fs k))
