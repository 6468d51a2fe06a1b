-- Document 01, "What sends a plan back", columns "No." and "Place", with document 02's numbers for the fields (L2, "Say which field", and L7).
-- A line is a refusal's number and its place, counted from the start of the record in fault.
use Rattle.std.specs.Prelude.{ℕ, Bool, false, ◌&&◌, ◌||◌, List, [], ◌∷◌, leb, eqb}
use Rattle.plan_table.specs.declared.Kind.{Kind}
use Rattle.plan_table.specs.declared.Kind.TheVariants.{PlatformRecord, FlowRecord, EndRecord}

-- Of any record.
abbrev pub record_refusals : List (ℕ × ℕ)
record_refusals =
    (1, 0) ∷  -- "that record's start"
    (2, 0) ∷  -- "the tag"
    (3, 1) ∷  -- "the length"
    (4, 0) ∷ []  -- "the tag"

-- Of the platform record.
abbrev pub platform_refusals : List (ℕ × ℕ)
platform_refusals =
    (20, 3) ∷  -- columns
    (21, 4) ∷  -- rows
    (22, 5) ∷  -- link cycles
    (23, 6) ∷  -- routing cycles
    (24, 7) ∷  -- buffer flits
    (25, 8) ∷  -- method
    (26, 9) ∷ []  -- priority flits: "26 at its place"

-- Of a flow record.
abbrev pub flow_refusals : List (ℕ × ℕ)
flow_refusals =
    (7, 3) ∷  -- "the id"
    (8, 5) ∷  -- "the priority"
    (9, 8) ∷  -- "the destination"
    (30, 3) ∷  -- id
    (31, 5) ∷  -- priority
    (32, 7) ∷  -- source
    (33, 8) ∷  -- destination
    (34, 9) ∷  -- flits
    (35, 11) ∷  -- period
    (36, 15) ∷  -- deadline zero
    (38, 15) ∷  -- deadline above the period: "both at the old place of the deadline"
    (37, 19) ∷ []  -- jitter

-- Of the end record.
abbrev pub end_refusals : List (ℕ × ℕ)
end_refusals = (10, 3) ∷ []  -- "that byte"

abbrev pub refusals_of : Kind → List (ℕ × ℕ)
refusals_of PlatformRecord = platform_refusals
refusals_of FlowRecord = flow_refusals
refusals_of EndRecord = end_refusals

-- So the reader's numbers are 1 to 10 without 5, 20 to 26, and 30 to 38.
abbrev pub is_number : ℕ → Bool
is_number n = (leb 1 n && leb n 4) || (leb 6 n && leb n 10) || (leb 20 n && leb n 26) || (leb 30 n && leb n 38)

-- Whether some lines have this one.
abbrev pub has : List (ℕ × ℕ) → ℕ → ℕ → Bool
has [] number offset = false
has (line ∷ rest) number offset = (eqb line.0 number && eqb line.1 offset) || has rest number offset
