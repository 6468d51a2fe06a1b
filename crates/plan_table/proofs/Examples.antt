-- The table of fields read by columns, computed: how many bytes a record's fields take together, their lowest values and their highest.
use Prim.Native.Nat.{ℕ}
use mathlib.Core.Path.{◌≡◌, refl}
use mathlib.Core.Bool.{Bool, true, false}
use mathlib.Core.List.{List, [], ◌∷◌, ◌++◌, map}
use lib.ListN.{length, take, drop, replicate}
use Rattle.framing_numbers.specs.declared.Width.TheVariants.{One, Two, Four}
use Rattle.framing.specs.First.{◌when◌else◌}
use Rattle.framing.specs.Returned.{number_of}
use Rattle.framing.specs.declared.returned.Fault.TheVariants.{DeadlineAbovePeriod}
use Rattle.plan_table.specs.Table.{tag_of, six_or_seven, body_length, platform_fields, flow_fields, lines_of, field_count, fields_of, width, lowest_of, highest_of, refusal_of}
use Rattle.plan_table.specs.Refusals.{record_refusals, platform_refusals, flow_refusals, end_refusals, refusals_of, is_number, has}
use Rattle.std.specs.Prelude.{Some, None}
use Rattle.plan_table.specs.declared.Limit.TheVariants.{UpTo, BelowNodes, UpToPeriod}
use Rattle.plan_table.specs.declared.Field.{Field}
use Rattle.plan_table.specs.declared.Kind.{Kind}
use Rattle.plan_table.specs.declared.Kind.TheVariants.{PlatformRecord, FlowRecord, EndRecord}
use Rattle.plan_table.proofs.Lengths.{size_of}

-- Column "Length": "length 6 or 7 is now legal for tag 01". A record that tells any other is held against 6.
lengths : map (body_length PlatformRecord) (5 ∷ 6 ∷ 7 ∷ 8 ∷ 263 ∷ []) ≡ 6 ∷ 6 ∷ 7 ∷ 6 ∷ 6 ∷ []
unfolding six_or_seven ◌when◌else◌
lengths = refl

other_lengths : map (body_length FlowRecord) (7 ∷ 20 ∷ []) ++ map (body_length EndRecord) (0 ∷ 7 ∷ []) ≡ 20 ∷ 20 ∷ 0 ∷ 0 ∷ []
other_lengths = refl

-- .. and the fields fill it: column "Fields in order (bytes)".
bytes : map (λ (told : ℕ). size_of (fields_of PlatformRecord told)) (6 ∷ 7 ∷ []) ≡ 6 ∷ 7 ∷ []
unfolding six_or_seven ◌when◌else◌
bytes = refl

-- .. each with its own bytes.
widths : (map width (fields_of PlatformRecord 7) ≡ replicate 7 One) × (map width (fields_of FlowRecord 20) ≡ Two ∷ Two ∷ One ∷ One ∷ Two ∷ Four ∷ Four ∷ Four ∷ [])
unfolding six_or_seven ◌when◌else◌
widths = (refl, refl)

-- Column "allowed values", with the seventh byte.
platform_values_lem :
    (map lowest_of (fields_of PlatformRecord 7) ≡ 1 ∷ 1 ∷ 1 ∷ 0 ∷ 1 ∷ 0 ∷ 1 ∷ [])
    × (map highest_of (fields_of PlatformRecord 7) ≡ UpTo 8 ∷ UpTo 8 ∷ UpTo 16 ∷ UpTo 16 ∷ UpTo 64 ∷ UpTo 3 ∷ UpTo 8 ∷ [])
unfolding six_or_seven ◌when◌else◌
platform_values_lem = (refl, refl)

flow_values_lem :
    (map lowest_of (fields_of FlowRecord 20) ≡ 0 ∷ 1 ∷ 0 ∷ 0 ∷ 1 ∷ 1 ∷ 1 ∷ 0 ∷ [])
    × (map highest_of (fields_of FlowRecord 20)
    ≡ UpTo 65534 ∷ UpTo 65535 ∷ BelowNodes ∷ BelowNodes ∷ UpTo 65535 ∷ UpTo 1_000_000_000 ∷ UpToPeriod DeadlineAbovePeriod ∷ UpTo 1_000_000_000 ∷ [])
flow_values_lem = (refl, refl)

-- Column "Tag", with the bytes beside each tag.
tags :
    map tag_of (0x00 ∷ 0x01 ∷ 0x02 ∷ 0x03 ∷ 0x7E ∷ 0x7F ∷ 0x80 ∷ 0xFF ∷ [])
    ≡ None ∷ Some PlatformRecord ∷ Some FlowRecord ∷ None ∷ None ∷ Some EndRecord ∷ None ∷ None ∷ []
unfolding tag_of ◌when◌else◌
tags = refl

-- "20 to 25 for the platform's fields from columns to method", 26 for the priority flits, "30 to 37 for the flow's from id to jitter"; of a deadline, 36 if it is 0 and 38 if it is above.
refusals_by_fields :
    (map (λ f. number_of (refusal_of f 0)) platform_fields ≡ 20 ∷ 21 ∷ 22 ∷ 23 ∷ 24 ∷ 25 ∷ 26 ∷ [])
    × (map (λ f. number_of (refusal_of f 4294967295)) platform_fields ≡ 20 ∷ 21 ∷ 22 ∷ 23 ∷ 24 ∷ 25 ∷ 26 ∷ [])
    × (map (λ f. number_of (refusal_of f 0)) flow_fields ≡ 30 ∷ 31 ∷ 32 ∷ 33 ∷ 34 ∷ 35 ∷ 36 ∷ 37 ∷ [])
    × (map (λ f. number_of (refusal_of f 4294967295)) flow_fields ≡ 30 ∷ 31 ∷ 32 ∷ 33 ∷ 34 ∷ 35 ∷ 38 ∷ 37 ∷ [])
unfolding ◌when◌else◌
refusals_by_fields = (refl, refl, refl, refl)

-- How many fields a record has, by the length that it tells.
counts :
    (map (field_count PlatformRecord) (5 ∷ 6 ∷ 7 ∷ 8 ∷ []) ++ map (field_count FlowRecord) (7 ∷ 20 ∷ []) ++ map (field_count EndRecord) (0 ∷ 7 ∷ []) ≡ 6 ∷ 6 ∷ 7 ∷ 6 ∷ 8 ∷ 8 ∷ 0 ∷ 0 ∷ [])
    × (map (λ (told : ℕ). length (fields_of PlatformRecord told)) (5 ∷ 6 ∷ 7 ∷ 8 ∷ []) ++ map (λ (told : ℕ). length (fields_of FlowRecord told)) (7 ∷ 20 ∷ []) ++ map (λ (told : ℕ). length (fields_of EndRecord told)) (0 ∷ 7 ∷ []) ≡ 6 ∷ 6 ∷ 7 ∷ 6 ∷ 8 ∷ 8 ∷ 0 ∷ 0 ∷ [])
unfolding six_or_seven ◌when◌else◌
counts = (refl, refl)

-- The lines of all records, one kind's behind the other's, hold each record's own.
abbrev lines : List Field
lines = platform_fields ++ flow_fields

abbrev first_line : Kind → ℕ
first_line PlatformRecord = 0
first_line FlowRecord = 7
first_line EndRecord = 15

lines_of_lem : (kind : Kind) → take (length (lines_of kind)) (drop (first_line kind) lines) ≡ lines_of kind
lines_of_lem PlatformRecord = refl
lines_of_lem FlowRecord = refl
lines_of_lem EndRecord = refl

all_lines : (map (λ kind. length (lines_of kind)) (PlatformRecord ∷ FlowRecord ∷ EndRecord ∷ []) ≡ 7 ∷ 8 ∷ 0 ∷ []) × (length lines ≡ 15) × (first_line EndRecord ≡ length lines)
all_lines = (refl, refl, refl)

-- "never 0, 5 or 11": the first and the last of each stretch of numbers, and what stands beside them.
numbers :
    map is_number (0 ∷ 1 ∷ 4 ∷ 5 ∷ 6 ∷ 10 ∷ 11 ∷ 19 ∷ 20 ∷ 26 ∷ 27 ∷ 29 ∷ 30 ∷ 38 ∷ 39 ∷ [])
    ≡ false ∷ true ∷ true ∷ false ∷ true ∷ true ∷ false ∷ false ∷ true ∷ true ∷ false ∷ false ∷ true ∷ true ∷ false ∷ []
numbers = refl

-- Columns "No." and "Place": which of these pairs some lines have.
abbrev had : List (ℕ × ℕ) → List (ℕ × ℕ) → List Bool
had refusals asked = map (λ line. has refusals line.0 line.1) asked

places :
    (had record_refusals ((1, 0) ∷ (2, 0) ∷ (3, 1) ∷ (4, 0) ∷ []) ≡ replicate 4 true)
    × (had platform_refusals ((20, 3) ∷ (21, 4) ∷ (22, 5) ∷ (23, 6) ∷ (24, 7) ∷ (25, 8) ∷ (26, 9) ∷ []) ≡ replicate 7 true)
    × (had flow_refusals ((7, 3) ∷ (8, 5) ∷ (9, 8) ∷ (30, 3) ∷ (31, 5) ∷ (32, 7) ∷ (33, 8) ∷ (34, 9) ∷ (35, 11) ∷ (36, 15) ∷ (37, 19) ∷ (38, 15) ∷ []) ≡ replicate 12 true)
    × (had end_refusals ((10, 3) ∷ []) ≡ true ∷ [])
places = (refl, refl, refl, refl)

no_places :
    (had record_refusals ((0, 0) ∷ (1, 1) ∷ (3, 0) ∷ (5, 0) ∷ (6, 0) ∷ []) ≡ replicate 5 false)
    × (had platform_refusals ((19, 3) ∷ (20, 4) ∷ (26, 8) ∷ (27, 9) ∷ []) ≡ replicate 4 false)
    × (had flow_refusals ((7, 5) ∷ (9, 7) ∷ (36, 19) ∷ (38, 11) ∷ (39, 19) ∷ []) ≡ replicate 5 false)
    × (had end_refusals ((10, 2) ∷ (11, 3) ∷ []) ≡ replicate 2 false)
no_places = (refl, refl, refl, refl)

refusals_of_lem : map (λ kind. had (refusals_of kind) ((20, 3) ∷ (30, 3) ∷ (10, 3) ∷ [])) (PlatformRecord ∷ FlowRecord ∷ EndRecord ∷ []) ≡ (true ∷ false ∷ false ∷ []) ∷ (false ∷ true ∷ false ∷ []) ∷ (false ∷ false ∷ true ∷ []) ∷ []
refusals_of_lem = refl
