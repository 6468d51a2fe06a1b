-- Document 01, "The plan's bytes", with document 02, L7: the table of records and their fields, a line here for a line there.
use Rattle.std.specs.Prelude.{ℕ, List, [], ◌∷◌, ltb, eqb, take, Option, Some, None}
use Rattle.framing.specs.First.{◌when◌else◌}
use Rattle.framing.specs.declared.returned.Fault.{Fault}
use Rattle.framing.specs.declared.returned.Fault.TheVariants.{Cut, Columns, Rows, LinkCycles, RoutingCycles, BufferFlits, Method, PriorityFlits, Id, Priority, Source, Destination, Flits, Period, DeadlineZero, Jitter, DeadlineAbovePeriod}
use Rattle.framing_numbers.specs.declared.Width.{Width}
use Rattle.framing_numbers.specs.declared.Width.TheVariants.{One, Two, Four}
use Rattle.plan_table.specs.declared.Kind.{Kind}
use Rattle.plan_table.specs.declared.Kind.TheVariants.{PlatformRecord, FlowRecord, EndRecord}
use Rattle.plan_table.specs.declared.Limit.{Limit}
use Rattle.plan_table.specs.declared.Limit.TheVariants.{UpTo, BelowNodes, UpToPeriod}
use Rattle.plan_table.specs.declared.Field.{Field}

-- Column "Tag": 01 platform, 02 flow, 7F end; any other is unknown.
unfoldable pub tag_of : ℕ → Option Kind
tag_of byte =
    Some PlatformRecord when eqb byte 0x01 else
    Some FlowRecord when eqb byte 0x02 else
    Some EndRecord when eqb byte 0x7F else
    None

-- .. and the byte of each known one.
abbrev pub tag_byte : Kind → ℕ
tag_byte PlatformRecord = 0x01
tag_byte FlowRecord = 0x02
tag_byte EndRecord = 0x7F

-- "length 6 or 7 is now legal for tag 01": seven where the record's own length bytes tell that, else six.
unfoldable pub six_or_seven : ℕ → ℕ
six_or_seven told = 7 when eqb told 7 else 6

-- Column "Length", of a record that tells this one.
abbrev pub body_length : Kind → ℕ → ℕ
body_length PlatformRecord told = six_or_seven told
body_length FlowRecord told = 20
body_length EndRecord told = 0

-- Column "Fields in order (bytes): allowed values". A line is the field's bytes, its lowest value, its highest
-- (or what that depends on), and the fault of a value outside them, whose numbers are document 02, "20 to 25 for the platform's fields from
-- columns to method, 30 to 37 for the flow's from id to jitter", and "a seventh byte of zero or above 8 gets 26 at its place, after 25".
abbrev pub platform_fields : List Field
platform_fields =
    (One, 1, UpTo 8, Columns) ∷  -- columns (1): 1..8
    (One, 1, UpTo 8, Rows) ∷  -- rows (1): 1..8
    (One, 1, UpTo 16, LinkCycles) ∷  -- link cycles (1): 1..16
    (One, 0, UpTo 16, RoutingCycles) ∷  -- routing cycles (1): 0..16
    (One, 1, UpTo 64, BufferFlits) ∷  -- buffer flits (1): 1..64
    (One, 0, UpTo 3, Method) ∷  -- method (1): 0..3
    (One, 1, UpTo 8, PriorityFlits) ∷ []  -- "a seventh byte, priority flits 1..8"

abbrev pub flow_fields : List Field
flow_fields =
    (Two, 0, UpTo 65534, Id) ∷  -- id (2): 0..65534
    (Two, 1, UpTo 65535, Priority) ∷  -- priority (2): 1..65535
    (One, 0, BelowNodes, Source) ∷  -- source (1): below columns x rows
    (One, 0, BelowNodes, Destination) ∷  -- destination (1): below columns x rows
    (Two, 1, UpTo 65535, Flits) ∷  -- flits (2): 1..65535
    (Four, 1, UpTo 1_000_000_000, Period) ∷  -- period (4): 1..1,000,000,000
    (Four, 1, UpToPeriod DeadlineAbovePeriod, DeadlineZero) ∷  -- deadline (4): 1..period; "36 is deadline zero, 38 is deadline above period"
    (Four, 0, UpTo 1_000_000_000, Jitter) ∷ []  -- jitter (4): 0..1,000,000,000

-- The lines of a kind of record ..
abbrev pub lines_of : Kind → List Field
lines_of PlatformRecord = platform_fields
lines_of FlowRecord = flow_fields
lines_of EndRecord = []

-- .. how many of them a record has that tells this length. A platform's have a byte each, so that they are as many as its length.
abbrev pub field_count : Kind → ℕ → ℕ
field_count PlatformRecord told = six_or_seven told
field_count FlowRecord told = 8
field_count EndRecord told = 0

-- .. and which: the first so many.
abbrev pub fields_of : Kind → ℕ → List Field
fields_of kind told = take (field_count kind told) (lines_of kind)

-- The columns of a field's line.
abbrev pub width : Field → Width
width f = f.0

abbrev pub lowest_of : Field → ℕ
lowest_of f = f.1

abbrev pub highest_of : Field → Limit
highest_of f = f.2

-- The fault of a value above the highest: the line's, but above the period the one that stands with that limit.
abbrev pub refusal_above : Limit → Fault → Fault
refusal_above (UpTo n) refusal = refusal
refusal_above BelowNodes refusal = refusal
refusal_above (UpToPeriod own) refusal = own

-- The fault of a value outside a field's values.
abbrev pub refusal_of : Field → ℕ → Fault
refusal_of f v = f.3 when ltb v (lowest_of f) else refusal_above (highest_of f) f.3

-- What stands behind the last line.
abbrev pub no_field : Field
no_field = (One, 0, UpTo 0, Cut)
