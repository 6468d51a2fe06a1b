-- Each place and each number of the table of refusals, pinned by examples that are computed from the definitions alone.
use Rattle.framing.specs.Returned.{outcome}
use Prim.Native.Nat.{ℕ, ◌+◌, ◌-◌}
use mathlib.Core.Path.{◌≡◌, refl}
use mathlib.Core.List.{List, [], ◌∷◌, ◌++◌, map}
use lib.ListN.{take, drop, set, replicate}
use Rattle.framing.specs.First.{◌when◌else◌}
use Rattle.framing.specs.Put.{put}
use Rattle.framing.specs.BigEndian.{number_bytes}
use Rattle.framing_numbers.specs.Numbers.{bytes_of}
use Rattle.plan_table.specs.Table.{tag_of, six_or_seven, platform_fields, flow_fields, width, lowest_of, highest_of}
use Rattle.plan_table.specs.declared.Field.{Field}
use Rattle.plan_table.specs.declared.Limit.{Limit}
use Rattle.plan_table.specs.declared.Limit.TheVariants.{UpTo, BelowNodes, UpToPeriod}
use Rattle.plan_values.specs.Values.{priority_flits_at}
use Rattle.plan_checks.specs.Checks.{header_at, tagged_at, frame_at, clash_at, tail_at, rest_at}
use Rattle.plan.specs.Records.{fields_from, ◌then◌, body_at, record_at}
use Rattle.plan.specs.Reading.{accepted, refused, after, records, read_plan}
use Rattle.plan.specs.PlanP.{P, with_seventh}
use Rattle.std.specs.Prelude.{Result, Ok, Err}
use Rattle.framing.specs.declared.returned.Refusal.{Refusal}
use Rattle.framing.specs.declared.returned.Fault.TheVariants.{BufferFlits, ByteAfterEnd, Columns, Cut, DeadlineAbovePeriod, DeadlineZero, Destination, EndsEqual, Flits, Id, IdTaken, Jitter, LinkCycles, Method, Misplaced, Period, Priority, PriorityTaken, RoutingCycles, Rows, Source, UnknownTag, WrongLength}
use Rattle.plan_checks.specs.declared.Limits.{Limits}

-- P is accepted, with these values
plan_P : read_plan P ≡ accepted (record { columns = 6; rows = 1; link = 1; routing = 0; buffer = 10; method = 3; priority_flits = 0 })
    (record { id = 2; priority = 1; source = 4; destination = 5; flits = 60; period = 200; deadline = 200; jitter = 0 }
    ∷ record { id = 3; priority = 2; source = 0; destination = 5; flits = 198; period = 4000; deadline = 4000; jitter = 0 }
    ∷ record { id = 5; priority = 3; source = 1; destination = 4; flits = 128; period = 6000; deadline = 6000; jitter = 0 } ∷ [])
unfolding tag_of six_or_seven priority_flits_at header_at tagged_at frame_at fields_from clash_at tail_at rest_at ◌then◌ body_at record_at accepted after records read_plan ◌when◌else◌
plan_P = refl

-- P with bytes written over it from a place on
unfoldable pub bytes : ℕ → List ℕ → List ℕ
bytes at new = put P at new

unfoldable pub outcomes : List (List ℕ) → List (Result (Unit {0}) Refusal)
outcomes = map (λ s. outcome (read_plan s))

-- 1, 2, 3, 4: the frame
frames :
    outcomes
    ([]  -- nothing at all
    ∷ take 2 P  -- under 3 bytes where the platform must start
    ∷ take 8 P  -- the platform's body is cut
    ∷ take 11 P  -- under 3 bytes where a flow must start
    ∷ take 54 P  -- a flow's body is cut
    ∷ take 78 P  -- the end record is missing
    ∷ take 80 P  -- under 3 bytes where the end record must start
    ∷ set P 0 0x03  -- an unknown tag, first
    ∷ set P 55 0x00  -- an unknown tag, later
    ∷ set P 2 5 ∷ set P 2 8  -- the platform's length
    ∷ set P 33 1  -- a flow's length
    ∷ set P 80 1  -- the end record's length
    ∷ drop 9 P  -- the first record is a flow
    ∷ drop 78 P  -- the first record is the end
    ∷ (take 9 P ++ P)  -- a platform comes later
    ∷ [])
    ≡ Err (Cut, 0) ∷ Err (Cut, 0) ∷ Err (Cut, 0) ∷ Err (Cut, 9) ∷ Err (Cut, 32) ∷ Err (Cut, 78) ∷ Err (Cut, 78)
    ∷ Err (UnknownTag, 0) ∷ Err (UnknownTag, 55)
    ∷ Err (WrongLength, 1) ∷ Err (WrongLength, 1) ∷ Err (WrongLength, 33) ∷ Err (WrongLength, 79)
    ∷ Err (Misplaced, 0) ∷ Err (Misplaced, 0) ∷ Err (Misplaced, 9) ∷ []
unfolding tag_of six_or_seven priority_flits_at header_at tagged_at frame_at fields_from clash_at tail_at rest_at ◌then◌ body_at record_at accepted refused after records read_plan ◌when◌else◌ outcomes
frames = refl

-- 20 to 25, 30 to 38: each field below and above its values, in the platform and in the first flow
fields :
    outcomes
    (set P 3 0 ∷ set P 3 9  -- columns
    ∷ set P 4 0 ∷ set P 4 9  -- rows
    ∷ set P 5 0 ∷ set P 5 17  -- link cycles
    ∷ set P 6 17  -- routing cycles
    ∷ set P 7 0 ∷ set P 7 65  -- buffer flits
    ∷ set P 8 4  -- method
    ∷ bytes 12 (0xFF ∷ 0xFF ∷ [])  -- id
    ∷ bytes 14 (0 ∷ 0 ∷ [])  -- priority
    ∷ set P 16 6  -- source
    ∷ set P 17 6  -- destination
    ∷ bytes 18 (0 ∷ 0 ∷ [])  -- flits
    ∷ set P 23 0 ∷ bytes 20 (0x3B ∷ 0x9A ∷ 0xCA ∷ 0x01 ∷ [])  -- period
    ∷ set P 27 0  -- deadline zero
    ∷ set P 27 201  -- deadline above the period
    ∷ bytes 28 (0x3B ∷ 0x9A ∷ 0xCA ∷ 0x01 ∷ [])  -- jitter
    ∷ [])
    ≡ Err (Columns, 3) ∷ Err (Columns, 3) ∷ Err (Rows, 4) ∷ Err (Rows, 4) ∷ Err (LinkCycles, 5) ∷ Err (LinkCycles, 5) ∷ Err (RoutingCycles, 6)
    ∷ Err (BufferFlits, 7) ∷ Err (BufferFlits, 7) ∷ Err (Method, 8)
    ∷ Err (Id, 12) ∷ Err (Priority, 14) ∷ Err (Source, 16) ∷ Err (Destination, 17) ∷ Err (Flits, 18)
    ∷ Err (Period, 20) ∷ Err (Period, 20) ∷ Err (DeadlineZero, 24) ∷ Err (DeadlineAbovePeriod, 24) ∷ Err (Jitter, 28) ∷ []
unfolding tag_of six_or_seven priority_flits_at header_at tagged_at frame_at fields_from clash_at tail_at rest_at ◌then◌ body_at record_at accepted refused after records read_plan ◌when◌else◌ outcomes bytes
fields = refl

-- the same in the last flow, 46 bytes on
last_flow :
    outcomes
    (bytes 58 (0xFF ∷ 0xFF ∷ [])  -- id
    ∷ bytes 60 (0 ∷ 0 ∷ [])  -- priority
    ∷ set P 62 6  -- source
    ∷ set P 63 6  -- destination
    ∷ bytes 64 (0 ∷ 0 ∷ [])  -- flits
    ∷ bytes 66 (0 ∷ 0 ∷ 0 ∷ 0 ∷ [])  -- period
    ∷ bytes 70 (0 ∷ 0 ∷ 0 ∷ 0 ∷ [])  -- deadline zero
    ∷ bytes 70 (0 ∷ 0 ∷ 0x17 ∷ 0x71 ∷ [])  -- deadline above the period
    ∷ bytes 74 (0x3B ∷ 0x9A ∷ 0xCA ∷ 0x01 ∷ [])  -- jitter
    ∷ [])
    ≡ Err (Id, 58) ∷ Err (Priority, 60) ∷ Err (Source, 62) ∷ Err (Destination, 63) ∷ Err (Flits, 64) ∷ Err (Period, 66) ∷ Err (DeadlineZero, 70) ∷ Err (DeadlineAbovePeriod, 70) ∷ Err (Jitter, 74) ∷ []
unfolding tag_of six_or_seven priority_flits_at header_at tagged_at frame_at fields_from clash_at tail_at rest_at ◌then◌ body_at record_at accepted refused after records read_plan ◌when◌else◌ outcomes bytes
last_flow = refl

-- the highest allowed value of a field
highest : Limits → Limit → ℕ
highest l (UpTo n) = n
highest l BelowNodes = l.nodes - 1
highest l (UpToPeriod own) = l.period

-- a plan with each of these fields, the first of which stands at this place, at its lowest and at its highest value
edges_from : List ℕ → Limits → ℕ → List Field → List (List ℕ)
edges_from s l at [] = []
edges_from s l at (f ∷ rest) =
    put s at (number_bytes (width f) (lowest_of f)) ∷ put s at (number_bytes (width f) (highest l (highest_of f)))
    ∷ edges_from s l (at + bytes_of (width f)) rest

-- P with a seventh byte and without flows, and with its last flow alone, whose deadline is 1 so that every period holds it
no_flows : List ℕ
no_flows = take 10 (with_seventh 1) ++ drop 78 P

lone_flow : List ℕ
lone_flow = put (take 9 P ++ drop 55 P) 24 (0 ∷ 0 ∷ 0 ∷ 1 ∷ [])

-- the first and the last allowed value of each field, by the table; among them a deadline of 1 and a jitter of 10^9:
-- "A deadline below the unloaded latency is legal, and so is a jitter above the period."
edges :
    outcomes (edges_from no_flows (record { nodes = 6; period = 0 }) 3 platform_fields ++ edges_from lone_flow (record { nodes = 6; period = 6000 }) 12 flow_fields)
    ≡ replicate 30 (Ok tt)
unfolding tag_of six_or_seven priority_flits_at header_at tagged_at frame_at fields_from clash_at tail_at rest_at ◌then◌ body_at record_at accepted refused after records read_plan ◌when◌else◌ outcomes highest edges_from no_flows lone_flow
edges = refl

-- 7, 8, 9, 10
clashes :
    outcomes
    (set P 36 2  -- the second flow has the first one's id
    ∷ set P 61 2  -- the third flow has the second one's priority
    ∷ set P 17 4  -- the first flow goes nowhere
    ∷ set P 63 1  -- the third flow goes nowhere
    ∷ (P ++ 0x7F ∷ [])  -- a byte after the end record
    ∷ (take 9 P ++ drop 78 P ++ P)  -- the same without flows
    ∷ [])
    ≡ Err (IdTaken, 35) ∷ Err (PriorityTaken, 60) ∷ Err (EndsEqual, 17) ∷ Err (EndsEqual, 63) ∷ Err (ByteAfterEnd, 81) ∷ Err (ByteAfterEnd, 12) ∷ []
unfolding tag_of six_or_seven priority_flits_at header_at tagged_at frame_at fields_from clash_at tail_at rest_at ◌then◌ body_at record_at accepted refused after records read_plan ◌when◌else◌ outcomes
clashes = refl
