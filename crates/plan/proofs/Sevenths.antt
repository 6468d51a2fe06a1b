-- Document 02, L7: a platform record of seven bytes, computed.
use mathlib.Core.Path.{◌≡◌, refl}
use mathlib.Core.List.{[], ◌∷◌, ◌++◌, map}
use lib.ListN.{take, set}
use Rattle.framing.specs.First.{◌when◌else◌}
use Rattle.plan_table.specs.Table.{tag_of, six_or_seven}
use Rattle.plan_values.specs.Values.{priority_flits_at}
use Rattle.plan_checks.specs.Checks.{header_at, tagged_at, frame_at, clash_at, tail_at, rest_at}
use Rattle.plan.specs.Records.{fields_from, ◌then◌, body_at, record_at}
use Rattle.plan.specs.Reading.{accepted, refused, after, records, read_plan}
use Rattle.plan.specs.PlanP.{with_seventh}
use Rattle.std.specs.Prelude.{Ok, Err}
use Rattle.framing.specs.declared.returned.Fault.TheVariants.{BufferFlits, ByteAfterEnd, Cut, DeadlineZero, EndsEqual, IdTaken, Method, Misplaced, PriorityFlits, PriorityTaken, Source, UnknownTag, WrongLength}
use Rattle.plan.proofs.Examples.{outcomes}

-- P with a seventh byte of 2 is accepted, with P's values and 2 priority flits
plan_read : read_plan (with_seventh 2) ≡ accepted (record { columns = 6; rows = 1; link = 1; routing = 0; buffer = 10; method = 3; priority_flits = 2 })
    (record { id = 2; priority = 1; source = 4; destination = 5; flits = 60; period = 200; deadline = 200; jitter = 0 }
    ∷ record { id = 3; priority = 2; source = 0; destination = 5; flits = 198; period = 4000; deadline = 4000; jitter = 0 }
    ∷ record { id = 5; priority = 3; source = 1; destination = 4; flits = 128; period = 6000; deadline = 6000; jitter = 0 } ∷ [])
unfolding tag_of six_or_seven priority_flits_at header_at tagged_at frame_at fields_from clash_at tail_at rest_at ◌then◌ body_at record_at accepted after records read_plan ◌when◌else◌
plan_read = refl

-- "a seventh byte of zero or above 8 gets 26 at its place": 0, 1, 8, 9 and 255 there
sevenths :
    outcomes (map with_seventh (0 ∷ 1 ∷ 8 ∷ 9 ∷ 255 ∷ []))
    ≡ Err (PriorityFlits, 9) ∷ Ok tt ∷ Ok tt ∷ Err (PriorityFlits, 9) ∷ Err (PriorityFlits, 9) ∷ []
unfolding tag_of six_or_seven priority_flits_at header_at tagged_at frame_at fields_from clash_at tail_at rest_at ◌then◌ body_at record_at accepted refused after records read_plan ◌when◌else◌ outcomes
sevenths = refl

-- lengths 5 and 8 of the same bytes, a seventh byte that is cut, and the order: ".. 26 at its place, after 25", before the next record
faults :
    outcomes
    (set (with_seventh 2) 2 5
    ∷ set (with_seventh 2) 2 8
    ∷ set (with_seventh 2) 2 6  -- the seventh byte taken for a tag
    ∷ take 9 (with_seventh 2)
    ∷ take 9 (set (with_seventh 2) 3 0)  -- 1 before 20
    ∷ set (with_seventh 0) 8 4  -- 25 before 26
    ∷ set (with_seventh 9) 7 65  -- 24 before 26
    ∷ set (with_seventh 0) 10 0x03  -- 26 before 2 of a flow
    ∷ take 11 (with_seventh 9)  -- 26 before 1 of a flow
    ∷ [])
    ≡ Err (WrongLength, 1) ∷ Err (WrongLength, 1) ∷ Err (WrongLength, 10) ∷ Err (Cut, 0) ∷ Err (Cut, 0)
    ∷ Err (Method, 8) ∷ Err (BufferFlits, 7) ∷ Err (PriorityFlits, 9) ∷ Err (PriorityFlits, 9) ∷ []
unfolding tag_of six_or_seven priority_flits_at header_at tagged_at frame_at fields_from clash_at tail_at rest_at ◌then◌ body_at record_at accepted refused after records read_plan ◌when◌else◌ outcomes
faults = refl

-- behind it every later place is moved by one
moved :
    outcomes
    (take 12 (with_seventh 2)  -- under 3 bytes where a flow must start
    ∷ take 55 (with_seventh 2)  -- a flow's body is cut
    ∷ take 79 (with_seventh 2)  -- the end record is missing
    ∷ set (with_seventh 2) 56 0x00  -- an unknown tag
    ∷ set (with_seventh 2) 34 1  -- a flow's length
    ∷ set (with_seventh 2) 56 0x01  -- a platform comes later
    ∷ set (with_seventh 2) 37 2  -- the second flow has the first one's id
    ∷ set (with_seventh 2) 62 2  -- the third flow has the second one's priority
    ∷ set (with_seventh 2) 64 1  -- the third flow goes nowhere
    ∷ set (with_seventh 2) 63 6  -- source
    ∷ set (with_seventh 2) 28 0  -- deadline zero
    ∷ (with_seventh 2 ++ 0x00 ∷ [])  -- a byte after the end record
    ∷ [])
    ≡ Err (Cut, 10) ∷ Err (Cut, 33) ∷ Err (Cut, 79) ∷ Err (UnknownTag, 56) ∷ Err (WrongLength, 34) ∷ Err (Misplaced, 56) ∷ Err (IdTaken, 36) ∷ Err (PriorityTaken, 61) ∷ Err (EndsEqual, 64)
    ∷ Err (Source, 63) ∷ Err (DeadlineZero, 25) ∷ Err (ByteAfterEnd, 82) ∷ []
unfolding tag_of six_or_seven priority_flits_at header_at tagged_at frame_at fields_from clash_at tail_at rest_at ◌then◌ body_at record_at accepted refused after records read_plan ◌when◌else◌ outcomes
moved = refl
