-- Of two faults the first in document 01's order decides: examples for each two neighbours of the order, both faults in one record.
use Rattle.plan_table.specs.declared.Kind.{Kind}
use Prim.Native.Nat.{ℕ}
use native.Mathlib.Omega.{arith}
use mathlib.Core.Path.{◌≡◌, refl}
use mathlib.Core.List.{List, [], ◌∷◌, ◌++◌, map}
use mathlib.Core.Logic.{inl}
use lib.ListN.{take, drop, set, replicate}
use Rattle.framing.specs.First.{◌when◌else◌}
use Rattle.framing.specs.Put.{put}
use Rattle.plan_table.specs.Table.{tag_of, six_or_seven}
use Rattle.plan_values.specs.Values.{priority_flits_at, blank_flow}
use Rattle.plan_checks.specs.Checks.{header_at, tagged_at, frame_at, clash_at, tail_at, rest_at}
use Rattle.plan.specs.Records.{fields_from, ◌then◌, body_at, record_at}
use Rattle.plan.specs.Reading.{accepted, refused, after, records, read_plan}
use Rattle.plan.specs.Reasons.{header_cut, unknown_tag, misplaced, Holds, RefusedBecause}
use Rattle.plan.specs.PlanP.{P}
use Rattle.std.specs.Prelude.{Result, Err}
use Rattle.framing.specs.declared.returned.Refusal.{Refusal}
use Rattle.framing.specs.declared.returned.Fault.TheVariants.{BufferFlits, Columns, Cut, DeadlineAbovePeriod, DeadlineZero, Destination, EndsEqual, Flits, FlowTooMany, Id, IdTaken, Jitter, LinkCycles, Method, Misplaced, Period, Priority, PriorityTaken, RoutingCycles, Rows, Source, UnknownTag, WrongLength}
use Rattle.plan.proofs.Ranks.{one_reason}
use Rattle.plan.proofs.Examples.{bytes, outcomes}

-- "header complete (1), 2, 4": in a cut header an unknown tag is not 2 and a misplaced one is not 4, with one byte of it and with two
cut_headers :
    outcomes
    ((0x03 ∷ []) ∷ (0x03 ∷ 0x00 ∷ [])  -- where the platform must start
    ∷ (take 9 P ++ 0x03 ∷ []) ∷ (take 9 P ++ 0x03 ∷ 0x00 ∷ [])  -- where a flow must start
    ∷ (take 55 P ++ 0x03 ∷ []) ∷ (take 55 P ++ 0x03 ∷ 0x00 ∷ [])
    ∷ (take 78 P ++ 0x03 ∷ []) ∷ (take 78 P ++ 0x03 ∷ 0x00 ∷ [])  -- where the end must start
    ∷ (0x02 ∷ []) ∷ (0x7F ∷ 0x00 ∷ []) ∷ (take 9 P ++ 0x01 ∷ [])  -- misplaced
    ∷ [])
    ≡ Err (Cut, 0) ∷ Err (Cut, 0) ∷ Err (Cut, 9) ∷ Err (Cut, 9) ∷ Err (Cut, 55) ∷ Err (Cut, 55) ∷ Err (Cut, 78) ∷ Err (Cut, 78)
    ∷ Err (Cut, 0) ∷ Err (Cut, 0) ∷ Err (Cut, 9) ∷ []
unfolding tag_of six_or_seven priority_flits_at header_at tagged_at frame_at fields_from clash_at tail_at rest_at ◌then◌ body_at record_at accepted refused after records read_plan ◌when◌else◌ outcomes bytes
cut_headers = refl

-- .. said without the reader: of one byte 03 three lines hold, the first of them is the reason, and 2 is none
three_hold : Holds (0x03 ∷ []) 0 header_cut × Holds (0x03 ∷ []) 0 unknown_tag × Holds (0x03 ∷ []) 0 misplaced
three_hold = (omega arith, (λ e. omega arith, λ e. omega arith, λ e. omega arith), inl (refl, λ e. omega arith))

first_is_reason : RefusedBecause (0x03 ∷ []) 1 0
first_is_reason = record { n = 0; before = λ m h. absurd (omega arith); line = header_cut; holds = omega arith; first = λ l h. absurd (omega arith); number_is = refl; place_is = refl }

never_two : RefusedBecause (0x03 ∷ []) 2 0 → ⊥
never_two w = omega (arith, (one_reason (0x03 ∷ []) w first_is_reason).0)

-- "2, 4, 3, body complete (1)", of each kind of record; for the end record 10 follows 3, for 6 see `sixth`
frames :
    outcomes
    (set (drop 9 P) 0 0x03  -- 2 before 4
    ∷ set (set P 9 0x03) 11 0  -- 2 before any length
    ∷ set (drop 9 P) 1 1  -- 4 before 3, first
    ∷ (take 9 P ++ 0x01 ∷ 0x00 ∷ 0x08 ∷ [])  -- 4 before 3, later
    ∷ set (take 8 P) 2 8  -- 3 before 1, in the platform
    ∷ set (take 31 P) 11 21  -- 3 before 1, in a flow
    ∷ set P 80 1  -- 3 before 1, in the end record
    ∷ set (P ++ 0x00 ∷ []) 80 1  -- 3 before 10
    ∷ set (take 8 P) 3 0  -- 1 before 20
    ∷ put (take 31 P) 12 (0xFF ∷ 0xFF ∷ [])  -- 1 before 30
    ∷ [])
    ≡ Err (UnknownTag, 0) ∷ Err (UnknownTag, 9) ∷ Err (Misplaced, 0) ∷ Err (Misplaced, 9) ∷ Err (WrongLength, 1) ∷ Err (WrongLength, 10) ∷ Err (WrongLength, 79) ∷ Err (WrongLength, 79) ∷ Err (Cut, 0) ∷ Err (Cut, 9) ∷ []
unfolding tag_of six_or_seven priority_flits_at header_at tagged_at frame_at fields_from clash_at tail_at rest_at ◌then◌ body_at record_at accepted refused after records read_plan ◌when◌else◌ outcomes bytes
frames = refl

-- "field by field", of the platform
platform_lines :
    outcomes
    (set (set P 3 0) 4 0  -- 20 before 21
    ∷ set (set P 4 9) 5 0  -- 21 before 22
    ∷ set (set P 5 17) 6 17  -- 22 before 23
    ∷ set (set P 6 17) 7 0  -- 23 before 24
    ∷ set (set P 7 65) 8 4  -- 24 before 25
    ∷ set (set P 7 65) 3 0  -- 20 before 24
    ∷ [])
    ≡ Err (Columns, 3) ∷ Err (Rows, 4) ∷ Err (LinkCycles, 5) ∷ Err (RoutingCycles, 6) ∷ Err (BufferFlits, 7) ∷ Err (Columns, 3) ∷ []
unfolding tag_of six_or_seven priority_flits_at header_at tagged_at frame_at fields_from clash_at tail_at rest_at ◌then◌ body_at record_at accepted refused after records read_plan ◌when◌else◌ outcomes bytes
platform_lines = refl

-- "field by field, 9, 7, 8", of a flow; a deadline is not zero and above its period at once
flow_lines :
    outcomes
    (bytes 12 (0xFF ∷ 0xFF ∷ 0x00 ∷ 0x00 ∷ [])  -- 30 before 31
    ∷ set (set P 15 0) 16 6  -- 31 before 32
    ∷ bytes 16 (6 ∷ 6 ∷ [])  -- 32 before 33, and 9
    ∷ bytes 17 (6 ∷ 0 ∷ 0 ∷ [])  -- 33 before 34
    ∷ bytes 18 (0 ∷ 0 ∷ 0 ∷ 0 ∷ 0 ∷ 0 ∷ [])  -- 34 before 35
    ∷ bytes 20 (0 ∷ 0 ∷ 0 ∷ 0 ∷ 0 ∷ 0 ∷ 0 ∷ 0 ∷ [])  -- 35 before 36
    ∷ bytes 20 (0 ∷ 0 ∷ 0 ∷ 0 ∷ [])  -- 35 before 38
    ∷ put (set P 27 0) 28 (0x3B ∷ 0x9A ∷ 0xCA ∷ 0x01 ∷ [])  -- 36 before 37
    ∷ put (set P 27 201) 28 (0x3B ∷ 0x9A ∷ 0xCA ∷ 0x01 ∷ [])  -- 38 before 37
    ∷ put (set P 17 4) 28 (0x3B ∷ 0x9A ∷ 0xCA ∷ 0x01 ∷ [])  -- 37 before 9
    ∷ set (set P 36 2) 40 0  -- 9 before 7
    ∷ set (set P 38 1) 36 2  -- 7 before 8
    ∷ [])
    ≡ Err (Id, 12) ∷ Err (Priority, 14) ∷ Err (Source, 16) ∷ Err (Destination, 17) ∷ Err (Flits, 18) ∷ Err (Period, 20) ∷ Err (Period, 20)
    ∷ Err (DeadlineZero, 24) ∷ Err (DeadlineAbovePeriod, 24) ∷ Err (Jitter, 28) ∷ Err (EndsEqual, 40) ∷ Err (IdTaken, 35) ∷ []
unfolding tag_of six_or_seven priority_flits_at header_at tagged_at frame_at fields_from clash_at tail_at rest_at ◌then◌ body_at record_at accepted refused after records read_plan ◌when◌else◌ outcomes bytes
flow_lines = refl

-- "The first record in fault decides": the last line of one record before the first of the next
two_records :
    outcomes
    (set (set P 8 4) 9 0x03  -- 25 of the platform before 2 of a flow
    ∷ (set (take 9 P) 8 4 ++ 0x02 ∷ [])  -- 25 of the platform before 1 of a flow
    ∷ set (set P 17 4) 7 65  -- 24 of the platform before 9 of a flow
    ∷ set (take 56 P) 38 1  -- 8 of a flow before 1 of the next
    ∷ set (P ++ 0x00 ∷ []) 38 1  -- 8 of a flow before 10
    ∷ set (P ++ 0x00 ∷ []) 63 1  -- 9 of a flow before 10
    ∷ [])
    ≡ Err (Method, 8) ∷ Err (Method, 8) ∷ Err (BufferFlits, 7) ∷ Err (PriorityTaken, 37) ∷ Err (PriorityTaken, 37) ∷ Err (EndsEqual, 63) ∷ []
unfolding tag_of six_or_seven priority_flits_at header_at tagged_at frame_at fields_from clash_at tail_at rest_at ◌then◌ body_at record_at accepted refused after records read_plan ◌when◌else◌ outcomes bytes
two_records = refl

-- "body complete (1), 6, then 5": the flow record of P behind 64 flows
behind_64 : List ℕ → Result Kind Refusal
behind_64 s = record_at s 9 (record { columns = 6; rows = 1; link = 1; routing = 0; buffer = 10; method = 3; priority_flits = 0 }) (replicate 64 blank_flow)

sixth :
    map behind_64
    (take 32 P
    ∷ set (take 32 P) 11 21  -- 3 before 6
    ∷ take 31 P  -- 1 before 6
    ∷ put (take 32 P) 12 (0xFF ∷ 0xFF ∷ [])  -- 6 before 30
    ∷ set (take 32 P) 16 6  -- 6 before 32
    ∷ [])
    ≡ Err (FlowTooMany, 9) ∷ Err (WrongLength, 10) ∷ Err (Cut, 9) ∷ Err (FlowTooMany, 9) ∷ Err (FlowTooMany, 9) ∷ []
unfolding tag_of six_or_seven priority_flits_at header_at tagged_at frame_at fields_from clash_at tail_at rest_at ◌then◌ body_at record_at accepted refused after records read_plan ◌when◌else◌ behind_64
sixth = refl
