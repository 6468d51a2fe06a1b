-- What P's one row, its link cycles of 1, its deadlines and jitters leave equal: limits and clashes of a mesh of 5 x 3, computed.
use Prim.Native.Nat.{ℕ}
use mathlib.Core.Path.{◌≡◌, refl}
use mathlib.Core.Bool.{Bool, true, false}
use mathlib.Core.List.{List, [], ◌∷◌, map}
use lib.ListN.{get_or}
use Rattle.framing.specs.First.{◌when◌else◌}
use Rattle.plan_table.specs.Table.{lines_of, no_field}
use Rattle.plan_table.specs.declared.Kind.{Kind}
use Rattle.plan_table.specs.declared.Kind.TheVariants.{PlatformRecord, FlowRecord, EndRecord}
use Rattle.plan_checks.specs.Checks.{period_at, limits_at, outside, clash_at, tail_at, rest_at}
use Rattle.plan_checks.specs.declared.Limits.{Limits}
use Rattle.std.specs.Prelude.{Result, Ok, Err}
use Rattle.framing.specs.declared.returned.Refusal.{Refusal}
use Rattle.framing.specs.declared.returned.Fault.TheVariants.{ByteAfterEnd, EndsEqual, IdTaken, PriorityTaken}

-- A flow record at place 1: period 1000, deadline 200, jitter 3.
abbrev bytes : List ℕ
bytes = 0xEE ∷ 0x02 ∷ 0 ∷ 20 ∷ 0 ∷ 7 ∷ 0 ∷ 9 ∷ 13 ∷ 14 ∷ 0 ∷ 60 ∷ 0 ∷ 0 ∷ 0x03 ∷ 0xE8 ∷ 0 ∷ 0 ∷ 0 ∷ 200 ∷ 0 ∷ 0 ∷ 0 ∷ 3 ∷ []

abbrev limits : Limits
limits = limits_at bytes 1 FlowRecord (record { columns = 5; rows = 3; link = 2; routing = 4; buffer = 7; method = 1; priority_flits = 0 })

-- "below columns x rows", "1..period"
limits_are : limits ≡ record { nodes = 15; period = 1000 }
limits_are = refl

-- "Only a flow record has a period."
periods : map (period_at bytes 1) (PlatformRecord ∷ FlowRecord ∷ EndRecord ∷ []) ≡ 0 ∷ 1000 ∷ 0 ∷ []
periods = refl

-- Whether values are outside those of field k of a record.
abbrev outsides : Kind → ℕ → List ℕ → List Bool
outsides kind k values = map (outside limits (get_or (lines_of kind) k no_field)) values

abbrev sides : List Bool
sides = true ∷ false ∷ false ∷ true ∷ []

-- Each field: one below its lowest value, the lowest, the highest and one above; where the lowest is 0, the lowest twice.
platform_sides :
    outsides PlatformRecord 0 (0 ∷ 1 ∷ 8 ∷ 9 ∷ [])
    ∷ outsides PlatformRecord 1 (0 ∷ 1 ∷ 8 ∷ 9 ∷ [])
    ∷ outsides PlatformRecord 2 (0 ∷ 1 ∷ 16 ∷ 17 ∷ [])
    ∷ outsides PlatformRecord 3 (17 ∷ 0 ∷ 16 ∷ 17 ∷ [])
    ∷ outsides PlatformRecord 4 (0 ∷ 1 ∷ 64 ∷ 65 ∷ [])
    ∷ outsides PlatformRecord 5 (4 ∷ 0 ∷ 3 ∷ 4 ∷ [])
    ∷ outsides PlatformRecord 6 (0 ∷ 1 ∷ 8 ∷ 9 ∷ [])
    ∷ []
    ≡ sides ∷ sides ∷ sides ∷ sides ∷ sides ∷ sides ∷ sides ∷ []
platform_sides = refl

flow_sides :
    outsides FlowRecord 0 (65535 ∷ 0 ∷ 65534 ∷ 65535 ∷ [])
    ∷ outsides FlowRecord 1 (0 ∷ 1 ∷ 65535 ∷ 65536 ∷ [])
    ∷ outsides FlowRecord 2 (15 ∷ 0 ∷ 14 ∷ 15 ∷ [])
    ∷ outsides FlowRecord 3 (15 ∷ 0 ∷ 14 ∷ 15 ∷ [])
    ∷ outsides FlowRecord 4 (0 ∷ 1 ∷ 65535 ∷ 65536 ∷ [])
    ∷ outsides FlowRecord 5 (0 ∷ 1 ∷ 1_000_000_000 ∷ 1_000_000_001 ∷ [])
    ∷ outsides FlowRecord 6 (0 ∷ 1 ∷ 1000 ∷ 1001 ∷ [])
    ∷ outsides FlowRecord 7 (1_000_000_001 ∷ 0 ∷ 1_000_000_000 ∷ 1_000_000_001 ∷ [])
    ∷ []
    ≡ sides ∷ sides ∷ sides ∷ sides ∷ sides ∷ sides ∷ sides ∷ sides ∷ []
flow_sides = refl

-- "9, 7, 8", each by its own values: ids 7 and 8 and priorities 9 and 10 came before, so that an id of 9 and a priority of 7 are new.
abbrev clash : (id priority source destination : ℕ) → Result Kind Refusal
clash id priority source destination =
    clash_at 100 (record { id = id; priority = priority; source = source; destination = destination; flits = 1; period = 2; deadline = 2; jitter = 0 }) (7 ∷ 8 ∷ []) (9 ∷ 10 ∷ [])

clashes :
    clash 9 7 3 4 ∷ clash 8 7 3 4 ∷ clash 9 10 3 4 ∷ clash 8 10 3 4 ∷ clash 8 10 3 3 ∷ []
    ≡ Ok FlowRecord ∷ Err (IdTaken, 103) ∷ Err (PriorityTaken, 105) ∷ Err (IdTaken, 103) ∷ Err (EndsEqual, 108) ∷ []
unfolding clash_at ◌when◌else◌
clashes = refl

-- Behind the fields: 7 and 8 of the flow above, of which id 7 and priority 9 are asked for; nothing of a platform; 10 of an end record with a byte behind it.
rests :
    rest_at bytes 1 FlowRecord (8 ∷ []) (7 ∷ []) ∷ rest_at bytes 1 FlowRecord (7 ∷ []) (8 ∷ []) ∷ rest_at bytes 1 FlowRecord (8 ∷ []) (9 ∷ [])
    ∷ rest_at bytes 1 PlatformRecord (7 ∷ []) (9 ∷ [])
    ∷ rest_at (0xEE ∷ 0x7F ∷ 0 ∷ 0 ∷ []) 1 EndRecord [] [] ∷ rest_at (0xEE ∷ 0x7F ∷ 0 ∷ 0 ∷ 0xEE ∷ []) 1 EndRecord [] []
    ∷ []
    ≡ Ok FlowRecord ∷ Err (IdTaken, 4) ∷ Err (PriorityTaken, 6) ∷ Ok PlatformRecord ∷ Ok EndRecord ∷ Err (ByteAfterEnd, 4) ∷ []
unfolding clash_at tail_at rest_at ◌when◌else◌
rests = refl
