-- A plan written from its numbers, without priority flits and with 6 of them, no two of a record equal and the bytes of each different: every number has its place, most significant byte first.
use mathlib.Core.Path.{◌≡◌, refl}
use mathlib.Core.List.{List, [], ◌∷◌, ◌++◌, map}
use Prim.Native.Nat.{ℕ}
use Rattle.framing.specs.First.{◌when◌else◌}
use Rattle.plan_table.specs.Table.{six_or_seven}
use Rattle.plan_values.specs.Values.{platform_length}
use Rattle.plan_values.specs.declared.Flow.{Flow}
use Rattle.framing.specs.Each.{each}
use Rattle.writer_bytes.specs.PlanBytes.{platform_bytes, flow_bytes, plan_bytes, plan_length}

abbrev flows : List Flow
flows =
    record { id = 0x0103; priority = 0x0405; source = 6; destination = 7; flits = 0x0809; period = 0x1A1B1C1D; deadline = 0x0A0B0C0D; jitter = 0x2A2B2C2D }
    ∷ record { id = 0x0E02; priority = 0x0F01; source = 8; destination = 9; flits = 0x1011; period = 0x12131415; deadline = 0x02030405; jitter = 0x16171819 }
    ∷ []

abbrev behind : List ℕ
behind =
    0x02 ∷ 0x00 ∷ 0x14 ∷ 0x01 ∷ 0x03 ∷ 0x04 ∷ 0x05 ∷ 6 ∷ 7 ∷ 0x08 ∷ 0x09
    ∷ 0x1A ∷ 0x1B ∷ 0x1C ∷ 0x1D ∷ 0x0A ∷ 0x0B ∷ 0x0C ∷ 0x0D ∷ 0x2A ∷ 0x2B ∷ 0x2C ∷ 0x2D
    ∷ 0x02 ∷ 0x00 ∷ 0x14 ∷ 0x0E ∷ 0x02 ∷ 0x0F ∷ 0x01 ∷ 8 ∷ 9 ∷ 0x10 ∷ 0x11
    ∷ 0x12 ∷ 0x13 ∷ 0x14 ∷ 0x15 ∷ 0x02 ∷ 0x03 ∷ 0x04 ∷ 0x05 ∷ 0x16 ∷ 0x17 ∷ 0x18 ∷ 0x19
    ∷ 0x7F ∷ 0x00 ∷ 0x00 ∷ []

written :
    (plan_bytes (record { columns = 5; rows = 3; link = 2; routing = 4; buffer = 7; method = 1; priority_flits = 0 }) flows
    ≡ 0x01 ∷ 0x00 ∷ 0x06 ∷ 5 ∷ 3 ∷ 2 ∷ 4 ∷ 7 ∷ 1 ∷ behind)
    × (plan_bytes (record { columns = 5; rows = 3; link = 2; routing = 4; buffer = 7; method = 1; priority_flits = 6 }) flows
    ≡ 0x01 ∷ 0x00 ∷ 0x07 ∷ 5 ∷ 3 ∷ 2 ∷ 4 ∷ 7 ∷ 1 ∷ 6 ∷ behind)
unfolding platform_bytes platform_length six_or_seven ◌when◌else◌ flow_bytes each
written = (refl, refl)

-- "12 + 23 n for n flows, or 13 + 23 n with a seventh byte"
lengths :
    map (plan_length (record { columns = 5; rows = 3; link = 2; routing = 4; buffer = 7; method = 1; priority_flits = 0 })) (0 ∷ 1 ∷ 64 ∷ []) ++ map (plan_length (record { columns = 5; rows = 3; link = 2; routing = 4; buffer = 7; method = 1; priority_flits = 6 })) (0 ∷ 1 ∷ 64 ∷ [])
    ≡ 12 ∷ 35 ∷ 1484 ∷ 13 ∷ 36 ∷ 1485 ∷ []
unfolding platform_length ◌when◌else◌
lengths = refl
