-- A plan in which no two numbers of a record are equal and the bytes of each differ, computed: what P's one row, its deadlines and its jitters leave equal.
use Rattle.framing.specs.Returned.{outcome}
use Prim.Native.Nat.{ℕ}
use mathlib.Core.Path.{◌≡◌, refl}
use mathlib.Core.List.{List, [], ◌∷◌, map}
use lib.ListN.{set, replicate}
use Rattle.framing.specs.First.{◌when◌else◌}
use Rattle.plan_table.specs.Table.{tag_of, six_or_seven}
use Rattle.plan_values.specs.Values.{priority_flits_at}
use Rattle.plan_checks.specs.Checks.{header_at, tagged_at, frame_at, clash_at, tail_at, rest_at}
use Rattle.plan.specs.Padded.{padded}
use Rattle.plan.specs.Records.{fields_from, ◌then◌, body_at, record_at}
use Rattle.plan.specs.Reading.{accepted, refused, after, records, read_plan}
use Rattle.std.specs.Prelude.{Ok, Err}
use Rattle.framing.specs.declared.returned.Fault.TheVariants.{DeadlineAbovePeriod, Destination, Source}

abbrev bytes : List ℕ
bytes =
    0x01 ∷ 0x00 ∷ 0x06 ∷ 5 ∷ 3 ∷ 2 ∷ 4 ∷ 7 ∷ 1 ∷
    0x02 ∷ 0x00 ∷ 0x14 ∷ 0x01 ∷ 0x03 ∷ 0x04 ∷ 0x05 ∷ 13 ∷ 14 ∷ 0x08 ∷ 0x09 ∷
    0x1A ∷ 0x1B ∷ 0x1C ∷ 0x1D ∷ 0x0A ∷ 0x0B ∷ 0x0C ∷ 0x0D ∷ 0x2A ∷ 0x2B ∷ 0x2C ∷ 0x2D ∷
    0x02 ∷ 0x00 ∷ 0x14 ∷ 0x0E ∷ 0x02 ∷ 0x0F ∷ 0x01 ∷ 14 ∷ 0 ∷ 0x10 ∷ 0x11 ∷
    0x12 ∷ 0x13 ∷ 0x14 ∷ 0x15 ∷ 0x02 ∷ 0x03 ∷ 0x04 ∷ 0x05 ∷ 0x16 ∷ 0x17 ∷ 0x18 ∷ 0x19 ∷
    0x7F ∷ 0x00 ∷ 0x00 ∷ []

plan_read : read_plan bytes ≡ accepted (record { columns = 5; rows = 3; link = 2; routing = 4; buffer = 7; method = 1; priority_flits = 0 })
    (record { id = 0x0103; priority = 0x0405; source = 13; destination = 14; flits = 0x0809; period = 0x1A1B1C1D; deadline = 0x0A0B0C0D; jitter = 0x2A2B2C2D }
    ∷ record { id = 0x0E02; priority = 0x0F01; source = 14; destination = 0; flits = 0x1011; period = 0x12131415; deadline = 0x02030405; jitter = 0x16171819 } ∷ [])
unfolding tag_of six_or_seven priority_flits_at header_at tagged_at frame_at fields_from clash_at tail_at rest_at ◌then◌ body_at record_at accepted after records read_plan ◌when◌else◌
plan_read = refl

-- "below columns x rows": node 14 is the last of 5 x 3. Then a period below the deadline, and a jitter below it.
limits :
    map (λ s. outcome (read_plan s)) (bytes ∷ set bytes 16 15 ∷ set bytes 17 15 ∷ set bytes 39 15 ∷ set bytes 40 15 ∷ set bytes 20 0x09 ∷ set bytes 28 0x05 ∷ [])
    ≡ Ok tt ∷ Err (Source, 16) ∷ Err (Destination, 17) ∷ Err (Source, 39) ∷ Err (Destination, 40) ∷ Err (DeadlineAbovePeriod, 24) ∷ Ok tt ∷ []
unfolding tag_of six_or_seven priority_flits_at header_at tagged_at frame_at fields_from clash_at tail_at rest_at ◌then◌ body_at record_at accepted refused after records read_plan ◌when◌else◌
limits = refl

-- "0 to 64 flows": what is kept of two, and 62 blanks behind it.
padding : padded {A = ℕ} 0 (7 ∷ 8 ∷ []) ≡ 7 ∷ 8 ∷ replicate 62 0
padding = refl
