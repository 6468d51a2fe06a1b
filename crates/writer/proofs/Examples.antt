-- Plan P written from its numbers, and refusals with their exact places, computed.
use Prim.Native.Nat.{ℕ, zero, suc}
use native.Mathlib.Omega.{arith}
use mathlib.Core.Path.{◌≡◌, refl, ap}
use mathlib.Core.List.{List, [], ◌∷◌, ◌++◌}
use lib.ListN.{set, replicate}
use Rattle.framing.specs.Each.{each}
use Rattle.framing.specs.First.{◌when◌else◌}
use Rattle.framing.specs.Returned.{refused_with, accepted_with, room_for, put_into, returned_by, left_by}
use Rattle.framing.specs.declared.returned.Returned.{Returned}
use Rattle.plan_table.specs.Table.{tag_of, six_or_seven, flow_fields}
use Rattle.plan_values.specs.Values.{priority_flits_at, platform_length, blank_flow}
use Rattle.plan_checks.specs.Checks.{header_at, tagged_at, frame_at, clash_at, tail_at, rest_at}
use Rattle.plan.specs.Records.{fields_from, ◌then◌, body_at, record_at}
use Rattle.plan.specs.Reading.{plan_in, accepted, refused, after, records, read_plan}
use Rattle.plan.specs.PlanP.{P, with_seventh}
use Rattle.plan_values.specs.declared.Platform.{Platform}
use Rattle.plan_values.specs.declared.Flow.{Flow}
use Rattle.writer_bytes.specs.PlanBytes.{platform_bytes, flow_bytes, plan_bytes}
use Rattle.writer.specs.Written.{listed, returned, left, GivenBack}
use Rattle.writer.specs.Fits.{Fits, FitsEach}

-- P's platform, with other flits of a buffer or another method, and so many priority flits.
prioritised : ℕ → ℕ → ℕ → Platform
prioritised buffer method flits = record { columns = 6; rows = 1; link = 1; routing = 0; buffer = buffer; method = method; priority_flits = flits }

platform : ℕ → ℕ → Platform
platform buffer method = prioritised buffer method 0

-- P's flows, with other values here and there.
first : ℕ → Flow
first deadline = record { id = 2; priority = 1; source = 4; destination = 5; flits = 60; period = 200; deadline = deadline; jitter = 0 }

second : ℕ → ℕ → Flow
second id destination = record { id = id; priority = 2; source = 0; destination = destination; flits = 198; period = 4000; deadline = 4000; jitter = 0 }

third : ℕ → Flow
third priority = record { id = 5; priority = priority; source = 1; destination = 4; flits = 128; period = 6000; deadline = 6000; jitter = 0 }

flows : List Flow
flows = first 200 ∷ second 3 5 ∷ third 3 ∷ []

-- P's bytes are what is written of its numbers, and method 0 is written as 0.
P_written : plan_bytes (platform 10 3) flows ≡ P
unfolding six_or_seven platform_length ◌when◌else◌ platform_bytes flow_bytes each prioritised platform first second third flows
P_written = refl

method_0_stays : plan_bytes (platform 10 0) flows ≡ set P 8 0
unfolding six_or_seven platform_length ◌when◌else◌ platform_bytes flow_bytes each prioritised platform first second third flows
method_0_stays = refl

-- With priority flits its record has seven bytes; "A six-byte record means zero, and the writer uses it then".
P_with_seventh : plan_bytes (prioritised 10 3 2) flows ≡ with_seventh 2
unfolding six_or_seven platform_length ◌when◌else◌ platform_bytes flow_bytes each prioritised platform first second third flows
P_with_seventh = refl

-- Each fault at the place of the bytes as they would have been written; of two the first record's, and within a record the first in order.
answers : List Returned
answers =
    returned (platform 10 3) flows 81
    ∷ returned (platform 10 3) flows 80  -- a byte too few
    ∷ returned (platform 65 3) flows 80  -- a field comes before the buffer's length
    ∷ returned (platform 10 4) flows 81
    ∷ returned (platform 10 3) (first 201 ∷ second 3 5 ∷ []) 81  -- a deadline above its period
    ∷ returned (platform 10 3) (first 0 ∷ second 3 5 ∷ []) 81  -- a deadline of zero
    ∷ returned (platform 10 3) (first 200 ∷ second 3 6 ∷ []) 81  -- a destination outside the mesh
    ∷ returned (platform 10 3) (first 200 ∷ second 2 0 ∷ []) 81  -- 9 before 7
    ∷ returned (platform 10 3) (first 200 ∷ second 2 5 ∷ []) 81
    ∷ returned (platform 10 3) (first 200 ∷ second 3 5 ∷ third 2 ∷ []) 81
    ∷ returned (platform 10 3) [] 12
    ∷ returned (prioritised 10 3 8) flows 82
    ∷ returned (prioritised 10 3 8) flows 81  -- a byte too few
    ∷ returned (prioritised 10 3 9) flows 81  -- "a seventh byte .. above 8 gets 26 at its place", before the buffer's length
    ∷ returned (prioritised 10 3 255) flows 82
    ∷ returned (prioritised 10 4 9) flows 82  -- 25 before 26
    ∷ returned (prioritised 10 3 1) (first 200 ∷ second 2 5 ∷ []) 82  -- every later place is moved by one
    ∷ returned (prioritised 10 3 1) [] 13
    ∷ []

answers_are :
    answers
    ≡ accepted_with 81
    ∷ refused_with 11 0
    ∷ refused_with 24 7
    ∷ refused_with 25 8
    ∷ refused_with 38 24
    ∷ refused_with 36 24
    ∷ refused_with 33 40
    ∷ refused_with 9 40
    ∷ refused_with 7 35
    ∷ refused_with 8 60
    ∷ accepted_with 12
    ∷ accepted_with 82
    ∷ refused_with 11 0
    ∷ refused_with 26 9
    ∷ refused_with 26 9
    ∷ refused_with 25 8
    ∷ refused_with 7 36
    ∷ accepted_with 13
    ∷ []
unfolding tag_of six_or_seven priority_flits_at platform_length header_at tagged_at frame_at fields_from clash_at tail_at rest_at ◌then◌ body_at record_at accepted refused after records read_plan ◌when◌else◌ platform_bytes flow_bytes each returned_by room_for prioritised platform first second third flows answers
answers_are = refl

-- A longer buffer keeps its further bytes, and a refusal leaves all of them.
lefts : left (platform 10 3) [] (replicate 14 0xA5) ≡ 0x01 ∷ 0 ∷ 6 ∷ 6 ∷ 1 ∷ 1 ∷ 0 ∷ 10 ∷ 3 ∷ 0x7F ∷ 0 ∷ 0 ∷ 0xA5 ∷ 0xA5 ∷ []
unfolding tag_of six_or_seven priority_flits_at platform_length header_at tagged_at frame_at fields_from clash_at tail_at rest_at ◌then◌ body_at record_at accepted refused after records read_plan ◌when◌else◌ platform_bytes flow_bytes each left_by put_into prioritised platform
lefts = refl

left_alone : left (platform 10 4) [] (replicate 14 0xA5) ≡ replicate 14 0xA5
unfolding tag_of six_or_seven priority_flits_at platform_length header_at tagged_at frame_at fields_from clash_at tail_at rest_at ◌then◌ body_at record_at accepted refused after records read_plan ◌when◌else◌ platform_bytes flow_bytes each left_by put_into prioritised platform
left_alone = refl

-- "a platform, a list of flows": the first so many of the array, and a blank for each flow behind the 64th.
lists : (listed flows 2 ≡ first 200 ∷ second 3 5 ∷ []) × (listed (first 200 ∷ []) 64 ≡ first 200 ∷ []) × (listed (first 200 ∷ []) 66 ≡ first 200 ∷ blank_flow ∷ blank_flow ∷ [])
unfolding first second third flows
lists = (refl, refl, refl)

-- "Every value has its field's width": the largest of each, and one more.
fits : Fits flow_fields (65535 ∷ 65535 ∷ 255 ∷ 255 ∷ 65535 ∷ 4294967295 ∷ 4294967295 ∷ 4294967295 ∷ [])
fits = (omega arith, (omega arith, (omega arith, (omega arith, (omega arith, (omega arith, (omega arith, (omega arith, tt))))))))

fits_not :
    (Fits flow_fields (65536 ∷ []) → ⊥)
    × (Fits flow_fields (0 ∷ 0 ∷ 256 ∷ []) → ⊥)
    × (Fits flow_fields (0 ∷ 0 ∷ 0 ∷ 0 ∷ 0 ∷ 4294967296 ∷ []) → ⊥)
fits_not = (λ w. omega (arith, w.0), λ w. omega (arith, w.1.1.0), λ w. omega (arith, w.1.1.1.1.1.0))

fits_each : FitsEach (first 200 ∷ [])
unfolding first
fits_each zero h = (omega arith, (omega arith, (omega arith, (omega arith, (omega arith, (omega arith, (omega arith, (omega arith, tt))))))))
fits_each (suc k) h = (omega arith, (omega arith, (omega arith, (omega arith, (omega arith, (omega arith, (omega arith, (omega arith, tt))))))))

fits_each_not : FitsEach (second 65536 5 ∷ []) → ⊥
unfolding second
fits_each_not w = omega (arith, (w 0 (omega arith)).0)

-- "Reading the written bytes gives back the same platform and flows": P's, with a byte behind them; a refusal says nothing of the bytes.
given_back : GivenBack (platform 10 3) flows (accepted_with 81) (P ++ 0xA5 ∷ []) × GivenBack (platform 10 3) flows (refused_with 11 0) []
unfolding tag_of six_or_seven priority_flits_at header_at tagged_at frame_at fields_from clash_at tail_at rest_at ◌then◌ body_at record_at accepted refused after records read_plan ◌when◌else◌ prioritised platform first second third flows
given_back = (record { same = λ e. refl }, record { same = λ e. absurd (omega (arith, e)) })

given_back_not : GivenBack (platform 11 3) flows (accepted_with 81) P → ⊥
unfolding tag_of six_or_seven priority_flits_at header_at tagged_at frame_at fields_from clash_at tail_at rest_at ◌then◌ body_at record_at accepted refused after records read_plan ◌when◌else◌ prioritised platform first second third flows
given_back_not w = omega (arith, ap (λ r. (plan_in r).platform.buffer) (w.same refl))
