-- Plans of 64 and 65 flows, of whole bytes. They are computed here and not beside the reader, since that takes seconds and each wrong
-- program there would compute it again.
use Prim.Native.Nat.{ℕ, zero, suc}
use mathlib.Core.Path.{◌≡◌, refl}
use mathlib.Core.List.{List, [], ◌∷◌, ◌++◌}
use lib.ListN.{length, take}
use Rattle.framing.specs.First.{◌when◌else◌}
use Rattle.plan_table.specs.Table.{tag_of, six_or_seven}
use Rattle.plan_values.specs.Values.{priority_flits_at}
use Rattle.plan_checks.specs.Checks.{header_at, tagged_at, frame_at, clash_at, tail_at, rest_at}
use Rattle.plan.specs.Records.{fields_from, ◌then◌, body_at, record_at}
use Rattle.plan.specs.Reading.{accepted, refused, after, records, read_plan}
use Rattle.plan.specs.PlanP.{P, with_seventh}
use Rattle.std.specs.Prelude.{Ok, Err}
use Rattle.framing.specs.Returned.{outcome}
use Rattle.framing.specs.declared.returned.Fault.TheVariants.{FlowTooMany}

-- n flows from node 0 to node 1, with ids 0, 1, .. and priorities 1, 2, ..
flows : ℕ → List ℕ → List ℕ
flows zero rest = rest
flows (suc n) rest =
    flows n (0x02 ∷ 0 ∷ 20 ∷ 0 ∷ n ∷ 0 ∷ suc n ∷ 0 ∷ 1 ∷ 0 ∷ 1 ∷ 0 ∷ 0 ∷ 0 ∷ 9 ∷ 0 ∷ 0 ∷ 0 ∷ 9 ∷ 0 ∷ 0 ∷ 0 ∷ 0 ∷ rest)

-- "6 | a 65th flow | its tag"
a_65th_flow : outcome (read_plan (take 9 P ++ flows 65 (0x7F ∷ 0 ∷ 0 ∷ []))) ≡ Err (FlowTooMany, 1481)
unfolding tag_of six_or_seven priority_flits_at header_at tagged_at frame_at fields_from clash_at tail_at rest_at ◌then◌ body_at record_at accepted refused after records read_plan ◌when◌else◌ flows
a_65th_flow = refl

-- .. and behind a platform record of seven bytes
a_65th_flow_moved : outcome (read_plan (take 10 (with_seventh 8) ++ flows 65 (0x7F ∷ 0 ∷ 0 ∷ []))) ≡ Err (FlowTooMany, 1482)
unfolding tag_of six_or_seven priority_flits_at header_at tagged_at frame_at fields_from clash_at tail_at rest_at ◌then◌ body_at record_at accepted refused after records read_plan ◌when◌else◌ flows
a_65th_flow_moved = refl

-- Document 02, L7: "the longest plan has 1,485 bytes".
longest : (outcome (read_plan (take 10 (with_seventh 8) ++ flows 64 (0x7F ∷ 0 ∷ 0 ∷ []))) ≡ Ok tt) × (length (take 10 (with_seventh 8) ++ flows 64 (0x7F ∷ 0 ∷ 0 ∷ [])) ≡ 1485)
unfolding tag_of six_or_seven priority_flits_at header_at tagged_at frame_at fields_from clash_at tail_at rest_at ◌then◌ body_at record_at accepted refused after records read_plan ◌when◌else◌ flows
longest = (refl, refl)
