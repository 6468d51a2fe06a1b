-- What is said of a plan without the reader (Layout, Legal, Reasons), of given values: at each limit and one past it, and for each line of the table bytes of which it holds and bytes of
-- which it does not. P and changes of it, as in Examples.
use Prim.Native.Nat.{ℕ, zero, suc, ◌<◌}
use native.Mathlib.Omega.{arith}
use mathlib.Core.Path.{◌≡◌, refl}
use mathlib.Core.List.{List, [], ◌∷◌, ◌++◌, map}
use mathlib.Core.Logic.{inl, inr}
use lib.ListN.{take, drop, set, replicate}
use Rattle.framing.specs.First.{◌when◌else◌}
use Rattle.framing.specs.Put.{put}
use Rattle.framing.specs.Header.{Headed}
use Rattle.plan_values.specs.Values.{priority_flits_at, platform_length, flow_at, blank_flow}
use Rattle.plan_values.specs.declared.Platform.{Platform}
use Rattle.plan_values.specs.declared.Flow.{Flow}
use Rattle.plan.specs.Legal.{LegalPlatform, LegalFlow, flow, Distinct, Legal}
use Rattle.plan.specs.Layout.{place, Laid}
use Rattle.plan.specs.Refusals.{Listed, of_first, of_later, of_platform, of_flow, of_flow_65, of_end}
use Rattle.plan.specs.PlanP.{P, with_seventh}
use Rattle.plan.specs.Reasons.{start, tag, size, one, two, four, nodes, Line, header_cut, unknown_tag, misplaced, wrong_length, body_cut, flow_65, columns_outside, rows_outside, link_outside, routing_outside, buffer_outside, method_outside, priority_flits_outside, id_outside, priority_outside, source_outside, destination_outside, flits_outside, period_outside, deadline_zero, deadline_above, jitter_outside, source_equals_destination, id_equals_earlier, priority_equals_earlier, byte_after_end, rank, number_of, offset_of, EqualsEarlier, Holds, RefusedBecause}

-- ---- Legal

abbrev prioritised : (columns rows link routing buffer method flits : ℕ) → Platform
prioritised columns rows link routing buffer method flits = record { columns = columns; rows = rows; link = link; routing = routing; buffer = buffer; method = method; priority_flits = flits }

abbrev platform : (columns rows link routing buffer method : ℕ) → Platform
platform columns rows link routing buffer method = prioritised columns rows link routing buffer method 0

-- "1..8 .. 1..8 .. 1..16 .. 0..16 .. 1..64 .. 0..3", and priority flits up to 8
platforms : LegalPlatform (platform 1 1 1 0 1 0) × LegalPlatform (prioritised 8 8 16 16 64 3 8)
platforms = (
  record { columns = (omega arith, omega arith); rows = (omega arith, omega arith); link = (omega arith, omega arith); routing = (omega arith, omega arith); buffer = (omega arith, omega arith); method = (omega arith, omega arith); priority_flits = (omega arith, omega arith) },
  record { columns = (omega arith, omega arith); rows = (omega arith, omega arith); link = (omega arith, omega arith); routing = (omega arith, omega arith); buffer = (omega arith, omega arith); method = (omega arith, omega arith); priority_flits = (omega arith, omega arith) },
)

no_platforms :
    (LegalPlatform (platform 0 8 16 16 64 3) → ⊥)
    × (LegalPlatform (platform 9 1 1 0 1 0) → ⊥)
    × (LegalPlatform (platform 8 0 16 16 64 3) → ⊥)
    × (LegalPlatform (platform 1 9 1 0 1 0) → ⊥)
    × (LegalPlatform (platform 8 8 0 16 64 3) → ⊥)
    × (LegalPlatform (platform 1 1 17 0 1 0) → ⊥)
    × (LegalPlatform (platform 1 1 1 17 1 0) → ⊥)
    × (LegalPlatform (platform 8 8 16 16 0 3) → ⊥)
    × (LegalPlatform (platform 1 1 1 0 65 0) → ⊥)
    × (LegalPlatform (platform 1 1 1 0 1 4) → ⊥)
    × (LegalPlatform (prioritised 1 1 1 0 1 0 9) → ⊥)
no_platforms = (
  λ w. omega (arith, w.columns.0),
  λ w. omega (arith, w.columns.1),
  λ w. omega (arith, w.rows.0),
  λ w. omega (arith, w.rows.1),
  λ w. omega (arith, w.link.0),
  λ w. omega (arith, w.link.1),
  λ w. omega (arith, w.routing.1),
  λ w. omega (arith, w.buffer.0),
  λ w. omega (arith, w.buffer.1),
  λ w. omega (arith, w.method.1),
  λ w. omega (arith, w.priority_flits.1),
)

abbrev flow_of : (id priority source destination flits period deadline jitter : ℕ) → Flow
flow_of id priority source destination flits period deadline jitter =
    record { id = id; priority = priority; source = source; destination = destination; flits = flits; period = period; deadline = deadline; jitter = jitter }

abbrev five_by_three : Platform
five_by_three = platform 5 3 2 4 7 1

-- "0..65534 .. 1..65535 .. below columns x rows .. 1..65535 .. 1..1,000,000,000 .. 1..period .. 0..1,000,000,000", and the source is not the destination.
flows : LegalFlow five_by_three (flow_of 0 1 0 1 1 1 1 0) × LegalFlow five_by_three (flow_of 65534 65535 14 13 65535 1000000000 1000000000 1000000000)
flows = (
  record { id = (omega arith, omega arith); priority = (omega arith, omega arith); source = omega arith; destination = omega arith; flits = (omega arith, omega arith); period = (omega arith, omega arith); deadline = (omega arith, omega arith); jitter = (omega arith, omega arith); moves = λ e. omega (arith, e) },
  record { id = (omega arith, omega arith); priority = (omega arith, omega arith); source = omega arith; destination = omega arith; flits = (omega arith, omega arith); period = (omega arith, omega arith); deadline = (omega arith, omega arith); jitter = (omega arith, omega arith); moves = λ e. omega (arith, e) },
)

no_flows :
    (LegalFlow five_by_three (flow_of 65535 1 0 1 1 1 1 0) → ⊥)
    × (LegalFlow five_by_three (flow_of 65534 0 14 13 65535 1000000000 1000000000 1000000000) → ⊥)
    × (LegalFlow five_by_three (flow_of 0 65536 0 1 1 1 1 0) → ⊥)
    × (LegalFlow five_by_three (flow_of 0 1 15 1 1 1 1 0) → ⊥)
    × (LegalFlow five_by_three (flow_of 0 1 0 15 1 1 1 0) → ⊥)
    × (LegalFlow five_by_three (flow_of 65534 65535 14 13 0 1000000000 1000000000 1000000000) → ⊥)
    × (LegalFlow five_by_three (flow_of 0 1 0 1 65536 1 1 0) → ⊥)
    × (LegalFlow five_by_three (flow_of 65534 65535 14 13 65535 0 1000000000 1000000000) → ⊥)
    × (LegalFlow five_by_three (flow_of 0 1 0 1 1 1000000001 1 0) → ⊥)
    × (LegalFlow five_by_three (flow_of 65534 65535 14 13 65535 1000000000 0 1000000000) → ⊥)
    × (LegalFlow five_by_three (flow_of 0 1 0 1 1 1 2 0) → ⊥)
    × (LegalFlow five_by_three (flow_of 0 1 0 1 1 1 1 1000000001) → ⊥)
    × (LegalFlow five_by_three (flow_of 0 1 0 0 1 1 1 0) → ⊥)
no_flows = (
  λ w. omega (arith, w.id.1),
  λ w. omega (arith, w.priority.0),
  λ w. omega (arith, w.priority.1),
  λ w. omega (arith, w.source),
  λ w. omega (arith, w.destination),
  λ w. omega (arith, w.flits.0),
  λ w. omega (arith, w.flits.1),
  λ w. omega (arith, w.period.0),
  λ w. omega (arith, w.period.1),
  λ w. omega (arith, w.deadline.0),
  λ w. omega (arith, w.deadline.1),
  λ w. omega (arith, w.jitter.1),
  λ w. w.moves refl,
)

-- "id equal to an earlier flow's": the flows have ids 1 and 2, and priority 3 both.
abbrev two_flows : List Flow
two_flows = flow_of 1 3 0 1 1 1 1 0 ∷ flow_of 2 3 0 1 1 1 1 0 ∷ []

distinct : Distinct (λ f. f.id) two_flows
distinct zero zero l h e = omega (arith, l)
distinct zero (suc zero) l h e = omega (arith, e)
distinct zero (suc (suc k)) l h e = omega (arith, h)
distinct (suc j) zero l h e = omega (arith, l)
distinct (suc j) (suc zero) l h e = omega (arith, l)
distinct (suc j) (suc (suc k)) l h e = omega (arith, h)

not_distinct : Distinct (λ f. f.priority) two_flows → ⊥
not_distinct w = w 0 1 (omega arith) (omega arith) refl

-- A plan of the first of them, and what a plan may not be: of 65 flows, of one flow that is not legal, with a priority twice, with an id twice.
legal : Legal five_by_three (take 1 two_flows)
legal = record { platform = go_platform; few = omega arith; each = go; ids = λ j k l h e. omega (arith, l, h); priorities = λ j k l h e. omega (arith, l, h) }
  where
    go_platform : LegalPlatform five_by_three
    go_platform = record { columns = (omega arith, omega arith); rows = (omega arith, omega arith); link = (omega arith, omega arith); routing = (omega arith, omega arith); buffer = (omega arith, omega arith); method = (omega arith, omega arith); priority_flits = (omega arith, omega arith) }

    go : (k : ℕ) → k < 1 → LegalFlow five_by_three (flow (take 1 two_flows) k)
    go zero h = record { id = (omega arith, omega arith); priority = (omega arith, omega arith); source = omega arith; destination = omega arith; flits = (omega arith, omega arith); period = (omega arith, omega arith); deadline = (omega arith, omega arith); jitter = (omega arith, omega arith); moves = λ e. omega (arith, e) }
    go (suc k) h = absurd (omega (arith, h))

not_legal :
    (Legal (platform 0 3 2 4 7 1) [] → ⊥)
    × (Legal five_by_three (replicate 65 blank_flow) → ⊥)
    × (Legal five_by_three (flow_of 1 0 0 1 1 1 1 0 ∷ []) → ⊥)
    × (Legal five_by_three two_flows → ⊥)
    × (Legal five_by_three (flow_of 1 3 0 1 1 1 1 0 ∷ flow_of 1 2 0 1 1 1 1 0 ∷ []) → ⊥)
not_legal = (
  λ w. omega (arith, w.platform.columns.0),
  λ w. omega (arith, w.few),
  λ w. omega (arith, (w.each 0 (omega arith)).priority.0),
  λ w. w.priorities 0 1 (omega arith) (omega arith) refl,
  λ w. w.ids 0 1 (omega arith) (omega arith) refl,
)

-- ---- Layout

places : (map (place 6) (0 ∷ 1 ∷ 64 ∷ []) ≡ 9 ∷ 32 ∷ 1481 ∷ []) × (map (place 7) (0 ∷ 1 ∷ 64 ∷ []) ≡ 10 ∷ 33 ∷ 1482 ∷ [])
places = (refl, refl)

-- "One platform record, then 0 to 64 flows, then the end record, then nothing": P without its last two flows.
abbrev short : List ℕ
short = take 32 P ++ drop 78 P

abbrev P_platform : Platform
P_platform = platform 6 1 1 0 10 3

abbrev P_flow : Flow
P_flow = flow_of 2 1 4 5 60 200 200 0

each_laid : (k : ℕ) → k < 1 → Headed short (place (platform_length P_platform) k) 0x02 20 × (flow_at short (place (platform_length P_platform) k) ≡ flow (P_flow ∷ []) k)
unfolding platform_length ◌when◌else◌
each_laid zero h = (record { tag_is = refl; size_is = refl }, refl)
each_laid (suc k) h = absurd (omega (arith, h))

laid : Laid short P_platform (P_flow ∷ [])
unfolding priority_flits_at platform_length ◌when◌else◌
laid = record { platform = (record { tag_is = refl; size_is = refl }, refl); each = each_laid; end = record { tag_is = refl; size_is = refl }; nothing_else = refl }

-- With a seventh byte of 2, and without flows.
laid_longer : Laid (take 10 (with_seventh 2) ++ drop 78 P) (prioritised 6 1 1 0 10 3 2) []
unfolding priority_flits_at platform_length ◌when◌else◌
laid_longer = record { platform = (record { tag_is = refl; size_is = refl }, refl); each = λ k h. absurd (omega (arith, h)); end = record { tag_is = refl; size_is = refl }; nothing_else = refl }

not_laid :
    (Laid (set short 0 2) P_platform (P_flow ∷ []) → ⊥)
    × (Laid (set short 2 7) P_platform (P_flow ∷ []) → ⊥)
    × (Laid (set short 9 1) P_platform (P_flow ∷ []) → ⊥)
    × (Laid (set short 11 21) P_platform (P_flow ∷ []) → ⊥)
    × (Laid (set short 32 1) P_platform (P_flow ∷ []) → ⊥)
    × (Laid (set short 34 1) P_platform (P_flow ∷ []) → ⊥)
    × (Laid (short ++ 0 ∷ []) P_platform (P_flow ∷ []) → ⊥)
    × (Laid short (prioritised 6 1 1 0 10 3 2) (P_flow ∷ []) → ⊥)
unfolding platform_length ◌when◌else◌
not_laid = (
  λ w. omega (arith, w.platform.0.tag_is),
  λ w. omega (arith, w.platform.0.size_is),
  λ w. omega (arith, (w.each 0 (omega arith)).0.tag_is),
  λ w. omega (arith, (w.each 0 (omega arith)).0.size_is),
  λ w. omega (arith, w.end.tag_is),
  λ w. omega (arith, w.end.size_is),
  λ w. omega (arith, w.nothing_else),
  λ w. omega (arith, w.platform.0.size_is),
)

-- ---- Reasons

-- Where records start in P, their tags and lengths, and numbers in them.
parts :
    (map (start P) (0 ∷ 1 ∷ 2 ∷ 4 ∷ []) ≡ 0 ∷ 9 ∷ 32 ∷ 78 ∷ [])
    × (map (start (with_seventh 2)) (0 ∷ 1 ∷ 2 ∷ 4 ∷ []) ≡ 0 ∷ 10 ∷ 33 ∷ 79 ∷ [])
    × (map (tag P) (0 ∷ 1 ∷ 4 ∷ []) ≡ 0x01 ∷ 0x02 ∷ 0x7F ∷ [])
    × (map (size P) (0 ∷ 1 ∷ 4 ∷ []) ≡ 6 ∷ 20 ∷ 0 ∷ [])
    × (one P 2 8 ∷ two P 2 9 ∷ four P 2 11 ∷ nodes (set P 4 3) ∷ [] ≡ 5 ∷ 198 ∷ 4000 ∷ 18 ∷ [])
parts = (refl, refl, refl, refl, refl)

-- "Within a record the order is: header complete (1), 2, 4, 3, body complete (1), 6, then 5 field by field, 9, 7, 8 .. Then 10", with each one's number and place.
abbrev in_order : List Line
in_order =
    header_cut ∷ unknown_tag ∷ misplaced ∷ wrong_length ∷ body_cut ∷ flow_65
    ∷ columns_outside ∷ rows_outside ∷ link_outside ∷ routing_outside ∷ buffer_outside ∷ method_outside ∷ priority_flits_outside
    ∷ id_outside ∷ priority_outside ∷ source_outside ∷ destination_outside ∷ flits_outside ∷ period_outside ∷ deadline_zero ∷ deadline_above ∷ jitter_outside
    ∷ source_equals_destination ∷ id_equals_earlier ∷ priority_equals_earlier ∷ byte_after_end ∷ []

ordered :
    (map rank in_order ≡ 0 ∷ 1 ∷ 2 ∷ 3 ∷ 4 ∷ 5 ∷ 6 ∷ 7 ∷ 8 ∷ 9 ∷ 10 ∷ 11 ∷ 12 ∷ 13 ∷ 14 ∷ 15 ∷ 16 ∷ 17 ∷ 18 ∷ 19 ∷ 20 ∷ 21 ∷ 22 ∷ 23 ∷ 24 ∷ 25 ∷ [])
    × (map number_of in_order
    ≡ 1 ∷ 2 ∷ 4 ∷ 3 ∷ 1 ∷ 6 ∷ 20 ∷ 21 ∷ 22 ∷ 23 ∷ 24 ∷ 25 ∷ 26 ∷ 30 ∷ 31 ∷ 32 ∷ 33 ∷ 34 ∷ 35 ∷ 36 ∷ 38 ∷ 37 ∷ 9 ∷ 7 ∷ 8 ∷ 10 ∷ [])
    × (map offset_of in_order
    ≡ 0 ∷ 0 ∷ 0 ∷ 1 ∷ 0 ∷ 0 ∷ 3 ∷ 4 ∷ 5 ∷ 6 ∷ 7 ∷ 8 ∷ 9 ∷ 3 ∷ 5 ∷ 7 ∷ 8 ∷ 9 ∷ 11 ∷ 15 ∷ 15 ∷ 19 ∷ 8 ∷ 3 ∷ 5 ∷ 3 ∷ [])
ordered = (refl, refl, refl)

not_first : Holds P 0 misplaced → ⊥
not_first (inl w) = w.1 refl
not_first (inr w) = omega (arith, w.0)

not_later : Holds P 1 misplaced → ⊥
not_later (inl w) = omega (arith, w.0)
not_later (inr w) = omega (arith, w.1)

sevens : Holds (with_seventh 2) 0 wrong_length → ⊥
sevens (inl w) = w.2 refl
sevens (inr (inl w)) = omega (arith, w.0)
sevens (inr (inr w)) = omega (arith, w.0)

sixes : Holds P 0 wrong_length → ⊥
sixes (inl w) = w.1 refl
sixes (inr (inl w)) = omega (arith, w.0)
sixes (inr (inr w)) = omega (arith, w.0)

twenties : Holds P 1 wrong_length → ⊥
twenties (inl w) = omega (arith, w.0)
twenties (inr (inl w)) = w.1 refl
twenties (inr (inr w)) = omega (arith, w.0)

zeros : Holds P 4 wrong_length → ⊥
zeros (inl w) = omega (arith, w.0)
zeros (inr (inl w)) = omega (arith, w.0)
zeros (inr (inr w)) = w.1 refl

-- "under 3 bytes remain where a record must start", "unknown tag", "first record isn't a platform, or a platform comes later", "length is not the tag's", "or its body is cut", "a 65th flow"
holds_frames :
    Holds (take 11 P) 1 header_cut
    × Holds (set P 9 0x03) 1 unknown_tag
    × Holds (drop 9 P) 0 misplaced
    × Holds (take 9 P ++ P) 1 misplaced
    × Holds (set P 2 5) 0 wrong_length
    × Holds (set P 2 8) 0 wrong_length
    × Holds (set P 11 21) 1 wrong_length
    × Holds (set P 80 1) 4 wrong_length
    × Holds (take 31 P) 1 body_cut
    × Holds (replicate 1990 0x02) 65 flow_65
holds_frames = (
  omega arith,
  (λ e. omega (arith, e), λ e. omega (arith, e), λ e. omega (arith, e)),
  inl (refl, λ e. omega (arith, e)),
  inr (omega arith, refl),
  inl (refl, λ e. omega (arith, e), λ e. omega (arith, e)),
  inl (refl, λ e. omega (arith, e), λ e. omega (arith, e)),
  inr (inl (refl, λ e. omega (arith, e))),
  inr (inr (refl, λ e. omega (arith, e))),
  omega arith,
  (refl, omega arith),
)

not_frames :
    (Holds (take 12 P) 1 header_cut → ⊥)
    × (Holds P 0 unknown_tag → ⊥)
    × (Holds P 1 unknown_tag → ⊥)
    × (Holds P 4 unknown_tag → ⊥)
    × (Holds P 0 misplaced → ⊥)
    × (Holds P 1 misplaced → ⊥)
    × (Holds P 0 wrong_length → ⊥)
    × (Holds (with_seventh 2) 0 wrong_length → ⊥)
    × (Holds P 1 wrong_length → ⊥)
    × (Holds P 4 wrong_length → ⊥)
    × (Holds (take 32 P) 1 body_cut → ⊥)
    × (Holds (replicate 1990 0x02) 64 flow_65 → ⊥)
not_frames = (
  λ w. omega (arith, w),
  λ w. w.0 refl,
  λ w. w.1 refl,
  λ w. w.2 refl,
  not_first,
  not_later,
  sixes,
  sevens,
  twenties,
  zeros,
  λ w. omega (arith, w),
  λ w. omega (arith, w.1),
)

-- The platform's fields: one below its lowest value and one above its highest; these two.
holds_platform_fields :
    Holds (set P 3 0) 0 columns_outside
    × Holds (set P 3 9) 0 columns_outside
    × Holds (set P 4 0) 0 rows_outside
    × Holds (set P 4 9) 0 rows_outside
    × Holds (set P 5 0) 0 link_outside
    × Holds (set P 5 17) 0 link_outside
    × Holds (set P 6 17) 0 routing_outside
    × Holds (set P 7 0) 0 buffer_outside
    × Holds (set P 7 65) 0 buffer_outside
    × Holds (set P 8 4) 0 method_outside
    × Holds (with_seventh 0) 0 priority_flits_outside
    × Holds (with_seventh 9) 0 priority_flits_outside
holds_platform_fields = (
  (refl, λ w. omega (arith, w.0)),
  (refl, λ w. omega (arith, w.1)),
  (refl, λ w. omega (arith, w.0)),
  (refl, λ w. omega (arith, w.1)),
  (refl, λ w. omega (arith, w.0)),
  (refl, λ w. omega (arith, w.1)),
  (refl, λ w. omega (arith, w.1)),
  (refl, λ w. omega (arith, w.0)),
  (refl, λ w. omega (arith, w.1)),
  (refl, λ w. omega (arith, w.1)),
  (refl, refl, λ w. omega (arith, w.0)),
  (refl, refl, λ w. omega (arith, w.1)),
)

not_platform_fields :
    (Holds (set P 3 1) 0 columns_outside → ⊥)
    × (Holds (set P 3 8) 0 columns_outside → ⊥)
    × (Holds (set P 4 1) 0 rows_outside → ⊥)
    × (Holds (set P 4 8) 0 rows_outside → ⊥)
    × (Holds (set P 5 1) 0 link_outside → ⊥)
    × (Holds (set P 5 16) 0 link_outside → ⊥)
    × (Holds (set P 6 0) 0 routing_outside → ⊥)
    × (Holds (set P 6 16) 0 routing_outside → ⊥)
    × (Holds (set P 7 1) 0 buffer_outside → ⊥)
    × (Holds (set P 7 64) 0 buffer_outside → ⊥)
    × (Holds (set P 8 0) 0 method_outside → ⊥)
    × (Holds (set P 8 3) 0 method_outside → ⊥)
    × (Holds (with_seventh 1) 0 priority_flits_outside → ⊥)
    × (Holds (with_seventh 8) 0 priority_flits_outside → ⊥)
    × (Holds P 0 priority_flits_outside → ⊥)
not_platform_fields = (
  λ w. w.1 (omega arith, omega arith),
  λ w. w.1 (omega arith, omega arith),
  λ w. w.1 (omega arith, omega arith),
  λ w. w.1 (omega arith, omega arith),
  λ w. w.1 (omega arith, omega arith),
  λ w. w.1 (omega arith, omega arith),
  λ w. w.1 (omega arith, omega arith),
  λ w. w.1 (omega arith, omega arith),
  λ w. w.1 (omega arith, omega arith),
  λ w. w.1 (omega arith, omega arith),
  λ w. w.1 (omega arith, omega arith),
  λ w. w.1 (omega arith, omega arith),
  λ w. w.2 (omega arith, omega arith),
  λ w. w.2 (omega arith, omega arith),
  λ w. omega (arith, w.1),
)

-- The first flow's, in the same way; its nodes are 0 to 5, and its period is 200.
holds_flow_fields :
    Holds (put P 12 (0xFF ∷ 0xFF ∷ [])) 1 id_outside
    × Holds (put P 14 (0x00 ∷ 0x00 ∷ [])) 1 priority_outside
    × Holds (put P 18 (0x00 ∷ 0x00 ∷ [])) 1 flits_outside
    × Holds (put P 20 (0x00 ∷ 0x00 ∷ 0x00 ∷ 0x00 ∷ [])) 1 period_outside
    × Holds (put P 20 (0x3B ∷ 0x9A ∷ 0xCA ∷ 0x01 ∷ [])) 1 period_outside
    × Holds (put P 28 (0x3B ∷ 0x9A ∷ 0xCA ∷ 0x01 ∷ [])) 1 jitter_outside
    × Holds (set P 16 6) 1 source_outside
    × Holds (set P 17 6) 1 destination_outside
    × Holds (set P 27 0) 1 deadline_zero
    × Holds (set P 27 201) 1 deadline_above
holds_flow_fields = (
  (refl, λ w. omega (arith, w.1)),
  (refl, λ w. omega (arith, w.0)),
  (refl, λ w. omega (arith, w.0)),
  (refl, λ w. omega (arith, w.0)),
  (refl, λ w. omega (arith, w.1)),
  (refl, λ w. omega (arith, w.1)),
  (refl, omega arith),
  (refl, omega arith),
  (refl, refl),
  (refl, omega arith),
)

not_flow_fields :
    (Holds (put P 12 (0x00 ∷ 0x00 ∷ [])) 1 id_outside → ⊥)
    × (Holds (put P 12 (0xFF ∷ 0xFE ∷ [])) 1 id_outside → ⊥)
    × (Holds (put P 14 (0x00 ∷ 0x01 ∷ [])) 1 priority_outside → ⊥)
    × (Holds (put P 14 (0xFF ∷ 0xFF ∷ [])) 1 priority_outside → ⊥)
    × (Holds (put P 18 (0x00 ∷ 0x01 ∷ [])) 1 flits_outside → ⊥)
    × (Holds (put P 18 (0xFF ∷ 0xFF ∷ [])) 1 flits_outside → ⊥)
    × (Holds (put P 20 (0x00 ∷ 0x00 ∷ 0x00 ∷ 0x01 ∷ [])) 1 period_outside → ⊥)
    × (Holds (put P 20 (0x3B ∷ 0x9A ∷ 0xCA ∷ 0x00 ∷ [])) 1 period_outside → ⊥)
    × (Holds (put P 28 (0x00 ∷ 0x00 ∷ 0x00 ∷ 0x00 ∷ [])) 1 jitter_outside → ⊥)
    × (Holds (put P 28 (0x3B ∷ 0x9A ∷ 0xCA ∷ 0x00 ∷ [])) 1 jitter_outside → ⊥)
    × (Holds (set P 16 5) 1 source_outside → ⊥)
    × (Holds (set P 17 5) 1 destination_outside → ⊥)
    × (Holds (set P 27 1) 1 deadline_zero → ⊥)
    × (Holds P 1 deadline_above → ⊥)
not_flow_fields = (
  λ w. w.1 (omega arith, omega arith),
  λ w. w.1 (omega arith, omega arith),
  λ w. w.1 (omega arith, omega arith),
  λ w. w.1 (omega arith, omega arith),
  λ w. w.1 (omega arith, omega arith),
  λ w. w.1 (omega arith, omega arith),
  λ w. w.1 (omega arith, omega arith),
  λ w. w.1 (omega arith, omega arith),
  λ w. w.1 (omega arith, omega arith),
  λ w. w.1 (omega arith, omega arith),
  λ w. omega (arith, w.1),
  λ w. omega (arith, w.1),
  λ w. omega (arith, w.1),
  λ w. omega (arith, w.1),
)

no_id_earlier : EqualsEarlier P 2 3 → ⊥
no_id_earlier (zero, h, e) = omega (arith, e)
no_id_earlier (suc j, h, e) = omega (arith, h)

no_priority_earlier : EqualsEarlier P 2 5 → ⊥
no_priority_earlier (zero, h, e) = omega (arith, e)
no_priority_earlier (suc j, h, e) = omega (arith, h)

-- "source equals destination", "id equal to an earlier flow's", "priority equal to an earlier flow's", "a byte after the end record"
holds_rests :
    Holds (set P 17 4) 1 source_equals_destination
    × Holds (set P 36 2) 2 id_equals_earlier
    × Holds (set P 38 1) 2 priority_equals_earlier
    × Holds (P ++ 0x7F ∷ []) 4 byte_after_end
holds_rests = (
  (refl, refl),
  (refl, (0, omega arith, refl)),
  (refl, (0, omega arith, refl)),
  (refl, omega arith),
)

not_rests :
    (Holds P 1 source_equals_destination → ⊥)
    × (Holds P 2 id_equals_earlier → ⊥)
    × (Holds P 2 priority_equals_earlier → ⊥)
    × (Holds P 4 byte_after_end → ⊥)
not_rests = (
  λ w. omega (arith, w.1),
  λ w. no_id_earlier w.1,
  λ w. no_priority_earlier w.1,
  λ w. omega (arith, w.1),
)

-- Of P with another length of its platform record, that is the reason: 3 at 1. No line before it in the order holds.
no_line_before : (l : Line) → rank l < 3 → Holds (set P 2 8) 0 l → ⊥
no_line_before header_cut h w = omega (arith, w)
no_line_before unknown_tag h w = w.0 refl
no_line_before misplaced h (inl w) = w.1 refl
no_line_before misplaced h (inr w) = omega (arith, w.0)
no_line_before wrong_length h w = omega (arith, h)
no_line_before body_cut h w = omega (arith, h)
no_line_before flow_65 h w = omega (arith, h)
no_line_before columns_outside h w = omega (arith, h)
no_line_before rows_outside h w = omega (arith, h)
no_line_before link_outside h w = omega (arith, h)
no_line_before routing_outside h w = omega (arith, h)
no_line_before buffer_outside h w = omega (arith, h)
no_line_before method_outside h w = omega (arith, h)
no_line_before priority_flits_outside h w = omega (arith, h)
no_line_before id_outside h w = omega (arith, h)
no_line_before priority_outside h w = omega (arith, h)
no_line_before source_outside h w = omega (arith, h)
no_line_before destination_outside h w = omega (arith, h)
no_line_before flits_outside h w = omega (arith, h)
no_line_before period_outside h w = omega (arith, h)
no_line_before deadline_zero h w = omega (arith, h)
no_line_before deadline_above h w = omega (arith, h)
no_line_before jitter_outside h w = omega (arith, h)
no_line_before source_equals_destination h w = omega (arith, h)
no_line_before id_equals_earlier h w = omega (arith, h)
no_line_before priority_equals_earlier h w = omega (arith, h)
no_line_before byte_after_end h w = omega (arith, h)

reason : RefusedBecause (set P 2 8) 3 1
reason =
    record { n = 0; before = λ m h. absurd (omega (arith, h)); line = wrong_length; holds = inl (refl, λ e. omega (arith, e), λ e. omega (arith, e)); first = no_line_before; number_is = refl; place_is = refl }

-- No line of another record's kind holds of a record: of the platform, of a flow and of the end record.
others :
    (Holds (set P 3 9) 1 columns_outside → ⊥) × (Holds (set P 17 6) 0 destination_outside → ⊥) × (Holds (P ++ 0x7F ∷ []) 1 byte_after_end → ⊥)
others = (λ w. omega (arith, w.0), λ w. omega (arith, w.0), λ w. omega (arith, w.0))

-- Where a refusal may stand: the last places of each kind of record.
listed : Listed 6 3 1 × Listed 6 3 1482 × Listed 6 25 8 × Listed 6 37 1477 × Listed 6 6 1481 × Listed 6 10 1484
listed = (of_first 3 1 refl, of_later 64 3 1 (omega arith) refl, of_platform 25 8 refl, of_flow 63 37 19 (omega arith) refl, of_flow_65, of_end 64 10 3 (omega arith) refl)

-- .. and behind a platform record of seven bytes.
listed_moved : Listed 7 26 9 × Listed 7 3 1483 × Listed 7 37 1478 × Listed 7 6 1482 × Listed 7 10 1485
listed_moved = (of_platform 26 9 refl, of_later 64 3 1 (omega arith) refl, of_flow 63 37 19 (omega arith) refl, of_flow_65, of_end 64 10 3 (omega arith) refl)
