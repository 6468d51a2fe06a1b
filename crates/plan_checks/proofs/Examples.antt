-- The order of a frame's refusals, computed: "header complete (1), 2, 4, 3, body complete (1), 6". But for the record that is missing, each has two faults.
use Prim.Native.Nat.{ℕ}
use mathlib.Core.Path.{◌≡◌, refl}
use mathlib.Core.Bool.{true, false}
use mathlib.Core.List.{List, [], ◌∷◌, map}
use lib.ListN.{replicate}
use Rattle.framing.specs.First.{◌when◌else◌}
use Rattle.plan_table.specs.Table.{tag_of, six_or_seven}
use Rattle.plan_table.specs.declared.Kind.{Kind}
use Rattle.plan_table.specs.declared.Kind.TheVariants.{PlatformRecord, FlowRecord, EndRecord}
use Rattle.plan_checks.specs.Checks.{no_room, header_at, tagged_at, frame_at}
use Rattle.std.specs.Prelude.{Result, Ok, Err}
use Rattle.framing.specs.declared.returned.Refusal.{Refusal}
use Rattle.framing.specs.declared.returned.Fault.TheVariants.{Cut, FlowTooMany, Misplaced, UnknownTag, WrongLength}

-- records that start the plan, and records behind two bytes and 64 flows
first : List (List ℕ) → List (Result Kind Refusal)
first = map (λ s. frame_at s 0 0)

later : List (List ℕ) → List (Result Kind Refusal)
later = map (λ s. frame_at (0x00 ∷ 0x00 ∷ s) 2 64)

first_frames :
    first
    ((0x03 ∷ []) ∷ (0x03 ∷ 0x00 ∷ []) ∷ (0x00 ∷ []) ∷ (0xFF ∷ 0x00 ∷ [])  -- 1 before 2: an unknown tag in a cut header
    ∷ (0x02 ∷ []) ∷ (0x7F ∷ 0x00 ∷ [])  -- 1 before 4
    ∷ (0x03 ∷ 0x00 ∷ 0x00 ∷ [])  -- 2 before 4
    ∷ (0x02 ∷ 0x00 ∷ 0x13 ∷ [])  -- 4 before 3
    ∷ (0x01 ∷ 0x00 ∷ 0x05 ∷ []) ∷ (0x01 ∷ 0x00 ∷ 0x08 ∷ [])  -- 3 before 1
    ∷ [])
    ≡ Err (Cut, 0) ∷ Err (Cut, 0) ∷ Err (Cut, 0) ∷ Err (Cut, 0) ∷ Err (Cut, 0) ∷ Err (Cut, 0) ∷ Err (UnknownTag, 0) ∷ Err (Misplaced, 0) ∷ Err (WrongLength, 1) ∷ Err (WrongLength, 1) ∷ []
unfolding tag_of six_or_seven header_at tagged_at frame_at ◌when◌else◌ first
first_frames = refl

-- "length 6 or 7 is now legal for tag 01": with a byte less than it tells each is cut, with all of them it passes, and with 5, 8 or 0x0107 told it is refused.
platform_frames :
    first
    ((0x01 ∷ 0 ∷ 6 ∷ 1 ∷ 2 ∷ 3 ∷ 4 ∷ 5 ∷ [])
    ∷ (0x01 ∷ 0 ∷ 7 ∷ 1 ∷ 2 ∷ 3 ∷ 4 ∷ 5 ∷ 6 ∷ [])
    ∷ (0x01 ∷ 0 ∷ 6 ∷ 1 ∷ 2 ∷ 3 ∷ 4 ∷ 5 ∷ 6 ∷ [])
    ∷ (0x01 ∷ 0 ∷ 7 ∷ 1 ∷ 2 ∷ 3 ∷ 4 ∷ 5 ∷ 6 ∷ 7 ∷ [])
    ∷ (0x01 ∷ 0 ∷ 5 ∷ 1 ∷ 2 ∷ 3 ∷ 4 ∷ 5 ∷ [])
    ∷ (0x01 ∷ 0 ∷ 8 ∷ 1 ∷ 2 ∷ 3 ∷ 4 ∷ 5 ∷ 6 ∷ 7 ∷ 8 ∷ [])
    ∷ (0x01 ∷ 1 ∷ 7 ∷ 1 ∷ 2 ∷ 3 ∷ 4 ∷ 5 ∷ 6 ∷ 7 ∷ [])
    ∷ [])
    ≡ Err (Cut, 0) ∷ Err (Cut, 0) ∷ Ok PlatformRecord ∷ Ok PlatformRecord ∷ Err (WrongLength, 1) ∷ Err (WrongLength, 1) ∷ Err (WrongLength, 1) ∷ []
unfolding tag_of six_or_seven header_at tagged_at frame_at ◌when◌else◌ first
platform_frames = refl

later_frames :
    later
    ([]  -- no byte at all
    ∷ (0x03 ∷ []) ∷ (0x03 ∷ 0x00 ∷ []) ∷ (0x00 ∷ []) ∷ (0xFF ∷ 0x00 ∷ [])  -- 1 before 2
    ∷ (0x01 ∷ [])  -- 1 before 4
    ∷ (0x01 ∷ 0x00 ∷ 0x07 ∷ [])  -- 4 before 3
    ∷ (0x02 ∷ 0x00 ∷ 0x13 ∷ []) ∷ (0x7F ∷ 0x00 ∷ 0x01 ∷ [])  -- 3 before 1
    ∷ (0x02 ∷ 0x00 ∷ 0x14 ∷ [])  -- 1 before 6
    ∷ [])
    ≡ Err (Cut, 2) ∷ Err (Cut, 2) ∷ Err (Cut, 2) ∷ Err (Cut, 2) ∷ Err (Cut, 2) ∷ Err (Cut, 2) ∷ Err (Misplaced, 2) ∷ Err (WrongLength, 3) ∷ Err (WrongLength, 3) ∷ Err (Cut, 2) ∷ []
unfolding tag_of header_at tagged_at frame_at ◌when◌else◌ later
later_frames = refl

-- "a 65th flow": a flow has room behind 63 flows and not behind 64, any other record has.
rooms : (map (no_room FlowRecord) (63 ∷ 64 ∷ 65 ∷ []) ≡ false ∷ true ∷ true ∷ []) × (no_room PlatformRecord 64 ≡ false) × (no_room EndRecord 64 ≡ false)
rooms = (refl, refl, refl)

-- Whole records, and one of an unknown tag, behind two bytes and so many flows.
abbrev behind : ℕ → List ℕ → Result Kind Refusal
behind count s = frame_at (0x00 ∷ 0x00 ∷ s) 2 count

abbrev flow_record : List ℕ
flow_record = 0x02 ∷ 0x00 ∷ 0x14 ∷ replicate 20 0

sixty_fifth :
    behind 63 flow_record ∷ behind 64 flow_record ∷ behind 64 (0x7F ∷ 0x00 ∷ 0x00 ∷ []) ∷ behind 64 (0x03 ∷ 0x00 ∷ 0x00 ∷ []) ∷ []
    ≡ Ok FlowRecord ∷ Err (FlowTooMany, 2) ∷ Ok EndRecord ∷ Err (UnknownTag, 2) ∷ []
unfolding tag_of header_at tagged_at frame_at ◌when◌else◌
sixty_fifth = refl
