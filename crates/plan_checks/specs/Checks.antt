-- Document 01, "What sends a plan back": each line of the table with its number and place, and their order within a record.
-- `s` is the plan's bytes, `at` the place of the record's tag, `fs` the flows before it, `p` the platform.
use Rattle.std.specs.Prelude.{ℕ, ◌+◌, ◌*◌, Bool, true, false, not, ◌&&◌, ◌||◌, List, [], ◌∷◌, length, leb, ltb, eqb, Option, Some, None, Result, Ok, Err}
use Rattle.framing.specs.First.{◌when◌else◌}
use Rattle.framing.specs.declared.returned.Fault.TheVariants.{Cut, UnknownTag, WrongLength, Misplaced, FlowTooMany, IdTaken, PriorityTaken, EndsEqual, ByteAfterEnd}
use Rattle.framing.specs.declared.returned.Refusal.{Refusal}
use Rattle.framing.specs.Header.{tag_at, length_at, is_header_cut, is_body_cut}
use Rattle.plan_table.specs.Table.{tag_of, body_length, lowest_of, highest_of}
use Rattle.plan_values.specs.Values.{flow_at}
use Rattle.plan_values.specs.declared.Platform.{Platform}
use Rattle.plan_values.specs.declared.Flow.{Flow}
use Rattle.plan_table.specs.declared.Kind.{Kind}
use Rattle.plan_table.specs.declared.Kind.TheVariants.{PlatformRecord, FlowRecord, EndRecord}
use Rattle.plan_table.specs.declared.Limit.{Limit}
use Rattle.plan_table.specs.declared.Limit.TheVariants.{UpTo, BelowNodes, UpToPeriod}
use Rattle.plan_table.specs.declared.Field.{Field}
use Rattle.plan_checks.specs.declared.Limits.{Limits}

-- "below columns x rows", "1..period": what limits depend on. Only a flow record has a period.
abbrev pub period_at : List ℕ → ℕ → Kind → ℕ
period_at s at PlatformRecord = 0
period_at s at FlowRecord = (flow_at s at).period
period_at s at EndRecord = 0

abbrev pub limits_at : List ℕ → ℕ → Kind → Platform → Limits
limits_at s at kind p = record { nodes = p.columns * p.rows; period = period_at s at kind }

abbrev pub is_platform : Kind → Bool
is_platform PlatformRecord = true
is_platform FlowRecord = false
is_platform EndRecord = false

-- 4: "first record isn't a platform, or a platform comes later"
abbrev pub misplaced : Bool → Kind → Bool
misplaced first kind = (first && not (is_platform kind)) || (not first && is_platform kind)

-- 3: "length is not the tag's"
abbrev pub is_wrong_length : List ℕ → ℕ → Kind → Bool
is_wrong_length s at kind = not (eqb (length_at s at) (body_length kind (length_at s at)))

-- 6: "a 65th flow", behind `count` flows
abbrev pub no_room : Kind → ℕ → Bool
no_room PlatformRecord count = false
no_room FlowRecord count = leb 64 count
no_room EndRecord count = false

-- "4, 3, body complete (1), 6". The first record is the one at place 0.
unfoldable pub header_at : List ℕ → ℕ → Kind → ℕ → Result Kind Refusal
header_at s at kind count =
    Err (Misplaced, at) when misplaced (eqb at 0) kind else
    Err (WrongLength, at + 1) when is_wrong_length s at kind else
    Err (Cut, at) when is_body_cut s at else
    Err (FlowTooMany, at) when no_room kind count else
    Ok kind

-- 2: "unknown tag"
unfoldable pub tagged_at : List ℕ → ℕ → Option Kind → ℕ → Result Kind Refusal
tagged_at s at (Some kind) count = header_at s at kind count
tagged_at s at None count = Err (UnknownTag, at)

-- "header complete (1), 2, .."
unfoldable pub frame_at : List ℕ → ℕ → ℕ → Result Kind Refusal
frame_at s at count = Err (Cut, at) when is_header_cut s at else tagged_at s at (tag_of (tag_at s at)) count

-- Whether a value is above the highest.
abbrev pub above : Limits → Limit → ℕ → Bool
above l (UpTo n) v = ltb n v
above l BelowNodes v = leb l.nodes v
above l (UpToPeriod own) v = ltb l.period v

-- 20 to 38: "a field outside its values"
abbrev pub outside : Limits → Field → ℕ → Bool
outside l f v = ltb v (lowest_of f) || above l (highest_of f) v

-- Whether an earlier flow's id, or priority, is this one.
abbrev pub taken : List ℕ → ℕ → Bool
taken [] value = false
taken (x ∷ earlier) value = eqb x value || taken earlier value

-- "9, 7, 8": "source equals destination" at the destination, then "id equal to an earlier flow's" at the id, then
-- "priority equal to an earlier flow's" at the priority
unfoldable pub clash_at : ℕ → Flow → List ℕ → List ℕ → Result Kind Refusal
clash_at at f ids priorities =
    Err (EndsEqual, at + 8) when eqb f.source f.destination else
    Err (IdTaken, at + 3) when taken ids f.id else
    Err (PriorityTaken, at + 5) when taken priorities f.priority else
    Ok FlowRecord

-- 10: "a byte after the end record"
unfoldable pub tail_at : List ℕ → ℕ → Result Kind Refusal
tail_at s at = Err (ByteAfterEnd, at + 3) when ltb (at + 3) (length s) else Ok EndRecord

-- Behind the fields, with the ids and priorities of the flows before the record.
unfoldable pub rest_at : List ℕ → ℕ → Kind → List ℕ → List ℕ → Result Kind Refusal
rest_at s at PlatformRecord ids priorities = Ok PlatformRecord
rest_at s at FlowRecord ids priorities = clash_at at (flow_at s at) ids priorities
rest_at s at EndRecord ids priorities = tail_at s at
