-- Document 01, "What sends a plan back" and "The reply": what a call returns, and what it leaves in the buffer lent to it.
use Rattle.std.specs.Prelude.{ℕ, List, ◌++◌, ltb, length, drop, Result, Ok, Err}
use Rattle.framing.specs.First.{◌when◌else◌}
use Rattle.framing.specs.declared.returned.Fault.{Fault}
use Rattle.framing.specs.declared.returned.Fault.TheVariants.{Cut, UnknownTag, WrongLength, Misplaced, FlowTooMany, IdTaken, PriorityTaken, EndsEqual, ByteAfterEnd, BufferTooShort, Columns, Rows, LinkCycles, RoutingCycles, BufferFlits, Method, PriorityFlits, Id, Priority, Source, Destination, Flits, Period, DeadlineZero, Jitter, DeadlineAbovePeriod}
use Rattle.framing.specs.declared.returned.Refusal.{Refusal}
use Rattle.framing.specs.declared.returned.Returned.{Returned}

-- Column "No.": the number of each fault.
abbrev pub number_of : Fault → ℕ
number_of Cut = 1  -- "under 3 bytes remain where a record must start, or its body is cut"
number_of UnknownTag = 2  -- "unknown tag"
number_of WrongLength = 3  -- "length is not the tag's"
number_of Misplaced = 4  -- "first record isn't a platform, or a platform comes later"
number_of FlowTooMany = 6  -- "a 65th flow"
number_of IdTaken = 7  -- "id equal to an earlier flow's"
number_of PriorityTaken = 8  -- "priority equal to an earlier flow's"
number_of EndsEqual = 9  -- "source equals destination"
number_of ByteAfterEnd = 10  -- "a byte after the end record"
number_of BufferTooShort = 11  -- "the reply buffer is too short"
number_of Columns = 20  -- "20 to 25 for the platform's fields from columns to method"
number_of Rows = 21
number_of LinkCycles = 22
number_of RoutingCycles = 23
number_of BufferFlits = 24
number_of Method = 25
number_of PriorityFlits = 26  -- "a seventh byte of zero or above 8"
number_of Id = 30  -- "30 to 37 for the flow's from id to jitter"
number_of Priority = 31
number_of Source = 32
number_of Destination = 33
number_of Flits = 34
number_of Period = 35
number_of DeadlineZero = 36  -- "36 is deadline zero, 38 is deadline above period"
number_of Jitter = 37
number_of DeadlineAbovePeriod = 38

-- "A refusal returns its number and place .. Acceptance returns number 0 and the reply's length."
abbrev pub refused_with : ℕ → ℕ → Returned
refused_with number place = record { number = number; value = place }

abbrev pub accepted_with : ℕ → Returned
accepted_with long = record { number = 0; value = long }

-- .. of an answer that is a length or a refusal.
abbrev pub returned_of : Result ℕ Refusal → Returned
returned_of (Ok long) = accepted_with long
returned_of (Err refusal) = refused_with (number_of refusal.0) refusal.1

-- What a reading comes to: that it is accepted, or a refusal.
abbrev pub outcome : {A : Type 0} → Result A Refusal → Result (Unit {0}) Refusal
outcome (Ok a) = Ok tt
outcome (Err refusal) = Err refusal

-- "11 | the reply buffer is too short | 0": a buffer of `room` bytes, for what needs so many.
unfoldable pub room_for : ℕ → ℕ → Returned
room_for needed room = refused_with 11 0 when ltb room needed else accepted_with needed

-- "A longer buffer keeps its further bytes."
unfoldable pub put_into : ℕ → List ℕ → List ℕ → List ℕ
put_into needed bytes held = held when ltb (length held) needed else bytes ++ drop needed held

-- "Then 10, then 11": by what the reading came to, and only then by the buffer's room.
unfoldable pub returned_by : Result (Unit {0}) Refusal → ℕ → ℕ → Returned
returned_by (Err refusal) needed room = refused_with (number_of refusal.0) refusal.1
returned_by (Ok accepted) needed room = room_for needed room

-- A refusal: "the whole reply buffer holds what it held before".
unfoldable pub left_by : Result (Unit {0}) Refusal → ℕ → List ℕ → List ℕ → List ℕ
left_by (Err refusal) needed bytes held = held
left_by (Ok accepted) needed bytes held = put_into needed bytes held

-- Document 02, L6: a call without a reply "refuses as the reader does", and otherwise returns number 0 and its value.
unfoldable pub value_by : Result (Unit {0}) Refusal → ℕ → Returned
value_by (Err refusal) value = refused_with (number_of refusal.0) refusal.1
value_by (Ok accepted) value = accepted_with value
