-- A fault's number tells which fault it is.
use Prim.Native.Nat.{ℕ, ◌<◌}
use native.Mathlib.Omega.{arith}
use mathlib.Core.Path.{◌≡◌, refl, sym, ap, ◌∙◌}
use lib.Dec.{eqb}
use Rattle.std.specs.Prelude.{Result, Ok, Err}
use Rattle.framing.specs.declared.returned.Refusal.{Refusal}
use Rattle.framing.specs.First.{◌when◌else◌}
use Rattle.framing.specs.Returned.{number_of}
use Rattle.framing.specs.declared.returned.Fault.{Fault}
use Rattle.framing.specs.declared.returned.Fault.TheVariants.{Cut, UnknownTag, WrongLength, Misplaced, FlowTooMany, IdTaken, PriorityTaken, EndsEqual, ByteAfterEnd, BufferTooShort, Columns, Rows, LinkCycles, RoutingCycles, BufferFlits, Method, PriorityFlits, Id, Priority, Source, Destination, Flits, Period, DeadlineZero, Jitter, DeadlineAbovePeriod}

-- the fault of a number
abbrev fault_of : ℕ → Fault
fault_of n =
    Cut when eqb n 1 else UnknownTag when eqb n 2 else WrongLength when eqb n 3 else Misplaced when eqb n 4 else
    FlowTooMany when eqb n 6 else IdTaken when eqb n 7 else PriorityTaken when eqb n 8 else EndsEqual when eqb n 9 else
    ByteAfterEnd when eqb n 10 else BufferTooShort when eqb n 11 else
    Columns when eqb n 20 else Rows when eqb n 21 else LinkCycles when eqb n 22 else RoutingCycles when eqb n 23 else
    BufferFlits when eqb n 24 else Method when eqb n 25 else PriorityFlits when eqb n 26 else
    Id when eqb n 30 else Priority when eqb n 31 else Source when eqb n 32 else Destination when eqb n 33 else
    Flits when eqb n 34 else Period when eqb n 35 else DeadlineZero when eqb n 36 else Jitter when eqb n 37 else DeadlineAbovePeriod

fault_back : (f : Fault) → fault_of (number_of f) ≡ f
unfolding ◌when◌else◌
fault_back Cut = refl
fault_back UnknownTag = refl
fault_back WrongLength = refl
fault_back Misplaced = refl
fault_back FlowTooMany = refl
fault_back IdTaken = refl
fault_back PriorityTaken = refl
fault_back EndsEqual = refl
fault_back ByteAfterEnd = refl
fault_back BufferTooShort = refl
fault_back Columns = refl
fault_back Rows = refl
fault_back LinkCycles = refl
fault_back RoutingCycles = refl
fault_back BufferFlits = refl
fault_back Method = refl
fault_back PriorityFlits = refl
fault_back Id = refl
fault_back Priority = refl
fault_back Source = refl
fault_back Destination = refl
fault_back Flits = refl
fault_back Period = refl
fault_back DeadlineZero = refl
fault_back Jitter = refl
fault_back DeadlineAbovePeriod = refl

pub same_fault : {f g : Fault} → number_of f ≡ number_of g → f ≡ g
same_fault {f} {g} e = sym (fault_back f) ∙ ap fault_of e ∙ fault_back g

-- what a refused result is refused with
abbrev refusal_in : {A : Type 0} → Refusal → Result A Refusal → Refusal
refusal_in other (Ok a) = other
refusal_in other (Err refusal) = refusal

pub same_refusal : {A : Type 0} {f g : Fault} {a b : ℕ} → ◌≡◌ {A = Result A Refusal} (Err (f, a)) (Err (g, b)) → (f ≡ g) × (a ≡ b)
same_refusal {A} {f} {g} {a} {b} e =
    let r : ◌≡◌ {A = Refusal} (f, a) (g, b) = ap (refusal_in (f, a)) e in
    (ap (λ (r : Refusal). r.0) r, ap (λ (r : Refusal). r.1) r)

-- no fault has number 0
pub number_some : (f : Fault) → 0 < number_of f
number_some Cut = omega arith
number_some UnknownTag = omega arith
number_some WrongLength = omega arith
number_some Misplaced = omega arith
number_some FlowTooMany = omega arith
number_some IdTaken = omega arith
number_some PriorityTaken = omega arith
number_some EndsEqual = omega arith
number_some ByteAfterEnd = omega arith
number_some BufferTooShort = omega arith
number_some Columns = omega arith
number_some Rows = omega arith
number_some LinkCycles = omega arith
number_some RoutingCycles = omega arith
number_some BufferFlits = omega arith
number_some Method = omega arith
number_some PriorityFlits = omega arith
number_some Id = omega arith
number_some Priority = omega arith
number_some Source = omega arith
number_some Destination = omega arith
number_some Flits = omega arith
number_some Period = omega arith
number_some DeadlineZero = omega arith
number_some Jitter = omega arith
number_some DeadlineAbovePeriod = omega arith
