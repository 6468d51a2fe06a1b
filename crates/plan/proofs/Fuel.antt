-- The definition's count of turns says nothing of the format: more turns than bytes change nothing.
use Prim.Native.Nat.{ℕ, zero, suc, ◌+◌, ◌-◌, ◌<◌}
use native.Mathlib.Omega.{arith}
use mathlib.Core.Path.{◌≡◌, refl, ap₂, ◌∙◌}
use mathlib.Core.List.{List, [], ◌∷◌, ◌++◌}
use lib.ListN.{length}
use borrow.Author.Tests.{lt-ltb}
use Rattle.framing.specs.First.{◌when◌else◌}
use Rattle.framing.specs.Header.{length_at}
use Rattle.plan_values.specs.Values.{platform_at, flow_at, blank_platform}
use Rattle.plan_checks.specs.Checks.{frame_at}
use Rattle.plan.specs.Records.{record_at}
use Rattle.plan.specs.Reading.{accepted, after, records, read_plan}
use Rattle.plan_values.specs.declared.Platform.{Platform}
use Rattle.plan_values.specs.declared.Flow.{Flow}
use Rattle.std.specs.Prelude.{Err}
use Rattle.framing.specs.declared.returned.Fault.TheVariants.{Cut}
use Rattle.plan.proofs.Order.{record_frame, fault_ends}

cut : (s : List ℕ) (at count : ℕ) → length s - at < 3 → frame_at s at count ≡ Err (Cut, at)
unfolding frame_at ◌when◌else◌
cut s at count h = rw (lt-ltb (length s - at) 3 h)

one_more : (s : List ℕ) (turns at : ℕ) (p : Platform) (fs : List Flow) → length s < at + turns → records (suc turns) s at p fs ≡ records turns s at p fs
unfolding records
one_more s zero at p fs h = fault_ends s at p fs 0 (record_frame s at p fs (cut s at (length fs) (omega arith)))
one_more s (suc turns) at p fs h =
    ap₂ (after (record_at s at p fs) (accepted p fs))
    (one_more s turns (at + 3 + length_at s at) (platform_at s at) fs (omega arith))
    (one_more s turns (at + 23) p (fs ++ flow_at s at ∷ []) (omega arith))

pub turns_enough : (s : List ℕ) (more : ℕ) → records (more + suc (length s)) s 0 blank_platform [] ≡ read_plan s
unfolding read_plan
turns_enough s zero = ap₂ (λ (n m : ℕ). records n s m blank_platform []) (omega arith) refl
turns_enough s (suc more) =
    ap₂ (λ (n m : ℕ). records n s m blank_platform []) (omega arith) refl
    ∙ one_more s (more + suc (length s)) 0 blank_platform [] (omega arith)
    ∙ turns_enough s more
