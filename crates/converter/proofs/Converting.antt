-- `convert` returns and leaves what is defined, by what was read: a refusal, a plan with method 0, or one with another.
use Prim.Native.Nat.{ℕ, ◌<◌}
use native.Mathlib.Omega.{arith}
use mathlib.Core.Path.{◌≡◌, refl, ap}
use mathlib.Core.Logic.{◌≢◌}
use mathlib.Core.List.{List}
use borrow.Author.Tests.{eq-eqb, ne_eqb}
use lib.ListN.{length, set}
use Rattle.framing_numbers.specs.Numbers.{one_at}
use Rattle.framing.specs.First.{◌when◌else◌}
use Rattle.std.specs.Prelude.{Ok, Err}
use Rattle.framing.specs.Returned.{number_of, refused_with, accepted_with, outcome, value_by}
use Rattle.framing.specs.declared.returned.Refusal.{Refusal}
use Rattle.framing.specs.declared.returned.Returned.{Returned}
use Rattle.plan_values.proofs.Seventh.{length_within}
use Rattle.plan.specs.declared.Plan.{Plan}
use Rattle.plan.specs.Reading.{read_plan}
use Rattle.plan.proofs.Exact.{accepted_plan, size}
use Rattle.converter.specs.Converted.{rewritten, converted_by, converted, returned}

-- What the contract says of the result and of the bytes left in the plan.
abbrev pub Convert : List ℕ → Returned → List ℕ → Type 0
Convert s r is = (r ≡ returned s) × (is ≡ converted s)

module _ (s : List ℕ) where
  pub refused_kept : {refusal : Refusal} → read_plan s ≡ Err refusal → Convert s (refused_with (number_of refusal.0) refusal.1) s
  unfolding value_by converted_by
  refused_kept e = rw e (refl, refl)

  module _ {plan : Plan} (e : read_plan s ≡ Ok plan) where
    -- An accepted plan has a method.
    pub method_inside : 8 < length s
    method_inside = let (p, fs, a) = accepted_plan s (ap outcome e) in omega (arith, (size s p fs a).0, length_within p)

    pub zero_rewritten : one_at s 8 ≡ 0 → Convert s (accepted_with 0) (set s 8 2)
    unfolding value_by converted_by rewritten ◌when◌else◌
    zero_rewritten z = rw (e, eq-eqb (one_at s 8) 0 z) (refl, refl)

    pub other_kept : one_at s 8 ≢ 0 → Convert s (accepted_with 0) s
    unfolding value_by converted_by rewritten ◌when◌else◌
    other_kept n = rw (e, ne_eqb (one_at s 8) 0 n) (refl, refl)
