-- Document 02, L6: "Plans stored with 0 must keep their approved figures": of any bytes, and for the reply in any buffer.
use Prim.Native.Nat.{ℕ, ◌+◌, ◌*◌}
use native.Mathlib.Omega.{arith}
use native.Mathlib.Decide.{ℕ_discrete}
use mathlib.Core.Path.{◌≡◌, refl, sym, ap, ◌∙◌}
use mathlib.Core.Logic.{◌≢◌}
use mathlib.Core.List.{List}
use borrow.Author.Tests.{eq-eqb, ne_eqb}
use lib.ListN.{length}
use Rattle.framing.specs.First.{◌when◌else◌}
use Rattle.framing.specs.Returned.{accepted_with, room_for, put_into, value_by}
use Rattle.plan_values.specs.declared.Platform.{Platform}
use Rattle.plan_values.specs.declared.Flow.{Flow}
use Rattle.std.specs.Prelude.{Result}
use Rattle.framing.specs.declared.returned.Refusal.{Refusal}
use Rattle.plan.specs.declared.Plan.{Plan}
use Rattle.plan.specs.Reading.{accepted, refused, read_plan}
use Rattle.plan.proofs.Answered.{Lawful, accepts, refuses, answered}
use Rattle.plan.proofs.Exact.{legal}
use Rattle.model.specs.Latency.{method_used, method_number, with_method}
use Rattle.model.specs.Verdicts.{answers_by}
use Rattle.model.specs.declared.Method.{Method}
use Rattle.model.specs.declared.Method.TheVariants.{SB, XLWX, IBN}
use Rattle.model.proofs.Methods.{asks_for, number_used}
use Rattle.model.proofs.MethodByte.{method_there}
use Rattle.reply.specs.Reply.{reply_bytes}
use Rattle.analyser.specs.Analysed as analysed
use Rattle.analyser.proofs.HouseDefault.{replied_by}
use Rattle.converter.specs.Converted.{converted, returned, approved_method}
use Rattle.converter.proofs.Converting.{Convert, refused_kept}
use Rattle.converter.proofs.Conversions.{converts_zero, keeps_other}

approved_zero : (p : Platform) → p.method ≡ 0 → approved_method p ≡ XLWX
unfolding approved_method ◌when◌else◌
approved_zero p z = rw (eq-eqb p.method 0 z)

approved_other : (p : Platform) → p.method ≢ 0 → approved_method p ≡ method_used p
unfolding approved_method ◌when◌else◌
approved_other p n = rw (ne_eqb p.method 0 n)

-- A method's number is none that a conversion rewrites.
names_one : (m : Method) → method_number m ≢ 0
names_one SB e = omega arith
names_one XLWX e = omega arith
names_one IBN e = omega arith

-- The platform that asks for a method by its number.
abbrev asking : Method → Platform → Platform
asking m p = with_method (method_number m) p

module _ (s : List ℕ) (p : Platform) (fs : List Flow) (e : read_plan s ≡ accepted p fs) where
  -- The converted bytes are accepted, with the same platform but for the method, whose number is that of the approved one, and the same flows.
  pub asks_approved : read_plan (converted s) ≡ accepted (asking (approved_method p) p) fs
  asks_approved = go (ℕ_discrete p.method 0)
    where
      go : Dec (p.method ≡ 0) → read_plan (converted s) ≡ accepted (asking (approved_method p) p) fs
      go (yes z) = rw (← (converts_zero s p fs e z).1, approved_zero p z) (method_there s 2 p fs (omega arith) e)
      go (no n) = rw (← (keeps_other s p fs e n).1, approved_other p n, number_used p n (legal s p fs e).platform.method.1) e

  -- .. so that the reply is, byte for byte, that of the answers by the method that the plan was approved with.
  pub approved_figures :
      (held : List ℕ) →
      (analysed.returned (converted s) (length held) ≡ room_for (16 * length fs + 3) (length held))
      × (analysed.left (converted s) held ≡ put_into (16 * length fs + 3) (reply_bytes (answers_by (approved_method p) p fs)) held)
  approved_figures held = rw (asks_for (approved_method p) p) at (replied_by (converted s) (asking (approved_method p) p) fs asks_approved held)

  -- "0 asks for the house default, which is XLWX": so it was, and so it is for a converted plan.
  pub figures_of_zero : p.method ≡ 0 → (held : List ℕ) → analysed.left (converted s) held ≡ put_into (16 * length fs + 3) (reply_bytes (answers_by XLWX p fs)) held
  figures_of_zero z held = rw (approved_zero p z) at (approved_figures held).1

  accepted_with_0 : returned s ≡ accepted_with 0
  unfolding accepted value_by
  accepted_with_0 = rw e

  -- What was converted is accepted again, and kept.
  kept_again : Convert (converted s) (accepted_with 0) (converted s)
  kept_again = keeps_other (converted s) (asking (approved_method p) p) fs asks_approved (names_one (approved_method p))

-- Converting again changes nothing, and returns the same; of bytes that are refused too.
module _ (s : List ℕ) where
  pub again : (returned (converted s) ≡ returned s) × (converted (converted s) ≡ converted s)
  unfolding refused
  again = go (read_plan s) refl (answered s)
    where
      go : (r : Result Plan Refusal) → read_plan s ≡ r → Lawful s r → (returned (converted s) ≡ returned s) × (converted (converted s) ≡ converted s)
      go r e (accepts p fs laid w) =
          let (a, b) = kept_again s p fs e in
          (sym a ∙ sym (accepted_with_0 s p fs e), sym b)
      go r e (refuses fault place n h) =
          let b : s ≡ converted s = (refused_kept s e).1 in
          (ap returned (sym b), ap converted (sym b))
