-- Records in their places, with the table's tag and length and their bodies there: a frame without fault, the end, a 65th flow.
use Prim.Native.Nat.{ℕ, ◌+◌, ◌-◌, ◌≤◌}
use native.Mathlib.Omega.{arith}
use mathlib.Core.Path.{◌≡◌, refl, sym, ap, ◌∙◌}
use mathlib.Core.Bool.{false}
use mathlib.Core.List.{List, []}
use lib.ListN.{length}
use lib.Dec.{eqb}
use borrow.Author.Tests.{eq-eqb, ne_eqb, le-ltb, le-leb}
use Rattle.framing.specs.First.{◌when◌else◌}
use Rattle.framing.specs.Header.{length_at, Headed}
use Rattle.plan_table.specs.Table.{tag_byte, body_length}
use Rattle.plan_checks.specs.Checks.{limits_at}
use Rattle.plan_checks.specs.Checks.{misplaced, no_room, header_at, tagged_at, frame_at, tail_at, rest_at}
use Rattle.plan.specs.Records.{record_at}
use Rattle.plan_values.specs.declared.Platform.{Platform}
use Rattle.plan_values.specs.declared.Flow.{Flow}
use Rattle.std.specs.Prelude.{Ok, Err}
use Rattle.framing.specs.declared.returned.Fault.TheVariants.{FlowTooMany}
use Rattle.plan_table.specs.declared.Kind.{Kind}
use Rattle.plan_table.specs.declared.Kind.TheVariants.{FlowRecord, EndRecord}
use Rattle.plan_table.proofs.Tags.{tag_known}
use Rattle.plan.proofs.Order.{record_frame, record_rest}
use Rattle.plan.proofs.Fields.{allowed_passed}

module _ (s : List ℕ) (at : ℕ) (kind : Kind) (size count : ℕ) (own : size ≡ body_length kind size) where
  pub frame_passes : Headed s at (tag_byte kind) size → misplaced (eqb at 0) kind ≡ false → at + 3 + size ≤ length s → no_room kind count ≡ false → frame_at s at count ≡ Ok kind
  unfolding frame_at tagged_at header_at ◌when◌else◌
  frame_passes h m w r =
      rw (le-ltb (length s - at) 3 (omega arith), h.tag_is, tag_known kind, m, eq-eqb (length_at s at) (body_length kind (length_at s at)) (h.size_is ∙ own ∙ ap (body_length kind) (sym h.size_is)), le-ltb (length s - (at + 3)) (length_at s at) (omega (arith, h.size_is)), r)

-- behind the platform
module _ (s : List ℕ) (at : ℕ) (later : at ≡ 0 → ⊥) (p : Platform) (fs : List Flow) where
  pub end_passes : Headed s at 0x7F 0 → length s ≡ at + 3 → record_at s at p fs ≡ Ok EndRecord
  unfolding rest_at tail_at ◌when◌else◌
  end_passes h e =
      record_rest s at p fs
      (frame_passes s at EndRecord 0 (length fs) refl h (rw (ne_eqb at 0 later)) (omega arith) refl)
      (allowed_passed s at EndRecord (limits_at s at EndRecord p) 3 [] tt)
      ∙ rw (le-ltb (at + 3) (length s) (omega arith))

  full : Headed s at 0x02 20 → at + 23 ≤ length s → 64 ≤ length fs → frame_at s at (length fs) ≡ Err (FlowTooMany, at)
  unfolding frame_at tagged_at header_at ◌when◌else◌
  full h w many =
      rw (le-ltb (length s - at) 3 (omega arith), h.tag_is, tag_known FlowRecord, ne_eqb at 0 later, eq-eqb (length_at s at) 20 h.size_is, le-ltb (length s - (at + 3)) (length_at s at) (omega (arith, h.size_is)), le-leb 64 (length fs) many)

  pub one_too_many : Headed s at 0x02 20 → at + 23 ≤ length s → 64 ≤ length fs → record_at s at p fs ≡ Err (FlowTooMany, at)
  one_too_many h w many = record_frame s at p fs (full h w many)
