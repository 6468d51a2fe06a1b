-- Every fault that a record can have is one that document 01 lists, at the place it lists.
use Rattle.framing.specs.Returned.{number_of as fault_number}
use Rattle.framing.specs.declared.returned.Fault.{Fault}
use Prim.Native.Nat.{ℕ, ◌+◌, ◌-◌, ◌≤◌}
use native.Mathlib.Omega.{arith}
use mathlib.Core.Path.{◌≡◌, refl}
use mathlib.Core.Bool.{Bool, true, false, false≢true}
use mathlib.Core.List.{List, [], ◌∷◌}
use lib.ListN.{length}
use lib.Dec.{eqb}
use borrow.Author.Tests.{ltb-false, eqb-false, leb-true}
use Rattle.framing.specs.First.{◌when◌else◌}
use Rattle.framing_numbers.specs.Numbers.{bytes_of}
use Rattle.framing.specs.Header.{tag_at, length_at}
use Rattle.plan_table.specs.Table.{tag_of, fields_of, width}
use Rattle.plan_checks.specs.Checks.{limits_at}
use Rattle.plan_checks.specs.Checks.{misplaced, no_room, header_at, tagged_at, frame_at, clash_at, tail_at, rest_at}
use Rattle.plan.specs.Records.{fields_from, ◌then◌, body_at, record_at}
use Rattle.plan.specs.Layout.{place}
use Rattle.plan_table.specs.Refusals.{record_refusals, refusals_of, has}
use Rattle.plan.specs.Refusals.{Listed, of_first, of_later, of_platform, of_flow, of_flow_65, of_end}
use Rattle.plan_values.specs.declared.Platform.{Platform}
use Rattle.plan_values.specs.declared.Flow.{Flow}
use Rattle.std.specs.Prelude.{Result, Ok, Some, None, Option, Err}
use Rattle.framing.specs.declared.returned.Refusal.{Refusal}
use Rattle.plan_table.specs.declared.Field.{Field}
use Rattle.plan_table.specs.declared.Kind.{Kind}
use Rattle.plan_table.specs.declared.Kind.TheVariants.{PlatformRecord, FlowRecord, EndRecord}
use Rattle.plan_checks.specs.declared.Limits.{Limits}
use Rattle.plan.proofs.Order.{Framed, framed, flow_room, platform_first, others_later, first_only}
use Rattle.plan_table.proofs.Numbers.{NumberedBy, numbered}
use Rattle.plan_table.proofs.Lengths.{size_of, filled}

one_of : {A : Type 0} (P : A → Type 0) (test : Bool) {x y : A} → P x → P y → P (x when test else y)
unfolding ◌when◌else◌
one_of P true a b = a
one_of P false a b = b

-- where a record starts that is looked at behind `count` flows
pub data Start (s : List ℕ) (at count : ℕ) : Type 0 where
  first : at ≡ 0 → Start s at count
  later : at ≡ place (length_at s 0) count → count ≤ 64 → Start s at count

module _ (s : List ℕ) where
  abbrev pub Fair : Result Kind Refusal → Type 0
  Fair (Err refusal) = Listed (length_at s 0) (fault_number refusal.0) refusal.1 × (refusal.1 ≤ length s)
  Fair (Ok kind) = Unit {0}

  chain : (test : Bool) (fault : Fault) (pl : ℕ) (next : Result Kind Refusal) → (test ≡ true → Listed (length_at s 0) (fault_number fault) pl × (pl ≤ length s)) → (test ≡ false → Fair next) → Fair (Err (fault, pl) when test else next)
  unfolding ◌when◌else◌
  chain true fault pl next f g = f refl
  chain false fault pl next f g = g refl

  follow : (first next : Result Kind Refusal) → Fair first → Fair next → Fair (first then next)
  unfolding ◌then◌
  follow (Err refusal) next a b = a
  follow (Ok kind) next a b = b

  module _ {at count : ℕ} (start : Start s at count) where
    behind : (at ≡ 0 → ⊥) → (at ≡ place (length_at s 0) count) × (count ≤ 64)
    behind n = go start
      where
        go : Start s at count → (at ≡ place (length_at s 0) count) × (count ≤ 64)
        go (first z) = absurd (n z)
        go (later e few) = (e, few)

    pub of_record : (number offset pl : ℕ) → has record_refusals number offset ≡ true → pl ≡ at + offset → pl ≤ length s → Listed (length_at s 0) number pl × (pl ≤ length s)
    of_record number offset pl m e h = (go start, h)
      where
        go : Start s at count → Listed (length_at s 0) number pl
        go (first z) = let q : pl ≡ offset = omega (arith, e, z) in rw q (of_first number offset m)
        go (later w few) = let q : pl ≡ place (length_at s 0) count + offset = omega (arith, e, w) in rw q (of_later count number offset few m)

    of_kind : (kind : Kind) → Framed s at kind count → (number offset : ℕ) → has (refusals_of kind) number offset ≡ true → Listed (length_at s 0) number (at + offset)
    of_kind PlatformRecord w number offset m = let q : at + offset ≡ offset = omega (arith, platform_first w) in rw q (of_platform number offset m)
    of_kind FlowRecord w number offset m =
        let (e, few) = behind (others_later FlowRecord refl w) in
        let q : at + offset ≡ place (length_at s 0) count + offset = omega (arith, e) in
        rw q (of_flow count number offset (flow_room w refl) m)
    of_kind EndRecord w number offset m =
        let (e, few) = behind (others_later EndRecord refl w) in
        let q : at + offset ≡ place (length_at s 0) count + offset = omega (arith, e) in
        rw q (of_end count number offset few m)

    of_65th : (kind : Kind) → misplaced (eqb at 0) kind ≡ false → no_room kind count ≡ true → Listed (length_at s 0) 6 at
    of_65th PlatformRecord m r = absurd (false≢true r)
    of_65th EndRecord m r = absurd (false≢true r)
    of_65th FlowRecord m r =
        let (e, few) = behind (eqb-false at 0 (first_only (eqb at 0) FlowRecord m)) in
        let q : at ≡ place (length_at s 0) 64 = omega (arith, e, few, leb-true 64 count r) in
        rw q of_flow_65

    tagged : (t : Option Kind) → at + 3 ≤ length s → Fair (tagged_at s at t count)
    unfolding tagged_at header_at
    tagged (Some kind) h =
        chain _ _ _ _ (λ z. of_record 4 0 at refl (omega arith) (omega arith))
        λ m. chain _ _ _ _ (λ z. of_record 3 1 (at + 1) refl (omega arith) (omega arith))
        λ z. chain _ _ _ _ (λ z. of_record 1 0 at refl (omega arith) (omega arith))
        λ z. chain _ _ _ _ (λ r. (of_65th kind m r, omega arith)) λ z. tt
    tagged None h = of_record 2 0 at refl (omega arith) (omega arith)

    frame : at ≤ length s → Fair (frame_at s at count)
    unfolding frame_at
    frame h =
        chain _ _ _ _ (λ z. of_record 1 0 at refl (omega arith) h)
        λ e. tagged (tag_of (tag_at s at)) (omega (arith, ltb-false (length s - at) 3 e))

    module _ {kind : Kind} (w : Framed s at kind count) where
      fields : (l : Limits) (offset : ℕ) (fs : List Field) → NumberedBy (refusals_of kind) offset fs → at + offset + size_of fs ≤ length s → Fair (fields_from s at kind l offset fs)
      unfolding fields_from
      fields l offset [] n h = tt
      fields l offset (f ∷ fs) (n, ns) h =
          chain _ _ _ _
          (λ z. (of_kind kind w _ offset (one_of (λ (x : Fault). has (refusals_of kind) (fault_number x) offset ≡ true) _ n.0 n.1), omega arith))
          λ z. fields l (offset + bytes_of (width f)) fs ns (omega arith)

    rest : (kind : Kind) (ids priorities : List ℕ) → Framed s at kind count → Fair (rest_at s at kind ids priorities)
    unfolding rest_at clash_at tail_at
    rest PlatformRecord ids priorities w = tt
    rest FlowRecord ids priorities w =
        let inside = w.whole in
        chain _ _ _ _ (λ z. (of_kind FlowRecord w 9 8 refl, omega arith))
        λ z. chain _ _ _ _ (λ z. (of_kind FlowRecord w 7 3 refl, omega arith))
        λ z. chain _ _ _ _ (λ z. (of_kind FlowRecord w 8 5 refl, omega arith)) λ z. tt
    rest EndRecord ids priorities w = chain _ _ _ _ (λ z. (of_kind EndRecord w 10 3 refl, omega (arith, w.whole))) λ z. tt

  module _ {at : ℕ} (fs : List Flow) (start : Start s at (length fs)) where
    body : (c : Result Kind Refusal) (p : Platform) → frame_at s at (length fs) ≡ c → Fair c → Fair (body_at s at c p fs)
    unfolding body_at
    body (Err refusal) p e f = f
    body (Ok kind) p e f =
        let w = framed s at (length fs) e in
        follow _ _ (fields start w (limits_at s at kind p) 3 (fields_of kind (length_at s at)) (numbered kind (length_at s at)) (omega (arith, w.whole, filled kind (length_at s at)))) (rest start kind _ _ w)

    pub fault_listed : (p : Platform) → at ≤ length s → Fair (record_at s at p fs)
    unfolding record_at
    fault_listed p h = body (frame_at s at (length fs)) p refl (frame start h)
