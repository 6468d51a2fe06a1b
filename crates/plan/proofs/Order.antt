-- The order within a record, and what a record makes of the reading.
use Prim.Native.Nat.{ℕ, suc, ◌+◌, ◌-◌, ◌≤◌, ◌<◌}
use native.Mathlib.Omega.{arith}
use mathlib.Core.Path.{◌≡◌, refl, sym, ◌∙◌}
use mathlib.Core.Bool.{Bool, true, false}
use mathlib.Core.List.{List, [], ◌∷◌, ◌++◌}
use lib.ListN.{length}
use lib.Dec.{eqb}
use borrow.Author.Tests.{ltb-false, leb-false, eqb-true, eqb-false, not-false}
use Rattle.framing.specs.First.{◌when◌else◌}
use Rattle.framing.specs.Header.{tag_at, length_at}
use Rattle.plan_table.specs.Table.{tag_of, body_length}
use Rattle.plan_values.specs.Values.{platform_at, flow_at}
use Rattle.plan_checks.specs.Checks.{is_platform, misplaced, no_room, header_at, tagged_at, frame_at, clash_at, tail_at, rest_at}
use Rattle.plan.specs.Records.{fields_at, ids_of, priorities_of, ◌then◌, body_at, record_at}
use Rattle.plan.specs.Reading.{accepted, refused, after, records}
use Rattle.plan_values.specs.declared.Platform.{Platform}
use Rattle.plan_values.specs.declared.Flow.{Flow}
use Rattle.std.specs.Prelude.{Option, Some, None, Result, Ok, Err}
use Rattle.framing.specs.declared.returned.Refusal.{Refusal}
use Rattle.plan_table.specs.declared.Kind.{Kind}
use Rattle.plan_table.specs.declared.Kind.TheVariants.{PlatformRecord, FlowRecord, EndRecord}

-- ---- checks that were passed
pub no_fault : {refusal : Refusal} {kind : Kind} → ◌≡◌ {A = Result Kind Refusal} (Err refusal) (Ok kind) → ⊥
no_fault e = let z : ◌≡◌ {A = ℕ} 0 1 = cc in omega arith

pub passed : (test : Bool) (refusal : Refusal) (next : Result Kind Refusal) {kind : Kind} → (Err refusal when test else next) ≡ Ok kind → (test ≡ false) × (next ≡ Ok kind)
unfolding ◌when◌else◌
passed true refusal next e = absurd (no_fault e)
passed false refusal next e = (refl, e)

pub then_passed : (first next : Result Kind Refusal) {kind : Kind} → first then next ≡ Ok kind → ((k : Kind) × (first ≡ Ok k)) × (next ≡ Ok kind)
unfolding ◌then◌
then_passed (Err refusal) next e = absurd (no_fault e)
then_passed (Ok k) next e = ((k, refl), e)

-- ---- what a frame without fault gives
pub record Framed (s : List ℕ) (at : ℕ) (kind : Kind) (count : ℕ) : Type 0 where
  pub tag : tag_of (tag_at s at) ≡ Some kind
  pub place : misplaced (eqb at 0) kind ≡ false
  pub size : length_at s at ≡ body_length kind (length_at s at)
  pub whole : at + 3 + body_length kind (length_at s at) ≤ length s
  pub room : no_room kind count ≡ false

module _ (s : List ℕ) (at count : ℕ) {kind : Kind} where
  framed_tag : at + 3 ≤ length s → (t : Option Kind) → tag_of (tag_at s at) ≡ t → tagged_at s at t count ≡ Ok kind → Framed s at kind count
  unfolding tagged_at header_at
  framed_tag h None te e = absurd (no_fault e)
  framed_tag h (Some found) te e =
      let m = passed _ _ _ e in
      let l = passed _ _ _ m.1 in
      let b = passed _ _ _ l.1 in
      let r = passed _ _ _ b.1 in
      let k : found ≡ kind = cc r.1 in
      let d = eqb-true (length_at s at) (body_length found (length_at s at)) (not-false _ l.0) in
      let w = ltb-false (length s - (at + 3)) (length_at s at) b.0 in
      rw (← k) (record { tag = te; place = m.0; size = d; whole = omega arith; room = r.0 })

  pub framed : frame_at s at count ≡ Ok kind → Framed s at kind count
  unfolding frame_at
  framed e =
      let h = passed _ _ _ e in
      framed_tag (omega (arith, ltb-false (length s - at) 3 h.0)) (tag_of (tag_at s at)) refl h.1

-- there is room for a flow in its frame
pub flow_room : {s : List ℕ} {at count : ℕ} {kind : Kind} → Framed s at kind count → kind ≡ FlowRecord → count < 64
flow_room {count} w e = leb-false 64 count (rw e at w.room)

-- a platform stands at place 0, and nothing else does
pub first_only : (first : Bool) (kind : Kind) → misplaced first kind ≡ false → first ≡ is_platform kind
first_only true PlatformRecord e = refl
first_only true FlowRecord e = e
first_only true EndRecord e = e
first_only false PlatformRecord e = sym e
first_only false FlowRecord e = refl
first_only false EndRecord e = refl

pub platform_first : {s : List ℕ} {at count : ℕ} → Framed s at PlatformRecord count → at ≡ 0
platform_first {at} w = eqb-true at 0 (first_only (eqb at 0) PlatformRecord w.place)

pub others_later : {s : List ℕ} {at count : ℕ} (kind : Kind) → is_platform kind ≡ false → Framed s at kind count → at ≡ 0 → ⊥
others_later {at} kind e w = eqb-false at 0 (first_only (eqb at 0) kind w.place ∙ e)

-- ---- what stands behind the fields leaves the kind of record as it is
pub rest_kind : (s : List ℕ) (at : ℕ) (kind : Kind) (ids priorities : List ℕ) {found : Kind} → rest_at s at kind ids priorities ≡ Ok found → found ≡ kind
unfolding rest_at clash_at tail_at
rest_kind s at PlatformRecord ids priorities e = cc
rest_kind s at FlowRecord ids priorities e = let t = (passed _ _ _ (passed _ _ _ (passed _ _ _ e).1).1).1 in cc
rest_kind s at EndRecord ids priorities e = let t = (passed _ _ _ e).1 in cc

-- ---- a record without fault
pub record Fine (s : List ℕ) (at : ℕ) (p : Platform) (fs : List Flow) (kind : Kind) : Type 0 where
  pub frame : Framed s at kind (length fs)
  pub fields : (found : Kind) × (fields_at s at kind p ≡ Ok found)
  pub rest : rest_at s at kind (ids_of fs) (priorities_of fs) ≡ Ok kind

module _ (s : List ℕ) (at : ℕ) (p : Platform) (fs : List Flow) {kind : Kind} where
  fine_body : (c : Result Kind Refusal) → frame_at s at (length fs) ≡ c → body_at s at c p fs ≡ Ok kind → Fine s at p fs kind
  unfolding body_at
  fine_body (Err refusal) fe e = absurd (no_fault e)
  fine_body (Ok found) fe e =
      let t = then_passed _ _ e in
      let k = rest_kind s at found _ _ t.1 in
      rw k (record { frame = framed s at (length fs) fe; fields = t.0; rest = rw k at t.1 })

  pub fine : record_at s at p fs ≡ Ok kind → Fine s at p fs kind
  unfolding record_at
  fine e = fine_body (frame_at s at (length fs)) refl e

-- ---- the order within a record
module _ (s : List ℕ) (at : ℕ) (p : Platform) (fs : List Flow) where
  pub record_frame : {refusal : Refusal} → frame_at s at (length fs) ≡ Err refusal → record_at s at p fs ≡ Err refusal
  unfolding record_at body_at
  record_frame e = rw e

  module _ {kind : Kind} (fe : frame_at s at (length fs) ≡ Ok kind) where
    pub record_field : {refusal : Refusal} → fields_at s at kind p ≡ Err refusal → record_at s at p fs ≡ Err refusal
    unfolding record_at body_at ◌then◌
    record_field e = rw (fe, e)

    pub record_rest : {found : Kind} → fields_at s at kind p ≡ Ok found → record_at s at p fs ≡ rest_at s at kind (ids_of fs) (priorities_of fs)
    unfolding record_at body_at ◌then◌
    record_rest e = rw (fe, e)

  -- ---- what a record makes of the reading
  module _ (turns : ℕ) where
    pub fault_ends : {refusal : Refusal} → record_at s at p fs ≡ Err refusal → records (suc turns) s at p fs ≡ refused refusal.0 refusal.1
    unfolding records after
    fault_ends e = rw e

    pub platform_leads : record_at s at p fs ≡ Ok PlatformRecord → records (suc turns) s at p fs ≡ records turns s (at + 3 + length_at s at) (platform_at s at) fs
    unfolding records after
    platform_leads e = rw e

    pub flow_leads : record_at s at p fs ≡ Ok FlowRecord → records (suc turns) s at p fs ≡ records turns s (at + 23) p (fs ++ flow_at s at ∷ [])
    unfolding records after
    flow_leads e = rw e

    pub end_accepts : record_at s at p fs ≡ Ok EndRecord → records (suc turns) s at p fs ≡ accepted p fs
    unfolding records after
    end_accepts e = rw e
