-- Every byte string gets an answer: a plan that is laid out and legal, or a refusal that document 01 lists.
use Rattle.framing.specs.Returned.{number_of}
use Rattle.framing.specs.declared.returned.Fault.TheVariants.{Cut}
use Rattle.framing.specs.declared.returned.Fault.{Fault}
use Rattle.plan.specs.declared.Plan.{Plan}
use Prim.Native.Nat.{ℕ, zero, suc, ◌+◌, ◌≤◌, ◌<◌}
use native.Mathlib.Omega.{arith}
use mathlib.Core.Path.{◌≡◌, refl, sym, ap, subst}
use mathlib.Core.List.{List, [], ◌∷◌, ◌++◌}
use lib.ListN.{length}
use borrow.Author.Tests.{eqb-false, ltb-false}
use Rattle.framing.specs.Header.{tag_at, length_at, Headed}
use Rattle.plan_table.specs.Table.{tag_byte, body_length, fields_of}
use Rattle.plan_values.specs.Values.{platform_at, platform_length, flow_at, blank_platform}
use Rattle.plan_checks.specs.Checks.{limits_at}
use Rattle.plan_checks.specs.Checks.{clash_at, tail_at, rest_at}
use Rattle.plan.specs.Records.{record_at}
use Rattle.plan.specs.Reading.{accepted, refused, records, read_plan}
use Rattle.plan.specs.Legal.{LegalPlatform, Legal, flow}
use Rattle.plan.specs.Layout.{place, Laid}
use Rattle.plan.specs.Refusals.{Listed}
use Rattle.plan_values.specs.declared.Platform.{Platform}
use Rattle.plan_values.specs.declared.Flow.{Flow}
use Rattle.std.specs.Prelude.{Result, Ok, Err}
use Rattle.framing.specs.declared.returned.Refusal.{Refusal}
use Rattle.plan_table.specs.declared.Kind.{Kind}
use Rattle.plan_table.specs.declared.Kind.TheVariants.{PlatformRecord, FlowRecord, EndRecord}
use Rattle.plan_table.proofs.Tags.{tag_byte_lem}
use Rattle.plan.proofs.Order.{passed, Framed, flow_room, platform_first, others_later, Fine, fine, fault_ends, platform_leads, flow_leads, end_accepts}
use Rattle.plan.proofs.Fields.{passed_allowed, flow_legal}
use Rattle.plan.proofs.Platforms.{platform_legal, told_length}
use Rattle.plan.proofs.Growth.{longer, each_more, legal_more}
use Rattle.plan.proofs.Listed.{Start, first, later, Fair, of_record, fault_listed}

-- what a reading of the bytes may come to
pub data Lawful (s : List ℕ) : Result Plan Refusal → Type 0 where
  accepts : (p : Platform) (fs : List Flow) → Laid s p fs → Legal p fs → Lawful s (accepted p fs)
  refuses : (fault : Fault) (place : ℕ) → Listed (length_at s 0) (number_of fault) place → place ≤ length s → Lawful s (refused fault place)

-- ---- the records in front of the one at `at`
record Front (s : List ℕ) (p : Platform) (fs : List Flow) (at : ℕ) : Type 0 where
  here : at ≡ place (platform_length p) (length fs)
  platform : Headed s 0 0x01 (platform_length p) × (platform_at s 0 ≡ p)
  each : (k : ℕ) → k < length fs → Headed s (place (platform_length p) k) 0x02 20 × (flow_at s (place (platform_length p) k) ≡ flow fs k)
  legal : Legal p fs

data Stands (s : List ℕ) (p : Platform) (fs : List Flow) (at : ℕ) : Type 0 where
  start : at ≡ 0 → fs ≡ [] → Stands s p fs at
  going : Front s p fs at → Stands s p fs at

headed : {s : List ℕ} {at count : ℕ} (kind : Kind) → Framed s at kind count → Headed s at (tag_byte kind) (body_length kind (length_at s at))
headed {s} {at} kind w = record { tag_is = tag_byte_lem (tag_at s at) w.tag; size_is = w.size }

no_flows : (p : Platform) → LegalPlatform p → Legal p []
no_flows p w = record { platform = w; few = omega arith; each = λ k h. absurd (omega arith); ids = λ j k l h. absurd (omega arith); priorities = λ j k l h. absurd (omega arith) }

module _ {s : List ℕ} {p : Platform} {fs : List Flow} {at : ℕ} (w : Stands s p fs at) where
  in_front : (at ≡ 0 → ⊥) → Front s p fs at
  in_front n = go w
    where
      go : Stands s p fs at → Front s p fs at
      go (start z e) = absurd (n z)
      go (going f) = f

  starts : Start s at (length fs)
  starts = go w
    where
      go : Stands s p fs at → Start s at (length fs)
      go (start z e) = first z
      go (going f) = later (omega (arith, f.here, f.platform.0.size_is)) f.legal.few

  no_flows_yet : at ≡ 0 → fs ≡ []
  no_flows_yet z = go w
    where
      go : Stands s p fs at → fs ≡ []
      go (start o e) = e
      go (going f) = absurd (omega (arith, f.here))

  platform_step : Fine s at p fs PlatformRecord → Front s (platform_at s at) fs (at + 3 + length_at s at)
  platform_step f =
      let z = platform_first f.frame in
      let n = no_flows_yet z in
      let l = limits_at s at PlatformRecord p in
      let allowed = passed_allowed s at PlatformRecord l 3 (fields_of PlatformRecord (length_at s at)) f.fields.1 in
      let legal = platform_legal s at l allowed in
      let told = told_length s at l f.frame.size allowed in
      let head : Headed s at 0x01 (platform_length (platform_at s at)) = record { tag_is = (headed PlatformRecord f.frame).tag_is; size_is = sym told } in
      rw n (record {
        here = omega (arith, told, z);
        platform = (subst (λ (a : ℕ). Headed s a 0x01 (platform_length (platform_at s at))) z head, rw z);
        each = λ k h. absurd (omega arith);
        legal = no_flows (platform_at s at) legal;
      })

  flow_step : Fine s at p fs FlowRecord → Front s p (fs ++ flow_at s at ∷ []) (at + 23)
  unfolding rest_at clash_at
  flow_step f =
      let b = in_front (others_later FlowRecord refl f.frame) in
      let g = flow_at s at in
      let m = passed _ _ _ f.rest in
      let i = passed _ _ _ m.1 in
      let q = passed _ _ _ i.1 in
      let legal = flow_legal s at p (passed_allowed s at FlowRecord (limits_at s at FlowRecord p) 3 (fields_of FlowRecord (length_at s at)) f.fields.1) (eqb-false g.source g.destination m.0) in
      record {
        here = omega (arith, b.here, longer fs g);
        platform = b.platform;
        each = each_more fs g (λ k x. Headed s (place (platform_length p) k) 0x02 20 × (flow_at s (place (platform_length p) k) ≡ x)) b.each (rw b.here at (headed FlowRecord f.frame), ap (flow_at s) (sym b.here));
        legal = legal_more fs g p b.legal (flow_room f.frame refl) legal i.0 q.0;
      }

  end_step : Fine s at p fs EndRecord → Laid s p fs × Legal p fs
  unfolding rest_at tail_at
  end_step f =
      let b = in_front (others_later EndRecord refl f.frame) in
      let t = ltb-false (at + 3) (length s) (passed _ _ _ f.rest).0 in
      (record { platform = b.platform; each = b.each; end = rw b.here at (headed EndRecord f.frame); nothing_else = omega (arith, b.here, f.frame.whole) }, b.legal)

-- ---- the reading, record by record
module _ (s : List ℕ) where
  abbrev From : ℕ → Type 0
  From turns = (p : Platform) (fs : List Flow) (at : ℕ) → Stands s p fs at → at ≤ length s → Lawful s (records turns s at p fs)

  by_record : (turns : ℕ) → From turns → (p : Platform) (fs : List Flow) (at : ℕ) → Stands s p fs at → at ≤ length s → (c : Result Kind Refusal) → record_at s at p fs ≡ c → Lawful s (records (suc turns) s at p fs)
  by_record turns more p fs at w h (Err refusal) e =
      let l = subst (Fair s) e (fault_listed s fs (starts w) p h) in
      rw (fault_ends s at p fs turns e) (refuses refusal.0 refusal.1 l.0 l.1)
  by_record turns more p fs at w h (Ok PlatformRecord) e =
      let f = fine s at p fs e in
      rw (platform_leads s at p fs turns e) (more (platform_at s at) fs (at + 3 + length_at s at) (going (platform_step w f)) (omega (arith, f.frame.size, f.frame.whole)))
  by_record turns more p fs at w h (Ok FlowRecord) e =
      let f = fine s at p fs e in
      rw (flow_leads s at p fs turns e) (more p (fs ++ flow_at s at ∷ []) (at + 23) (going (flow_step w f)) (omega (arith, f.frame.whole)))
  by_record turns more p fs at w h (Ok EndRecord) e =
      let l = end_step w (fine s at p fs e) in
      rw (end_accepts s at p fs turns e) (accepts p fs l.0 l.1)

  from : (turns : ℕ) → From turns
  unfolding records
  from zero p fs at w h = refuses Cut at (of_record s (starts w) 1 0 at refl (omega arith) h).0 h
  from (suc turns) p fs at w h = by_record turns (from turns) p fs at w h (record_at s at p fs) refl

  -- "Every byte string offered as a plan gets an analysis or, only for a fault listed in document 01, a numbered refusal with its place"
  pub answered : Lawful s (read_plan s)
  unfolding read_plan
  answered = from (suc (length s)) blank_platform [] 0 (start refl refl) (omega arith)
