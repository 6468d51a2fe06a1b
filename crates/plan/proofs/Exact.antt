-- "No refusal is given otherwise": bytes are accepted exactly if they are laid out as the table says, with legal values.
use Rattle.plan.specs.Reading.{plan_in}
use Rattle.framing.specs.declared.returned.Fault.{Fault}
use Rattle.framing.specs.Returned.{number_of}
use Rattle.framing.proofs.Faults.{same_refusal}
use Rattle.framing.specs.Returned.{outcome}
use Rattle.plan.specs.declared.Plan.{Plan}
use Prim.Native.Nat.{ℕ, zero, suc, ◌+◌, ◌*◌, ◌≤◌, ◌<◌}
use native.Mathlib.Omega.{arith}
use mathlib.Core.Path.{◌≡◌, refl, sym, ap, ◌∙◌}
use mathlib.Core.Bool.{false}
use mathlib.Core.List.{List, [], ◌∷◌, ◌++◌, map}
use mathlib.Core.Logic.{◌↔◌, ◌≢◌}
use lib.ListN.{length, take}
use lib.Seq.{take_at, take_all, take-suc, length-take-le, get_or-take}
use lib.Dec.{eqb}
use borrow.Author.Tests.{ne_eqb, lt-leb}
use Rattle.framing.specs.First.{◌when◌else◌}
use Rattle.framing.specs.Header.{length_at}
use Rattle.plan_table.specs.Table.{fields_of}
use Rattle.plan_values.proofs.Seventh.{length_within}
use Rattle.plan_values.specs.Values.{platform_at, platform_length, flow_at, blank_platform, blank_flow}
use Rattle.plan_checks.specs.Checks.{limits_at}
use Rattle.plan_checks.specs.Checks.{misplaced, taken, clash_at, rest_at}
use Rattle.plan.specs.Records.{ids_of, priorities_of, record_at}
use Rattle.plan.specs.Reading.{accepted, refused, records, read_plan}
use Rattle.plan.specs.Padded.{padded}
use Rattle.plan.specs.Legal.{Distinct, Legal, flow}
use Rattle.plan.specs.Layout.{place, Laid}
use Rattle.plan.specs.Refusals.{Listed}
use Rattle.plan_values.specs.declared.Platform.{Platform}
use Rattle.plan_values.specs.declared.Flow.{Flow}
use Rattle.std.specs.Prelude.{Result, Ok}
use Rattle.framing.specs.declared.returned.Refusal.{Refusal}
use Rattle.plan_table.specs.declared.Kind.TheVariants.{PlatformRecord, FlowRecord}
use Rattle.plan.proofs.Frames.{frame_passes, end_passes}
use Rattle.plan.proofs.Order.{record_rest, platform_leads, flow_leads, end_accepts}
use Rattle.plan.proofs.Fields.{allowed_passed, legal_flow}
use Rattle.plan.proofs.Platforms.{own_length, legal_platform}
use Rattle.plan.proofs.Growth.{found_none}
use Rattle.plan.proofs.Numbered.{never}
use Rattle.plan.proofs.Answered.{Lawful, accepts, refuses, answered}

module _ (s : List ℕ) (p : Platform) (fs : List Flow) (laid : Laid s p fs) (legal : Legal p fs) where
  -- where flow k's record starts
  abbrev there : ℕ → ℕ
  there k = place (platform_length p) k

  told : length_at s 0 ≡ platform_length (platform_at s 0)
  told = laid.platform.0.size_is ∙ ap platform_length (sym laid.platform.1)

  platform_passes : record_at s 0 blank_platform [] ≡ Ok PlatformRecord
  unfolding rest_at
  platform_passes =
      let l = limits_at s 0 PlatformRecord blank_platform in
      record_rest s 0 blank_platform [] (frame_passes s 0 PlatformRecord (platform_length p) 0 (own_length p) laid.platform.0 refl (omega (arith, laid.nothing_else)) refl)
      (allowed_passed s 0 PlatformRecord l 3 (fields_of PlatformRecord (length_at s 0)) (legal_platform s 0 l told (rw laid.platform.1 legal.platform)))

  -- a place behind the platform record
  abbrev behind : (k : ℕ) → misplaced (eqb (there k) 0) FlowRecord ≡ false
  behind k = rw (ne_eqb (there k) 0 (omega arith))

  module _ (k : ℕ) (l : k < length fs) where
    many : length (take k fs) ≡ k
    many = length-take-le k fs (omega arith)

    -- none of the flows before has this flow's value
    unlike : (value : Flow → ℕ) → Distinct value fs → taken (map value (take k fs)) (value (flow fs k)) ≡ false
    unlike value d =
        found_none value (value (flow fs k)) (take k fs)
        (λ j h. let b : j < k = omega (arith, many) in rw (get_or-take k fs j blank_flow b) (ne_eqb (value (flow fs j)) (value (flow fs k)) (d j k b l)))

    clash_passes : clash_at (there k) (flow fs k) (ids_of (take k fs)) (priorities_of (take k fs)) ≡ Ok FlowRecord
    unfolding clash_at ◌when◌else◌
    clash_passes = rw (ne_eqb (flow fs k).source (flow fs k).destination (legal.each k l).moves, unlike (λ f. f.id) legal.ids, unlike (λ f. f.priority) legal.priorities)

    flow_passes : record_at s (there k) p (take k fs) ≡ Ok FlowRecord
    unfolding rest_at
    flow_passes =
        let e = (laid.each k l).1 in
        record_rest s (there k) p (take k fs)
        (frame_passes s (there k) FlowRecord 20 (length (take k fs)) refl (laid.each k l).0 (behind k) (omega (arith, laid.nothing_else)) (lt-leb 64 (length (take k fs)) (omega (arith, many, legal.few))))
        (allowed_passed s (there k) FlowRecord (limits_at s (there k) FlowRecord p) 3 (fields_of FlowRecord (length_at s (there k))) (legal_flow s (there k) p (rw e (legal.each k l))))
        ∙ ap (λ (f : Flow). clash_at (there k) f (ids_of (take k fs)) (priorities_of (take k fs))) e
        ∙ clash_passes

  -- the records from flow k on
  from : (r k turns : ℕ) → k + r ≡ length fs → r < turns → records turns s (there k) p (take k fs) ≡ accepted p fs
  from r k zero e h = absurd (omega arith)
  from zero k (suc turns) e h =
      let w : take k fs ≡ fs = take_all k fs (omega arith) in
      let z : k ≡ length fs = omega arith in
      (λ i. records (suc turns) s (there (z i)) p (w i)) ∙ end_accepts s (there (length fs)) p fs turns (end_passes s (there (length fs)) (λ z. omega arith) p fs laid.end laid.nothing_else)
  from (suc r) k (suc turns) e h =
      let l : k < length fs = omega arith in
      let g : take k fs ++ flow_at s (there k) ∷ [] ≡ take (suc k) fs = ap (λ (x : Flow). take k fs ++ x ∷ []) (laid.each k l).1 ∙ sym (take-suc fs k blank_flow l) in
      let z : there k + 23 ≡ there (suc k) = omega arith in
      flow_leads s (there k) p (take k fs) turns (flow_passes k l)
      ∙ (λ i. records turns s (z i) p (g i))
      ∙ from r (suc k) turns (omega arith) (omega arith)

  laid_accepted : read_plan s ≡ accepted p fs
  unfolding read_plan
  laid_accepted =
      let first : 0 + 3 + length_at s 0 ≡ there 0 = omega (arith, laid.platform.0.size_is) in
      platform_leads s 0 blank_platform [] (length s) platform_passes
      ∙ (λ i. records (length s) s (first i) (laid.platform.1 i) [])
      ∙ from (length fs) 0 (length s) (omega arith) (omega (arith, laid.nothing_else))

-- ---- and nothing else is accepted
refused_never : (fault : Fault) (pl : ℕ) (q : Platform) (gs : List Flow) → refused fault pl ≡ accepted q gs → ⊥
unfolding refused accepted
refused_never fault pl q gs e =
    let z : ◌≡◌ {A = ℕ} 0 1 = cc in
    omega arith

same_plan : (p q : Platform) (fs gs : List Flow) → accepted p fs ≡ accepted q gs → (p ≡ q) × (fs ≡ gs)
unfolding accepted
same_plan p q fs gs e =
    let n : length fs ≡ length gs = ap (λ (r : Result Plan Refusal). (plan_in r).count) e in
    let l : padded blank_flow fs ≡ padded blank_flow gs = ap (λ (r : Result Plan Refusal). (plan_in r).flows) e in
    (ap (λ (r : Result Plan Refusal). (plan_in r).platform) e, sym (take_at fs _ (length fs) refl) ∙ ap (take (length fs)) l ∙ take_at gs _ (length fs) (sym n))

accepted_laid : (s : List ℕ) (p : Platform) (fs : List Flow) → read_plan s ≡ accepted p fs → Laid s p fs × Legal p fs
accepted_laid s p fs = go (read_plan s) (answered s)
  where
    go : (r : Result Plan Refusal) → Lawful s r → r ≡ accepted p fs → Laid s p fs × Legal p fs
    go r (accepts q gs laid legal) e = let k = same_plan q p gs fs e in rw (← k.0, ← k.1) (laid, legal)
    go r (refuses fault pl n h) e = absurd (refused_never fault pl p fs e)

-- a refusal's number and place are listed: the number says what is in fault, and the place is there, one of the input's or the end of it
pub refusal_listed : (s : List ℕ) (fault : Fault) (pl : ℕ) → read_plan s ≡ refused fault pl → Listed (length_at s 0) (number_of fault) pl × (pl ≤ length s)
unfolding refused
refusal_listed s fault pl = go (read_plan s) (answered s)
  where
    go : (r : Result Plan Refusal) → Lawful s r → r ≡ refused fault pl → Listed (length_at s 0) (number_of fault) pl × (pl ≤ length s)
    go r (accepts q gs laid legal) e = absurd (refused_never fault pl q gs (sym e))
    go r (refuses f at w h) e = let (a, b) = same_refusal e in rw (← a, ← b) (w, h)

-- "5 goes"
pub five_gone : (s : List ℕ) (fault : Fault) (pl : ℕ) → read_plan s ≡ refused fault pl → number_of fault ≢ 5
five_gone s fault pl e = never 5 refl (refusal_listed s fault pl e).0

pub accepted_exactly : (s : List ℕ) (p : Platform) (fs : List Flow) → (read_plan s ≡ accepted p fs) ↔ (Laid s p fs × Legal p fs)
accepted_exactly s p fs = (accepted_laid s p fs, λ (laid, legal). laid_accepted s p fs laid legal)

-- a reading whose outcome is acceptance holds a plan
pub accepted_plan : (s : List ℕ) → outcome (read_plan s) ≡ Ok tt → (p : Platform) × (fs : List Flow) × (read_plan s ≡ accepted p fs)
unfolding refused
accepted_plan s = go (read_plan s) (answered s)
  where
    go : (r : Result Plan Refusal) → Lawful s r → outcome r ≡ Ok tt → (p : Platform) × (fs : List Flow) × (r ≡ accepted p fs)
    go r (accepts p fs laid legal) e = (p, fs, refl)
    go r (refuses fault pl n h) e = let z : ◌≡◌ {A = ℕ} 0 1 = cc in absurd (omega arith)

-- what acceptance gives
pub legal : (s : List ℕ) (p : Platform) (fs : List Flow) → read_plan s ≡ accepted p fs → Legal p fs
legal s p fs e = (accepted_laid s p fs e).1

-- an accepted plan of n flows has 12 + 23 n bytes, or 13 + 23 n with a seventh byte: "the longest plan has 1,485 bytes"
pub size : (s : List ℕ) (p : Platform) (fs : List Flow) → read_plan s ≡ accepted p fs → (length s ≡ 6 + platform_length p + 23 * length fs) × (length s ≤ 1485)
size s p fs e =
    let w = accepted_laid s p fs e in
    (omega (arith, w.0.nothing_else), omega (arith, w.0.nothing_else, w.1.few, length_within p))
