-- "No refusal is given otherwise": a plan is refused with a number and a place exactly if document 01's table gives them, said without a reader.
use Rattle.framing.specs.Returned.{number_of, outcome}
use Rattle.framing.specs.declared.returned.Fault.TheVariants.{Cut}
use Rattle.framing.proofs.Faults.{same_fault, same_refusal}
use Rattle.framing.specs.declared.returned.Fault.{Fault}
use Rattle.plan.specs.declared.Plan.{Plan}
use Rattle.plan_table.specs.declared.Kind.{Kind}
use Prim.Native.Nat.{ℕ, zero, suc, ◌+◌, ◌<◌}
use native.Mathlib.Omega.{arith}
use native.Mathlib.Decide.{ℕ_discrete}
use mathlib.Core.Path.{◌≡◌, refl, sym, ap, subst, ◌∙◌}
use mathlib.Core.List.{List, [], ◌∷◌, ◌++◌}
use mathlib.Core.Logic.{◌↔◌, inl, inr}
use lib.ListN.{length}
use Rattle.framing_numbers.specs.Numbers.{two_at}
use Rattle.framing.specs.Header.{length_at}
use Rattle.plan_values.specs.Values.{platform_at, flow_at, blank_platform}
use Rattle.plan.specs.Records.{record_at}
use Rattle.plan.specs.Reading.{accepted, refused, records, read_plan}
use Rattle.plan.specs.Layout.{place}
use Rattle.plan.specs.Reasons.{start, IsPlatform, IsFlow, header_cut, misplaced, Faultless, Leads, RefusedBecause, AcceptedBecause}
use Rattle.plan_values.specs.declared.Platform.{Platform}
use Rattle.plan_values.specs.declared.Flow.{Flow}
use Rattle.std.specs.Prelude.{Result, Ok, Err}
use Rattle.framing.specs.declared.returned.Refusal.{Refusal}
use Rattle.plan_table.specs.declared.Kind.TheVariants.{PlatformRecord, FlowRecord, EndRecord}
use Rattle.plan.proofs.Order.{fault_ends, platform_leads, flow_leads, end_accepts}
use Rattle.plan.proofs.Growth.{longer, each_more}
use Rattle.plan.proofs.Ranks.{order, one_reason, not_both}
use Rattle.plan.proofs.Ruled.{Ruled, decides, faultless}
use Rattle.plan.proofs.RuledBody.{Seen}
use Rattle.plan.proofs.RuledFrame.{ruled}

-- what a reading of the bytes may come to
data Judged (s : List ℕ) : Result Plan Refusal → Type 0 where
  accepts : (p : Platform) (fs : List Flow) → AcceptedBecause s → Judged s (accepted p fs)
  refuses : (fault : Fault) (pl : ℕ) → RefusedBecause s (number_of fault) pl → Judged s (refused fault pl)

-- ---- in front of record n, which starts at `at`
record Stands (s : List ℕ) (n : ℕ) (p : Platform) (fs : List Flow) (at : ℕ) : Type 0 where
  here : at ≡ start s n
  seen : Seen s n p fs
  before : (m : ℕ) → m < n → Leads s m

start_next : (s : List ℕ) (n : ℕ) → 0 < n → start s n + 23 ≡ start s (suc n)
start_next s zero h = absurd (omega arith)
start_next s (suc k) h = omega arith

start_flow : (s : List ℕ) (n k : ℕ) → 0 < n → k + 1 ≡ n → start s n ≡ place (two_at s 1) k
start_flow s zero k h e = absurd (omega arith)
start_flow s (suc m) k h e = omega arith

module _ {s : List ℕ} {n : ℕ} {p : Platform} {fs : List Flow} {at : ℕ} (w : Stands s n p fs at) where
  by_lines : {c : Result Kind Refusal} → record_at s at p fs ≡ c → Ruled s n c order
  by_lines e = subst (λ (c : Result Kind Refusal). Ruled s n c order) (ap (λ (a : ℕ). record_at s a p fs) (sym w.here) ∙ e) (ruled s n p fs w.seen)

  before_more : Leads s n → (m : ℕ) → m < suc n → Leads s m
  before_more l m h = go (ℕ_discrete m n)
    where
      go : Dec (m ≡ n) → Leads s m
      go (yes e) = rw e l
      go (no d) = w.before m (omega arith)

  refuses_here : {refusal : Refusal} → record_at s at p fs ≡ Err refusal → RefusedBecause s (number_of refusal.0) refusal.1
  refuses_here e =
      let d = decides s n (by_lines e) in
      record { n = n; before = w.before; line = d.line; holds = d.holds; first = λ l h. d.first l (omega arith) h; number_is = d.number_is; place_is = d.place_is }

  accepts_here : record_at s at p fs ≡ Ok EndRecord → AcceptedBecause s
  accepts_here e = let (f, t) = faultless s n (by_lines e) in record { n = n; before = w.before; faultless = f; end = t }

  platform_step : record_at s at p fs ≡ Ok PlatformRecord → Stands s 1 (platform_at s at) fs (at + 3 + length_at s at)
  platform_step e =
      let (f, t) = faultless s n (by_lines e) in
      let z : n ≡ 0 = go (ℕ_discrete n 0) f t in
      let o : at ≡ 0 = w.here ∙ ap (start s) z in
      let told : length_at s at ≡ two_at s 1 = ap (length_at s) o in
      record {
        here = omega arith;
        seen = record { platform = λ h. rw o; count = omega (arith, w.seen.count); each = w.seen.each };
        before = λ m h. before_more (record { faultless = f; no_end = λ x. omega arith }) m (omega arith);
      }
    where
      go : Dec (n ≡ 0) → Faultless s n → IsPlatform s n → n ≡ 0
      go (yes z) f t = z
      go (no d) f t = absurd (f misplaced (inr (omega arith, t)))

  flow_step : record_at s at p fs ≡ Ok FlowRecord → Stands s (suc n) p (fs ++ flow_at s at ∷ []) (at + 23)
  flow_step e =
      let (f, t) = faultless s n (by_lines e) in
      let h : 0 < n = go (ℕ_discrete n 0) f t in
      let c : length fs + 1 ≡ n = omega (arith, w.seen.count) in
      record {
        here = omega (arith, w.here, start_next s n h);
        seen = record {
          platform = λ x. w.seen.platform h;
          count = omega (arith, longer fs (flow_at s at));
          each = each_more fs (flow_at s at) (λ k x. x ≡ flow_at s (place (two_at s 1) k)) w.seen.each (ap (flow_at s) (w.here ∙ start_flow s n (length fs) h c));
        };
        before = before_more (record { faultless = f; no_end = λ x. omega arith });
      }
    where
      go : Dec (n ≡ 0) → Faultless s n → IsFlow s n → 0 < n
      go (yes z) f t = absurd (f misplaced (inl (z, λ x. omega arith)))
      go (no d) f t = omega arith

-- ---- the reading, record by record
module _ (s : List ℕ) where
  abbrev Reads : ℕ → Type 0
  Reads turns = (n : ℕ) (p : Platform) (fs : List Flow) (at : ℕ) → Stands s n p fs at → length s < at + turns → Judged s (records turns s at p fs)

  by_record : (turns : ℕ) → Reads turns → (n : ℕ) (p : Platform) (fs : List Flow) (at : ℕ) → Stands s n p fs at → length s < at + suc turns → (c : Result Kind Refusal) → record_at s at p fs ≡ c → Judged s (records (suc turns) s at p fs)
  by_record turns more n p fs at w h (Err refusal) e = rw (fault_ends s at p fs turns e) (refuses refusal.0 refusal.1 (refuses_here w e))
  by_record turns more n p fs at w h (Ok PlatformRecord) e = rw (platform_leads s at p fs turns e) (more 1 (platform_at s at) fs (at + 3 + length_at s at) (platform_step w e) (omega arith))
  by_record turns more n p fs at w h (Ok FlowRecord) e = rw (flow_leads s at p fs turns e) (more (suc n) p (fs ++ flow_at s at ∷ []) (at + 23) (flow_step w e) (omega arith))
  by_record turns more n p fs at w h (Ok EndRecord) e = rw (end_accepts s at p fs turns e) (accepts p fs (accepts_here w e))

  -- without turns left no byte is left
  none_left : (n : ℕ) (p : Platform) (fs : List Flow) (at : ℕ) → Stands s n p fs at → length s < at → RefusedBecause s 1 at
  none_left n p fs at w h = record { n = n; before = w.before; line = header_cut; holds = omega (arith, w.here); first = λ l x. absurd (omega arith); number_is = refl; place_is = omega (arith, w.here) }

  reads : (turns : ℕ) → Reads turns
  unfolding records
  reads zero n p fs at w h = refuses Cut at (none_left n p fs at w (omega arith))
  reads (suc turns) n p fs at w h = by_record turns (reads turns) n p fs at w h (record_at s at p fs) refl

  judged : Judged s (read_plan s)
  unfolding read_plan
  judged =
      reads (suc (length s)) 0 blank_platform [] 0
      (record { here = refl; seen = record { platform = λ h. absurd (omega arith); count = refl; each = λ j h. absurd (omega arith) }; before = λ m h. absurd (omega arith) })
      (omega arith)

  -- ---- what the outcome says
  by_outcome : (r : Result Plan Refusal) → Judged s r → (fault : Fault) (pl : ℕ) → r ≡ refused fault pl → RefusedBecause s (number_of fault) pl
  unfolding refused accepted
  by_outcome r (accepts p fs v) fault pl e = absurd (let z : ◌≡◌ {A = ℕ} 0 1 = cc in omega arith)
  by_outcome r (refuses f at w) fault pl e =
      let (a, b) = same_refusal e in
      rw (← a, ← b) w

  for_reason : (r : Result Plan Refusal) → Judged s r → (fault : Fault) (pl : ℕ) → RefusedBecause s (number_of fault) pl → r ≡ refused fault pl
  for_reason r (accepts p fs v) fault pl w = absurd (not_both s w v)
  for_reason r (refuses f at v) fault pl w = let (a, b) = one_reason s v w in rw (same_fault a, b)

  -- "No refusal is given otherwise": a plan is refused exactly for the first line of the first record in fault
  pub refused_exactly : (fault : Fault) (pl : ℕ) → (read_plan s ≡ refused fault pl) ↔ RefusedBecause s (number_of fault) pl
  refused_exactly fault pl = (by_outcome (read_plan s) judged fault pl, for_reason (read_plan s) judged fault pl)

  fault_for : (r : Result Plan Refusal) → Judged s r → (number pl : ℕ) → RefusedBecause s number pl → (fault : Fault) × (number_of fault ≡ number) × (r ≡ refused fault pl)
  fault_for r (accepts p fs v) number pl w = absurd (not_both s w v)
  fault_for r (refuses f at v) number pl w = let (a, b) = one_reason s v w in (f, a, ap (refused f) b)

  -- .. whichever number is asked for: it is the number of a fault
  pub refused_for : (number pl : ℕ) → RefusedBecause s number pl → (fault : Fault) × (number_of fault ≡ number) × (read_plan s ≡ refused fault pl)
  refused_for = fault_for (read_plan s) judged

  by_acceptance : (r : Result Plan Refusal) → Judged s r → outcome r ≡ Ok tt → AcceptedBecause s
  unfolding refused accepted
  by_acceptance r (accepts p fs v) e = v
  by_acceptance r (refuses n at w) e = absurd (let z : ◌≡◌ {A = ℕ} 0 1 = cc in omega arith)

  for_none : (r : Result Plan Refusal) → Judged s r → AcceptedBecause s → outcome r ≡ Ok tt
  unfolding refused accepted
  for_none r (accepts p fs v) w = refl
  for_none r (refuses n at v) w = absurd (not_both s v w)

  -- .. and accepted exactly if no line holds of any record, the last of which is the end record
  pub accepted_faultless : (outcome (read_plan s) ≡ Ok tt) ↔ AcceptedBecause s
  accepted_faultless = (by_acceptance (read_plan s) judged, for_none (read_plan s) judged)
