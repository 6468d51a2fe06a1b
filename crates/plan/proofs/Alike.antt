-- Byte strings that begin alike are read alike, up to the place where they may differ.
use Rattle.plan.specs.declared.Plan.{Plan}
use Prim.Native.Nat.{ℕ, zero, suc, ◌+◌, ◌-◌, ◌*◌, ◌≤◌, ◌<◌}
use native.Mathlib.Omega.{arith}
use native.Mathlib.Decide.{ℕ_discrete}
use mathlib.Core.Path.{◌≡◌, refl, sym, ap, ap₂, subst, ◌∙◌}
use mathlib.Core.Bool.{Bool, true, false}
use mathlib.Core.List.{List, [], ◌∷◌, ◌++◌}
use lib.ListN.{length}
use lib.Dec.{eqb}
use borrow.Author.Tests.{eqb-true, lt-ltb, le-ltb}
use Rattle.framing.specs.First.{◌when◌else◌}
use Rattle.framing_numbers.specs.Numbers.{one_at, two_at, bytes_of, number_at}
use Rattle.framing.specs.Header.{tag_at, length_at, is_body_cut}
use Rattle.framing_numbers.specs.declared.Width.{Width}
use Rattle.framing_numbers.specs.declared.Width.TheVariants.{One, Two, Four}
use Rattle.plan_table.specs.Table.{tag_of, six_or_seven, body_length, fields_of, width}
use Rattle.plan_values.specs.Values.{priority_flits_at, platform_at, flow_at, blank_platform}
use Rattle.plan_checks.specs.Checks.{limits_at}
use Rattle.plan_checks.specs.Checks.{is_wrong_length, header_at, tagged_at, frame_at, clash_at, tail_at, rest_at}
use Rattle.plan.specs.Records.{fields_from, ◌then◌, body_at, record_at}
use Rattle.plan.specs.Reading.{records, read_plan}
use Rattle.plan.specs.Layout.{place}
use Rattle.plan_values.specs.declared.Platform.{Platform}
use Rattle.plan_values.specs.declared.Flow.{Flow}
use Rattle.std.specs.Prelude.{Result, Ok, Err, Some, None, Option}
use Rattle.framing.specs.declared.returned.Refusal.{Refusal}
use Rattle.framing.specs.declared.returned.Fault.TheVariants.{Cut, WrongLength}
use Rattle.plan_table.specs.declared.Field.{Field}
use Rattle.plan_table.specs.declared.Kind.{Kind}
use Rattle.plan_table.specs.declared.Kind.TheVariants.{PlatformRecord, FlowRecord, EndRecord}
use Rattle.plan_checks.specs.declared.Limits.{Limits}
use Rattle.plan.proofs.Order.{flow_room, platform_first, others_later, fine, fault_ends, platform_leads, flow_leads, end_accepts}
use Rattle.plan_table.proofs.Lengths.{at_most_seven, size_of, filled}
use Rattle.plan.proofs.Growth.{longer}
use Rattle.plan.proofs.Fuel.{turns_enough}

body_small : (kind : Kind) (told : ℕ) → body_length kind told ≤ 20
body_small PlatformRecord told = omega (arith, at_most_seven told)
body_small FlowRecord told = omega arith
body_small EndRecord told = omega arith

-- two byte strings that agree on their first bytes, up to place m behind a platform record that is no longer than this
module _ (s u : List ℕ) (size m : ℕ) (fits : length_at s 0 ≡ six_or_seven (length_at s 0) → length_at s 0 ≤ size) (agree : (i : ℕ) → i < place size m → one_at s i ≡ one_at u i) (ls : place size m ≤ length s) (lu : place size m ≤ length u) where
  two : (i : ℕ) → i + 2 ≤ place size m → two_at s i ≡ two_at u i
  two i l = ap₂ (λ a b. 256 * a + b) (agree i (omega arith)) (agree (i + 1) (omega arith))

  number : (w : Width) (i : ℕ) → i + bytes_of w ≤ place size m → number_at s w i ≡ number_at u w i
  number One i l = agree i (omega arith)
  number Two i l = two i l
  number Four i l = ap₂ (λ a b. 65536 * a + b) (two i (omega arith)) (two (i + 2) (omega arith))

  module _ (at : ℕ) (h : at + 23 ≤ place size m) where
    told : length_at s at ≡ length_at u at
    told = two (at + 1) (omega arith)

    -- the body's check depends on the length, which by then is the tag's
    body : (kind : Kind) (next : Result Kind Refusal) → (Err (WrongLength, at + 1) when is_wrong_length s at kind else Err (Cut, at) when is_body_cut s at else next) ≡ (Err (WrongLength, at + 1) when is_wrong_length u at kind else Err (Cut, at) when is_body_cut u at else next)
    unfolding ◌when◌else◌
    body kind next = go (eqb (length_at u at) (body_length kind (length_at u at))) refl
      where
        go : (b : Bool) → eqb (length_at u at) (body_length kind (length_at u at)) ≡ b → (Err (WrongLength, at + 1) when is_wrong_length s at kind else Err (Cut, at) when is_body_cut s at else next) ≡ (Err (WrongLength, at + 1) when is_wrong_length u at kind else Err (Cut, at) when is_body_cut u at else next)
        go true e =
            let d = eqb-true (length_at u at) (body_length kind (length_at u at)) e in
            let k = body_small kind (length_at u at) in
            rw (told, e, le-ltb (length s - (at + 3)) (length_at u at) (omega arith), le-ltb (length u - (at + 3)) (length_at u at) (omega arith))
        go false e = rw (told, e)

    tagged : (t : Option Kind) (count : ℕ) → tagged_at s at t count ≡ tagged_at u at t count
    unfolding tagged_at header_at
    tagged None count = refl
    tagged (Some kind) count = rw (body kind)

    frame : (count : ℕ) → frame_at s at count ≡ frame_at u at count
    unfolding frame_at ◌when◌else◌
    frame count = rw (le-ltb (length s - at) 3 (omega arith), le-ltb (length u - at) 3 (omega arith), agree at (omega arith)) (tagged (tag_of (tag_at u at)) count)

    fields : (kind : Kind) (l : Limits) (offset : ℕ) (fs : List Field) → offset + size_of fs ≤ 23 → fields_from s at kind l offset fs ≡ fields_from u at kind l offset fs
    unfolding fields_from
    fields kind l offset [] w = refl
    fields kind l offset (f ∷ fs) w = rw (number (width f) (at + offset) (omega arith), fields kind l (offset + bytes_of (width f)) fs (omega arith))

    flow : flow_at s at ≡ flow_at u at
    flow i = record {
      id = number Two (at + 3) (omega arith) i;
      priority = number Two (at + 5) (omega arith) i;
      source = number One (at + 7) (omega arith) i;
      destination = number One (at + 8) (omega arith) i;
      flits = number Two (at + 9) (omega arith) i;
      period = number Four (at + 11) (omega arith) i;
      deadline = number Four (at + 15) (omega arith) i;
      jitter = number Four (at + 19) (omega arith) i;
    }

    platform : platform_at s at ≡ platform_at u at
    unfolding priority_flits_at
    platform i = record {
      columns = agree (at + 3) (omega arith) i;
      rows = agree (at + 4) (omega arith) i;
      link = agree (at + 5) (omega arith) i;
      routing = agree (at + 6) (omega arith) i;
      buffer = agree (at + 7) (omega arith) i;
      method = agree (at + 8) (omega arith) i;
      priority_flits = ap₂ (λ (b n : ℕ). b when eqb n 7 else 0) (agree (at + 9) (omega arith)) told i;
    }

    limits : (kind : Kind) (p : Platform) → limits_at s at kind p ≡ limits_at u at kind p
    limits PlatformRecord p = refl
    limits FlowRecord p = ap (λ (f : Flow). record { nodes = p.columns * p.rows; period = f.period }) flow
    limits EndRecord p = refl

    rest : (kind : Kind) (ids priorities : List ℕ) → rest_at s at kind ids priorities ≡ rest_at u at kind ids priorities
    unfolding rest_at tail_at
    rest PlatformRecord ids priorities = refl
    rest FlowRecord ids priorities = ap (λ (f : Flow). clash_at at f ids priorities) flow
    rest EndRecord ids priorities = rw (lt-ltb (at + 3) (length s) (omega arith), lt-ltb (at + 3) (length u) (omega arith))

    behind : (c : Result Kind Refusal) (p : Platform) (fs : List Flow) → body_at s at c p fs ≡ body_at u at c p fs
    unfolding body_at
    behind (Err refusal) p fs = refl
    behind (Ok kind) p fs =
        ap₂ ◌then◌
        (ap₂ (λ (l : Limits) (n : ℕ). fields_from s at kind l 3 (fields_of kind n)) (limits kind p) told ∙ fields kind (limits_at u at kind p) 3 (fields_of kind (length_at u at)) (omega (arith, filled kind (length_at u at), body_small kind (length_at u at))))
        (rest kind _ _)

    same_record : (p : Platform) (fs : List Flow) → record_at s at p fs ≡ record_at u at p fs
    unfolding record_at
    same_record p fs = ap (λ (c : Result Kind Refusal). body_at s at c p fs) (frame (length fs)) ∙ behind (frame_at u at (length fs)) p fs

  -- where a reading stands, with turns left for the records up to place m: at the first record, or behind some flows
  data Stands (fs : List Flow) (at turns : ℕ) : Type 0 where
    start : at ≡ 0 → fs ≡ [] → suc m < turns → Stands fs at turns
    going : length_at s 0 ≤ size → at ≡ place (length_at s 0) (length fs) → length fs ≤ m → length fs ≤ 64 → m < turns + length fs → Stands fs at turns

  -- both come to the same, or both get as far as place m with the same platform and the same m flows
  pub data Alike : Result Plan Refusal → Result Plan Refusal → Type 0 where
    same : {x y : Result Plan Refusal} → x ≡ y → Alike x y
    arrived : (turns : ℕ) (p : Platform) (fs : List Flow) → length fs ≡ m → length fs ≤ 64 → Alike (records (suc turns) s (place (length_at s 0) m) p fs) (records (suc turns) u (place (length_at s 0) m) p fs)

  abbrev Before : ℕ → Type 0
  Before turns = (p : Platform) (fs : List Flow) (at : ℕ) → Stands fs at turns → Alike (records turns s at p fs) (records turns u at p fs)

  module _ (turns : ℕ) (more : Before turns) (p : Platform) (fs : List Flow) (at : ℕ) (h : at + 23 ≤ place size m) (less : length fs < m) where
    by_record : Stands fs at (suc turns) → (c : Result Kind Refusal) → record_at s at p fs ≡ c → record_at u at p fs ≡ c → Alike (records (suc turns) s at p fs) (records (suc turns) u at p fs)
    by_record w (Err refusal) e d = same (fault_ends s at p fs turns e ∙ sym (fault_ends u at p fs turns d))
    by_record (start z n t) (Ok PlatformRecord) e d =
        let o : length fs ≡ 0 = ap length n in
        let f = (fine s at p fs e).frame in
        let first : length_at s at ≡ length_at s 0 = ap (length_at s) z in
        let small : length_at s 0 ≤ size = fits (subst (λ (n : ℕ). n ≡ six_or_seven n) first f.size) in
        rw (platform_leads s at p fs turns e, platform_leads u at p fs turns d, ← platform at h, ← told at h)
        (more (platform_at s at) fs (at + 3 + length_at s at) (going small (omega arith) (omega arith) (omega arith) (omega arith)))
    by_record (going small z l few t) (Ok PlatformRecord) e d = let o = platform_first (fine s at p fs e).frame in absurd (omega arith)
    by_record (start z n t) (Ok FlowRecord) e d = absurd (others_later FlowRecord refl (fine s at p fs e).frame z)
    by_record (going small z l few t) (Ok FlowRecord) e d =
        let r = flow_room (fine s at p fs e).frame refl in
        let o = longer fs (flow_at s at) in
        rw (flow_leads s at p fs turns e, flow_leads u at p fs turns d, ← flow at h)
        (more p (fs ++ flow_at s at ∷ []) (at + 23) (going small (omega arith) (omega arith) (omega arith) (omega arith)))
    by_record w (Ok EndRecord) e d = same (end_accepts s at p fs turns e ∙ sym (end_accepts u at p fs turns d))

    next : Stands fs at (suc turns) → Alike (records (suc turns) s at p fs) (records (suc turns) u at p fs)
    next w = by_record w (record_at s at p fs) refl (sym (same_record at h p fs))

  module _ (some : 0 < m) where
    behind_flows : (turns : ℕ) → Before turns → (p : Platform) (fs : List Flow) (at : ℕ) → Stands fs at (suc turns) → length_at s 0 ≤ size → at ≡ place (length_at s 0) (length fs) → length fs ≤ m → length fs ≤ 64 → Alike (records (suc turns) s at p fs) (records (suc turns) u at p fs)
    behind_flows turns more p fs at w small z l few = go (ℕ_discrete (length fs) m)
      where
        go : Dec (length fs ≡ m) → Alike (records (suc turns) s at p fs) (records (suc turns) u at p fs)
        go (yes e) = let o : at ≡ place (length_at s 0) m = omega arith in rw o (arrived turns p fs e few)
        go (no d) = next turns more p fs at (omega arith) (omega arith) w

    before : (turns : ℕ) → Before turns
    before zero p fs at (start z n t) = absurd (omega arith)
    before zero p fs at (going small z l few t) = absurd (omega arith)
    before (suc turns) p fs at (start z n t) = next turns (before turns) p fs at (omega arith) (omega (arith, ap length n)) (start z n t)
    before (suc turns) p fs at (going small z l few t) = behind_flows turns (before turns) p fs at (going small z l few t) small z l few

    pub alike : Alike (read_plan s) (read_plan u)
    alike =
        let n : length u + suc (length s) ≡ length s + suc (length u) = omega arith in
        rw (← turns_enough s (length u), ← turns_enough u (length s), ← n)
        (before (length u + suc (length s)) blank_platform [] 0 (start refl refl (omega arith)))
