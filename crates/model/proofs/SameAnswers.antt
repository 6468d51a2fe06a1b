-- A platform may have k priority flits more, and another number that asks for the method it uses: then each flow's line is that of the flow with k flits more.
-- Document 02's L7 and L6 are the two cases (PriorityFlits, Methods).
use Prim.Native.Nat.{ℕ, zero, suc, ◌+◌, ◌-◌, ◌*◌, min}
use native.Mathlib.Omega.{arith}
use mathlib.Core.Path.{◌≡◌, refl, sym, ap, ap₂, ◌∙◌}
use mathlib.Core.Bool.{Bool, true, false, cond, not, ◌&&◌}
use mathlib.Core.List.{List, [], ◌∷◌, map}
use mathlib.Core.Option.{Option, none, some}
use lib.Dec.{ltb}
use lib.ListN.{length}
use Rattle.std.proofs.lemmas.Simd.{map-map}
use Rattle.plan_values.specs.declared.Platform.{Platform}
use Rattle.plan_values.specs.declared.Flow.{Flow}
use Rattle.recurrence.specs.Recurrence.{Term, right_side}
use Rattle.recurrence.specs.ComesTo.{comes_to}
use Rattle.recurrence.specs.Sums.{sum_over}
use Rattle.model.specs.declared.Method.{Method}
use Rattle.model.specs.declared.Method.TheVariants.{SB, XLWX, IBN}
use Rattle.model.specs.declared.Verdict.{Verdict}
use Rattle.model.specs.Links.{route_of}
use Rattle.model.specs.Latency.{method_used, with_method, latency, limit}
use Rattle.model.specs.Interference.{direct_for, indirect_for, comes_before, upstream_for, downstream_for, keep, those}
use Rattle.model.specs.Delays.{hits, hit_sum, buffered, allowance, weight, term, terms}
use Rattle.model.specs.Verdicts.{bound_in, is_bounded, terms_of, holds_up, higher, highest, settled_verdict, judged, judge, verdict_below, verdict, answer_to, answers}
use Rattle.model.proofs.FlowLines.{sum_map}

-- k priority flits more, and a flow with k flits more
abbrev pub with_more : ℕ → Platform → Platform
with_more k p = record { columns = p.columns; rows = p.rows; link = p.link; routing = p.routing; buffer = p.buffer; method = p.method; priority_flits = p.priority_flits + k }

abbrev pub raised : ℕ → Flow → Flow
raised k f = record { id = f.id; priority = f.priority; source = f.source; destination = f.destination; flits = f.flits + k; period = f.period; deadline = f.deadline; jitter = f.jitter }

module _ (k m : ℕ) (p : Platform) (used : method_used (with_method m p) ≡ method_used p) where
  abbrev q : Platform
  q = with_method m (with_more k p)

  abbrev up : Flow → Flow
  up = raised k

  -- ---- C, in which alone they stand
  pub latency_same : (f : Flow) → latency q f ≡ latency p (up f)
  unfolding latency
  latency_same f =
      let n : f.flits + (p.priority_flits + k) + length (route_of p f) - 1 ≡ f.flits + k + p.priority_flits + length (route_of p f) - 1 = omega arith in
      ap (λ (m : ℕ). p.link * m + p.routing * (length (route_of p f) - 1)) n

  -- ---- who delays whom
  direct_same : (i j : Flow) → direct_for q i j ≡ direct_for p (up i) (up j)
  unfolding direct_for
  direct_same i j = refl

  upstream_same : (i j h : Flow) → upstream_for q i j h ≡ upstream_for p (up i) (up j) (up h)
  unfolding indirect_for comes_before direct_for
  upstream_same i j h = refl

  downstream_same : (i j h : Flow) → downstream_for q i j h ≡ downstream_for p (up i) (up j) (up h)
  unfolding indirect_for comes_before direct_for
  downstream_same i j h = refl

  -- ---- those that pass a test, and what they cost
  those_up : (t u : Flow → Bool) → ((f : Flow) → t f ≡ u (up f)) → (fs : List Flow) → map up (those t fs) ≡ those u (map up fs)
  unfolding those
  those_up t u same [] = refl
  those_up t u same (f ∷ fs) = rw (← same f, ← those_up t u same fs) (go (t f))
    where
      go : (b : Bool) → map up (keep b f (those t fs)) ≡ keep b (up f) (map up (those t fs))
      go true = refl
      go false = refl

  -- the one of highest priority, if there is one
  abbrev option_up : Option Flow → Option Flow
  option_up none = none
  option_up (some f) = some (up f)

  higher_up : (f g : Flow) → up (higher f g) ≡ higher (up f) (up g)
  higher_up f g = go (ltb g.priority f.priority)
    where
      go : (b : Bool) → up (cond b g f) ≡ cond b (up g) (up f)
      go true = refl
      go false = refl

  highest_up : (o : Option Flow) (l : List Flow) → option_up (highest o l) ≡ highest (option_up o) (map up l)
  unfolding highest
  highest_up none [] = refl
  highest_up (some g) [] = refl
  highest_up none (f ∷ l) = highest_up (some f) l
  highest_up (some g) (f ∷ l) = highest_up (some (higher g f)) l ∙ ap (λ h. highest (some h) (map up l)) (higher_up g f)

  cost_up : (c d : Flow → ℕ) → ((f : Flow) → c f ≡ d (up f)) → (R : ℕ) (hs : List Flow) → hit_sum c R hs ≡ hit_sum d R (map up hs)
  cost_up c d same R hs = (λ i. sum_over hs (λ h. hits R h * same h i)) ∙ sym (sum_map up (λ h. hits R h * d h) hs)

  module _ (fs : List Flow) where
    abbrev gs : List Flow
    gs = map up fs

    sum_same : (t u : Flow → Bool) → ((f : Flow) → t f ≡ u (up f)) → (c d : Flow → ℕ) → ((f : Flow) → c f ≡ d (up f)) → (R : ℕ) → hit_sum c R (those t fs) ≡ hit_sum d R (those u gs)
    sum_same t u tests c d costs R = cost_up c d costs R (those t fs) ∙ ap (hit_sum d R) (those_up t u tests fs)

    -- ---- the terms of a recurrence
    allowance_same : (m : Method) (R : ℕ) (i j : Flow) → allowance m q fs R i j ≡ allowance m p gs R (up i) (up j)
    unfolding allowance
    allowance_same SB R i j = ap (λ (c : ℕ). R - c) (latency_same j)
    allowance_same XLWX R i j = sum_same (upstream_for q i j) (upstream_for p (up i) (up j)) (upstream_same i j) (latency q) (latency p) latency_same R
    allowance_same IBN R i j = ap (λ (c : ℕ). R - c) (latency_same j)

    weight_same : (m : Method) (R : ℕ) (i j : Flow) → weight m q fs R i j ≡ weight m p gs R (up i) (up j)
    unfolding weight
    weight_same SB R i j = latency_same j
    weight_same XLWX R i j = ap₂ ◌+◌ (latency_same j) (sum_same (downstream_for q i j) (downstream_for p (up i) (up j)) (downstream_same i j) (latency q) (latency p) latency_same R)
    weight_same IBN R i j =
        ap₂ ◌+◌ (latency_same j)
        (sum_same (downstream_for q i j) (downstream_for p (up i) (up j)) (downstream_same i j)
        (λ h. min (latency q h) (buffered q i j)) (λ h. min (latency p h) (buffered p (up i) (up j))) (λ h. ap (λ (c : ℕ). min c (buffered q i j)) (latency_same h)) R)

    term_same : (m : Method) (R : ℕ) (i j : Flow) → term m q fs R i j ≡ term m p gs R (up i) (up j)
    unfolding term
    term_same m R i j x = record { shift = j.jitter + allowance_same m R i j x; period = j.period; weight = weight_same m R i j x }

    -- ---- verdicts, from the same ones of the other flows
    module _ (a b : Flow → Verdict) (same : (f : Flow) → a f ≡ b (up f)) where
      terms_same : (i : Flow) → terms_of q fs a i ≡ terms_of p gs b (up i)
      unfolding terms method_used
      terms_same i =
          let m = method_used p in
          ap (λ (n : Method). terms n q fs (λ j. bound_in (a j)) i) used
          ∙ (λ x. map (λ j. (ap (λ (v : Verdict). term m q fs (bound_in v) i j) (same j) ∙ term_same m (bound_in (b (up j))) i j) x) (those (direct_for q i) fs))
          ∙ sym (map-map (λ j. term m p gs (bound_in (b j)) (up i) j) up (those (direct_for q i) fs))
          ∙ ap (map (λ j. term m p gs (bound_in (b j)) (up i) j)) (those_up (direct_for q i) (direct_for p (up i)) (direct_same i) fs)

      holds_same : (i j : Flow) → holds_up q a i j ≡ holds_up p b (up i) (up j)
      holds_same i j = ap₂ (λ (d : Bool) (v : Verdict). d && not (is_bounded v)) (direct_same i j) (same j)

      judged_same : (i : Flow) (o : Option Flow) → judged q fs a i o ≡ judged p gs b (up i) (option_up o)
      unfolding judged
      judged_same i (some j) = refl
      judged_same i none = ap₂ (λ (c : ℕ) (ts : List Term). settled_verdict (comes_to (right_side c ts) c (limit i))) (latency_same i) (terms_same i)

      judge_same : (i : Flow) → judge q fs a i ≡ judge p gs b (up i)
      unfolding judge
      judge_same i =
          judged_same i (highest none (those (holds_up q a i) fs))
          ∙ ap (judged p gs b (up i)) (highest_up none (those (holds_up q a i) fs) ∙ ap (highest none) (those_up (holds_up q a i) (holds_up p b (up i)) (holds_same i) fs))

    below_same : (n : ℕ) (i : Flow) → verdict_below n q fs i ≡ verdict_below n p gs (up i)
    unfolding verdict_below
    below_same zero i = refl
    below_same (suc n) i = judge_same (verdict_below n q fs) (verdict_below n p gs) (below_same n) i

    pub answers_same : answers q fs ≡ answers p gs
    unfolding answers verdict
    answers_same = (λ x. map (λ i. record { id = i.id; verdict = below_same (suc i.priority) i x }) fs) ∙ sym (map-map (answer_to p gs) up fs)
