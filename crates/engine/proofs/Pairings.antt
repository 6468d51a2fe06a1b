-- The loads of a pair of flows, as sums over the upstream and the downstream flows of the plan.
use Prim.Native.Nat.{ℕ, ◌+◌, ◌-◌, ◌*◌, ◌≤◌, ◌<◌, min}
use native.Mathlib.Omega.{arith}
use mathlib.Core.Path.{◌≡◌, refl, sym, ap, ◌∙◌}
use mathlib.Core.Bool.{Bool, true, false, cond, not, ◌&&◌}
use mathlib.Core.List.{List}
use lib.Dec.{ltb}
use lib.ListN.{take}
use Rattle.plan_values.specs.declared.Platform.{Platform}
use Rattle.plan_values.specs.declared.Flow.{Flow}
use Rattle.plan.specs.Legal.{flow}
use Rattle.recurrence.specs.Sums.{sum_over}
use Rattle.recurrence.specs.Recurrence.{right_side}
use Rattle.model.specs.Links.{pair_of}
use Rattle.model.specs.Latency.{latency}
use Rattle.model.specs.Interference.{direct_for, indirect_for, comes_before, upstream_for, downstream_for, those}
use Rattle.model.specs.Delays.{hits, hit_sum, buffered, allowance, weight, term, terms}
use Rattle.model.specs.declared.Method.{Method}
use Rattle.model.specs.declared.Method.TheVariants.{SB, XLWX, IBN}
use Rattle.model.proofs.Sides.{indirect_by_count}
use Rattle.model.proofs.Fits.{latency_small, latency_within, upstream_within, downstream_within}
use Rattle.pairs.specs.Scene.{Scene}
use Rattle.engine_terms.specs.Loads.{sum_to, up_part, down_part, up_load, down_load, cap_by, looked_at, term_by}
use Rattle.engine_rows.proofs.Scenes.{scene_long, scene_at, scene_flow}
use Rattle.engine_terms.proofs.Sums.{sum_same, sum_those}

-- a part that is counted only where k is direct for j
counted : (d e x y : Bool) (h c c' : ℕ) → (d ≡ true → e ≡ x) → (d ≡ true → c ≡ c') → cond (not x && y) (cond d h 0 * c) 0 ≡ cond ((d && not e) && y) (h * c') 0
counted true e x y h c c' same cost = rw (same refl, cost refl)
counted false e x y h c c' same cost = go (not x && y)
  where
    go : (b : Bool) → cond b (0 * c) 0 ≡ 0
    go true = omega arith
    go false = refl

-- the flows f and g, whose bound is R; g is direct for f
pub record Paired (p : Platform) (flows : List Flow) (count : ℕ) (m : Method) (f g : Flow) (R : ℕ) (shared places hit cost : ℕ → ℕ) : Type 0 where
  pub scene : Scene p flows count
  pub direct : direct_for p f g ≡ true
  pub has_shared : (k : ℕ) → k < count → shared k ≡ (pair_of p f (flow flows k)).count
  pub has_places : (k : ℕ) → k < count → places k ≡ (pair_of p g (flow flows k)).first
  pub has_hit : (k : ℕ) → k < looked_at m count → hit k ≡ cond (direct_for p g (flow flows k)) (hits R (flow flows k)) 0
  pub has_costs : (k : ℕ) → k < count → direct_for p g (flow flows k) ≡ true → cost k ≡ latency p (flow flows k)

module _ {p : Platform} {flows : List Flow} {count : ℕ} {m : Method} {f g : Flow} {R : ℕ} {shared places hit cost : ℕ → ℕ} (w : Paired p flows count m f g R shared places hit cost) where
  abbrev first : ℕ
  first = (pair_of p g f).first

  direct_same : (k : ℕ) → direct_for p g (flow flows k) ≡ true → direct_for p f (flow flows k) ≡ ltb 0 (pair_of p f (flow flows k)).count
  direct_same k d = indirect_by_count p f g (flow flows k) w.direct d

  -- ---- where third flows are looked at
  module _ (all : (k : ℕ) → k < count → hit k ≡ cond (direct_for p g (flow flows k)) (hits R (flow flows k)) 0) where
    up_cell : (k : ℕ) → k < count → up_load shared places hit cost first k ≡ cond (upstream_for p f g (flow flows k)) (hits R (flow flows k) * latency p (flow flows k)) 0
    unfolding up_part indirect_for comes_before
    up_cell k h =
        rw (w.has_shared k h, w.has_places k h, all k h)
        (counted (direct_for p g (flow flows k)) (direct_for p f (flow flows k)) _ _ _ _ _ (direct_same k) (w.has_costs k h))

    down_cell : (cap k : ℕ) → k < count → down_load shared places hit cost first cap k ≡ cond (downstream_for p f g (flow flows k)) (hits R (flow flows k) * min (latency p (flow flows k)) cap) 0
    unfolding down_part indirect_for comes_before
    down_cell cap k h =
        rw (w.has_shared k h, w.has_places k h, all k h)
        (counted (direct_for p g (flow flows k)) (direct_for p f (flow flows k)) _ _ _ _ _ (direct_same k) (λ d. ap (λ (c : ℕ). min c cap) (w.has_costs k h d)))

    -- a sum over cells is one over the flows of the plan
    whole : (test : Flow → Bool) (figure : Flow → ℕ) (part : ℕ → ℕ) → ((k : ℕ) → k < count → part k ≡ cond (test (flow flows k)) (figure (flow flows k)) 0) → sum_to count part ≡ sum_over (those test (take count flows)) figure
    whole test figure part same =
        let n = scene_long w.scene in
        sum_same part (λ k. cond (test (flow (take count flows) k)) (figure (flow (take count flows) k)) 0) count
        (λ k h. same k h ∙ ap (λ (x : Flow). cond (test x) (figure x) 0) (sym (scene_at w.scene k h)))
        ∙ ap (λ (m : ℕ). sum_to m (λ k. cond (test (flow (take count flows) k)) (figure (flow (take count flows) k)) 0)) (sym n)
        ∙ sum_those test figure (take count flows)

    ups : sum_to count (up_load shared places hit cost first) ≡ hit_sum (latency p) R (those (upstream_for p f g) (take count flows))
    ups = whole (upstream_for p f g) (λ k. hits R k * latency p k) _ up_cell

    downs : (cap : ℕ) → sum_to count (down_load shared places hit cost first cap) ≡ hit_sum (λ k. min (latency p k) cap) R (those (downstream_for p f g) (take count flows))
    downs cap = whole (downstream_for p f g) (λ k. hits R k * min (latency p k) cap) _ (down_cell cap)

    -- XLWX's cap is above every latency
    free_cell : (k : ℕ) → k < count → down_load shared places hit cost first 4_294_967_295 k ≡ cond (downstream_for p f g (flow flows k)) (hits R (flow flows k) * latency p (flow flows k)) 0
    free_cell k h =
        let m : min (latency p (flow flows k)) 4_294_967_295 ≡ latency p (flow flows k) = omega (arith, latency_small w.scene.legal.platform (scene_flow w.scene k h)) in
        down_cell 4_294_967_295 k h ∙ ap (λ (c : ℕ). cond (downstream_for p f g (flow flows k)) (hits R (flow flows k) * c) 0) m

    downs_free : sum_to count (down_load shared places hit cost first 4_294_967_295) ≡ hit_sum (latency p) R (those (downstream_for p f g) (take count flows))
    downs_free = whole (downstream_for p f g) (λ k. hits R k * latency p k) _ free_cell

    -- R solves g's recurrence, so the loads stay below it
    within : (bound : Flow → ℕ) (n : Method) → right_side (latency p g) (terms n p (take count flows) bound g) R ≡ R → (cap : ℕ) →
        (sum_to count (up_load shared places hit cost first) ≤ R) × (latency p g + sum_to count (down_load shared places hit cost first cap) ≤ R)
    within bound n solves cap = (
      omega (arith, ups, upstream_within p (take count flows) bound n g R solves f),
      omega (arith, downs cap, downstream_within p (take count flows) bound n g R solves f (λ k. min (latency p k) cap) (λ k. omega arith)),
    )

-- ---- the loads by the method
abbrev up_by : Method → ℕ → ℕ → (ℕ → ℕ) → (ℕ → ℕ) → (ℕ → ℕ) → (ℕ → ℕ) → ℕ
up_by m count first shared places hit cost = sum_to (looked_at m count) (up_load shared places hit cost first)

abbrev down_by : Method → ℕ → ℕ → ℕ → (ℕ → ℕ) → (ℕ → ℕ) → (ℕ → ℕ) → (ℕ → ℕ) → ℕ
down_by m count first cap shared places hit cost = sum_to (looked_at m count) (down_load shared places hit cost first cap)

pub loads_small : (p : Platform) (flows : List Flow) (count : ℕ) (m : Method) (f g : Flow) (R : ℕ) (shared places hit cost : ℕ → ℕ) → Paired p flows count m f g R shared places hit cost →
    (bound : Flow → ℕ) (n : Method) → right_side (latency p g) (terms n p (take count flows) bound g) R ≡ R → (cap : ℕ) →
    (up_by m count (pair_of p g f).first shared places hit cost ≤ R) × (latency p g + down_by m count (pair_of p g f).first cap shared places hit cost ≤ R)
unfolding sum_to
loads_small p flows count SB f g R shared places hit cost w bound n solves cap = (omega arith, omega (arith, latency_within p (take count flows) bound n g R solves))
loads_small p flows count XLWX f g R shared places hit cost w bound n solves cap = within w w.has_hit bound n solves cap
loads_small p flows count IBN f g R shared places hit cost w bound n solves cap = within w w.has_hit bound n solves cap

-- ---- the term of g in f's recurrence
pub term_is : (p : Platform) (flows : List Flow) (count : ℕ) (m : Method) (f g : Flow) (R : ℕ) (shared places hit cost : ℕ → ℕ) → Paired p flows count m f g R shared places hit cost →
    term_by m (record { shift = g.jitter; period = g.period }) R (latency p g) (up_by m count (pair_of p g f).first shared places hit cost) (down_by m count (pair_of p g f).first (cap_by m p (pair_of p f g).count) shared places hit cost)
    ≡ term m p (take count flows) R f g
unfolding sum_to term allowance weight
term_is p flows count SB f g R shared places hit cost w = λ i. record { shift = g.jitter + (R - latency p g); period = g.period; weight = none i }
  where
    none : latency p g + 0 ≡ latency p g
    none = omega arith
term_is p flows count XLWX f g R shared places hit cost w = λ i. record { shift = g.jitter + ups w w.has_hit i; period = g.period; weight = latency p g + downs_free w w.has_hit i }
term_is p flows count IBN f g R shared places hit cost w = λ i. record { shift = g.jitter + (R - latency p g); period = g.period; weight = latency p g + downs w w.has_hit (buffered p f g) i }
