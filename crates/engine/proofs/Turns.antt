-- What is known when it is a flow's turn, and what follows of its verdict.
use Prim.Native.Nat.{ℕ, ◌≤◌, ◌<◌}
use native.Mathlib.Omega.{arith}
use mathlib.Core.Path.{◌≡◌, refl, sym, ap, ◌∙◌}
use mathlib.Core.Bool.{Bool, true, false, false≢true}
use mathlib.Core.List.{List, map, map-map}
use lib.ListN.{get_or, take}
use Rattle.std.specs.Prelude.{Option, Some, None, unwrap_or}
use Rattle.std.specs.Option.{is_none, option_map}
use Rattle.plan_values.specs.declared.Platform.{Platform}
use Rattle.plan_values.specs.declared.Flow.{Flow}
use Rattle.plan.specs.Legal.{flow}
use Rattle.recurrence.specs.declared.Settled.{Settled}
use Rattle.recurrence.specs.Recurrence.{Term, right_side}
use Rattle.recurrence.specs.Verdicts.{Bound, Allowed}
use Rattle.mesh.specs.declared.Pair.{Pair}
use Rattle.model.specs.declared.Method.{Method}
use Rattle.model.specs.declared.Method.TheVariants.{SB, XLWX, IBN}
use Rattle.model.specs.declared.Verdict.{Verdict}
use Rattle.model.specs.declared.Verdict.TheVariants.{Bounded, Late, Waits}
use Rattle.model.specs.Links.{pair_of}
use Rattle.model.specs.Latency.{method_used, latency, limit}
use Rattle.model.specs.Interference.{direct_for}
use Rattle.model.specs.Delays.{term, terms}
use Rattle.model.specs.Bounds.{bound_of}
use Rattle.model.specs.Verdicts.{bound_in, is_bounded, settled_verdict, terms_of, recurrence_of, verdict}
use Rattle.model.specs.Rules.{Unbounded, AllBounded}
use Rattle.model.proofs.Judged.{direct_above, says_settled, says_once}
use Rattle.model.proofs.Verdicts.{verdict_says}
use Rattle.model.proofs.Fits.{latency_small, limit_period, bound_said, bound_within, either, terms_fair}
use Rattle.engine_costs.specs.declared.figures.Figures.{Figures}
use Rattle.engine_terms.specs.declared.kept.Kept.{Kept}
use Rattle.engine_terms.specs.declared.terms.Way.{Way}
use Rattle.engine_terms.specs.Loads.{sum_to, up_load, down_load, way_of, cap_by, looked_at, term_by}
use Rattle.engine_terms.specs.Kept.{kept_at, cost_at, bound_at, arrivals_at, hits_at, third_at, seen_at, pair_at, up_of, down_of}
use Rattle.engine_terms.proofs.Thirds.{third_idle}
use Rattle.engine_rows.specs.Places.{Listed}
use Rattle.engine_rows.specs.Search.{HighestNamed}
use Rattle.engine_rows.proofs.Scenes.{scene_long, scene_at, scene_flow}
use Rattle.engine_rows.proofs.Places.{At, listed_inside, listed_where, listed_flows, map_along, sum_listed}
use Rattle.engine_solve.specs.declared.turn.Turn.{Turn}
use Rattle.engine_solve.specs.Solving.{term_at, within, Lawful, Solvable}
use Rattle.engine.specs.Working.{bound_for, many_for, Keeps, Turned}
use Rattle.engine.proofs.Pairings.{Paired, loads_small, term_is}

-- a sum along a list, as the method looks at it
sum_looked : (m : Method) {test : ℕ → Bool} {count : ℕ} {cells : List ℕ} {n : ℕ} → Listed test count cells n → (f : ℕ → ℕ) → ((k : ℕ) → k < looked_at m count → test k ≡ false → f k ≡ 0) → sum_to (looked_at m n) (λ q. f (get_or cells q 0)) ≡ sum_to (looked_at m count) f
unfolding sum_to
sum_looked SB w f none = refl
sum_looked XLWX w f none = sum_listed w f none
sum_looked IBN w f none = sum_listed w f none

looked_few : (m : Method) (n : ℕ) → looked_at m n ≤ n
looked_few SB n = omega arith
looked_few XLWX n = omega arith
looked_few IBN n = omega arith

-- a verdict's bound, as an option and as a number
pub bound_unwrapped : (v : Verdict) → unwrap_or (bound_of v) 0 ≡ bound_in v
bound_unwrapped (Bounded r k) = refl
bound_unwrapped (Late k) = refl
bound_unwrapped (Waits id) = refl

none_unbounded : (v : Verdict) → is_none (bound_of v) ≡ true → is_bounded v ≡ false
none_unbounded (Bounded r k) e = absurd (false≢true e)
none_unbounded (Late k) e = refl
none_unbounded (Waits id) e = refl

unbounded_none : (v : Verdict) → is_bounded v ≡ false → is_none (bound_of v) ≡ true
unbounded_none (Bounded r k) e = absurd (false≢true (sym e))
unbounded_none (Late k) e = refl
unbounded_none (Waits id) e = refl

module _ {p : Platform} {flows : List Flow} {count i : ℕ} {turn : Turn} {kept : List Kept} {table : List (List Pair)} (w : Turned p flows count i turn kept table) where
  abbrev ask : Flow → Verdict
  ask = verdict p (take count flows)

  -- the flow that the list names there
  abbrev at : ℕ → ℕ
  at m = get_or turn.row.direct m 0

  module _ (m : ℕ) (h : m < turn.row.many) where
    pub here : at m < count
    here = (listed_inside w.its.names m h).0

    direct_here : direct_for p (flow flows i) (flow flows (at m)) ≡ true
    direct_here = (listed_inside w.its.names m h).1

    above : (flow flows (at m)).priority < (flow flows i).priority
    above = direct_above p (flow flows i) (flow flows (at m)) direct_here

    pub kept_here : Keeps p flows count (at m) (kept_at kept (at m))
    kept_here = w.known.cell (at m) here above

    bound_here : bound_at kept (at m) ≡ bound_of (ask (flow flows (at m)))
    bound_here = ap (λ (f : Figures). f.bound) kept_here.figures

  -- ---- the flow that keeps this one waiting
  abbrev passes : ℕ → Bool
  passes j = is_none (bound_at kept j)

  passes_unbounded : (m : ℕ) → m < turn.row.many → passes (at m) ≡ true → Unbounded p (take count flows) ask (flow flows i) (at m)
  passes_unbounded m h e =
      let u = none_unbounded (ask (flow flows (at m))) (ap is_none (sym (bound_here m h)) ∙ e) in
      record { inside = omega (arith, scene_long w.scene, here m h); direct = rw (scene_at w.scene (at m) (here m h)) (direct_here m h); unbounded = rw (scene_at w.scene (at m) (here m h)) u }

  record Passing (k : ℕ) : Type 0 where
    pub at : At turn.row.direct turn.row.many k
    pub passes_there : passes (get_or turn.row.direct at.place 0) ≡ true
    pub low : k < count

  unbounded_passes : (k : ℕ) → Unbounded p (take count flows) ask (flow flows i) k → Passing k
  unbounded_passes k u =
      let h : k < count = omega (arith, scene_long w.scene, u.inside) in
      let d = rw (scene_at w.scene k h) at u.direct in
      let b = rw (scene_at w.scene k h) at u.unbounded in
      let a = listed_where w.its.names k h d in
      let g = w.known.cell k h (direct_above p (flow flows i) (flow flows k) d) in
      let z : passes (get_or turn.row.direct a.place 0) ≡ true = ap passes a.is ∙ ap (λ (f : Figures). is_none f.bound) g.figures ∙ unbounded_none (ask (flow flows k)) b in
      record { at = a; passes_there = z; low = h }

  module _ {best : Option ℕ} (s : HighestNamed passes (λ j. (flow flows j).priority) turn.row.direct turn.row.many best) where
    module _ (j : ℕ) (e : best ≡ Some j) where
      -- where it stands in the list
      record Named : Type 0 where
        pub place : ℕ
        pub found : s.place ≡ Some place
        pub is : at place ≡ j

      named : Named
      named = go s.place refl
        where
          go : (o : Option ℕ) → s.place ≡ o → Named
          go None q = let z : ◌≡◌ {A = Option ℕ} None (Some j) = sym (ap (option_map at) q) ∙ sym s.there ∙ e in cc
          go (Some m) q = let z : ◌≡◌ {A = Option ℕ} (Some (at m)) (Some j) = sym (ap (option_map at) q) ∙ sym s.there ∙ e in record { place = m; found = q; is = cc }

      pub waits_inside : j < count
      waits_inside = let n = named in rw (sym n.is) (here n.place (s.highest.found n.place n.found).0)

      pub waits : Waits (flow flows j).id ≡ ask (flow flows i)
      waits =
          let n = named in
          let f = s.highest.found n.place n.found in
          let b = here n.place f.0 in
          rw (sym n.is) (says_once p (take count flows) ask (flow flows i) w.scene.legal _ _
          (record {
            place = at n.place;
            waits = passes_unbounded n.place f.0 f.1;
            names = ap (λ (x : Flow). x.id) (sym (scene_at w.scene (at n.place) b));
            highest = λ k u.
                let q = unbounded_passes k u in
                let l = s.highest.least n.place n.found q.at.place q.at.low q.passes_there in
                rw (scene_at w.scene (at n.place) b, scene_at w.scene k q.low, ← q.at.is) l;
          })
          (verdict_says p (take count flows) (flow flows i)))

    pub free : best ≡ None → AllBounded p (take count flows) ask (flow flows i)
    free e k u = let q = unbounded_passes k u in s.highest.none (nowhere s.place refl) q.at.place q.at.low q.passes_there
      where
        nowhere : (o : Option ℕ) → s.place ≡ o → s.place ≡ None
        nowhere None q = q
        nowhere (Some m) q = let z : ◌≡◌ {A = Option ℕ} (Some (at m)) None = sym (ap (option_map at) q) ∙ sym s.there ∙ e in cc

  -- ---- no flow keeps it waiting: its direct flows are bounded
  module _ (all : AllBounded p (take count flows) ask (flow flows i)) where
    module _ (m : ℕ) (h : m < turn.row.many) where
      abbrev j : ℕ
      j = at m

      abbrev R : ℕ
      R = bound_for p flows count (flow flows j)

      bounded : is_bounded (ask (flow flows j)) ≡ true
      bounded = either (ask (flow flows j)) (λ u. all j (record { inside = omega (arith, scene_long w.scene, here m h); direct = rw (scene_at w.scene j (here m h)) (direct_here m h); unbounded = rw (scene_at w.scene j (here m h)) u }))

      bound_is : Bound (recurrence_of p (take count flows) ask (flow flows j)) (limit (flow flows j)) R
      bound_is = bound_said p (take count flows) ask (flow flows j) (ask (flow flows j)) bounded (verdict_says p (take count flows) (flow flows j))

      bound_small : R ≤ 1_000_000_000
      bound_small = (bound_within p (take count flows) ask (flow flows j) (scene_flow w.scene j (here m h)) R bound_is).1

      within_is : within kept j ≡ R
      within_is = ap (λ (o : Option ℕ). unwrap_or o 0) (bound_here m h) ∙ bound_unwrapped (ask (flow flows j))

      paired : Paired p flows count (method_used p) (flow flows i) (flow flows j) R (λ k. (pair_at table i k).count) (λ k. (pair_at table j k).first) (hits_at kept j) (cost_at kept)
      paired = record {
        scene = w.scene;
        direct = direct_here m h;
        has_shared = λ k l. ap (λ (x : Pair). x.count) (w.pairs.cell i k w.inside l);
        has_places = λ k l. ap (λ (x : Pair). x.first) (w.pairs.cell j k (here m h) l);
        has_hit = (kept_here m h).hits.cell;
        has_costs = λ k l d. ap (λ (f : Figures). f.cost) (w.known.cell k l (omega (arith, above m h, direct_above p (flow flows j) (flow flows k) d))).figures;
      }

      lists_here : Listed (λ k. direct_for p (flow flows j) (flow flows k)) count (kept_at kept j).direct (many_for p flows count (flow flows j))
      lists_here = (kept_here m h).lists

      -- what a flow that is not direct for j brings
      idle : (k : ℕ) → k < looked_at (method_used p) count → direct_for p (flow flows j) (flow flows k) ≡ false → hits_at kept j k ≡ 0
      idle k l e = (kept_here m h).hits.cell k l ∙ rw e

      seen_here : seen_at kept j ≡ looked_at (method_used p) (many_for p flows count (flow flows j))
      seen_here = ap (λ (f : Figures). f.seen) (kept_here m h).figures

      first_here : (pair_at table j i).first ≡ (pair_of p (flow flows j) (flow flows i)).first
      first_here = ap (λ (x : Pair). x.first) (w.pairs.cell j i (here m h) w.inside)

      abbrev up_load_here : ℕ → ℕ
      up_load_here = up_load (λ k. (pair_at table i k).count) (λ k. (pair_at table j k).first) (hits_at kept j) (cost_at kept) (pair_at table j i).first

      abbrev down_load_here : ℕ → ℕ → ℕ
      down_load_here = down_load (λ k. (pair_at table i k).count) (λ k. (pair_at table j k).first) (hits_at kept j) (cost_at kept) (pair_at table j i).first

      ups_are : sum_to (seen_at kept j) (λ q. up_load_here (third_at kept j q)) ≡ sum_to (looked_at (method_used p) count) up_load_here
      ups_are = rw seen_here (sum_looked (method_used p) lists_here up_load_here (λ k l e. (third_idle (pair_at table i k).count (pair_at table j k).first (pair_at table j i).first 0 (hits_at kept j k) (cost_at kept k) (idle k l e)).0))

      downs_are : (cap : ℕ) → sum_to (seen_at kept j) (λ q. down_load_here cap (third_at kept j q)) ≡ sum_to (looked_at (method_used p) count) (down_load_here cap)
      downs_are cap = rw seen_here (sum_looked (method_used p) lists_here (down_load_here cap) (λ k l e. (third_idle (pair_at table i k).count (pair_at table j k).first (pair_at table j i).first cap (hits_at kept j k) (cost_at kept k) (idle k l e)).1))

    module _ (m : ℕ) (h : m < turn.row.many) where
      abbrev method : Method
      method = method_used p

      abbrev first : ℕ
      first = (pair_of p (flow flows (at m)) (flow flows i)).first

      abbrev shared : ℕ → ℕ
      shared k = (pair_at table i k).count

      abbrev places_there : ℕ → ℕ
      places_there k = (pair_at table (at m) k).first

      arrivals_here : arrivals_at kept (at m) ≡ record { shift = (flow flows (at m)).jitter; period = (flow flows (at m)).period }
      arrivals_here = ap (λ (f : Figures). f.arrivals) (kept_here m h).figures

      cost_here : cost_at kept (at m) ≡ latency p (flow flows (at m))
      cost_here = ap (λ (f : Figures). f.cost) (kept_here m h).figures

      ups_here : up_of kept table i (at m) ≡ sum_to (looked_at method count) (up_load shared places_there (hits_at kept (at m)) (cost_at kept) first)
      ups_here = ups_are m h ∙ ap (λ (x : ℕ). sum_to (looked_at method count) (up_load shared places_there (hits_at kept (at m)) (cost_at kept) x)) (first_here m h)

      downs_here : (cap : ℕ) → down_of kept table i (at m) cap ≡ sum_to (looked_at method count) (down_load shared places_there (hits_at kept (at m)) (cost_at kept) first cap)
      downs_here cap = downs_are m h cap ∙ ap (λ (x : ℕ). sum_to (looked_at method count) (down_load shared places_there (hits_at kept (at m)) (cost_at kept) x cap)) (first_here m h)

      cap_here : cap_by method p (shared (at m)) ≡ cap_by method p (pair_of p (flow flows i) (flow flows (at m))).count
      cap_here = ap (λ (x : Pair). cap_by method p x.count) (w.pairs.cell i (at m) w.inside (here m h))

      term_here : term_at (way_of p) i kept table (at m) ≡ term method p (take count flows) (bound_for p flows count (flow flows (at m))) (flow flows i) (flow flows (at m))
      term_here =
          let down = downs_here (cap_by method p (shared (at m))) ∙ ap (λ (x : ℕ). sum_to (looked_at method count) (down_load shared places_there (hits_at kept (at m)) (cost_at kept) first x)) cap_here in
          let same : term_at (way_of p) i kept table (at m) ≡ term_by method (record { shift = (flow flows (at m)).jitter; period = (flow flows (at m)).period }) (bound_for p flows count (flow flows (at m))) (latency p (flow flows (at m)))
          (sum_to (looked_at method count) (up_load shared places_there (hits_at kept (at m)) (cost_at kept) first))
          (sum_to (looked_at method count) (down_load shared places_there (hits_at kept (at m)) (cost_at kept) first (cap_by method p (pair_of p (flow flows i) (flow flows (at m))).count))) =
          λ t. term_by method (arrivals_here t) (within_is m h t) (cost_here t) (ups_here t) (down t) in
          same ∙ term_is p flows count method (flow flows i) (flow flows (at m)) (bound_for p flows count (flow flows (at m))) shared places_there (hits_at kept (at m)) (cost_at kept) (paired m h)

      lawful : Lawful (way_of p) i kept table (at m)
      lawful =
          let k = at m in
          let f = scene_flow w.scene k (here m h) in
          let s = loads_small p flows count method (flow flows i) (flow flows k) (bound_for p flows count (flow flows k)) shared places_there (hits_at kept k) (cost_at kept) (paired m h) (λ g. bound_in (ask g)) method (bound_is m h).solves (cap_by method p (shared k)) in
          let few = looked_few method (many_for p flows count (flow flows k)) in
          let l = lists_here m h in
          record {
            inside = omega (arith, here m h, w.scene.few);
            seen = omega (arith, seen_here m h, few, l.few, l.small);
            thirds = λ q less. omega (arith, listed_inside l q (omega (arith, seen_here m h, few)), w.scene.few);
            arrivals = rw (arrivals_here) (omega (arith, f.jitter, f.period));
            bound = omega (arith, within_is m h, bound_small m h);
            up = omega (arith, within_is m h, ups_here, s.0);
            down = omega (arith, within_is m h, cost_here, downs_here (cap_by method p (shared k)), s.1);
          }

    terms_are : map (term_at (way_of p) i kept table) (take turn.row.many turn.row.direct) ≡ terms_of p (take count flows) ask (flow flows i)
    unfolding terms
    terms_are =
        let wanted : Flow → Term = λ g. term (method_used p) p (take count flows) (bound_for p flows count g) (flow flows i) g in
        let n = w.its.names in
        map_along (term_at (way_of p) i kept table) (λ k. wanted (flow flows k)) turn.row.direct turn.row.many (omega (arith, n.small, n.few, n.room)) term_here
        ∙ sym (map-map wanted (flow flows) (take turn.row.many turn.row.direct))
        ∙ ap (map wanted) (listed_flows flows (direct_for p (flow flows i)) (omega (arith, w.scene.few, w.scene.room)) n)

    pub solvable : {way : Way} → way ≡ way_of p → Solvable way turn kept table
    solvable ew =
        let f = scene_flow w.scene i w.inside in
        let b : limit (flow flows i) ≤ (flow flows i).period = limit_period f in
        rw ew (record {
          inside = omega (arith, w.its.place, w.inside, w.scene.few);
          latency = omega (arith, w.its.cost, latency_small w.scene.legal.platform f);
          window = omega (arith, w.its.limit, f.period);
          each = rw w.its.place lawful;
          fair = rw (w.its.place, terms_are) (terms_fair p (take count flows) w.scene.legal ask (flow flows i) (λ k l d. verdict_says p (take count flows) (flow (take count flows) k)) all);
        })

    pub solved : {way : Way} {o : Settled} {v : Verdict} → way ≡ way_of p → Allowed (right_side turn.cost (map (term_at way turn.place kept table) (take turn.row.many turn.row.direct))) turn.cost turn.limit o → v ≡ settled_verdict o → v ≡ ask (flow flows i)
    solved {o = o} ew a ev =
        ev ∙ says_once p (take count flows) ask (flow flows i) w.scene.legal _ _
        (says_settled p (take count flows) ask (flow flows i) all o (rw (ew, w.its.place, terms_are, w.its.cost, w.its.limit) at a))
        (verdict_says p (take count flows) (flow flows i))
