-- The loop of `analyse_table`: the flows up to a priority are answered.
use Prim.Native.Nat.{ℕ, ◌+◌, ◌-◌, ◌≤◌, ◌<◌}
use native.Mathlib.Omega.{arith}
use native.Mathlib.Decide.{dec_lt, ℕ_discrete}
use mathlib.Core.Path.{◌≡◌, refl, sym, ap, subst, ◌∙◌}
use mathlib.Core.Bool.{Bool, true, false, cond}
use mathlib.Core.List.{List, [], map}
use lib.Dec.{ltb}
use lib.ListN.{length, get_or, take, set, replicate, length-set, length-map, get_or-replicate}
use native.Mathlib.Nat.{le_refl}
use lib.Seq.{length-take-le, ext_get_or, get_or-set_same, get_or-set_other, get_or-take}
use borrow.Author.Tests.{lt-ltb, ltb-true}
use Rattle.std.specs.Prelude.{Option, Some, None, unwrap_or}
use Rattle.plan_values.specs.declared.Platform.{Platform}
use Rattle.plan_values.specs.declared.Flow.{Flow}
use Rattle.plan.specs.Legal.{LegalPlatform, LegalFlow, flow}
use Rattle.plan.proofs.Padding.{length_padded, padded_behind}
use Rattle.recurrence.specs.Rounding.{up}
use Rattle.mesh.specs.declared.Pair.{Pair}
use Rattle.model.specs.declared.Method.{Method}
use Rattle.model.specs.declared.Method.TheVariants.{SB, XLWX, IBN}
use Rattle.model.specs.declared.Verdict.{Verdict}
use Rattle.model.specs.declared.Verdict.TheVariants.{Bounded, Late, Waits}
use Rattle.model.specs.declared.Answer.{Answer}
use Rattle.model.specs.Links.{route_of}
use Rattle.model.specs.Latency.{method_used, limit}
use Rattle.model.specs.Interference.{direct_for}
use Rattle.model.specs.Delays.{hits as hits_of}
use Rattle.model.specs.Bounds.{bound_of}
use Rattle.engine_costs.specs.declared.figures.Figures.{Figures}
use Rattle.engine_costs.specs.Figures.{figures_of}
use Rattle.model.specs.Verdicts.{bound_in, verdict, answer_to, answers}
use Rattle.model.specs.Rules.{Says}
use Rattle.model.proofs.Judged.{direct_above, same_place}
use Rattle.model.proofs.Verdicts.{verdict_says}
use Rattle.model.proofs.Fits.{limit_period}
use Rattle.pairs.specs.Pairs.{no_pair, pair_table}
use Rattle.pairs.specs.Scene.{Scene}
use Rattle.pairs.proofs.Cells.{filled_cell}
use Rattle.engine_terms.specs.declared.kept.Kept.{Kept}
use Rattle.engine_terms.specs.declared.terms.Way.{Way}
use Rattle.engine_terms.specs.Loads.{looked_at, way_of}
use Rattle.engine_terms.specs.Kept.{arrivals_at}
use Rattle.engine_rows.specs.declared.row.Row.{Row}
use Rattle.engine_rows.specs.Filled.{Filled}
use Rattle.engine_rows.specs.Places.{Listed, Dealt}
use Rattle.engine_rows.specs.Rows.{Rowed}
use Rattle.engine_rows.specs.Search.{Highest}
use Rattle.engine_rows.proofs.Placing.{set_cell}
use Rattle.engine_rows.proofs.Places.{listed_inside, listed_long, listed_same, dealt_cell}
use Rattle.engine_rows.proofs.Scenes.{scene_long, scene_at, scene_flow, own_length, row_read}
use Rattle.engine_solve.specs.declared.turn.Turn.{Turn}
use Rattle.model.specs.Answers.{blank_answer, answer_array}
use Rattle.engine.specs.Working.{bound_for, hits_on, Below, Keeps, Known, HasPairs, TurnOf, Turned}
use Rattle.engine.proofs.Turns.{bound_unwrapped}

-- ---- the pair table, and a flow that comes to its turn
pub has_pairs : {p : Platform} {flows : List Flow} {count : ℕ} {table : List (List Pair)} → Scene p flows count → table ≡ pair_table p (take count flows) → HasPairs p flows count table
has_pairs s e = record { cell = λ i k h g. (row_read s e i [] h).cell k g }

module _ {p : Platform} {flows : List Flow} {count : ℕ} {table : List (List Pair)} (s : Scene p flows count) (t : HasPairs p flows count table) {i : ℕ} (h : i < count) where
  -- what its latency is asked for: the links that it shares with itself are those of its route
  pub latency_asked : (LegalPlatform p × LegalFlow p (flow flows i)) × ((get_or (get_or table i []) i no_pair).count ≡ length (route_of p (flow flows i)))
  latency_asked = ((s.legal.platform, scene_flow s i h), ap (λ (x : Pair). x.count) (t.cell i i h h) ∙ own_length s i h)

  pub lists_are : {row : Row} → Rowed (get_or table i []) (take count flows) (flow flows i).priority row → Listed (λ k. direct_for p (flow flows i) (flow flows k)) count row.direct row.many
  unfolding direct_for
  lists_are {row} r =
      let same : Listed (λ k. direct_for p (flow flows i) (flow flows k)) (length (take count flows)) row.direct row.many =
      listed_same (λ k g. let l : k < count = omega (arith, scene_long s) in rw (scene_at s k l, t.cell i k h l)) r.lists in
      rw (scene_long s) at same

-- ---- what is kept of it
-- the first few of a list that is read along
read_front : (cells : List ℕ) (n many : ℕ) → n ≤ many → many ≤ length cells → (length (take n (take many cells)) ≡ n) × ((m : ℕ) → m < n → get_or (take n (take many cells)) m 0 ≡ get_or cells m 0)
read_front cells n many h l = (
  length-take-le n (take many cells) (omega (arith, length-take-le many cells l)),
  λ m g. get_or-take n (take many cells) m 0 g ∙ get_or-take many cells m 0 (omega arith),
)

-- what is dealt along the first few is dealt along the list
dealt_front : {wanted : ℕ → ℕ} (cells named : List ℕ) {n : ℕ} {out : List ℕ} → length named ≡ n → ((m : ℕ) → m < n → get_or named m 0 ≡ get_or cells m 0) → Dealt wanted named (length named) out → Dealt wanted cells n out
dealt_front {wanted} cells named {n} {out} e same d = record {
  named = λ m h. rw (sym (same m h)) (d.named m (omega arith));
  others = λ k l apart. d.others k l (λ m h q. apart m (omega arith) (sym (same m (omega arith)) ∙ q));
}

-- a verdict's bound is small
bound_said_small : (p : Platform) (fs : List Flow) (answer : Flow → Verdict) (f : Flow) → LegalFlow p f → (v : Verdict) → Says p fs answer f v → bound_in v ≤ 1_000_000_000
bound_said_small p fs answer f l (Bounded r k) s = let h : limit f ≤ f.period = limit_period l in omega (arith, s.bound.within, l.period)
bound_said_small p fs answer f l (Late k) s = omega arith
bound_said_small p fs answer f l (Waits id) s = omega arith

module _ {p : Platform} {flows : List Flow} {count i : ℕ} {turn : Turn} {kept : List Kept} {table : List (List Pair)} (w : Turned p flows count i turn kept table) where
  names : Listed (λ k. direct_for p (flow flows i) (flow flows k)) count turn.row.direct turn.row.many
  names = w.its.names

  module _ {v : Verdict} (ev : v ≡ verdict p (take count flows) (flow flows i)) {R : ℕ} (er : R ≡ unwrap_or (bound_of v) 0) where
    bound_is : R ≡ bound_for p flows count (flow flows i)
    bound_is = er ∙ bound_unwrapped v ∙ ap bound_in ev

    bound_low : R ≤ 1_000_000_000
    bound_low = rw bound_is (bound_said_small p (take count flows) (verdict p (take count flows)) (flow flows i) (scene_flow w.scene i w.inside) (verdict p (take count flows) (flow flows i)) (verdict_says p (take count flows) (flow flows i)))

    arrivals_of : (k : ℕ) → k < count → direct_for p (flow flows i) (flow flows k) ≡ true → arrivals_at kept k ≡ record { shift = (flow flows k).jitter; period = (flow flows k).period }
    arrivals_of k h d = ap (λ (f : Figures). f.arrivals) (w.known.cell k h (direct_above p (flow flows i) (flow flows k) d)).figures

    pub hits_asked : {n : ℕ} (named : List ℕ) → n ≤ turn.row.many → named ≡ take n (take turn.row.many turn.row.direct) → (m : ℕ) → m < length named
        → (get_or named m 0 < 64) × (R + (arrivals_at kept (get_or named m 0)).shift + (arrivals_at kept (get_or named m 0)).period ≤ 4_294_967_295)
    hits_asked {n} named few e m h =
        let r = read_front turn.row.direct n turn.row.many few (omega (arith, names.small, names.few, names.room)) in
        let l : m < n = omega (arith, ap length e, r.0) in
        let k : get_or named m 0 ≡ get_or turn.row.direct m 0 = ap (λ (xs : List ℕ). get_or xs m 0) e ∙ r.1 m l in
        let o = listed_inside names m (omega arith) in
        let g = scene_flow w.scene (get_or turn.row.direct m 0) o.0 in
        rw k (omega (arith, o.0, w.scene.few), rw (arrivals_of (get_or turn.row.direct m 0) o.0 o.1) (omega (arith, bound_low, g.jitter, g.period)))

    hit_cell : {hit : List ℕ} → Dealt (λ k. up (R + (arrivals_at kept k).shift) (arrivals_at kept k).period) turn.row.direct turn.row.many hit → (k : ℕ) → k < count → get_or hit k 0 ≡ hits_on p flows count (flow flows i) k
    hit_cell d k h = dealt_cell names d k h ∙ go (direct_for p (flow flows i) (flow flows k)) refl
      where
        go : (b : Bool) → direct_for p (flow flows i) (flow flows k) ≡ b → cond b (up (R + (arrivals_at kept k).shift) (arrivals_at kept k).period) 0 ≡ cond b (hits_of (bound_for p flows count (flow flows i)) (flow flows k)) 0
        go true t = rw (arrivals_of k h t, bound_is)
        go false t = refl

    dealt_all : {n : ℕ} {hit : List ℕ} (named : List ℕ) → n ≡ turn.row.many → named ≡ take n (take turn.row.many turn.row.direct)
        → Dealt (λ k. up (R + (arrivals_at kept k).shift) (arrivals_at kept k).period) named (length named) hit → Dealt (λ k. up (R + (arrivals_at kept k).shift) (arrivals_at kept k).period) turn.row.direct turn.row.many hit
    dealt_all {n} named en e d =
        let r = read_front turn.row.direct turn.row.many turn.row.many (le_refl _) (omega (arith, names.small, names.few, names.room)) in
        let f = rw en at e in
        dealt_front turn.row.direct named (ap length f ∙ r.0) (λ m h. ap (λ (xs : List ℕ). get_or xs m 0) f ∙ r.1 m h) d

    hits_are : (m : Method) {n : ℕ} {hit : List ℕ} (named : List ℕ) → n ≡ looked_at m turn.row.many → named ≡ take n (take turn.row.many turn.row.direct)
        → Dealt (λ k. up (R + (arrivals_at kept k).shift) (arrivals_at kept k).period) named (length named) hit → Filled 0 (hits_on p flows count (flow flows i)) hit (looked_at m count)
    hits_are SB named en e d = record { cell = λ k h. absurd (omega arith) }
    hits_are XLWX named en e d = record { cell = hit_cell (dealt_all named en e d) }
    hits_are IBN named en e d = record { cell = hit_cell (dealt_all named en e d) }

    pub keeps : {way : Way} {new : Kept} {n : ℕ} (named : List ℕ) → way ≡ way_of p → n ≡ looked_at way.method turn.row.many → named ≡ take n (take turn.row.many turn.row.direct)
        → Dealt (λ k. up (R + (arrivals_at kept k).shift) (arrivals_at kept k).period) named (length named) new.hits
        → new.direct ≡ turn.row.direct
        → new.figures ≡ figures_of turn.cost (bound_of v) n (flow flows i)
        → Keeps p flows count i new
    keeps {new = new} named ew en e d el ef = record {
      lists = rw (el, listed_long names) names;
      hits = hits_are (method_used p) named (rw ew at en) e d;
      figures = ef ∙ rw (w.its.cost, ev, en, ew, listed_long names);
    }

-- ---- the loop
abbrev AnswerIs : Platform → List Flow → ℕ → ℕ → Answer → Type 0
AnswerIs p flows count k a = a ≡ answer_to p (take count flows) (flow flows k)

pub record Answering (p : Platform) (flows : List Flow) (count : ℕ) (table : List (List Pair)) (kept : List Kept) (answers : List Answer) (last : ℕ) : Type 0 where
  pub scene : Scene p flows count
  pub pairs : HasPairs p flows count table
  pub kept_room : length kept ≡ 64
  pub room : length answers ≡ 64
  pub blank : (k : ℕ) → count ≤ k → k < 64 → get_or answers k blank_answer ≡ blank_answer
  pub answer : Below flows count (last + 1) (AnswerIs p flows count) blank_answer answers
  pub known : Known p flows count (last + 1) kept

-- nothing has the priority 0
nothing_below : {A : Type 0} {p : Platform} {flows : List Flow} {count : ℕ} → Scene p flows count → (P : ℕ → A → Type 0) (blank : A) (cells : List A) → Below flows count (0 + 1) P blank cells
nothing_below s P blank cells = record { cell = λ k l g. absurd (omega (arith, (scene_flow s k l).priority)) }

pub answering_none : {p : Platform} {flows : List Flow} {count : ℕ} {table : List (List Pair)} {kept : List Kept} {answers : List Answer} → Scene p flows count → table ≡ pair_table p (take count flows)
    → length kept ≡ 64 → answers ≡ replicate 64 blank_answer → Answering p flows count table kept answers 0
answering_none s t l e = record {
  scene = s;
  pairs = has_pairs s t;
  kept_room = l;
  room = rw e;
  blank = λ k h g. rw e (get_or-replicate 64 k blank_answer blank_answer g);
  answer = nothing_below s _ _ _;
  known = nothing_below s _ _ _;
}

module _ {p : Platform} {flows : List Flow} {count : ℕ} {table : List (List Pair)} {kept : List Kept} {list : List Answer} {last : ℕ} (w : Answering p flows count table kept list last)
    {found : Option ℕ} (next : Highest (λ k. ltb last (flow (take count flows) k).priority) (λ k. (flow (take count flows) k).priority) (length (take count flows)) found) where
  priority_at : (k : ℕ) → k < count → (flow (take count flows) k).priority ≡ (flow flows k).priority
  priority_at k h = ap (λ (f : Flow). f.priority) (scene_at w.scene k h)

  -- ---- a flow is left
  module _ {i : ℕ} (is : found ≡ Some i) where
    pub inside : i < count
    inside = omega (arith, (next.found i is).0, scene_long w.scene)

    later : last < (flow flows i).priority
    later = rw (priority_at i inside) at (ltb-true last (flow (take count flows) i).priority (next.found i is).1)

    pub sooner : 65536 - (flow flows i).priority < 65536 - last
    sooner = omega (arith, later, (scene_flow w.scene i inside).priority)

    -- no flow stands between the last one and this one
    before : (k : ℕ) → k < count → (flow flows k).priority < (flow flows i).priority → (flow flows k).priority < last + 1
    before k h g = go (dec_lt last (flow flows k).priority)
      where
        go : Dec (last < (flow flows k).priority) → (flow flows k).priority < last + 1
        go (yes l) = absurd (omega (arith, priority_at i inside, priority_at k h, next.least i is k (omega (arith, scene_long w.scene)) (lt-ltb last (flow (take count flows) k).priority (rw (priority_at k h) l))))
        go (no n) = omega arith

    -- another flow of so high a priority was answered before
    other : (k : ℕ) → k < count → (flow flows k).priority < (flow flows i).priority + 1 → (k ≡ i → ⊥) → (flow flows k).priority < last + 1
    other k h g n = before k h (go (dec_lt (flow flows k).priority (flow flows i).priority))
      where
        go : Dec ((flow flows k).priority < (flow flows i).priority) → (flow flows k).priority < (flow flows i).priority
        go (yes l) = l
        go (no m) =
            let e : (flow (take count flows) k).priority ≡ (flow (take count flows) i).priority = omega (arith, priority_at k h, priority_at i inside) in
            absurd (n (same_place (λ f. f.priority) (take count flows) w.scene.legal.priorities k i (omega (arith, scene_long w.scene)) (omega (arith, scene_long w.scene, inside)) e))

    -- what is known of the cells, with this flow's cell set
    below_more : {A : Type 0} {P : ℕ → A → Type 0} {blank : A} {cells : List A} → length cells ≡ 64 → Below flows count (last + 1) P blank cells → (x : A) → P i x → Below flows count ((flow flows i).priority + 1) P blank (set cells i x)
    below_more {A} {P} {blank} {cells} room b x q = record { cell = λ k h g. go k h g (ℕ_discrete k i) }
      where
        go : (k : ℕ) → k < count → (flow flows k).priority < (flow flows i).priority + 1 → Dec (k ≡ i) → P k (get_or (set cells i x) k blank)
        go k h g (yes e) = rw (e, get_or-set_same cells i x blank (omega (arith, room, inside, w.scene.few))) q
        go k h g (no n) = rw (get_or-set_other cells i k x blank n) (b.cell k h (other k h g n))

    -- as its turn has its place
    pub turned : {turn : Turn} → TurnOf p flows count i turn → Turned p flows count turn.place turn kept table
    turned {turn} t =
        let here : Turned p flows count i turn kept table = record { scene = w.scene; inside = inside; its = t; pairs = w.pairs; known = record { cell = λ k h g. w.known.cell k h (before k h g) } } in
        subst (λ (k : ℕ). Turned p flows count k turn kept table) (sym t.place) here

    pub answering_more : {new : Kept} {v : Verdict} {place : ℕ} → place ≡ i → Keeps p flows count place new → v ≡ verdict p (take count flows) (flow flows place)
        → Answering p flows count table (set kept i new) (set list i (record { id = (flow flows i).id; verdict = v })) (flow flows i).priority
    answering_more {new} {v} {place} t kept_there said =
        let q = subst (λ (k : ℕ). Keeps p flows count k new) t kept_there in
        let e : v ≡ verdict p (take count flows) (flow flows i) = said ∙ ap (λ (k : ℕ). verdict p (take count flows) (flow flows k)) t in
        record {
          scene = w.scene;
          pairs = w.pairs;
          kept_room = rw length-set w.kept_room;
          room = rw length-set w.room;
          blank = λ k l g. set_cell blank_answer list i _ k (omega (arith, w.room, inside, w.scene.few)) (λ s. absurd (omega (arith, inside))) (λ n. w.blank k l g);
          answer = below_more w.room w.answer _ (λ t. record { id = (flow flows i).id; verdict = e t });
          known = below_more w.kept_room w.known new q;
        }

  -- ---- no flow is left
  module _ (none : found ≡ None) where
    done : (k : ℕ) → k < count → (flow flows k).priority < last + 1
    done k h = go (dec_lt last (flow flows k).priority)
      where
        go : Dec (last < (flow flows k).priority) → (flow flows k).priority < last + 1
        go (yes l) = absurd (next.none none k (omega (arith, scene_long w.scene)) (lt-ltb last (flow (take count flows) k).priority (rw (priority_at k h) l)))
        go (no n) = omega arith

    cell_done : (k : ℕ) → k < 64 → Dec (k < count) → get_or list k blank_answer ≡ get_or (answer_array p (take count flows)) k blank_answer
    unfolding answers
    cell_done k g (yes h) =
        w.answer.cell k h (done k h)
        ∙ ap (answer_to p (take count flows)) (sym (scene_at w.scene k h))
        ∙ sym (filled_cell blank_answer (answer_to p (take count flows)) (take count flows) k (omega (arith, scene_long w.scene)))
    cell_done k g (no n) =
        w.blank k (omega arith) g
        ∙ sym (padded_behind blank_answer (map (answer_to p (take count flows)) (take count flows)) k (omega (arith, scene_long w.scene, length-map (take count flows) (answer_to p (take count flows)))))

    room_done : length (answer_array p (take count flows)) ≡ 64
    unfolding answers
    room_done = length_padded blank_answer (map (answer_to p (take count flows)) (take count flows)) (omega (arith, w.scene.few, scene_long w.scene, length-map (take count flows) (answer_to p (take count flows))))

    pub answering_all : list ≡ answer_array p (take count flows)
    answering_all = ext_get_or blank_answer list (answer_array p (take count flows)) (w.room ∙ sym room_done) (λ k g. cell_done k (omega (arith, w.room)) (dec_lt k count))
