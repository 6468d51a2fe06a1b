-- A plan in its array, and its rows of the pair table.
use Prim.Native.Nat.{ℕ, ◌<◌}
use native.Mathlib.Omega.{arith}
use mathlib.Core.Path.{◌≡◌, ap, ◌∙◌}
use mathlib.Core.List.{List, map}
use lib.ListN.{length, get_or, take, length-map}
use lib.Seq.{get_or-take, length-take-le}
use Rattle.plan_values.specs.declared.Platform.{Platform}
use Rattle.plan_values.specs.declared.Flow.{Flow}
use Rattle.plan.specs.Padded.{padded}
use Rattle.plan_values.specs.Values.{blank_flow}
use Rattle.plan.specs.Legal.{LegalFlow, flow}
use Rattle.plan.proofs.Padding.{length_padded}
use Rattle.mesh.specs.declared.Pair.{Pair}
use Rattle.model.specs.Links.{route_of, pair_of}
use Rattle.model.proofs.Links.{with_itself}
use Rattle.pairs.specs.Pairs.{no_pair, no_row, pair_table}
use Rattle.pairs.specs.Scene.{Scene, HasRow}
use Rattle.std.proofs.lemmas.List.{get_or_default}
use Rattle.pairs.proofs.Cells.{filled_cell}

module _ {p : Platform} {flows : List Flow} {count : ℕ} (w : Scene p flows count) where
  pub scene_long : length (take count flows) ≡ count
  scene_long = length-take-le count flows (omega (arith, w.few, w.room))

  pub scene_at : (k : ℕ) → k < count → flow (take count flows) k ≡ flow flows k
  scene_at k h = get_or-take count flows k blank_flow h

  pub scene_flow : (k : ℕ) → k < count → LegalFlow p (flow flows k)
  scene_flow k h = rw (scene_at k h) at (w.legal.each k (omega (arith, scene_long)))

  pub own_length : (k : ℕ) → k < count → (pair_of p (flow flows k) (flow flows k)).count ≡ length (route_of p (flow flows k))
  own_length k h = ap (λ (x : Pair). x.count) (rw (scene_at k h) at (with_itself w.legal k (omega (arith, scene_long))))

  -- the row that the code reads at i
  pub row_read : {table : List (List Pair)} → table ≡ pair_table p (take count flows) → (i : ℕ) (d : List Pair) → i < count → HasRow p flows count (flow flows i) (get_or table i d)
  row_read {table} e i d h =
      let fs = take count flows in
      let n = scene_long in
      let m = length-map fs (λ f. padded no_pair (map (pair_of p f) fs)) in
      let l : length table ≡ 64 = ap length e ∙ length_padded no_row (map (λ f. padded no_pair (map (pair_of p f) fs)) fs) (omega (arith, w.few)) in
      let r : get_or table i d ≡ padded no_pair (map (pair_of p (flow flows i)) fs) =
      get_or_default table i d no_row (omega (arith, w.few))
      ∙ ap (λ (t : List (List Pair)). get_or t i no_row) e
      ∙ filled_cell no_row (λ f. padded no_pair (map (pair_of p f) fs)) fs i (omega arith)
      ∙ ap (λ (f : Flow). padded no_pair (map (pair_of p f) fs)) (scene_at i h) in
      rw r (record {
        room = length_padded no_pair (map (pair_of p (flow flows i)) fs) (omega (arith, w.few, length-map fs (pair_of p (flow flows i))));
        cell = λ k hk. filled_cell no_pair (pair_of p (flow flows i)) fs k (omega arith) ∙ ap (pair_of p (flow flows i)) (scene_at k hk);
      })
