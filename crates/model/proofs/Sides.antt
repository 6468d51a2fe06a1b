-- "Such a k is upstream for (i, j) when its links shared with j come before those j shares with i on j's route; otherwise they all come after and k is downstream. Each k is exactly one of the two."
use Prim.Native.Nat.{ℕ, ◌≤◌, ◌<◌}
use mathlib.Core.Path.{◌≡◌, refl, sym, ap, ◌∙◌}
use mathlib.Core.Bool.{Bool, true, false, not, ◌&&◌}
use mathlib.Core.Logic.{◌↔◌}
use mathlib.Core.List.{List}
use native.Mathlib.Omega.{arith}
use lib.Dec.{ltb}
use lib.ListN.{length}
use borrow.Author.Tests.{ltb-true, ltb-false, lt-ltb, le-ltb}
use Rattle.plan_values.specs.declared.Platform.{Platform}
use Rattle.plan_values.specs.declared.Flow.{Flow}
use Rattle.plan.specs.Legal.{Legal, flow}
use Rattle.mesh.specs.Shared.{AllBefore, Sides}
use Rattle.mesh.proofs.Theorems.{sides}
use Rattle.model.specs.Links.{route_of, pair_of}
use Rattle.model.specs.Interference.{direct_for, indirect_for, comes_before, upstream_for, downstream_for}
use Rattle.model.proofs.Links.{ends_of}
use Rattle.model.proofs.Fits.{indirect_direct}
use Rattle.framing.proofs.Tests.{and_right, and_both, not_flip}
use Rattle.model.proofs.Judged.{direct_above}

-- k is upstream or downstream, and not both.
pub one_side : (p : Platform) (i j k : Flow) → indirect_for p i j k ≡ true → upstream_for p i j k ≡ not (downstream_for p i j k)
one_side p i j k e = rw e (go (comes_before p i j k))
  where
    go : (b : Bool) → (true && b) ≡ not (true && not b)
    go true = refl
    go false = refl

-- "they share a link"
pub direct_shares : (p : Platform) (i j : Flow) → direct_for p i j ≡ true → 0 < (pair_of p i j).count
unfolding direct_for
direct_shares p i j d = ltb-true _ _ (and_right (ltb j.priority i.priority) (ltb 0 (pair_of p i j).count) d)

module _ (p : Platform) (i j k : Flow) (d : direct_for p i j ≡ true) where
  -- A flow above one that is above i is above i: whether it is direct for i depends on their links alone.
  pub indirect_by_count : direct_for p j k ≡ true → direct_for p i k ≡ ltb 0 (pair_of p i k).count
  unfolding direct_for
  indirect_by_count e = rw (lt-ltb k.priority i.priority (omega (arith, direct_above p i j d, direct_above p j k e)))

  -- "direct for j and not direct for i": such a k shares no link with i.
  pub apart : indirect_for p i j k ≡ true → (pair_of p i k).count ≡ 0
  unfolding indirect_for
  apart u =
      let none : direct_for p i k ≡ false = not_flip (direct_for p i k) (and_right (direct_for p j k) (not (direct_for p i k)) u) in
      let low : (pair_of p i k).count ≤ 0 = ltb-false _ _ (sym (indirect_by_count (indirect_direct p i j k u)) ∙ none) in
      omega arith

-- What the two sides mean, for all links that k shares with j and all that j shares with i.
pub record OneSide (p : Platform) (i j k : Flow) : Type 0 where
  pub upstream : (upstream_for p i j k ≡ true) ↔ AllBefore (route_of p j) (route_of p k) (route_of p i)
  pub downstream : (downstream_for p i j k ≡ true) ↔ AllBefore (route_of p j) (route_of p i) (route_of p k)
  pub exactly_one : upstream_for p i j k ≡ not (downstream_for p i j k)

by_places : (p : Platform) (i j k : Flow) → indirect_for p i j k ≡ true → Sides (route_of p i) (route_of p j) (route_of p k) → OneSide p i j k
unfolding comes_before
by_places p i j k u s = record {
  upstream = (
    (λ e. s.before.0 (ltb-true _ _ (and_right (indirect_for p i j k) (comes_before p i j k) e))),
    (λ all. and_both u (lt-ltb _ _ (s.before.1 all))),
  );
  downstream = (
    (λ e. s.after.0 (ltb-false _ _ (not_flip (comes_before p i j k) (and_right (indirect_for p i j k) (not (comes_before p i j k)) e)))),
    (λ all. and_both u (ap not (le-ltb _ _ (s.after.1 all)))),
  );
  exactly_one = one_side p i j k u;
}

-- For flows i, j and k of a legal plan, j direct for i, k direct for j and not for i.
pub sides_exactly :
    {p : Platform} {fs : List Flow} → Legal p fs → (i j k : ℕ) → i < length fs → j < length fs → k < length fs →
    direct_for p (flow fs i) (flow fs j) ≡ true → indirect_for p (flow fs i) (flow fs j) (flow fs k) ≡ true →
    OneSide p (flow fs i) (flow fs j) (flow fs k)
sides_exactly {p} {fs} legal i j k hi hj hk d u =
    by_places p (flow fs i) (flow fs j) (flow fs k) u
    (sides
    (ends_of legal i hi)
    (ends_of legal j hj)
    (ends_of legal k hk)
    (direct_shares p (flow fs i) (flow fs j) d)
    (direct_shares p (flow fs j) (flow fs k) (indirect_direct p (flow fs i) (flow fs j) (flow fs k) u))
    (apart p (flow fs i) (flow fs j) (flow fs k) d u))
