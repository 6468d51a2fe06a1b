-- The sets of source document 002 are those of document 01: direct, upstream and downstream, for the flows of a legal plan.
use Prim.Native.Nat.{ℕ, zero, suc, ◌+◌, ◌≤◌, ◌<◌}
use mathlib.Core.Path.{◌≡◌, refl, sym, ap, ◌∙◌}
use mathlib.Core.Bool.{Bool, true, false, cond, not, ◌&&◌, and-true, and-false, or-true, false≢true}
use mathlib.Core.List.{List, [], ◌∷◌}
use native.Mathlib.Decide.{dec_lt}
use native.Mathlib.Omega.{arith}
use lib.Dec.{eqb, ltb}
use lib.ListN.{length}
use borrow.Author.Tests.{eqb-true, eq-eqb, lt-ltb, le-ltb}
use Rattle.framing.proofs.Tests.{and_right, and_both}
use Rattle.plan_values.specs.declared.Platform.{Platform}
use Rattle.plan_values.specs.declared.Flow.{Flow}
use Rattle.plan.specs.Legal.{Legal, flow}
use Rattle.mesh.specs.Shared.{on, domain, first_from, first_shared}
use Rattle.mesh.proofs.Theorems.{count_symmetric, first_place}
use Rattle.model.specs.Links.{pair_of}
use Rattle.model.specs.Interference.{direct_for, indirect_for, comes_before, upstream_for, downstream_for}
use Rattle.model.specs.PaperSets.{route, cd, order, first, nonempty, some_of, Sᴰ, Sᴵ, Sᵘᵖ, Sᵈᵒʷⁿ}
use Rattle.model.proofs.Links.{ends_of, domain_is_one_run}
use Rattle.model.proofs.Fits.{indirect_direct}
use Rattle.model.proofs.Sides.{direct_shares, sides_exactly}

-- ---- the first shared link
first_on : (a b : List ℕ) → nonempty (domain a b) ≡ true → on b (first (domain a b)) ≡ true
unfolding domain
first_on [] b some = absurd (false≢true some)
first_on (x ∷ a) b some = go (on b x) refl some (first_on a b)
  where
    go :
        (t : Bool) → on b x ≡ t → nonempty (cond t (x ∷ domain a b) (domain a b)) ≡ true → (nonempty (domain a b) ≡ true → on b (first (domain a b)) ≡ true) →
        on b (first (cond t (x ∷ domain a b) (domain a b))) ≡ true
    go true e some rest = e
    go false e some rest = rest some

-- A link that stands on a route is another than one that does not.
others : (b : List ℕ) (x y : ℕ) → on b x ≡ false → on b y ≡ true → eqb y x ≡ false
others b x y out there = go (eqb y x) refl
  where
    go : (t : Bool) → eqb y x ≡ t → t ≡ false
    go true e = absurd (false≢true (sym out ∙ ap (on b) (sym (eqb-true y x e)) ∙ there))
    go false e = refl

-- Its order on the route is its place there, counted from 1.
order_from : (n : ℕ) (a b : List ℕ) → nonempty (domain a b) ≡ true → n + order (first (domain a b)) a ≡ suc (first_from n a b)
unfolding domain first_from order
order_from n [] b some = absurd (false≢true some)
order_from n (x ∷ a) b some = go (on b x) refl some (order_from (suc n) a b)
  where
    go :
        (t : Bool) → on b x ≡ t → nonempty (cond t (x ∷ domain a b) (domain a b)) ≡ true →
        (nonempty (domain a b) ≡ true → suc n + order (first (domain a b)) a ≡ suc (first_from (suc n) a b)) →
        n + order (first (cond t (x ∷ domain a b) (domain a b))) (x ∷ a) ≡ suc (cond t n (first_from (suc n) a b))
    go true e some rest = rw (eq-eqb x x refl) (omega arith)
    go false e some rest = rw (others b x (first (domain a b)) e (first_on a b some)) (omega (arith, rest some))

order_first : (a b : List ℕ) → nonempty (domain a b) ≡ true → order (first (domain a b)) a ≡ suc (first_shared a b)
order_first a b some = omega (arith, order_from 0 a b some)

nonempty_is : (a : List ℕ) → nonempty a ≡ ltb 0 (length a)
nonempty_is [] = refl
nonempty_is (x ∷ a) = sym (lt-ltb 0 (length (x ∷ a)) (omega arith))

-- ---- who interferes directly, and who not
pub direct_is : (p : Platform) (i j : Flow) → Sᴰ p i j ≡ direct_for p i j
unfolding Sᴰ direct_for
direct_is p i j = rw (nonempty_is (cd p i j))

shares_some : (p : Platform) (i j : Flow) → Sᴰ p i j ≡ true → nonempty (cd p i j) ≡ true
unfolding Sᴰ
shares_some p i j d = and_right (ltb j.priority i.priority) (nonempty (cd p i j)) d

some_of_lem : (test : Flow → Bool) (Γ : List Flow) (j : ℕ) → j < length Γ → test (flow Γ j) ≡ true → some_of Γ test ≡ true
unfolding some_of
some_of_lem test [] j l e = absurd (omega arith)
some_of_lem test (f ∷ Γ) zero l e = rw e
some_of_lem test (f ∷ Γ) (suc j) l e = rw (some_of_lem test Γ j (omega arith) e, or-true)

-- τ_k ∈ S_i^I ∩ S_j^D, for τ_j ∈ S_i^D: direct for j and not for i.
indirect_is :
    (p : Platform) (Γ : List Flow) (i k : Flow) (j : ℕ) → j < length Γ → direct_for p i (flow Γ j) ≡ true →
    (Sᴵ p Γ i k && Sᴰ p (flow Γ j) k) ≡ indirect_for p i (flow Γ j) k
unfolding Sᴵ indirect_for
indirect_is p Γ i k j l d = rw (← direct_is p (flow Γ j) k, ← direct_is p i k) (go (Sᴰ p (flow Γ j) k) refl)
  where
    go :
        (t : Bool) → Sᴰ p (flow Γ j) k ≡ t →
        ((some_of Γ (λ j. Sᴰ p j k && Sᴰ p i j) && not (Sᴰ p i k)) && t) ≡ (t && not (Sᴰ p i k))
    go true e = rw (some_of_lem (λ j. Sᴰ p j k && Sᴰ p i j) Γ j l (rw (e, direct_is p i (flow Γ j), d))) (and-true (not (Sᴰ p i k)))
    go false e = and-false (some_of Γ (λ j. Sᴰ p j k && Sᴰ p i j) && not (Sᴰ p i k))

-- ---- before and after, by the order of the first links
-- Two tests behind one that fails come to the same.
behind : (a b c : Bool) → (a ≡ true → b ≡ c) → (a && b) ≡ (a && c)
behind true b c same = same refl
behind false b c same = refl

-- Of two numbers that are not equal one is below the other.
one_below : (m n : ℕ) → (m ≡ n → ⊥) → ltb n m ≡ not (ltb m n)
one_below m n differ = go (dec_lt m n)
  where
    go : Dec (m < n) → ltb n m ≡ not (ltb m n)
    go (yes h) = rw (lt-ltb m n h, le-ltb n m (omega arith))
    go (no h) = rw (lt-ltb n m (omega arith), le-ltb m n (omega arith))

ltb_suc : (m n : ℕ) → ltb (suc m) (suc n) ≡ ltb m n
ltb_suc m n = go (dec_lt m n)
  where
    go : Dec (m < n) → ltb (suc m) (suc n) ≡ ltb m n
    go (yes h) = rw (lt-ltb m n h, lt-ltb (suc m) (suc n) (omega arith))
    go (no h) = rw (le-ltb m n (omega arith), le-ltb (suc m) (suc n) (omega arith))

module _ (p : Platform) (i j k : Flow) (same : cd p j i ≡ cd p i j) (d : direct_for p i j ≡ true) (u : indirect_for p i j k ≡ true) where
  -- order(first(cd_jk), route_j)
  order_of_k : order (first (cd p j k)) (route p j) ≡ suc (pair_of p j k).first
  order_of_k = order_first (route p j) (route p k) (shares_some p j k (direct_is p j k ∙ indirect_direct p i j k u))

  -- order(first(cd_ij), route_j): the domain has one order on both routes.
  order_of_i : order (first (cd p i j)) (route p j) ≡ suc (pair_of p j i).first
  order_of_i = rw (← same) (order_first (route p j) (route p i) (ap nonempty same ∙ shares_some p i j (direct_is p i j ∙ d)))

  before_is : ltb (order (first (cd p j k)) (route p j)) (order (first (cd p i j)) (route p j)) ≡ comes_before p i j k
  unfolding comes_before
  before_is = rw (order_of_k, order_of_i) (ltb_suc (pair_of p j k).first (pair_of p j i).first)

  after_is :
      ((pair_of p j k).first ≡ (pair_of p j i).first → ⊥) →
      ltb (order (first (cd p i j)) (route p j)) (order (first (cd p j k)) (route p j)) ≡ not (comes_before p i j k)
  unfolding comes_before
  after_is differ = rw (order_of_k, order_of_i) (ltb_suc (pair_of p j i).first (pair_of p j k).first ∙ one_below (pair_of p j k).first (pair_of p j i).first differ)

-- For flows i, j and k of a legal plan, j direct for i.
module _ {p : Platform} {fs : List Flow} (w : Legal p fs) (i j k : ℕ) (li : i < length fs) (lj : j < length fs) (lk : k < length fs) (d : direct_for p (flow fs i) (flow fs j) ≡ true) where
  -- "otherwise they all come after": the first link that j shares with k is never the first that it shares with i.
  places_differ : indirect_for p (flow fs i) (flow fs j) (flow fs k) ≡ true → (pair_of p (flow fs j) (flow fs k)).first ≡ (pair_of p (flow fs j) (flow fs i)).first → ⊥
  unfolding comes_before
  places_differ u e =
      let at_i = first_place (ends_of w j lj) (ends_of w i li) (omega (arith, direct_shares p (flow fs i) (flow fs j) d, count_symmetric (ends_of w i li) (ends_of w j lj))) in
      let at_k = first_place (ends_of w j lj) (ends_of w k lk) (direct_shares p (flow fs j) (flow fs k) (indirect_direct p (flow fs i) (flow fs j) (flow fs k) u)) in
      let low : (pair_of p (flow fs j) (flow fs i)).first ≤ (pair_of p (flow fs j) (flow fs k)).first = omega arith in
      let after = (sides_exactly w i j k li lj lk d u).downstream.0 (and_both u (ap not (le-ltb _ _ low))) in
      let less : (pair_of p (flow fs j) (flow fs i)).first < (pair_of p (flow fs j) (flow fs k)).first = after _ _ at_i.0 at_k.0 at_i.1 at_k.1 in
      omega arith

  cd_same : cd p (flow fs j) (flow fs i) ≡ cd p (flow fs i) (flow fs j)
  cd_same = (domain_is_one_run w i j li lj).same_order

  pub upstream_is : Sᵘᵖ p fs (flow fs i) (flow fs j) (flow fs k) ≡ upstream_for p (flow fs i) (flow fs j) (flow fs k)
  unfolding Sᵘᵖ
  upstream_is =
      rw (indirect_is p fs (flow fs i) (flow fs k) j lj d)
      (behind _ _ _ (before_is p (flow fs i) (flow fs j) (flow fs k) cd_same d))

  pub downstream_is : Sᵈᵒʷⁿ p fs (flow fs i) (flow fs j) (flow fs k) ≡ downstream_for p (flow fs i) (flow fs j) (flow fs k)
  unfolding Sᵈᵒʷⁿ
  downstream_is =
      rw (indirect_is p fs (flow fs i) (flow fs k) j lj d)
      (behind _ _ _ (λ u. after_is p (flow fs i) (flow fs j) (flow fs k) cd_same d u (places_differ u)))
