-- "Routes and shared links": what mesh shows of routes, said of the flows of a legal plan.
use Prim.Native.Nat.{ℕ, zero, suc, ◌≤◌, ◌<◌}
use mathlib.Core.Path.{◌≡◌, refl, ap}
use mathlib.Core.Bool.{true, or-true}
use mathlib.Core.List.{List, [], ◌∷◌}
use native.Mathlib.Omega.{arith}
use native.Mathlib.Nat.{le_of_suc-le-suc}
use lib.ListN.{length, get_or}
use borrow.Author.Tests.{eq-eqb}
use Rattle.plan_values.specs.declared.Platform.{Platform}
use Rattle.plan_values.specs.declared.Flow.{Flow}
use Rattle.plan.specs.Legal.{LegalPlatform, LegalFlow, Legal, flow}
use Rattle.mesh.specs.Mesh.{Ends}
use Rattle.mesh.specs.Shared.{on, domain, shared_count, first_from, first_shared, OneRun}
use Rattle.mesh.proofs.Theorems.{one_run, route_most, route_least}
use Rattle.model.specs.Links.{route_of, pair_of}

-- a legal flow's ends are nodes of the mesh
pub ends : {p : Platform} {f : Flow} → LegalPlatform p → LegalFlow p f → Ends p.columns f.source f.destination
ends {p} a w = record {
  from = record { rows = p.rows; wide = a.columns; high = a.rows.1; inside = w.source };
  to = record { rows = p.rows; wide = a.columns; high = a.rows.1; inside = w.destination };
}

-- "Route length = column distance + row distance + 2, so 3 to 16."
pub route_within : {p : Platform} {f : Flow} → LegalPlatform p → LegalFlow p f → (3 ≤ length (route_of p f)) × (length (route_of p f) ≤ 16)
route_within {p} {f} a w = (route_least p.columns f.source f.destination w.moves, route_most (ends a w))

module _ {p : Platform} {fs : List Flow} (w : Legal p fs) where
  pub ends_of : (k : ℕ) → k < length fs → Ends p.columns (flow fs k).source (flow fs k).destination
  ends_of k h = ends w.platform (w.each k h)

  pub lengths : (k : ℕ) → k < length fs → (3 ≤ length (route_of p (flow fs k))) × (length (route_of p (flow fs k)) ≤ 16)
  lengths k h = route_within w.platform (w.each k h)

  -- "The contention domain of two flows .. is empty or one unbroken run on each route, in the same order on both."
  pub domain_is_one_run : (i j : ℕ) → i < length fs → j < length fs → OneRun (route_of p (flow fs i)) (route_of p (flow fs j))
  domain_is_one_run i j hi hj = one_run (ends_of i hi) (ends_of j hj)

-- ---- a flow with itself: all its links, from the first on
all_on : (a b : List ℕ) → ((k : ℕ) → k < length a → on b (get_or a k 0) ≡ true) → domain a b ≡ a
unfolding domain
all_on [] b h = refl
all_on (x ∷ a) b h = rw (h 0 (omega arith), all_on a b (λ k l. h (suc k) (omega arith)))

stands : (a : List ℕ) (k : ℕ) → k < length a → on a (get_or a k 0) ≡ true
unfolding on
stands [] k h = absurd (omega arith)
stands (x ∷ a) zero h = rw (eq-eqb x x refl)
stands (x ∷ a) (suc k) h = rw (stands a k (le_of_suc-le-suc h), or-true)

first_is_0 : (x : ℕ) (a : List ℕ) → first_shared (x ∷ a) (x ∷ a) ≡ 0
unfolding first_from on
first_is_0 x a = rw (eq-eqb x x refl)

own : (a : List ℕ) → 0 < length a → (shared_count a a ≡ length a) × (first_shared a a ≡ 0)
own [] h = absurd (omega arith)
own (x ∷ a) h = (ap length (all_on (x ∷ a) (x ∷ a) (stands (x ∷ a))), first_is_0 x a)

pub with_itself : {p : Platform} {fs : List Flow} → Legal p fs → (k : ℕ) → k < length fs → pair_of p (flow fs k) (flow fs k) ≡ record { count = length (route_of p (flow fs k)); first = 0 }
with_itself {p} {fs} w k h =
    let e = own (route_of p (flow fs k)) (omega (arith, (lengths w k h).0)) in
    λ i. record { count = e.0 i; first = e.1 i }
