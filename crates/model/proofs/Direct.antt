-- What being direct comes to: "Priority 1 is the highest", and "With no direct flow R = C_i".
use Prim.Native.Nat.{ℕ, ◌≤◌, ◌<◌}
use mathlib.Core.Path.{◌≡◌, refl, sym, ◌∙◌}
use mathlib.Core.Bool.{true, false, not, false≢true}
use mathlib.Core.List.{List, [], ◌∷◌}
use native.Mathlib.Decide.{dec_lt}
use native.Mathlib.Omega.{arith}
use lib.ListN.{length, get_or}
use borrow.Author.Tests.{lt-ltb, le-ltb}
use Rattle.plan_values.specs.declared.Platform.{Platform}
use Rattle.plan_values.specs.declared.Flow.{Flow}
use Rattle.plan.specs.Legal.{Legal, flow}
use Rattle.plan.specs.Reading.{accepted, read_plan}
use Rattle.mesh.proofs.Theorems.{count_symmetric}
use Rattle.recurrence.specs.declared.Settled.TheVariants.{Bounded as BoundedAt}
use Rattle.recurrence.proofs.Theorems.{alone}
use Rattle.model.specs.declared.Verdict.TheVariants.{Bounded}
use Rattle.model.specs.declared.Answer.{Answer}
use Rattle.model.specs.Links.{pair_of}
use Rattle.model.specs.Latency.{latency, limit}
use Rattle.model.specs.Interference.{direct_for, those}
use Rattle.model.specs.Delays.{terms}
use Rattle.model.specs.Verdicts.{verdict, terms_of, answers}
use Rattle.model.specs.Rules.{AllBounded}
use Rattle.model.proofs.Links.{ends_of}
use Rattle.model.proofs.Those.{those_same}
use Rattle.model.proofs.Judged.{same_place, says_settled}
use Rattle.model.proofs.FlowLines.{verdict_line}

-- A flow of larger priority number is never direct.
below_not : (p : Platform) (i j : Flow) → i.priority ≤ j.priority → direct_for p i j ≡ false
unfolding direct_for
below_not p i j low = rw (le-ltb j.priority i.priority low)

above_direct : (p : Platform) (i j : Flow) → j.priority < i.priority → 0 < (pair_of p i j).count → direct_for p i j ≡ true
unfolding direct_for
above_direct p i j above some = rw (lt-ltb j.priority i.priority above, lt-ltb 0 (pair_of p i j).count some)

-- Of two flows that share a link the one of smaller priority number is direct for the other, and the other is not for it.
pub smaller_is_direct : (p : Platform) (i j : Flow) → j.priority < i.priority → 0 < (pair_of p i j).count → (direct_for p i j ≡ true) × (direct_for p j i ≡ false)
smaller_is_direct p i j above some = (above_direct p i j above some, below_not p j i (omega arith))

-- Two different flows of a legal plan.
module _ {p : Platform} {fs : List Flow} (w : Legal p fs) (i j : ℕ) (li : i < length fs) (lj : j < length fs) (two : i ≡ j → ⊥) where
  priorities_differ : (flow fs i).priority ≡ (flow fs j).priority → ⊥
  priorities_differ e = two (same_place (λ f. f.priority) fs w.priorities i j li lj e)

  -- "Priority 1 is the highest": nothing is direct for a flow that has it, and it is direct for every flow that shares a link with it.
  pub priority_1 :
      (flow fs i).priority ≡ 1 →
      (direct_for p (flow fs i) (flow fs j) ≡ false) × (0 < (pair_of p (flow fs j) (flow fs i)).count → direct_for p (flow fs j) (flow fs i) ≡ true)
  priority_1 one =
      let low : (flow fs i).priority < (flow fs j).priority = omega (arith, (w.each j lj).priority, priorities_differ) in
      (below_not p (flow fs i) (flow fs j) (omega arith), above_direct p (flow fs j) (flow fs i) low)

  -- If they share a link, exactly one is direct for the other.
  pub one_is_direct : 0 < (pair_of p (flow fs i) (flow fs j)).count → direct_for p (flow fs i) (flow fs j) ≡ not (direct_for p (flow fs j) (flow fs i))
  one_is_direct some = go (dec_lt (flow fs j).priority (flow fs i).priority)
    where
      back : 0 < (pair_of p (flow fs j) (flow fs i)).count
      back = omega (arith, some, count_symmetric (ends_of w i li) (ends_of w j lj))

      go : Dec ((flow fs j).priority < (flow fs i).priority) → direct_for p (flow fs i) (flow fs j) ≡ not (direct_for p (flow fs j) (flow fs i))
      go (yes h) = let (yes_i, no_j) = smaller_is_direct p (flow fs i) (flow fs j) h some in rw (yes_i, no_j)
      go (no h) =
          let above : (flow fs i).priority < (flow fs j).priority = omega (arith, priorities_differ) in
          let (yes_j, no_i) = smaller_is_direct p (flow fs j) (flow fs i) above back in
          rw (yes_j, no_i)

-- ---- no direct flow
none_kept : (fs : List Flow) → those (λ k. false) fs ≡ []
unfolding those
none_kept [] = refl
none_kept (f ∷ fs) = none_kept fs

-- For every flow of an accepted plan that has no direct flow, and its line in the answer: bounded by C after one round, or late at once.
module _ (s : List ℕ) (p : Platform) (fs : List Flow) (e : read_plan s ≡ accepted p fs) (blank : Answer) (k : ℕ) (l : k < length fs)
    (none : (j : ℕ) → j < length fs → direct_for p (flow fs k) (flow fs j) ≡ false) where
  free : AllBounded p fs (verdict p fs) (flow fs k)
  free j u = false≢true (sym (none j u.inside) ∙ u.direct)

  no_terms : terms_of p fs (verdict p fs) (flow fs k) ≡ []
  unfolding terms
  no_terms = rw (those_same (direct_for p (flow fs k)) (λ j. false) fs none, none_kept fs)

  pub bounded_by_C : latency p (flow fs k) ≤ limit (flow fs k) → (get_or (answers p fs) k blank).verdict ≡ Bounded (latency p (flow fs k)) 1
  bounded_by_C low =
      ((verdict_line s p fs e blank k l).exactly (Bounded (latency p (flow fs k)) 1)).1
      (says_settled p fs (verdict p fs) (flow fs k) free (BoundedAt (latency p (flow fs k)) 1) (rw no_terms (alone (latency p (flow fs k)) (limit (flow fs k)) low)))
