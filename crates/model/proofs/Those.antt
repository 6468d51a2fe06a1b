-- The flows of a plan that pass a test, and the one of highest priority among them.
use Prim.Native.Nat.{ℕ, zero, suc, ◌≤◌, ◌<◌}
use mathlib.Core.Path.{◌≡◌, refl, sym, ◌∙◌}
use mathlib.Core.Bool.{Bool, true, false, cond, false≢true}
use mathlib.Core.List.{List, [], ◌∷◌, map}
use mathlib.Core.Logic.{◌⊎◌, inl, inr, ⊎_elim}
use mathlib.Core.Option.{Option, none, some}
use native.Mathlib.Nat.{le_refl}
use native.Mathlib.Omega.{arith}
use lib.Dec.{ltb}
use lib.ListN.{length}
use borrow.Author.Tests.{ltb-true, ltb-false}
use Rattle.plan_values.specs.declared.Flow.{Flow}
use Rattle.plan.specs.Legal.{flow}
use Rattle.model.specs.Interference.{keep, those}
use Rattle.model.specs.Verdicts.{higher, highest}

-- Two tests that agree on the flows of the plan keep the same.
pub those_same : (t u : Flow → Bool) (fs : List Flow) → ((k : ℕ) → k < length fs → t (flow fs k) ≡ u (flow fs k)) → those t fs ≡ those u fs
unfolding those
those_same t u [] same = refl
those_same t u (f ∷ fs) same = rw (same 0 (omega arith), those_same t u fs (λ k l. same (suc k) (omega arith)))

-- Two functions that agree on the flows kept give the same of them.
pub map_those :
    {B : Type 0} (test : Flow → Bool) (g h : Flow → B) (fs : List Flow) →
    ((k : ℕ) → k < length fs → test (flow fs k) ≡ true → g (flow fs k) ≡ h (flow fs k)) → map g (those test fs) ≡ map h (those test fs)
unfolding those
map_those test g h [] same = refl
map_those test g h (f ∷ fs) same = go (test f) (same 0 (omega arith)) (map_those test g h fs (λ k l. same (suc k) (omega arith)))
  where
    go : (b : Bool) → (b ≡ true → g f ≡ h f) → map g (those test fs) ≡ map h (those test fs) → map g (keep b f (those test fs)) ≡ map h (keep b f (those test fs))
    go true e rest = rw (e refl, rest)
    go false e rest = rest

pub those_few : (test : Flow → Bool) (fs : List Flow) → length (those test fs) ≤ length fs
unfolding those
those_few test [] = omega arith
those_few test (f ∷ fs) = go (test f) (those_few test fs)
  where
    go : (b : Bool) → length (those test fs) ≤ length fs → length (keep b f (those test fs)) ≤ length (f ∷ fs)
    go true h = omega arith
    go false h = omega arith

-- The highest so far, once f has been looked at.
abbrev pub next : Bool → Option Flow → Flow → Option Flow
next false o f = o
next true none f = some f
next true (some g) f = some (higher g f)

-- Where the search from o ends: nothing passes, or a flow that no other that passes is above.
abbrev pub Came : (Flow → Bool) → List Flow → Option Flow → Option Flow → Type 0
Came test fs o none = (o ≡ none) × ((k : ℕ) → k < length fs → test (flow fs k) ≡ true → ⊥)
Came test fs o (some j) =
    ((o ≡ some j) ⊎ ((k : ℕ) × (k < length fs) × (test (flow fs k) ≡ true) × (flow fs k ≡ j)))
    × ((g : Flow) → o ≡ some g → j.priority ≤ g.priority)
    × ((k : ℕ) → k < length fs → test (flow fs k) ≡ true → j.priority ≤ (flow fs k).priority)

-- What holds of each of two flows in its case holds of the one that a test picks.
by_test : (P : Flow → Type 0) (b : Bool) (f g : Flow) → (b ≡ true → P f) → (b ≡ false → P g) → P (cond b f g)
by_test P true f g one other = one refl
by_test P false f g one other = other refl

module _ (g f : Flow) where
  higher_below : ((higher g f).priority ≤ g.priority) × ((higher g f).priority ≤ f.priority)
  higher_below =
      by_test (λ h. (h.priority ≤ g.priority) × (h.priority ≤ f.priority)) (ltb f.priority g.priority) f g
      (λ e. let l : f.priority < g.priority = ltb-true _ _ e in omega arith)
      (λ e. let l : g.priority ≤ f.priority = ltb-false _ _ e in omega arith)

  higher_either : (higher g f ≡ g) ⊎ (higher g f ≡ f)
  higher_either = by_test (λ h. (h ≡ g) ⊎ (h ≡ f)) (ltb f.priority g.priority) f g (λ e. inr refl) (λ e. inl refl)

module _ (test : Flow → Bool) (f : Flow) (fs : List Flow) where
  -- A search that f begins: where the rest of it ends, it ends.
  step : (b : Bool) → test f ≡ b → (o r : Option Flow) → Came test fs (next b o f) r → Came test (f ∷ fs) o r
  step false e o none (a, b) = (a, λ k. elim k as (λ k. k < length (f ∷ fs) → test (flow (f ∷ fs) k) ≡ true → ⊥) [ zero ↦ λ l h. false≢true (sym e ∙ h) | suc k ↦ λ l h. b k (omega arith) h ])
  step false e o (some j) (a, b, c) = (
    ⊎_elim inl (λ (k, l, h, s). inr (suc k, omega arith, h, s)) a,
    b,
    λ k. elim k as (λ k. k < length (f ∷ fs) → test (flow (f ∷ fs) k) ≡ true → j.priority ≤ (flow (f ∷ fs) k).priority) [ zero ↦ λ l h. absurd (false≢true (sym e ∙ h)) | suc k ↦ λ l h. c k (omega arith) h ],
  )
  step true e none none (a, b) = let z : ◌≡◌ {A = ℕ} 0 1 = cc in absurd (omega arith)
  step true e (some g) none (a, b) = let z : ◌≡◌ {A = ℕ} 0 1 = cc in absurd (omega arith)
  step true e none (some j) (a, b, c) = (
    ⊎_elim (λ s. inr (0, omega arith, e, (cc))) (λ (k, l, h, s). inr (suc k, omega arith, h, s)) a,
    (λ g s. let z : ◌≡◌ {A = ℕ} 0 1 = cc in absurd (omega arith)),
    λ k. elim k as (λ k. k < length (f ∷ fs) → test (flow (f ∷ fs) k) ≡ true → j.priority ≤ (flow (f ∷ fs) k).priority) [ zero ↦ λ l h. b f refl | suc k ↦ λ l h. c k (omega arith) h ],
  )
  step true e (some g) (some j) (a, b, c) =
      let low = b (higher g f) refl in (
        ⊎_elim
            (λ s. ⊎_elim (λ t. inl (cc)) (λ t. inr (0, omega arith, e, (cc))) (higher_either g f))
            (λ (k, l, h, s). inr (suc k, omega arith, h, s))
            a,
        (λ g' s. let t : g ≡ g' = cc in rw (← t) (omega (arith, low, higher_below g f))),
        λ k. elim k as (λ k. k < length (f ∷ fs) → test (flow (f ∷ fs) k) ≡ true → j.priority ≤ (flow (f ∷ fs) k).priority) [ zero ↦ λ l h. omega (arith, low, higher_below g f) | suc k ↦ λ l h. c k (omega arith) h ],
      )

  pub highest_next : (b : Bool) (o : Option Flow) → highest o (keep b f (those test fs)) ≡ highest (next b o f) (those test fs)
  unfolding highest
  highest_next false o = refl
  highest_next true none = refl
  highest_next true (some g) = refl

pub came : (test : Flow → Bool) (fs : List Flow) (o : Option Flow) → Came test fs o (highest o (those test fs))
unfolding those highest
came test [] none = (refl, λ k l. absurd (omega arith))
came test [] (some g) = (inl refl, (λ h s. let t : g ≡ h = cc in rw t (le_refl _)), λ k l. absurd (omega arith))
came test (f ∷ fs) o =
    rw (highest_next test f fs (test f) o) (step test f fs (test f) refl o (highest (next (test f) o f) (those test fs)) (came test fs (next (test f) o f)))
