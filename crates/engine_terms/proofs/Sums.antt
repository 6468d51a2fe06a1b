-- Sums over the first cells, and over the flows of a plan that pass a test.
use Prim.Native.Nat.{ℕ, zero, suc, ◌+◌, ◌≤◌, ◌<◌}
use native.Mathlib.Omega.{arith}
use native.Mathlib.Numerals.{add-one}
use native.Mathlib.Decide.{dec_le}
use mathlib.Core.Path.{◌≡◌, refl, sym, ap, ap₂, ◌∙◌}
use Rattle.std.proofs.lemmas.List.Sums.{sum_by-cons}
use mathlib.Core.Bool.{Bool, true, false, cond}
use mathlib.Core.List.{List, [], ◌∷◌}
use lib.ListN.{length}
use Rattle.plan_values.specs.declared.Flow.{Flow}
use Rattle.plan.specs.Legal.{flow}
use Rattle.recurrence.specs.Sums.{sum_over}
use Rattle.model.specs.Interference.{keep, those}
use Rattle.engine_terms.specs.Loads.{sum_to}

pub sum_more : (f : ℕ → ℕ) (n : ℕ) → sum_to (n + 1) f ≡ sum_to n f + f n
unfolding sum_to
sum_more f n = rw (add-one n)

pub sum_within : (f : ℕ → ℕ) (k n : ℕ) → k ≤ n → sum_to k f ≤ sum_to n f
unfolding sum_to
sum_within f k zero h = let e : k ≡ 0 = omega arith in rw e (omega arith)
sum_within f k (suc n) h = go (dec_le k n) (sum_within f k n)
  where
    go : Dec (k ≤ n) → (k ≤ n → sum_to k f ≤ sum_to n f) → sum_to k f ≤ sum_to n f + f n
    go (yes l) less = omega (arith, less l)
    go (no g) less = let e : k ≡ suc n = omega arith in rw e (omega arith)

pub sum_same : (f g : ℕ → ℕ) (n : ℕ) → ((k : ℕ) → k < n → f k ≡ g k) → sum_to n f ≡ sum_to n g
unfolding sum_to
sum_same f g zero same = refl
sum_same f g (suc n) same = ap₂ ◌+◌ (sum_same f g n (λ k h. same k (omega arith))) (same n (omega arith))

sum_shift : (f : ℕ → ℕ) (n : ℕ) → sum_to (suc n) f ≡ f 0 + sum_to n (λ k. f (suc k))
unfolding sum_to
sum_shift f zero = omega arith
sum_shift f (suc n) = ap (λ (x : ℕ). x + f (suc n)) (sum_shift f n) ∙ omega arith

-- the flows that pass a test, and the cells of all
pub sum_those : (test : Flow → Bool) (g : Flow → ℕ) (fs : List Flow) → sum_to (length fs) (λ k. cond (test (flow fs k)) (g (flow fs k)) 0) ≡ sum_over (those test fs) g
unfolding sum_to those sum_over
sum_those test g [] = refl
sum_those test g (f ∷ fs) = sum_shift (λ k. cond (test (flow (f ∷ fs) k)) (g (flow (f ∷ fs) k)) 0) (length fs) ∙ ap (λ (x : ℕ). cond (test f) (g f) 0 + x) (sum_those test g fs) ∙ go (test f)
  where
    go : (b : Bool) → cond b (g f) 0 + sum_over (those test fs) g ≡ sum_over (keep b f (those test fs)) g
    go true = sym (sum_by-cons g f (those test fs))
    go false = omega arith
