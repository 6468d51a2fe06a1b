-- What source document 002 says of its own equations: (4) and (5) are parts of (1), and (9) is at most (5) and (8). None of it asks for a legal plan.
use Prim.Native.Nat.{ℕ, ◌+◌, ◌-◌, ◌≤◌}
use mathlib.Core.Path.{◌≡◌, refl}
use mathlib.Core.Bool.{Bool, true, false, cond, ◌&&◌}
use mathlib.Core.List.{List, [], ◌∷◌}
use native.Mathlib.Nat.{le_refl, mul-le-mul, min-le_left, min-le_right}
use native.Mathlib.Omega.{arith}
use lib.Dec.{ltb}
use lib.ListN.{length}
use borrow.Author.Tests.{ltb-true, le-ltb}
use Rattle.plan_values.specs.declared.Platform.{Platform}
use Rattle.plan_values.specs.declared.Flow.{Flow}
use Rattle.model.specs.PaperSets.{L, linkl, route, cd, C, order, first, FlowSet, sum, Sᴰ, Sᴵ, Sᵘᵖ, Sᵈᵒʷⁿ}
use Rattle.model.specs.PaperEquations.{hits_in, bi₇, Iᴰ₁, I, Iᵘᵖ₄, Iᵈᵒʷⁿ₅, Iᵈᵒʷⁿ₈, Iᵈᵒʷⁿ₉}

-- Tables I, III and V give C with L and |route|, for link cycles 1 and routing cycles 0: C is L + |route| - 1.
pub tables_C : (p : Platform) (i : Flow) → linkl p ≡ 1 → p.routing ≡ 0 → 1 ≤ L p i → C p i ≡ L p i + length (route p i) - 1
unfolding C
tables_C p i one none some = rw (one, none) (omega arith)

-- A figure that is nowhere larger has no larger sum over a set.
sum_low : (Γ : List Flow) (S : FlowSet) (g h : Flow → ℕ) → ((k : Flow) → g k ≤ h k) → sum Γ S g ≤ sum Γ S h
unfolding sum
sum_low [] S g h low = omega arith
sum_low (f ∷ Γ) S g h low = go (S f) (sum_low Γ S g h low)
  where
    go : (b : Bool) → sum Γ S g ≤ sum Γ S h → cond b (g f) 0 + sum Γ S g ≤ cond b (h f) 0 + sum Γ S h
    go true rest = omega (arith, low f)
    go false rest = omega arith

-- Two sets that are apart and in a third have together no larger sum than it.
sum_parts :
    (Γ : List Flow) (one other all : FlowSet) (g : Flow → ℕ) → ((k : Flow) → cond (one k) (g k) 0 + cond (other k) (g k) 0 ≤ cond (all k) (g k) 0) →
    sum Γ one g + sum Γ other g ≤ sum Γ all g
unfolding sum
sum_parts [] one other all g apart = omega arith
sum_parts (f ∷ Γ) one other all g apart = omega (arith, apart f, sum_parts Γ one other all g apart)

-- Not both before and after.
one_part : (a b : Bool) (m n figure : ℕ) → cond ((a && b) && ltb m n) figure 0 + cond ((a && b) && ltb n m) figure 0 ≤ cond b figure 0
one_part true true m n figure = go (ltb m n) refl
  where
    go : (t : Bool) → ltb m n ≡ t → cond t figure 0 + cond (ltb n m) figure 0 ≤ figure
    go true e = let l = ltb-true m n e in rw (le-ltb n m (omega arith)) (omega arith)
    go false e = low (ltb n m)
      where
        low : (u : Bool) → 0 + cond u figure 0 ≤ figure
        low true = omega arith
        low false = omega arith
one_part true false m n figure = omega arith
one_part false true m n figure = omega arith
one_part false false m n figure = omega arith

module _ (p : Platform) (Γ : List Flow) (R : Flow → ℕ) (j i : Flow) where
  -- "the worst case interference suffered by τ_j from flows τ_k that interfere with it, respectively, upstream or downstream": parts of all its direct interference.
  pub parts_of_1 : Iᵘᵖ₄ p Γ R j i + Iᵈᵒʷⁿ₅ p Γ R j i ≤ Iᴰ₁ p Γ R j (R j)
  unfolding Sᵘᵖ Sᵈᵒʷⁿ
  parts_of_1 =
      sum_parts Γ (Sᵘᵖ p Γ i j) (Sᵈᵒʷⁿ p Γ i j) (Sᴰ p j) (λ k. I p Γ R k j)
      (λ k. one_part (Sᴵ p Γ i k) (Sᴰ p j k) (order (first (cd p j k)) (route p j)) (order (first (cd p i j)) (route p j)) (I p Γ R k j))

  -- "we rewrite Equation 8 to use, for every downstream interference hit, the smallest value between bi_ij and C_k"
  pub nine_at_most : (Iᵈᵒʷⁿ₉ p Γ R j i ≤ Iᵈᵒʷⁿ₈ p Γ R j i) × (Iᵈᵒʷⁿ₉ p Γ R j i ≤ Iᵈᵒʷⁿ₅ p Γ R j i)
  nine_at_most = (
    sum_low Γ (Sᵈᵒʷⁿ p Γ i j) _ _ (λ k. mul-le-mul (le_refl (hits_in (R j) k)) (min-le_left (bi₇ p i j) (C p k))),
    sum_low Γ (Sᵈᵒʷⁿ p Γ i j) _ _ (λ k. mul-le-mul (le_refl (hits_in (R j) k)) (min-le_right (bi₇ p i j) (C p k))),
  )
