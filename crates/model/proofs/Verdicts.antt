-- The verdicts of a plan: `verdict` gives right answers, and no others are right.
use Prim.Native.Nat.{ℕ, zero, suc, ◌<◌}
use mathlib.Core.Path.{◌≡◌, sym, ◌∙◌}
use mathlib.Core.List.{List}
use native.Mathlib.Omega.{arith}
use native.Mathlib.Nat.{le_refl}
use lib.ListN.{length}
use Rattle.plan_values.specs.declared.Platform.{Platform}
use Rattle.plan_values.specs.declared.Flow.{Flow}
use Rattle.plan.specs.Legal.{Legal, flow}
use Rattle.model.specs.declared.Verdict.{Verdict}
use Rattle.model.specs.Verdicts.{judge, verdict_below, verdict}
use Rattle.model.specs.Rules.{Says, Right}
use Rattle.model.proofs.Judged.{direct_above, judge_local, judge_says, says_once}

module _ (p : Platform) (fs : List Flow) where
  -- Fuel beyond the priority number does not matter.
  pub deep : (n m : ℕ) (i : Flow) → i.priority < n → i.priority < m → verdict_below n p fs i ≡ verdict_below m p fs i
  unfolding verdict_below
  deep zero m i l h = absurd (omega arith)
  deep (suc n) zero i l h = absurd (omega arith)
  deep (suc n) (suc m) i l h =
      judge_local p fs i (verdict_below n p fs) (verdict_below m p fs)
      (λ k s d. let a = direct_above p i (flow fs k) d in deep n m (flow fs k) (omega arith) (omega arith))

  -- A flow's verdict is judged from the verdicts of its direct flows.
  pub verdict_is : (i : Flow) → verdict p fs i ≡ judge p fs (verdict p fs) i
  unfolding verdict verdict_below
  verdict_is i =
      judge_local p fs i (verdict_below i.priority p fs) (verdict p fs)
      (λ k s d. deep i.priority (suc (flow fs k).priority) (flow fs k) (direct_above p i (flow fs k) d) (le_refl _))

  -- Each flow's verdict says what document 01 allows.
  pub verdict_says : (i : Flow) → Says p fs (verdict p fs) i (verdict p fs i)
  verdict_says i = rw (verdict_is i) (judge_says p fs (verdict p fs) i)

  pub right : Right p fs (verdict p fs)
  right k l = verdict_says (flow fs k)

  module _ (legal : Legal p fs) where
    -- Right answers to the flows whose priority number is below n are the verdicts.
    right_below :
        (f : Flow → Verdict) → Right p fs f → (n k : ℕ) → k < length fs → (flow fs k).priority < n → f (flow fs k) ≡ verdict p fs (flow fs k)
    right_below f a zero k l h = absurd (omega arith)
    right_below f a (suc n) k l h =
        says_once p fs f (flow fs k) legal (f (flow fs k)) (judge p fs f (flow fs k)) (a k l) (judge_says p fs f (flow fs k))
        ∙ judge_local p fs (flow fs k) f (verdict p fs)
        (λ m s d. let above = direct_above p (flow fs k) (flow fs m) d in right_below f a n m s (omega arith))
        ∙ sym (verdict_is (flow fs k))

    pub right_once : (f : Flow → Verdict) → Right p fs f → (k : ℕ) → k < length fs → f (flow fs k) ≡ verdict p fs (flow fs k)
    right_once f a k l = right_below f a (suc (flow fs k).priority) k l (le_refl _)

    -- "Show that two results allowed for one input coincide": two right answers to one plan do.
    pub answers_once : (f g : Flow → Verdict) → Right p fs f → Right p fs g → (k : ℕ) → k < length fs → f (flow fs k) ≡ g (flow fs k)
    answers_once f g a b k l = right_once f a k l ∙ sym (right_once g b k l)
