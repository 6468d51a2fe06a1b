-- One flow's verdict, from the answers to its direct flows.
use Prim.Native.Nat.{ℕ, ◌<◌}
use mathlib.Core.Path.{◌≡◌, refl, sym, ap, ◌∙◌}
use mathlib.Core.Bool.{Bool, true, false, not, ◌&&◌}
use mathlib.Core.List.{List}
use mathlib.Core.Logic.{⊎_elim}
use mathlib.Core.Option.{Option, none, some}
use native.Mathlib.Decide.{dec_lt}
use native.Mathlib.Omega.{arith}
use lib.Dec.{ltb}
use lib.ListN.{length}
use borrow.Author.Tests.{ltb-true}
use Rattle.framing.proofs.Tests.{and_left, and_right, and_both, not_flip}
use Rattle.plan_values.specs.declared.Platform.{Platform}
use Rattle.plan_values.specs.declared.Flow.{Flow}
use Rattle.plan.specs.Legal.{Distinct, Legal, flow}
use Rattle.recurrence.specs.declared.Settled.{Settled}
use Rattle.recurrence.specs.declared.Settled.TheVariants.{Bounded as BoundedAt, Late as LateAfter}
use Rattle.recurrence.specs.Verdicts.{Allowed}
use Rattle.recurrence.specs.ComesTo.{comes_to}
use Rattle.recurrence.proofs.Theorems.{comes_to_allowed, allowed_alike}
use Rattle.model.specs.declared.Verdict.{Verdict}
use Rattle.model.specs.declared.Verdict.TheVariants.{Bounded, Late, Waits}
use Rattle.model.specs.Links.{pair_of}
use Rattle.model.specs.Latency.{latency, limit}
use Rattle.model.specs.Interference.{direct_for, those}
use Rattle.model.specs.Delays.{terms}
use Rattle.model.specs.Verdicts.{is_bounded, terms_of, recurrence_of, holds_up, highest, settled_verdict, judged, judge}
use Rattle.model.specs.Rules.{Unbounded, AllBounded, Says}
use Rattle.model.proofs.Those.{those_same, map_those, Came, came}

-- "j has higher priority": a direct flow has a smaller priority number
pub direct_above : (p : Platform) (i j : Flow) → direct_for p i j ≡ true → j.priority < i.priority
unfolding direct_for
direct_above p i j d = ltb-true _ _ (and_left (ltb j.priority i.priority) (ltb 0 (pair_of p i j).count) d)

-- ---- the verdict depends on nothing but the answers to the direct flows
module _ (p : Platform) (fs : List Flow) (i : Flow) (f g : Flow → Verdict)
    (same : (k : ℕ) → k < length fs → direct_for p i (flow fs k) ≡ true → f (flow fs k) ≡ g (flow fs k)) where
  pub terms_local : terms_of p fs f i ≡ terms_of p fs g i
  unfolding terms
  terms_local = map_those (direct_for p i) _ _ fs (λ k l d. rw (same k l d))

  holds_up_local : (k : ℕ) → k < length fs → holds_up p f i (flow fs k) ≡ holds_up p g i (flow fs k)
  holds_up_local k l = go (direct_for p i (flow fs k)) (same k l)
    where
      go : (b : Bool) → (b ≡ true → f (flow fs k) ≡ g (flow fs k)) → (b && not (is_bounded (f (flow fs k)))) ≡ (b && not (is_bounded (g (flow fs k))))
      go true h = ap (λ v. not (is_bounded v)) (h refl)
      go false h = refl

  judged_local : (o : Option Flow) → judged p fs f i o ≡ judged p fs g i o
  unfolding judged
  judged_local none = rw terms_local
  judged_local (some j) = refl

  pub judge_local : judge p fs f i ≡ judge p fs g i
  unfolding judge
  judge_local = rw (those_same (holds_up p f i) (holds_up p g i) fs holds_up_local) (judged_local (highest none (those (holds_up p g i) fs)))

-- Flows of a plan that have the same value, where no value is there twice, are one.
pub same_place : (value : Flow → ℕ) (fs : List Flow) → Distinct value fs → (j k : ℕ) → j < length fs → k < length fs → value (flow fs j) ≡ value (flow fs k) → j ≡ k
same_place value fs distinct j k lj lk e = go (dec_lt j k) (dec_lt k j)
  where
    go : Dec (j < k) → Dec (k < j) → j ≡ k
    go (yes h) more = absurd (distinct j k h lk e)
    go (no h) (yes g) = absurd (distinct k j g lj (sym e))
    go (no h) (no g) = omega arith

module _ (p : Platform) (fs : List Flow) (answer : Flow → Verdict) (i : Flow) where
  -- ---- a flow keeps i waiting exactly if it is direct for i and not bounded
  pub stuck_test : (k : ℕ) → Unbounded p fs answer i k → holds_up p answer i (flow fs k) ≡ true
  stuck_test k s = and_both s.direct (ap not s.unbounded)

  pub test_stuck : (k : ℕ) → k < length fs → holds_up p answer i (flow fs k) ≡ true → Unbounded p fs answer i k
  test_stuck k l e = record {
    inside = l;
    direct = and_left (direct_for p i (flow fs k)) _ e;
    unbounded = not_flip (is_bounded (answer (flow fs k))) (and_right (direct_for p i (flow fs k)) _ e);
  }

  -- ---- the verdict that is computed says what document 01 allows
  pub says_settled : AllBounded p fs answer i → (o : Settled) → Allowed (recurrence_of p fs answer i) (latency p i) (limit i) o → Says p fs answer i (settled_verdict o)
  says_settled free (BoundedAt r k) a = record { free = free; bound = a.verdict; rounds = a.rounds }
  says_settled free (LateAfter k) a = record { free = free; none = a.verdict; rounds = a.rounds }

  judged_says : (o : Option Flow) → Came (holds_up p answer i) fs none o → Says p fs answer i (judged p fs answer i o)
  unfolding judged
  judged_says none (a, b) =
      says_settled
      (λ k s. b k s.inside (stuck_test k s))
      (comes_to (recurrence_of p fs answer i) (latency p i) (limit i))
      (comes_to_allowed (latency p i) (limit i) (terms_of p fs answer i))
  judged_says (some j) (a, b, c) =
      ⊎_elim
      (λ e. let z : ◌≡◌ {A = ℕ} 0 1 = cc in absurd (omega arith))
      (λ (k, l, h, s). record {
        place = k;
        waits = test_stuck k l h;
        names = ap (λ f. f.id) (sym s);
        highest = λ m t. rw s (c m t.inside (stuck_test m t));
      })
      a

  pub judge_says : Says p fs answer i (judge p fs answer i)
  unfolding judge
  judge_says = judged_says (highest none (those (holds_up p answer i) fs)) (came (holds_up p answer i) fs none)

  -- ---- and no two verdicts do
  pub said_allowed : (v : Settled) → Says p fs answer i (settled_verdict v) → Allowed (recurrence_of p fs answer i) (latency p i) (limit i) v
  said_allowed (BoundedAt r k) s = record { verdict = s.bound; rounds = s.rounds }
  said_allowed (LateAfter k) s = record { verdict = s.none; rounds = s.rounds }

  settled_once : (v w : Settled) → Says p fs answer i (settled_verdict v) → Says p fs answer i (settled_verdict w) → settled_verdict v ≡ settled_verdict w
  settled_once v w a b = ap settled_verdict (allowed_alike (said_allowed v a) (said_allowed w b))

  pub says_once : Legal p fs → (v w : Verdict) → Says p fs answer i v → Says p fs answer i w → v ≡ w
  says_once legal (Bounded r k) (Bounded s l) a b = settled_once (BoundedAt r k) (BoundedAt s l) a b
  says_once legal (Bounded r k) (Late l) a b = settled_once (BoundedAt r k) (LateAfter l) a b
  says_once legal (Bounded r k) (Waits n) a b = absurd (a.free b.place b.waits)
  says_once legal (Late k) (Bounded s l) a b = settled_once (LateAfter k) (BoundedAt s l) a b
  says_once legal (Late k) (Late l) a b = settled_once (LateAfter k) (LateAfter l) a b
  says_once legal (Late k) (Waits n) a b = absurd (a.free b.place b.waits)
  says_once legal (Waits m) (Bounded s l) a b = absurd (b.free a.place a.waits)
  says_once legal (Waits m) (Late l) a b = absurd (b.free a.place a.waits)
  says_once legal (Waits m) (Waits n) a b =
      let same : (flow fs a.place).priority ≡ (flow fs b.place).priority = omega (arith, a.highest b.place b.waits, b.highest a.place a.waits) in
      let one : a.place ≡ b.place = same_place (λ f. f.priority) fs legal.priorities a.place b.place a.waits.inside b.waits.inside same in
      ap Waits (a.names ∙ ap (λ k. (flow fs k).id) one ∙ sym b.names)
