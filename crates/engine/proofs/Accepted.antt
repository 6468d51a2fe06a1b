-- A plan that `plan::read` accepts is one that the engine may be given, and its flows are the plan's.
use Prim.Native.Nat.{ℕ}
use native.Mathlib.Omega.{arith}
use mathlib.Core.Path.{◌≡◌, refl, sym, ap, subst, ◌∙◌}
use mathlib.Core.List.{List, map}
use lib.ListN.{length, take, length-map}
use lib.Seq.{take_at, length-take-le}
use Rattle.plan_values.specs.declared.Platform.{Platform}
use Rattle.plan_values.specs.declared.Flow.{Flow}
use Rattle.plan.specs.declared.Plan.{Plan}
use Rattle.std.specs.Prelude.{Result, Ok}
use Rattle.framing.specs.Returned.{outcome}
use Rattle.framing.specs.declared.returned.Refusal.{Refusal}
use Rattle.plan.specs.Padded.{padded}
use Rattle.plan_values.specs.Values.{blank_flow}
use Rattle.plan.specs.Reading.{accepted, plan_in, read_plan}
use Rattle.plan.proofs.Padding.{length_padded}
use Rattle.plan.proofs.Exact.{accepted_plan, legal}
use Rattle.model.specs.declared.Answer.{Answer}
use Rattle.model.specs.Verdicts.{answer_to, answers}
use Rattle.pairs.specs.Scene.{Scene}
use Rattle.model.specs.Answers.{answer_array}

pub plan_flows : (fs : List Flow) → take (length fs) (padded blank_flow fs) ≡ fs
plan_flows fs = take_at fs _ (length fs) refl

plan_scene : (s : List ℕ) (p : Platform) (fs : List Flow) → read_plan s ≡ accepted p fs → Scene p (padded blank_flow fs) (length fs)
plan_scene s p fs e =
    let l = legal s p fs e in
    record { few = l.few; room = length_padded blank_flow fs l.few; legal = rw (plan_flows fs) l }

pub reading_scene : (s : List ℕ) {r : Result Plan Refusal} → r ≡ read_plan s → outcome r ≡ Ok tt → Scene (plan_in r).platform (plan_in r).flows (plan_in r).count
unfolding accepted
reading_scene s {r} e o =
    let a = accepted_plan s (ap (λ (x : Result Plan Refusal). outcome x) (sym e) ∙ o) in
    subst (λ (x : Result Plan Refusal). Scene (plan_in x).platform (plan_in x).flows (plan_in x).count) (sym (e ∙ a.2)) (plan_scene s a.0 a.1 a.2)

-- The answers stand in front of the array's blanks.
pub first_answers : (plan : Plan) {list : List Answer} → Scene plan.platform plan.flows plan.count → list ≡ answer_array plan.platform (take plan.count plan.flows) → take plan.count list ≡ answers plan.platform (take plan.count plan.flows)
unfolding answers
first_answers plan w e =
    let fs = take plan.count plan.flows in
    let long : length fs ≡ plan.count = length-take-le plan.count plan.flows (omega (arith, w.few, w.room)) in
    rw e (take_at (map (answer_to plan.platform fs) fs) _ plan.count (length-map fs _ ∙ long))
