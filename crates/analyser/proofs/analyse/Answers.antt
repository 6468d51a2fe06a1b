-- `analyser::analyse` meets its contract.
use native.Mathlib.Omega.{arith}
use borrow.Author.Rules.{rules}
use mathlib.Core.Path.{◌≡◌, refl, sym}
use Rattle.std.specs.Prelude.{Err}
use Rattle.pairs.specs.Scene.{Scene}
use Rattle.engine.proofs.Accepted.{reading_scene}
use Rattle.analyser.proofs.Replying.{replied_refused, replied_short, taken_length, answers_inside, replied_written}
use Rattle.analyser.proofs.analyse.Goals as goal
use Rattle.analyser.proofs.analyse.Goals.{In_ok-plan}

-- What was read is a plan that may be analysed.
scene : (c : In_ok-plan) → Scene c.in_ok-plan.plan.platform c.in_ok-plan.plan.flows c.in_ok-plan.plan.count
scene c = reading_scene _ c.in_ok-plan.ensures refl

pub returns-in_err-plan : goal.returns-in_err-plan
returns-in_err-plan c = rw (let e : c.from_residual.result ≡ Err c.in_err-plan.field-0.0 = search rules in e) (replied_refused _ _ (sym c.in_err-plan.ensures))

pub overflow_mul-size : goal.overflow_mul-size
overflow_mul-size c = omega (arith, (scene (goal.at.overflow_mul-size c).In_ok-plan).few)

pub overflow_add-size : goal.overflow_add-size
overflow_add-size c = omega (arith, (scene (goal.at.overflow_add-size c).In_ok-plan).few)

pub returns-then-reply-size : goal.returns-then-reply-size
returns-then-reply-size c = replied_short _ _ (sym c.in_ok-plan.ensures) c.if-reply-size.true

pub analyse_plan-answers-requires : goal.analyse_plan-answers-requires
analyse_plan-answers-requires c = scene (goal.at.analyse_plan-answers-requires c).In_ok-plan

pub slice_bounds-answers-end : goal.slice_bounds-answers-end
slice_bounds-answers-end c = omega (arith, answers_inside _ c.args.reply.now (sym c.in_ok-plan.ensures) c.analyse_plan-answers.ensures)

pub slice_bounds-put_reply-end : goal.slice_bounds-put_reply-end
slice_bounds-put_reply-end c = omega (arith, taken_length _ c.args.reply.now (sym c.in_ok-plan.ensures) c.analyse_plan-answers.ensures)

pub returns : goal.returns
returns c = replied_written _ _ (sym c.in_ok-plan.ensures) c.analyse_plan-answers.ensures c.if-reply-size.false c.put_reply.ensures
