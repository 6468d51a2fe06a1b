-- `plan_checks::check_clash` meets its contract: each `return` is the first check of the chain that came out true.
use mathlib.Core.Path.{refl, sym, ◌∙◌}
use borrow.Author.Tests.{eq-eqb, ne_eqb}
use Rattle.framing.proofs.First.{here, past}
use Rattle.plan_checks.specs.declared.Names.{Names}
use Rattle.plan_checks.specs.Checks.{clash_at}
use Rattle.plan_checks.proofs.Searches.{taken_any}
use Rattle.plan_checks.proofs.check_clash.Goals as goal

pub returns-then-flow : goal.returns-then-flow
unfolding clash_at
returns-then-flow c = here _ _ _ refl (eq-eqb _ _ c.if-flow.true)

pub returns-then-has_id : goal.returns-then-has_id
unfolding clash_at
returns-then-has_id c =
    let ids = taken_any (λ (f : Names). f.id) c.args.earlier.now c.args.flow.id ∙ sym c.has_id.ensures in
    past _ _ _ refl (ne_eqb _ _ c.if-flow.false) (here _ _ _ refl (ids ∙ c.if-has_id.true))

pub returns-then-has_priority : goal.returns-then-has_priority
unfolding clash_at
returns-then-has_priority c =
    let ids = taken_any (λ (f : Names). f.id) c.args.earlier.now c.args.flow.id ∙ sym c.has_id.ensures in
    let priorities = taken_any (λ (f : Names). f.priority) c.args.earlier.now c.args.flow.priority ∙ sym c.has_priority.ensures in
    past _ _ _ refl (ne_eqb _ _ c.if-flow.false) (past _ _ _ refl (ids ∙ c.if-has_id.false) (here _ _ _ refl (priorities ∙ c.if-has_priority.true)))

pub returns : goal.returns
unfolding clash_at
returns c =
    let ids = taken_any (λ (f : Names). f.id) c.args.earlier.now c.args.flow.id ∙ sym c.has_id.ensures in
    let priorities = taken_any (λ (f : Names). f.priority) c.args.earlier.now c.args.flow.priority ∙ sym c.has_priority.ensures in
    past _ _ _ refl (ne_eqb _ _ c.if-flow.false) (past _ _ _ refl (ids ∙ c.if-has_id.false) (past _ _ _ refl (priorities ∙ c.if-has_priority.false) refl))
