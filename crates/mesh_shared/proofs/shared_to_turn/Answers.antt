-- `mesh_shared::shared_to_turn` meets its contract: the injection links, and the hops along one row behind them.
use mathlib.Core.Logic.{inr}
use borrow.Author.Rules.{rules}
use Rattle.mesh.proofs.Walks.{injections, row_walks, halves_to, same_row}
use Rattle.mesh_stretches.proofs.Keeping.{joined_shares, none_shared}
use Rattle.mesh_stretches.proofs.Hopping.{hops_shares}
use Rattle.mesh_shared.proofs.Entering.{injection_shares}
use Rattle.mesh_shared.proofs.shared_to_turn.Goals as goal

pub returns-then-a-b : goal.returns-then-a-b
returns-then-a-b c =
    let on_a = c.a.invariant in
    let on_b = c.b.invariant in
    let one = c.if-a-b.true in
    rw (← c.a.view_is, ← c.b.view_is)
    (joined_shares 1 (injections _ _ on_a on_b).run (row_walks _ _ on_a on_b).run (halves_to _ _ on_a on_b).run
    (injection_shares on_a on_b one c.shared_link-injection.ensures)
    (hops_shares c.shared_hops-hops.ensures 1 one on_a.rows.0)
    c.joined.ensures)

pub returns-else-a-b : goal.returns-else-a-b
returns-else-a-b c =
    let on_a = c.a.invariant in
    let on_b = c.b.invariant in
    rw (← c.a.view_is, ← c.b.view_is)
    (none_shared (halves_to _ _ on_a on_b).run (λ h. c.if-a-b.false (same_row _ _ on_a on_b (inr h))) (search rules) (search rules))
