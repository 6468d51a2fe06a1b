-- `mesh_shared::shared_from_turn` meets its contract: the hops along one column, and the ejection links behind them.
use mathlib.Core.Logic.{inr}
use borrow.Author.Rules.{rules}
use Rattle.mesh.proofs.Walks.{column_walks, ejections, halves_from, same_column}
use Rattle.mesh_stretches.proofs.Keeping.{joined_shares, none_shared}
use Rattle.mesh_stretches.proofs.Hopping.{hops_shares}
use Rattle.mesh_shared.proofs.Entering.{ejection_shares}
use Rattle.mesh_shared.proofs.shared_from_turn.Goals as goal

pub returns-then-a-b : goal.returns-then-a-b
returns-then-a-b c =
    let on_a = c.a.invariant in
    let on_b = c.b.invariant in
    let one = c.if-a-b.true in
    rw (← c.a.view_is, ← c.b.view_is)
    (joined_shares _ (column_walks _ _ on_a on_b).run (ejections _ _ on_a on_b).run (halves_from _ _ on_a on_b).run
    (hops_shares c.shared_hops-hops.ensures 3 one on_a.columns.1)
    (ejection_shares on_a on_b one c.shared_link-ejection.ensures)
    (rw c.abs_diff.ensures at c.joined.ensures))

pub returns-else-a-b : goal.returns-else-a-b
returns-else-a-b c =
    let on_a = c.a.invariant in
    let on_b = c.b.invariant in
    rw (← c.a.view_is, ← c.b.view_is)
    (none_shared (halves_from _ _ on_a on_b).run (λ h. c.if-a-b.false (same_column _ _ on_a on_b (inr h))) (search rules) (search rules))
