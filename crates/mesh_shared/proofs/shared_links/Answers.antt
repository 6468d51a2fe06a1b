-- `mesh_shared::shared_links` meets its contract: a route is its two halves, one behind the other.
use native.Mathlib.Omega.{arith}
use borrow.Author.Rules.{rules}
use Rattle.mesh.proofs.Places.{in_halves, short_to_turn, short_from_turn}
use Rattle.mesh.proofs.Walks.{halves_to, halves_from, halves_run, routes_run, cannot_meet}
use Rattle.mesh_stretches.proofs.Keeping.{joined_shares, none_shared, shares_within}
use Rattle.mesh_shared.proofs.shared_links.Goals as goal

pub returns-then-a-b-2 : goal.returns-then-a-b-2
returns-then-a-b-2 c =
    let on_a = c.a.invariant in
    let on_b = c.b.invariant in
    rw (← c.a.view_is, ← c.b.view_is)
    (none_shared (routes_run _ _ on_a on_b) (cannot_meet _ _ on_a on_b c.if-a-b.true c.if-a-b-2.true) (search rules) (search rules))

pub joined-requires : goal.joined-requires
joined-requires c =
    let on_a = c.a.invariant in
    let on_b = c.b.invariant in
    let to = rw (← c.a.view_is, ← c.b.view_is) at c.shared_to_turn.ensures in
    let from = rw (← c.a.view_is, ← c.b.view_is) at c.shared_from_turn.ensures in
    omega (arith, shares_within (halves_to _ _ on_a on_b).run to, shares_within (halves_from _ _ on_a on_b).run from, short_to_turn on_a, short_from_turn on_a)

pub returns : goal.returns
returns c =
    let on_a = c.a.invariant in
    let on_b = c.b.invariant in
    rw (in_halves, in_halves, ← c.a.view_is, ← c.b.view_is)
    (joined_shares _ (halves_to _ _ on_a on_b).run (halves_from _ _ on_a on_b).run (halves_run _ _ on_a on_b)
    (rw (← c.a.view_is, ← c.b.view_is) at c.shared_to_turn.ensures)
    (rw (← c.a.view_is, ← c.b.view_is) at c.shared_from_turn.ensures)
    (rw c.abs_diff-turn.ensures at c.joined.ensures))
