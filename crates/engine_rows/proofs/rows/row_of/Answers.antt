-- `engine_rows::rows::row_of` meets its contract: the direct flows are named.
use native.Mathlib.Omega.{arith}
use mathlib.Core.Path.{refl, sym, ◌∙◌}
use Rattle.engine_rows.proofs.Places.{naming_none, naming_more, naming_skip, naming_all, listed_inside}
use borrow.Author.Rules.{rules}
use Rattle.engine_rows.proofs.rows.row_of.Goals.{then-is_direct, else-is_direct}
use Rattle.engine_rows.proofs.rows.row_of.Goals as goal

pub loop-k-init : goal.loop-k-init
loop-k-init c = naming_none _ _ _ c.requires refl

pub loop-k-preserved : goal.loop-k-preserved
loop-k-preserved c =
    let l = c.loop-k in
    let e = c.is_direct.ensures in
    elim c.if-is_direct.branch [
      | then-is_direct w ↦ rw (w.direct-is, w.many-is) (naming_more l.invariant c.loop-k-test.true (sym e ∙ w.if-is_direct.true) refl)
      | else-is_direct w ↦ rw (w.direct-is, w.many-is) (naming_skip l.invariant c.loop-k-test.true (sym e ∙ w.if-is_direct.false))
    ]

pub invariant_of-result : goal.invariant_of-result
invariant_of-result c =
    let w = naming_all c.loop-k.invariant (search rules) in
    record { few = omega (arith, w.small, w.few); inside = λ m h. omega (arith, w.small, (listed_inside w m h).0) }
