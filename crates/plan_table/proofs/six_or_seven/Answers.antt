-- `plan_table::six_or_seven` meets its contract: the test is the definition's.
use native.Mathlib.Omega.{arith}
use mathlib.Core.Path.{sym}
use Rattle.plan_table.proofs.Lengths.{seven, six}
use Rattle.plan_table.proofs.six_or_seven.Goals as goal

pub returns-then-told-eq7 : goal.returns-then-told-eq7
returns-then-told-eq7 c = (sym (seven c.if-told-eq7.true), omega arith)

pub returns : goal.returns
returns c = (sym (six c.if-told-eq7.false), omega arith)
