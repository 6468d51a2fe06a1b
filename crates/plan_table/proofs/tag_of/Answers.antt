-- `plan_table::tag_of` meets its contract: each arm is a line of the table.
use borrow.Author.Rules.{rules}
use mathlib.Core.Path.{sym, ap, ◌∙◌}
use Rattle.plan_table.specs.Table.{tag_of}
use Rattle.plan_table.specs.declared.Kind.TheVariants.{PlatformRecord, FlowRecord, EndRecord}
use Rattle.plan_table.proofs.Tags.{tag_known, tag_unknown}
use Rattle.plan_table.proofs.tag_of.Goals as goal

pub returns-in-1 : goal.returns-in-1
returns-in-1 c = sym (ap tag_of c.in-1.is ∙ tag_known PlatformRecord)

pub returns-in-2 : goal.returns-in-2
returns-in-2 c = sym (ap tag_of c.in-2.is ∙ tag_known FlowRecord)

pub returns-in-127 : goal.returns-in-127
returns-in-127 c = sym (ap tag_of c.in-127.is ∙ tag_known EndRecord)

pub returns-in_default : goal.returns-in_default
returns-in_default c = sym (tag_unknown (search rules) (search rules) (search rules))
