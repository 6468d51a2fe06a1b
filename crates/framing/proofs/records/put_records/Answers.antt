-- `framing::records::put_records` meets its contract.
use Rattle.std.proofs.Common.{rules, arith, ap, ◌∙◌}
use Rattle.framing.proofs.Writing.{rowed_none, rowed_more}
use Rattle.framing.proofs.records.put_records.Goals as goal

pub loop-i-init : goal.loop-i-init
loop-i-init g c = rowed_none (omega (arith, c.requires))

pub loop-i-preserved : goal.loop-i-preserved
loop-i-preserved g c = rowed_more c.loop-i.invariant c.loop-i-test.true (search rules) c.index-things-i.result (search rules) (c.copy_from_slice.ensures.after ∙ c.record.ensures ∙ ap g.L.Layout.made c.index-things-i.is) (search rules)
