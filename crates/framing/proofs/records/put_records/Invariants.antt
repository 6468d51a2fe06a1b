-- `framing::records::put_records` meets its contract.
use Rattle.framing.proofs.Writing.{Rowed}
use Rattle.framing.proofs.records.put_records.Given as goal

abbrev pub invariant-loop-i : goal.invariant-loop-i
invariant-loop-i g l = Rowed g.L.Layout.made l.start g.row.N l.initial.out l.things l.out l.i
