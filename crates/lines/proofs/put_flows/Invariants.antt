-- `lines::put_flows`: the lines of the first k records are written.
use Rattle.lines.proofs.Listing.{Listing}
use Rattle.lines.proofs.put_flows.Given as goal

abbrev pub invariant-loop-k : goal.invariant-loop-k
invariant-loop-k l = Listing l.initial.text l.reply l.text l.k
