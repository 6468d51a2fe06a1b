-- `Arrivals::packets` meets its contract: one addition and one division round up.
use Rattle.recurrence.proofs.Quotients.{up_held}
use Rattle.recurrence.proofs.terms.Arrivals.packets.Goals as goal

pub returns : goal.returns
returns c = rw (← c.self.view_is) (up_held _ _ _ c.self.invariant)
