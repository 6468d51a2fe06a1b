-- `engine::verdict_of` meets its contract: a flow that it waits on, or its recurrence.
use Rattle.engine.proofs.Turns.{waits, free, solvable, solved}
use Rattle.engine.proofs.verdict_of.Goals as goal

pub returns-in-Some : goal.returns-in-Some
returns-in-Some c = waits c.requires.turn c.waits_on.ensures c.in-Some.j c.in-Some.is

pub solve-requires : goal.solve-requires
solve-requires c = solvable c.requires.turn (free c.requires.turn c.waits_on.ensures c.in_default.is) c.requires.way

pub returns : goal.returns
returns c = solved c.requires.turn (free c.requires.turn c.waits_on.ensures c.in_default.is) c.requires.way c.solve.ensures c.from.ensures
