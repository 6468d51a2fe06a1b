-- `engine::turn_of` meets its contract.
use mathlib.Core.Path.{refl}
use Rattle.engine.proofs.Answering.{lists_are, latency_asked}
use Rattle.engine.proofs.turn_of.Goals as goal

pub latency-cost-requires-clause-legal : goal.latency-cost-requires-clause-legal
latency-cost-requires-clause-legal c = (latency_asked c.requires.scene c.requires.pairs c.requires.inside).0

pub latency-cost-requires-clause-links_of_route : goal.latency-cost-requires-clause-links_of_route
latency-cost-requires-clause-links_of_route c = (latency_asked c.requires.scene c.requires.pairs c.requires.inside).1

pub returns : goal.returns
returns c = record {
  place = refl;
  cost = c.latency-cost.ensures;
  limit = c.limit.ensures;
  names = lists_are c.requires.scene c.requires.pairs c.requires.inside c.row_of.ensures;
}
