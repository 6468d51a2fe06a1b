-- `engine_costs::latency::latency` meets its contract: a route has a link, and the sum is the definition's.
use native.Mathlib.Omega.{arith}
use mathlib.Core.Path.{◌∙◌}
use Rattle.engine_costs.proofs.Costs.{links_some, latency_is}
use Rattle.engine_costs.proofs.latency.latency.Goals as goal

pub overflow_sub-hops : goal.overflow_sub-hops
overflow_sub-hops c = omega (arith, links_some c.requires.legal.0 c.requires.legal.1 c.requires.links_of_route, c.from-hops.ensures)

pub returns : goal.returns
returns c = latency_is c.requires.legal.0 c.requires.legal.1 (c.from-hops.ensures ∙ c.requires.links_of_route) c.flits_sent.ensures c.from.ensures c.from-2.ensures
