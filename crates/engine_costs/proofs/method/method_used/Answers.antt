-- `engine_costs::method::method_used` meets its contract.
use mathlib.Core.Path.{ap, ◌∙◌}
use Rattle.std.specs.Result.{result_unwrap_or}
use Rattle.engine_costs.proofs.Methods.{numbered_used}
use Rattle.engine_costs.proofs.method.method_used.Goals as goal

pub returns : goal.returns
returns c = c.unwrap_or.ensures ∙ ap (result_unwrap_or c.try_from.result) c.house_default.ensures ∙ numbered_used c.args.p c.try_from.result c.try_from.ensures
