-- `plan_checks::has_id` meets its contract: what was found among the flows so far.
use Rattle.std.proofs.Common.{◌≡◌, take, ◌==◌}
use Rattle.std.specs.List.{list_any}
use Rattle.plan_checks.specs.declared.Names.{Names}
use Rattle.plan_checks.proofs.has_id.Given as goal

abbrev pub invariant-loop-f : goal.invariant-loop-f
invariant-loop-f l = l.found ≡ list_any (λ (f : Names). f.id == l.id) (take l.f-index l.flows)
