-- `plan_checks::check_rest` meets its contract: each arm is a case of the record.
use Rattle.plan_checks.proofs.Rests.{rests}
use Rattle.plan_checks.proofs.check_rest.Goals as goal

pub returns-in-PlatformRecord : goal.returns-in-PlatformRecord
returns-in-PlatformRecord c = search rests

pub returns-in-FlowRecord : goal.returns-in-FlowRecord
returns-in-FlowRecord c = search rests

pub returns-in-EndRecord : goal.returns-in-EndRecord
returns-in-EndRecord c = search rests
