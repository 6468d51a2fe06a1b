-- `writer_bytes::put_plan` meets its contract.
use Rattle.std.proofs.Common.{rules}
use Rattle.writer_bytes.proofs.Putting.{plan_put}
use Rattle.writer_bytes.proofs.put_plan.Goals as goal

pub returns : goal.returns
returns c = plan_put c.args.platform c.args.flows.now c.args.out.now (search rules) c.copy_in-start.ensures.0 c.copy_in-start.ensures.1 c.put_records-end.ensures.0 c.put_records-end.ensures.1 c.put_end.ensures
