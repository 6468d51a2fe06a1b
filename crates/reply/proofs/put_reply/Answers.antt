-- `reply::put_reply` meets its contract.
use Rattle.reply.proofs.Writing.{reply_put}
use Rattle.reply.proofs.put_reply.Goals as goal

pub returns : goal.returns
returns c = reply_put c.args.answers.now c.args.reply.now c.put_records-end.ensures.0 c.put_records-end.ensures.1 c.put_end.ensures
