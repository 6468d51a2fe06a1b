-- `writer::write` meets its contract.
use borrow.Author.Rules.{rules}
use mathlib.Core.Path.{◌≡◌}
use Rattle.std.specs.Prelude.{Err}
use Rattle.writer.proofs.Returning.{Tried, tried, written_refused, written_longer, written_short, written_whole}
use Rattle.writer.proofs.Typed.{plan_typed}
use Rattle.writer.proofs.write.Goals as goal
use Rattle.writer.proofs.write.Goals.{After-read}

-- What was tried before the buffer is touched.
read_there : (c : After-read) → Tried c.args.plan.platform c.args.plan.flows c.args.plan.count c.min-kept.result c.plan_length-size.result c.read.result
read_there c = tried _ (search rules) (search rules) c.plan_length-size.ensures.0 c.put_plan.ensures c.read.ensures

pub returns-in_err-read : goal.returns-in_err-read
returns-in_err-read c = rw (let e : c.from_residual.result ≡ Err c.in_err-read.field-0.0 = search rules in e) (written_refused _ (read_there (goal.at.returns-in_err-read c).After-read) c.in_err-read.was)

pub returns-then-plan-gt64 : goal.returns-then-plan-gt64
returns-then-plan-gt64 c = written_longer _ (read_there (goal.at.returns-then-plan-gt64 c).After-read) c.if-plan-gt64.true c.in_ok-read.was

pub returns-then-buffer-size : goal.returns-then-buffer-size
returns-then-buffer-size c = written_short _ (read_there (goal.at.returns-then-buffer-size c).After-read) c.if-plan-gt64.false c.in_ok-read.was c.if-buffer-size.true

pub returns : goal.returns
returns c = written_whole _ (read_there (goal.at.returns c).After-read) c.if-plan-gt64.false c.in_ok-read.was (plan_typed c.args.plan _ c.well_formed.0) c.if-buffer-size.false c.put_plan-2.ensures
