-- `lines_flow::put_flow` meets its contract.
use Rattle.std.proofs.Common.{arith, rules}
use Rattle.lines_items.specs.Decimal.{decimal}
use Rattle.lines_items.specs.Words.{line_end}
use Rattle.lines_items.proofs.Digits.{few_digits}
use Rattle.lines_items.proofs.Chain.{longer, chain}
use Rattle.lines_flow.specs.Flows.{flow_line}
use Rattle.lines_flow.proofs.put_flow.Goals as goal

pub returns : goal.returns
unfolding flow_line
returns g c =
    let id = rw c.into.ensures at c.push_number.ensures.0 in
    let verdict = c.put_verdict.ensures in
    let end = c.push_word.ensures in (
      chain _ _ _ (chain _ _ _ id verdict.0) end,
      omega (arith, few_digits c.args.a.id 4 (search rules), longer c.args.text.now (decimal c.args.a.id) id, verdict.1, longer c.put_verdict.new.text line_end end),
    )
