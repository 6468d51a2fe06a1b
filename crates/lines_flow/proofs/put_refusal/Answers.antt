-- `lines_flow::put_refusal` meets its contract.
use Rattle.std.proofs.Common.{arith}
use Rattle.lines_items.specs.Words.{at_word, line_end}
use Rattle.lines_items.proofs.Chain.{longer, chain, item_behind}
use Rattle.lines_flow.specs.Flows.{refusal_line}
use Rattle.lines_flow.proofs.put_refusal.Goals as goal

pub returns : goal.returns
unfolding refusal_line
returns g c =
    let number = rw (c.into.ensures, c.from-number.ensures) at c.push_item.ensures in
    let place = c.push_number.ensures in
    let at = c.push_word.ensures in
    let end = c.push_word-2.ensures in (
      chain _ _ _ (chain _ _ _ number.0 (item_behind _ _ _ at place.0)) end,
      omega (arith, number.1, longer c.push_item.new.self at_word at, place.1, longer c.push_number.new.self line_end end),
    )
