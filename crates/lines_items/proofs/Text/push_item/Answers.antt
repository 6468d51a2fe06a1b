-- `lines_items::Text::push_item` meets its contract.
use Rattle.std.proofs.Common.{arith, rules}
use Rattle.lines_items.specs.Decimal.{decimal}
use Rattle.lines_items.proofs.Chain.{longer, item_behind}
use Rattle.lines_items.proofs.Digits.{few_digits}
use Rattle.lines_items.proofs.Text.push_item.Goals as goal

pub returns : goal.returns
returns g c =
    let word = c.push_word.ensures in
    let number = rw c.from.ensures at c.push_number.ensures.0 in (
      item_behind _ _ _ word number,
      omega (arith, few_digits c.args.n 9 (search rules), longer c.args.self.now c.args.word.now word, longer c.push_word.new.self (decimal c.args.n) number),
    )
