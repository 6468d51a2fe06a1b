-- `lines_items::Text::push_number` meets its contract.
use Rattle.std.proofs.Common.{arith, rules}
use Rattle.lines_items.specs.Decimal.{decimal}
use Rattle.lines_items.proofs.Chain.{longer}
use Rattle.lines_items.proofs.Digits.{decimal_told}
use Rattle.lines_items.proofs.Text.push_number.Goals as goal

pub returns : goal.returns
returns g c =
    let d = c.decimal-count.ensures in
    let t = decimal_told (search rules) d.len d.digits in
    let now = rw t.0 at c.push_word.ensures in
    (now, omega (arith, rw t.0 at t.1, longer c.args.self.now (decimal c.args.n) now))
