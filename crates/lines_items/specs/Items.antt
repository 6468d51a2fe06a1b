-- Document 01, "The program `bounds`": what its lines are made of.
use Rattle.std.specs.Prelude.{ℕ, List, ◌++◌}
use Rattle.lines_items.specs.Decimal.{decimal}

-- A fixed word and the number behind it.
unfoldable pub item : List ℕ → ℕ → List ℕ
item word n = word ++ decimal n
