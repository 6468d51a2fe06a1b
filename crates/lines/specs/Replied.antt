-- Document 01, "The program `bounds`": the lines of a reply's records, from the reply's bytes alone.
use Rattle.std.specs.Prelude.{ℕ, zero, suc, List, [], ◌++◌, eqb}
use Rattle.framing.specs.First.{◌when◌else◌}
use Rattle.reply.specs.Records.{id_at, verdict_at, named_at, bound_at, rounds_at}
use Rattle.lines_items.specs.Words.{bounded_word, late_word, waits_word, rounds_word, line_end}
use Rattle.lines_items.specs.Decimal.{decimal}
use Rattle.lines_items.specs.Items.{item}

-- "after `bounded` the bound and rounds, after `late` the rounds, after `waits` the named id": the word by the verdict's number in record k, the numbers as they stand there.
unfoldable pub told_at : List ℕ → ℕ → List ℕ
told_at is k =
    (item bounded_word (bound_at is k) ++ item rounds_word (rounds_at is k)) when eqb (verdict_at is k) 0 else
    (late_word ++ item rounds_word (rounds_at is k)) when eqb (verdict_at is k) 1 else
    item waits_word (named_at is k)

-- "id and verdict": the line of record k.
unfoldable pub record_line : List ℕ → ℕ → List ℕ
record_line is k = decimal (id_at is k) ++ told_at is k ++ line_end

-- "Then per flow": the lines of the first n records.
unfoldable pub record_lines : List ℕ → ℕ → List ℕ
record_lines is zero = []
record_lines is (suc n) = record_lines is n ++ record_line is n
