-- Document 01, "The program `bounds`": a flow's line and a refusal's.
use Rattle.std.specs.Prelude.{ℕ, List, ◌++◌}
use Rattle.model.specs.declared.Verdict.{Verdict}
use Rattle.model.specs.declared.Verdict.TheVariants.{Bounded, Late, Waits}
use Rattle.model.specs.declared.Answer.{Answer}
use Rattle.lines_items.specs.Words.{bounded_word, late_word, waits_word, rounds_word, refused_word, at_word, line_end}
use Rattle.lines_items.specs.Decimal.{decimal}
use Rattle.lines_items.specs.Items.{item}

-- "after `bounded` the bound and rounds, after `late` the rounds, after `waits` the named id"
unfoldable pub told : Verdict → List ℕ
told (Bounded r k) = item bounded_word r ++ item rounds_word k
told (Late k) = late_word ++ item rounds_word k
told (Waits id) = item waits_word id

-- "Then per flow: id and verdict"
unfoldable pub flow_line : Answer → List ℕ
flow_line a = decimal a.id ++ told a.verdict ++ line_end

-- "For a refusal it prints only `refused NUMBER at PLACE`."
unfoldable pub refusal_line : ℕ → ℕ → List ℕ
refusal_line number place = item refused_word number ++ item at_word place ++ line_end
