-- The line of the answer that stands in record k of a reply is the line of that record.
use Prim.Native.Nat.{ℕ}
use mathlib.Core.Path.{◌≡◌, refl, ap}
use mathlib.Core.Bool.{Bool, true, false}
use mathlib.Core.List.{List, ◌++◌}
use lib.Dec.{eqb}
use Rattle.framing.specs.First.{◌when◌else◌}
use Rattle.model.specs.declared.Verdict.TheVariants.{Bounded, Late, Waits}
use Rattle.reply.specs.Records.{id_at, verdict_at, named_at, bound_at, rounds_at, verdict_by, answer_at}
use Rattle.lines_items.specs.Words.{bounded_word, late_word, waits_word, rounds_word, line_end}
use Rattle.lines_items.specs.Decimal.{decimal}
use Rattle.lines_items.specs.Items.{item}
use Rattle.lines_flow.specs.Flows.{told, flow_line}
use Rattle.lines.specs.Replied.{told_at, record_line}

told_read : (is : List ℕ) (k : ℕ) → told (answer_at is k).verdict ≡ told_at is k
unfolding told told_at verdict_by ◌when◌else◌
told_read is k = go (eqb (verdict_at is k) 0) (eqb (verdict_at is k) 1)
  where
    go : (a b : Bool) → told (Bounded (bound_at is k) (rounds_at is k) when a else Late (rounds_at is k) when b else Waits (named_at is k)) ≡ ((item bounded_word (bound_at is k) ++ item rounds_word (rounds_at is k)) when a else (late_word ++ item rounds_word (rounds_at is k)) when b else item waits_word (named_at is k))
    go true b = refl
    go false true = refl
    go false false = refl

pub line_read : (is : List ℕ) (k : ℕ) → flow_line (answer_at is k) ≡ record_line is k
unfolding flow_line record_line
line_read is k = ap (λ (t : List ℕ). decimal (id_at is k) ++ t ++ line_end) (told_read is k)
