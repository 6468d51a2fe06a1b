-- Document 01, "The reply": what stands where in record k of a reply, counted from 0, and the answer that it tells.
use Rattle.std.specs.Prelude.{ℕ, ◌+◌, ◌*◌, ◌≡◌, List, eqb}
use Rattle.framing_numbers.specs.Numbers.{one_at, two_at, four_at}
use Rattle.framing.specs.First.{◌when◌else◌}
use Rattle.framing.specs.Header.{Headed}
use Rattle.model.specs.declared.Verdict.{Verdict}
use Rattle.model.specs.declared.Verdict.TheVariants.{Bounded, Late, Waits}
use Rattle.model.specs.declared.Answer.{Answer}
use Rattle.model.specs.Verdicts.{verdict_number, named_flow, bound_in, rounds_in}

-- "each record is written at its own distance into the reply": record k starts at 16 k. Behind tag and length stand "id (2), ..
abbrev pub id_at : List ℕ → ℕ → ℕ
id_at is k = two_at is (16 * k + 3)

-- .. verdict (1), ..
abbrev pub verdict_at : List ℕ → ℕ → ℕ
verdict_at is k = one_at is (16 * k + 5)

-- .. named flow (2), ..
abbrev pub named_at : List ℕ → ℕ → ℕ
named_at is k = two_at is (16 * k + 6)

-- .. bound (4), ..
abbrev pub bound_at : List ℕ → ℕ → ℕ
bound_at is k = four_at is (16 * k + 8)

-- .. rounds (4)".
abbrev pub rounds_at : List ℕ → ℕ → ℕ
rounds_at is k = four_at is (16 * k + 12)

-- Record k of a buffer tells an answer: "tag 81, length 13", and the answer's numbers.
pub record Tells (is : List ℕ) (k : ℕ) (a : Answer) : Type 0 where
  pub headed : Headed is (16 * k) 0x81 13
  pub id : id_at is k ≡ a.id
  pub verdict : verdict_at is k ≡ verdict_number a.verdict
  pub named : named_at is k ≡ named_flow a.verdict
  pub bound : bound_at is k ≡ bound_in a.verdict
  pub rounds : rounds_at is k ≡ rounds_in a.verdict

-- "Bounded (0)", "Late (1)", "Waits (2)": the verdict of a number, with those of the values beside it that it holds.
unfoldable pub verdict_by : ℕ → ℕ → ℕ → ℕ → Verdict
verdict_by number named bound rounds =
    Bounded bound rounds when eqb number 0 else
    Late rounds when eqb number 1 else
    Waits named

-- The answer that stands in record k.
abbrev pub answer_at : List ℕ → ℕ → Answer
answer_at is k = record { id = id_at is k; verdict = verdict_by (verdict_at is k) (named_at is k) (bound_at is k) (rounds_at is k) }
