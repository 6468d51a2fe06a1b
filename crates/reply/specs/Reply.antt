-- Document 01, "The reply".
use Rattle.std.specs.Prelude.{ℕ, List, ◌∷◌, ◌++◌}
use Rattle.framing.specs.BigEndian.{two_bytes, four_bytes}
use Rattle.framing.specs.Each.{each}
use Rattle.framing.specs.Header.{end_record}
use Rattle.model.specs.declared.Answer.{Answer}
use Rattle.model.specs.Verdicts.{verdict_number, named_flow, bound_in, rounds_in}

-- "For each flow ..: tag 81, length 13, id (2), verdict (1), named flow (2), bound (4), rounds (4)."
unfoldable pub record_of : Answer → List ℕ
record_of a =
    0x81
    ∷ 0
    ∷ 13
    ∷ (two_bytes a.id
    ++ (verdict_number a.verdict
    ∷ (two_bytes (named_flow a.verdict)
    ++ (four_bytes (bound_in a.verdict)
    ++ four_bytes (rounds_in a.verdict)))))

-- "For each flow, in plan order: .. Then 7F 0000."
abbrev pub reply_bytes : List Answer → List ℕ
reply_bytes list = each record_of list ++ end_record
