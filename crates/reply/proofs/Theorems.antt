-- What is written is read back, and how long a reply is.
use Prim.Native.Nat.{◌+◌, ◌*◌, ◌^◌, ◌<◌}
use mathlib.Core.Path.{◌≡◌, refl, ◌∙◌}
use mathlib.Core.List.{List, []}
use native.Mathlib.Omega.{arith}
use lib.ListN.{length, length-append}
use Rattle.framing_numbers.specs.Numbers.{one_at, two_at, four_at}
use Rattle.framing.specs.Each.{each}
use Rattle.framing.specs.Header.{end_record}
use Rattle.framing_numbers.specs.declared.Width.TheVariants.{Two, Four}
use Rattle.framing.proofs.BigEndian.{number_back}
use Rattle.model.specs.declared.Answer.{Answer}
use Rattle.model.specs.Verdicts.{verdict_number, named_flow, bound_in, rounds_in}
use Rattle.reply.specs.Reply.{record_of, reply_bytes}
use Rattle.reply.proofs.Writing.{length_records}

-- "A plan of n flows needs 16n + 3 bytes"
pub reply_length : (list : List Answer) → length (reply_bytes list) ≡ 16 * length list + 3
reply_length list = length-append (each record_of list) end_record ∙ omega (arith, length_records list)

-- The numbers of an answer fit the bytes that a record has for them.
pub record Fits (a : Answer) : Type 0 where
  pub id : a.id < 2 ^ 16
  pub named : named_flow a.verdict < 2 ^ 16
  pub bound : bound_in a.verdict < 2 ^ 32
  pub rounds : rounds_in a.verdict < 2 ^ 32

-- "id (2), verdict (1), named flow (2), bound (4), rounds (4)": read from a record, they are the answer's.
pub record ReadBack (a : Answer) : Type 0 where
  pub tag : one_at (record_of a) 0 ≡ 0x81
  pub length : two_at (record_of a) 1 ≡ 13
  pub id : two_at (record_of a) 3 ≡ a.id
  pub verdict : one_at (record_of a) 5 ≡ verdict_number a.verdict
  pub named : two_at (record_of a) 6 ≡ named_flow a.verdict
  pub bound : four_at (record_of a) 8 ≡ bound_in a.verdict
  pub rounds : four_at (record_of a) 12 ≡ rounds_in a.verdict

pub read_back : (a : Answer) → Fits a → ReadBack a
unfolding record_of
read_back a f = record {
  tag = refl;
  length = refl;
  id = number_back Two _ f.id [];
  verdict = refl;
  named = number_back Two _ f.named [];
  bound = number_back Four _ f.bound [];
  rounds = number_back Four _ f.rounds [];
}
