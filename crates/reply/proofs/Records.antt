-- The records of a reply tell its answers, and from a record that tells an answer that answer is read.
use Prim.Native.Nat.{ℕ, ◌*◌, ◌<◌}
use mathlib.Core.Path.{◌≡◌, refl, ◌∙◌}
use mathlib.Core.Logic.{◌≢◌}
use mathlib.Core.List.{List, ◌++◌, append_assoc}
use native.Mathlib.Omega.{arith}
use borrow.Author.Tests.{ne_eqb}
use lib.ListN.{length, get_or}
use lib.Seq.{get_or-append-add}
use Rattle.framing.specs.Each.{each}
use Rattle.framing.specs.First.{◌when◌else◌}
use Rattle.framing.specs.Header.{Headed, end_record}
use Rattle.framing.proofs.Each.{each_at}
use Rattle.framing.proofs.Stands.{Stands, two, four, header}
use Rattle.model.specs.declared.Verdict.{Verdict}
use Rattle.model.specs.declared.Verdict.TheVariants.{Bounded, Late, Waits}
use Rattle.model.specs.declared.Answer.{Answer}
use Rattle.model.specs.Verdicts.{verdict_number, named_flow, bound_in, rounds_in}
use Rattle.reply.specs.Reply.{record_of, reply_bytes}
use Rattle.reply.specs.Records.{Tells, verdict_by, answer_at}
use Rattle.reply.proofs.Writing.{length_record, length_records}
use Rattle.reply.proofs.Theorems.{Fits, read_back}

-- ---- a verdict's number picks its case
module _ (named bound rounds : ℕ) {number : ℕ} where
  pub verdict_0 : number ≡ 0 → Bounded bound rounds ≡ verdict_by number named bound rounds
  unfolding verdict_by ◌when◌else◌
  verdict_0 e = rw e

  pub verdict_1 : number ≡ 1 → Late rounds ≡ verdict_by number named bound rounds
  unfolding verdict_by ◌when◌else◌
  verdict_1 e = rw e

  pub verdict_2 : number ≢ 0 → number ≢ 1 → Waits named ≡ verdict_by number named bound rounds
  unfolding verdict_by ◌when◌else◌
  verdict_2 a b = rw (ne_eqb number 0 a, ne_eqb number 1 b)

-- The numbers that a verdict is written as tell that verdict.
verdict_back : (v : Verdict) → verdict_by (verdict_number v) (named_flow v) (bound_in v) (rounds_in v) ≡ v
unfolding verdict_by ◌when◌else◌
verdict_back (Bounded r n) = refl
verdict_back (Late n) = refl
verdict_back (Waits id) = refl

pub answer_told : {is : List ℕ} {k : ℕ} {a : Answer} → Tells is k a → answer_at is k ≡ a
answer_told {is} {k} {a} t = rw (t.id, t.verdict, t.named, t.bound, t.rounds, verdict_back a.verdict)

module _ (list : List Answer) (rest : List ℕ) where
  pub line : (blank : Answer) (k : ℕ) → k < length list → Fits (get_or list k blank) → Tells (reply_bytes list ++ rest) k (get_or list k blank)
  line blank k l f =
      let a = get_or list k blank in
      let back = read_back a f in
      let w : Stands (each record_of list ++ (end_record ++ rest)) (16 * k) (record_of a) 16 = record { one = each_at record_of 16 length_record list (end_record ++ rest) blank k l } in
      rw append_assoc
      (record {
        headed = header w (omega arith) back.tag back.length;
        id = two w 3 (omega arith) ∙ back.id;
        verdict = w.one 5 (omega arith) ∙ back.verdict;
        named = two w 6 (omega arith) ∙ back.named;
        bound = four w 8 (omega arith) ∙ back.bound;
        rounds = four w 12 (omega arith) ∙ back.rounds;
      })

  pub end_at : Headed (reply_bytes list ++ rest) (16 * length list) 0x7F 0
  end_at =
      let w : Stands (each record_of list ++ (end_record ++ rest)) (16 * length list) (end_record ++ rest) 3 = record { one = λ d h. rw (← length_records list) (get_or-append-add (each record_of list) (end_record ++ rest) d 0) } in
      rw append_assoc (header w (omega arith) refl refl)

  -- What is written is read back: the answer in record k of a reply is the k-th.
  pub answer_back : (blank : Answer) (k : ℕ) → k < length list → Fits (get_or list k blank) → answer_at (reply_bytes list ++ rest) k ≡ get_or list k blank
  answer_back blank k l f = answer_told (line blank k l f)
