-- The steps of `put_reply`: the answers' records from the start on, and the end record behind them.
use Prim.Native.Nat.{ℕ, ◌+◌, ◌*◌}
use mathlib.Core.Path.{◌≡◌, refl, ap, ◌∙◌}
use mathlib.Core.List.{List, ◌++◌}
use native.Mathlib.Omega.{arith}
use lib.ListN.{length, drop, length-append}
use Rattle.framing.specs.Each.{each}
use Rattle.framing.specs.Header.{end_record}
use Rattle.framing.specs.Put.{put}
use Rattle.framing.proofs.Each.{length_each}
use Rattle.framing.proofs.Puts.{put_first, put_next, put_part}
use Rattle.framing.proofs.Writing.{lent}
use Rattle.model.specs.declared.Answer.{Answer}
use Rattle.reply.specs.Reply.{record_of, reply_bytes}

pub length_record : (a : Answer) → length (record_of a) ≡ 16
unfolding record_of
length_record a = refl

pub length_records : (xs : List Answer) → length (each record_of xs) ≡ 16 * length xs
length_records = length_each record_of 16 length_record

length_reply : (xs : List Answer) → length (each record_of xs ++ end_record) ≡ 16 * length xs + 3
length_reply xs = length-append (each record_of xs) end_record ∙ ap (λ (n : ℕ). n + 3) (length_records xs)

-- `a` and `e` are what the buffer, and the part that is lent for the end record, hold then.
pub reply_put : (xs : List Answer) (held : List ℕ) {a e : List ℕ} {end : ℕ} → end ≡ 0 + 16 * length xs → a ≡ put held 0 (each record_of xs) → e ≡ end_record → lent a end (end + 3) e ≡ reply_bytes xs ++ drop (16 * length xs + 3) held
reply_put xs held {a} {e} {end} end_is a_is e_is =
    let last : end ≡ length (each record_of xs) = omega (arith, end_is, length_records xs) in
    put_part a e end 3 (ap length e_is)
    ∙ (λ j. put (a_is j) (last j) (e_is j))
    ∙ put_next held (each record_of xs) end_record
    ∙ put_first held (each record_of xs ++ end_record)
    ∙ λ j. (each record_of xs ++ end_record) ++ drop (length_reply xs j) held
