-- What a text's fields are once a word is written behind its last byte.
use Rattle.std.proofs.Common.{◌≡◌, ℕ, ◌+◌, ◌-◌, ◌≤◌, List, ◌++◌, length, take, drop, replicate, refl, sym, ap, ap₂, ◌∙◌, arith, length-append, drop-drop, take_at, drop_at}
use Rattle.std.proofs.lemmas.List.{drop-replicate, length-replicate, take-append-drop}
use Rattle.std.proofs.lemmas.Slice.{take-put_mid, drop-put_mid}
use lib.Seq.{drop-append-add}
use borrow.Rule.Slice.PartMut.{put_mid}
use Rattle.lines_items.specs.declared.Text.TheInside.{Inside}
use Rattle.lines_items.specs.Handed.{handed}
use Rattle.lines_items.specs.Written.{Written}

module _ {room : ℕ} (bytes : List ℕ) (n : ℕ) (is : handed room (take n bytes) ≡ record { bytes = bytes; length = n }) where
  whole : take n bytes ++ replicate (room - length (take n bytes)) 0 ≡ bytes
  whole = ap (λ (t : Inside room). t.bytes) is

  long : length (take n bytes) ≡ n
  long = ap (λ (t : Inside room). t.length) is

  inside : n ≤ length bytes
  inside = omega (arith, long, ap length whole, length-append (take n bytes) (replicate (room - length (take n bytes)) 0))

  zeros : drop n bytes ≡ replicate (room - n) 0
  zeros = ap (drop n) (sym whole) ∙ drop_at (take n bytes) (replicate (room - length (take n bytes)) 0) n long ∙ ap (λ k. replicate (room - k) 0) long

  module _ (word : List ℕ) where
    abbrev pub held : List ℕ
    held = put_mid n (n + length word - n) bytes word

    -- The text's bytes, and behind them the word's.
    pub pushed : take (n + length word) held ≡ take n bytes ++ word
    pushed = take-put_mid n _ bytes word (n + length word) refl inside

    behind : drop (n + length word) held ≡ replicate (room - length (take n bytes ++ word)) 0
    behind =
        drop-put_mid n _ bytes word (n + length word) (omega arith) inside (omega arith)
        ∙ sym (drop-drop (length word) n bytes)
        ∙ ap (drop (length word)) zeros
        ∙ drop-replicate (length word) (room - n) 0
        ∙ ap (λ k. replicate k 0) (omega (arith, long, length-append (take n bytes) word))

    pub pushed_handed : handed room (take (n + length word) held) ≡ record { bytes = held; length = n + length word }
    pushed_handed =
        ap₂ (λ (b : List ℕ) (k : ℕ). record { bytes = b; length = k })
        (ap (λ x. take (n + length word) held ++ x) (ap (λ t. replicate (room - length t) 0) pushed ∙ sym behind) ∙ take-append-drop (n + length word) held)
        (ap length pushed ∙ length-append (take n bytes) word ∙ ap (λ k. k + length word) long)

-- What that is of the fields: the word is written at the text's length, and all else stays.
pub written : (room : ℕ) (text word : List ℕ) → length text + length word ≤ room → Written (handed room text).bytes (length text) word (handed room (text ++ word)).bytes (length (text ++ word))
written room text word fits =
    let rest : List ℕ = replicate (room - length text) 0 in
    record {
      next_is = length-append text word;
      held_is = sym (ap₂ (λ x y. (x ++ word) ++ y) (take_at text rest (length text) refl) (drop-append-add text rest (length word) ∙ drop-replicate (length word) (room - length text) 0 ∙ ap (λ k. replicate k 0) (omega (arith, length-append text word))));
      inside = omega (arith, length-append text word, length-append text rest, length-replicate {A = ℕ} (room - length text) 0);
    }
