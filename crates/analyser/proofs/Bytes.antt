-- The numbers decide the bytes: two buffers of bytes that tell the same answers are one.
use Prim.Native.Nat.{ℕ, zero, suc, ◌+◌, ◌-◌, ◌*◌, ◌/◌, ◌≤◌, ◌<◌}
use mathlib.Core.Path.{◌≡◌, sym, ap, ◌∙◌}
use mathlib.Core.List.{List, [], ◌∷◌, ◌++◌}
use native.Mathlib.Decide.{dec_lt}
use native.Mathlib.Omega.{arith}
use lib.ListN.{length, drop, get_or}
use lib.Seq.{get_or-drop, ext_get_or}
use Rattle.framing.specs.Header.{Headed}
use Rattle.framing_numbers.specs.Numbers.{one_at, two_at, four_at, Bytes}
use Rattle.framing.specs.BigEndian.{two_bytes, four_bytes}
use Rattle.framing.specs.Each.{each}
use Rattle.plan_values.specs.declared.Flow.{Flow}
use Rattle.model.specs.declared.Verdict.{Verdict}
use Rattle.model.specs.declared.Answer.{Answer}
use Rattle.model.specs.Verdicts.{verdict_number, named_flow, bound_in, rounds_in}
use Rattle.reply.specs.Reply.{record_of, reply_bytes}
use Rattle.reply.specs.Records.{Tells}
use Rattle.analyser.specs.Records.{Holds}
use Rattle.analyser.proofs.Telling.{tells_only}

module _ {s t : List ℕ} (bs : Bytes s) (bt : Bytes t) where
  -- The bytes of equal numbers are equal.
  two_same : (at i : ℕ) → two_at s at ≡ two_at t at → at ≤ i → i < at + 2 → one_at s i ≡ one_at t i
  two_same at i e low high = go (dec_lt i (at + 1))
    where
      go : Dec (i < at + 1) → one_at s i ≡ one_at t i
      go (yes h) = let q : i ≡ at = omega arith in rw q (omega (arith, bs.each at, bs.each (at + 1), bt.each at, bt.each (at + 1)))
      go (no h) = let q : i ≡ at + 1 = omega arith in rw q (omega (arith, bs.each at, bs.each (at + 1), bt.each at, bt.each (at + 1)))

  four_same : (at i : ℕ) → four_at s at ≡ four_at t at → at ≤ i → i < at + 4 → one_at s i ≡ one_at t i
  four_same at i e low high = go (dec_lt i (at + 2))
    where
      below : {u : List ℕ} → Bytes u → (a : ℕ) → two_at u a < 65536
      below b a = omega (arith, b.each a, b.each (a + 1))

      parts : (a b c d : ℕ) → b < 65536 → d < 65536 → 65536 * a + b ≡ 65536 * c + d → (a ≡ c) × (b ≡ d)
      parts a b c d h g e = (omega arith, omega arith)

      both : (two_at s at ≡ two_at t at) × (two_at s (at + 2) ≡ two_at t (at + 2))
      both = parts _ _ _ _ (below bs (at + 2)) (below bt (at + 2)) e

      go : Dec (i < at + 2) → one_at s i ≡ one_at t i
      go (yes h) = two_same at i both.0 low h
      go (no h) = two_same (at + 2) i both.1 (omega arith) (omega arith)

  header_same : {at tag size : ℕ} → Headed s at tag size → Headed t at tag size → (i : ℕ) → at ≤ i → i < at + 3 → one_at s i ≡ one_at t i
  header_same {at} a b i low high = go (dec_lt i (at + 1))
    where
      go : Dec (i < at + 1) → one_at s i ≡ one_at t i
      go (yes h) = let q : i ≡ at = omega arith in rw q (a.tag_is ∙ sym b.tag_is)
      go (no h) = two_same (at + 1) i (a.size_is ∙ sym b.size_is) (omega arith) (omega arith)

  record_same : {k : ℕ} {v : Answer} → Tells s k v → Tells t k v → (i : ℕ) → 16 * k ≤ i → i < 16 * k + 16 → one_at s i ≡ one_at t i
  record_same {k} a b i low high = go (dec_lt i (16 * k + 3)) (dec_lt i (16 * k + 5)) (dec_lt i (16 * k + 6)) (dec_lt i (16 * k + 8)) (dec_lt i (16 * k + 12))
    where
      go : Dec (i < 16 * k + 3) → Dec (i < 16 * k + 5) → Dec (i < 16 * k + 6) → Dec (i < 16 * k + 8) → Dec (i < 16 * k + 12) → one_at s i ≡ one_at t i
      go (yes h) x y z w = header_same a.headed b.headed i low h
      go (no g) (yes h) y z w = two_same (16 * k + 3) i (a.id ∙ sym b.id) (omega arith) (omega arith)
      go (no f) (no g) (yes h) z w = let q : i ≡ 16 * k + 5 = omega arith in rw q (a.verdict ∙ sym b.verdict)
      go (no e) (no f) (no g) (yes h) w = two_same (16 * k + 6) i (a.named ∙ sym b.named) (omega arith) (omega arith)
      go (no d) (no e) (no f) (no g) (yes h) = four_same (16 * k + 8) i (a.bound ∙ sym b.bound) (omega arith) (omega arith)
      go (no d) (no e) (no f) (no g) (no h) = four_same (16 * k + 12) i (a.rounds ∙ sym b.rounds) (omega arith) (omega arith)

  pub same_buffer : {fs : List Flow} {answer : Flow → Verdict} {held : List ℕ} → Holds fs answer held s → Holds fs answer held t → s ≡ t
  same_buffer {fs} {answer} {held} a b = ext_get_or 0 s t (a.long ∙ sym b.long) (λ i l. go i (dec_lt i (16 * length fs)) (dec_lt i (16 * length fs + 3)))
    where
      behind : (i n : ℕ) → n ≤ i → drop n s ≡ drop n t → one_at s i ≡ one_at t i
      behind i n h e =
          let q : n + (i - n) ≡ i = omega arith in
          rw q at (sym (get_or-drop n s (i - n) 0) ∙ ap (λ (u : List ℕ). get_or u (i - n) 0) e ∙ get_or-drop n t (i - n) 0)

      go : (i : ℕ) → Dec (i < 16 * length fs) → Dec (i < 16 * length fs + 3) → one_at s i ≡ one_at t i
      go i (yes h) x = let l : i / 16 < length fs = omega arith in record_same (a.each (i / 16) l) (b.each (i / 16) l) i (omega arith) (omega arith)
      go i (no g) (yes h) = header_same a.end b.end i (omega arith) h
      go i (no g) (no h) = behind i (16 * length fs + 3) (omega arith) (a.further ∙ sym b.further)

-- ---- what is left in a buffer of bytes are bytes
none : Bytes []
none = record { each = λ i. omega arith }

cons : {x : ℕ} {s : List ℕ} → x < 256 → Bytes s → Bytes (x ∷ s)
cons {x} {s} h b = record { each = go }
  where
    go : (i : ℕ) → one_at (x ∷ s) i < 256
    go zero = h
    go (suc i) = b.each i

append : (s : List ℕ) {t : List ℕ} → Bytes s → Bytes t → Bytes (s ++ t)
append [] a b = b
append (x ∷ s) a b = cons (a.each 0) (append s (record { each = λ i. a.each (suc i) }) b)

two_bytes_lem : (x : ℕ) → Bytes (two_bytes x)
two_bytes_lem x = cons (omega arith) (cons (omega arith) none)

four_bytes_lem : (x : ℕ) → Bytes (four_bytes x)
four_bytes_lem x = cons (omega arith) (cons (omega arith) (two_bytes_lem x))

record_bytes_lem : (a : Answer) → Bytes (record_of a)
unfolding record_of
record_bytes_lem a =
    let v = a.verdict in
    let figures = append (four_bytes (bound_in v)) (four_bytes_lem (bound_in v)) (four_bytes_lem (rounds_in v)) in
    let judged = cons {x = verdict_number v} (omega (arith, tells_only v)) (append (two_bytes (named_flow v)) (two_bytes_lem (named_flow v)) figures) in
    cons (omega arith) (cons (omega arith) (cons (omega arith) (append (two_bytes a.id) (two_bytes_lem a.id) judged)))

records_bytes : (list : List Answer) → Bytes (each record_of list)
unfolding each
records_bytes [] = none
records_bytes (a ∷ list) = append (record_of a) (record_bytes_lem a) (records_bytes list)

pub reply_bytes_lem : (list : List Answer) (n : ℕ) {held : List ℕ} → Bytes held → Bytes (reply_bytes list ++ drop n held)
reply_bytes_lem list n {held} b =
    append (reply_bytes list)
    (append (each record_of list) (records_bytes list) (cons (omega arith) (cons (omega arith) (cons (omega arith) none))))
    (record { each = λ i. rw (get_or-drop n held i 0) (b.each (n + i)) })
