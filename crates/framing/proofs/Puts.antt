-- Bytes written behind bytes that were written.
use Prim.Native.Nat.{ℕ, ◌+◌, ◌-◌, ◌≤◌}
use native.Mathlib.Omega.{arith}
use mathlib.Core.Path.{◌≡◌, sym, ap, ◌∙◌}
use mathlib.Core.List.{List, ◌++◌, append_assoc}
use native.Mathlib.Nat.{zero-add}
use lib.ListN.{length, take, drop, length-append}
use lib.Seq.{take_at, drop-drop, length-take-le, drop-append-add}
use Rattle.framing.specs.Put.{put}
use Rattle.framing.proofs.Writing.{lent}

pub put_put : (old : List ℕ) (at : ℕ) (s t : List ℕ) → at ≤ length old → put (put old at s) (at + length s) t ≡ put old at (s ++ t)
put_put old at s t h =
    let front : List ℕ = take at old ++ s in
    let rest : List ℕ = drop (at + length s) old in
    let l : length front ≡ at + length s = length-append (take at old) s ∙ ap (λ k. k + length s) (length-take-le at old h) in
    let n : (at + length s) + length t ≡ at + length (s ++ t) = omega (arith, length-append s t) in
    let r : drop ((at + length s) + length t) (front ++ rest) ≡ drop (at + length (s ++ t)) old =
    ap (λ k. drop (k + length t) (front ++ rest)) (sym l) ∙ drop-append-add front rest (length t) ∙ drop-drop (length t) (at + length s) old ∙ ap (λ k. drop k old) n in
    ap (λ x. (x ++ t) ++ drop ((at + length s) + length t) (front ++ rest)) (take_at front rest (at + length s) l)
    ∙ ap (λ x. (front ++ t) ++ x) r
    ∙ ap (λ x. x ++ drop (at + length (s ++ t)) old) (append_assoc (take at old) s t)

-- Bytes written from the start on, and others behind them.
pub put_first : (old new : List ℕ) → put old 0 new ≡ new ++ drop (length new) old
put_first old new = ap (λ (k : ℕ). new ++ drop k old) (zero-add (length new))

pub put_next : (old s t : List ℕ) → put (put old 0 s) (length s) t ≡ put old 0 (s ++ t)
put_next old s t = ap (λ (k : ℕ). put (put old 0 s) k t) (sym (zero-add (length s))) ∙ put_put old 0 s t (omega arith)

-- A part that is lent, and comes back with as many bytes, is written.
pub put_part : (old new : List ℕ) (at k : ℕ) → length new ≡ k → lent old at (at + k) new ≡ put old at new
put_part old new at k e =
    let q : at + k - at ≡ length new = omega (arith, e) in
    rw (q, drop-drop (length new) at old) (sym (append_assoc (take at old) new (drop (at + length new) old)))
