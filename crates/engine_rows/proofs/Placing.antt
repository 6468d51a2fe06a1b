-- The cells of an array of 64: one is set, and those behind a place are blank.
use Prim.Native.Nat.{ℕ, ◌+◌, ◌<◌}
use native.Mathlib.Omega.{arith}
use native.Mathlib.Decide.{ℕ_discrete}
use mathlib.Core.Path.{◌≡◌, ap, ◌∙◌}
use mathlib.Core.List.{List}
use lib.ListN.{length, get_or, set, replicate, length-replicate, get_or-replicate}
use lib.Seq.{get_or-set_same, get_or-set_other}
use Rattle.engine_rows.specs.Filled.{Blank}

-- ---- the cells that are still blank
pub blank_none : {A : Type 0} (blank : A) {cells : List A} → cells ≡ replicate 64 blank → Blank blank cells 0
blank_none {A} blank e = record { rest = λ k l h. ap (λ (o : List A). get_or o k blank) e ∙ get_or-replicate {A = A} 64 k blank blank h }

pub blank_room : {A : Type 0} (blank : A) {cells : List A} → cells ≡ replicate 64 blank → length cells ≡ 64
blank_room {A} blank e = ap length e ∙ length-replicate {A = A} 64 blank

-- one cell is set, and the others stay
pub set_cell : {A : Type 0} (blank : A) (cells : List A) (i : ℕ) (x : A) (k : ℕ) {y : A} → i < length cells → (k ≡ i → x ≡ y) → ((k ≡ i → ⊥) → get_or cells k blank ≡ y) → get_or (set cells i x) k blank ≡ y
set_cell blank cells i x k {y} room same other = go (ℕ_discrete k i)
  where
    go : Dec (k ≡ i) → get_or (set cells i x) k blank ≡ y
    go (yes e) = rw e (get_or-set_same cells i x blank room) ∙ same e
    go (no n) = get_or-set_other cells i k x blank n ∙ other n

pub blank_more : {A : Type 0} {blank : A} {cells : List A} {i : ℕ} (x : A) → i < length cells → Blank blank cells i → Blank blank (set cells i x) (i + 1)
blank_more {A} {blank} {cells} {i} x room w = record { rest = λ k l h. set_cell blank cells i x k room (λ s. absurd (omega arith)) (λ n. w.rest k (omega arith) h) }
