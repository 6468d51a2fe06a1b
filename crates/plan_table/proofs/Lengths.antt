-- A platform record has six bytes or seven, and as many fields.
use Prim.Native.Nat.{ℕ, ◌+◌, ◌≤◌, ◌<◌}
use native.Mathlib.Omega.{arith}
use mathlib.Core.Path.{◌≡◌, refl}
use mathlib.Core.Bool.{Bool, true, false}
use mathlib.Core.List.{List, [], ◌∷◌}
use lib.Dec.{eqb}
use lib.ListN.{length, take, get_or}
use lib.Seq.{get_or-take}
use borrow.Author.Tests.{eq-eqb, ne_eqb}
use Rattle.framing.specs.First.{◌when◌else◌}
use Rattle.framing_numbers.specs.Numbers.{bytes_of}
use Rattle.plan_table.specs.Table.{six_or_seven, body_length, width, platform_fields, lines_of, field_count, fields_of, no_field}
use Rattle.plan_table.specs.declared.Field.{Field}
use Rattle.plan_table.specs.declared.Kind.{Kind}
use Rattle.plan_table.specs.declared.Kind.TheVariants.{PlatformRecord, FlowRecord, EndRecord}

-- what holds of six and of seven holds of every platform record's length
pub by_length : (P : ℕ → Type 0) → P 6 → P 7 → (told : ℕ) → P (six_or_seven told)
unfolding six_or_seven ◌when◌else◌
by_length P six seven told = go (eqb told 7)
  where
    go : (b : Bool) → P (7 when b else 6)
    go true = seven
    go false = six

pub seven : {told : ℕ} → told ≡ 7 → six_or_seven told ≡ 7
unfolding six_or_seven ◌when◌else◌
seven {told} e = simp (eq-eqb told 7 e)

pub six : {told : ℕ} → (told ≡ 7 → ⊥) → six_or_seven told ≡ 6
unfolding six_or_seven ◌when◌else◌
six {told} n = simp (ne_eqb told 7 n)

pub at_most_seven : (told : ℕ) → six_or_seven told ≤ 7
at_most_seven = by_length (λ n. n ≤ 7) (omega arith) (omega arith)

pub six_at_least : (told : ℕ) → 6 ≤ six_or_seven told
six_at_least = by_length (λ n. 6 ≤ n) (omega arith) (omega arith)

-- how many bytes the fields of a list take
abbrev pub size_of : List Field → ℕ
size_of [] = 0
size_of (f ∷ rest) = bytes_of (width f) + size_of rest

-- columns "Length" and "Fields in order (bytes)" agree
pub filled : (kind : Kind) (told : ℕ) → size_of (fields_of kind told) ≡ body_length kind told
filled PlatformRecord told = by_length (λ n. size_of (take n platform_fields) ≡ n) refl refl told
filled FlowRecord told = refl
filled EndRecord told = refl

pub counted : (kind : Kind) (told : ℕ) → length (fields_of kind told) ≡ field_count kind told
counted PlatformRecord told = by_length (λ n. length (take n platform_fields) ≡ n) refl refl told
counted FlowRecord told = refl
counted EndRecord told = refl

-- a record's field is a line of its kind
pub count_within : (kind : Kind) (told : ℕ) → field_count kind told ≤ length (lines_of kind)
count_within PlatformRecord told = at_most_seven told
count_within FlowRecord told = omega arith
count_within EndRecord told = omega arith

pub field_line : (kind : Kind) (told : ℕ) {k : ℕ} → k < field_count kind told → get_or (fields_of kind told) k no_field ≡ get_or (lines_of kind) k no_field
field_line kind told {k} h = get_or-take (field_count kind told) (lines_of kind) k no_field h
