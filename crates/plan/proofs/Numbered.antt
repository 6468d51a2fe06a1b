-- The numbers of refusals that are listed: 0 is acceptance's, 5 was split by fields, and 11 is the lent buffer's.
use Prim.Native.Nat.{ℕ, ◌+◌, ◌≤◌}
use native.Mathlib.Omega.{arith}
use mathlib.Core.Path.{◌≡◌, refl, sym, ap, ◌∙◌}
use mathlib.Core.Bool.{Bool, true, false, false≢true}
use mathlib.Core.List.{List, [], ◌∷◌}
use mathlib.Core.Logic.{◌≢◌}
use lib.Dec.{eqb}
use borrow.Author.Tests.{eqb-true}
use Rattle.plan_table.specs.Refusals.{record_refusals, platform_refusals, flow_refusals, end_refusals, is_number, has}
use Rattle.plan.specs.Layout.{place}
use Rattle.plan.specs.Refusals.{Listed, of_first, of_later, of_platform, of_flow, of_flow_65, of_end}

-- each line's number is one
abbrev Numbers : List (ℕ × ℕ) → Type 0
Numbers [] = Unit {0}
Numbers (line ∷ rest) = (is_number line.0 ≡ true) × Numbers rest

line_number : (lines : List (ℕ × ℕ)) (number offset : ℕ) → Numbers lines → has lines number offset ≡ true → is_number number ≡ true
line_number [] number offset n m = absurd (false≢true m)
line_number (line ∷ rest) number offset (n, ns) m = go (eqb line.0 number) refl (line_number rest number offset ns)
  where
    go : (here : Bool) → eqb line.0 number ≡ here → (has rest number offset ≡ true → is_number number ≡ true) → is_number number ≡ true
    go true e further = ap is_number (sym (eqb-true line.0 number e)) ∙ n
    go false e further = further (rw e at m)

of_records : Numbers record_refusals
of_records = (refl, (refl, (refl, (refl, tt))))

of_platforms : Numbers platform_refusals
of_platforms = (refl, (refl, (refl, (refl, (refl, (refl, (refl, tt)))))))

of_flows : Numbers flow_refusals
of_flows = (refl, (refl, (refl, (refl, (refl, (refl, (refl, (refl, (refl, (refl, (refl, (refl, tt))))))))))))

pub listed_number : {size number pl : ℕ} → Listed size number pl → is_number number ≡ true
listed_number (of_first number offset m) = line_number record_refusals number offset of_records m
listed_number (of_later k number offset few m) = line_number record_refusals number offset of_records m
listed_number (of_platform number offset m) = line_number platform_refusals number offset of_platforms m
listed_number (of_flow k number offset few m) = line_number flow_refusals number offset of_flows m
listed_number of_flow_65 = refl
listed_number (of_end k number offset few m) = line_number end_refusals number offset (refl, tt) m

pub never : (n : ℕ) → is_number n ≡ false → {size number pl : ℕ} → Listed size number pl → number ≢ n
never n f l e = false≢true (sym f ∙ ap is_number (sym e) ∙ listed_number l)

-- ---- the last place

-- each line's offset is at most this
abbrev Offsets : ℕ → List (ℕ × ℕ) → Type 0
Offsets most [] = Unit {0}
Offsets most (line ∷ rest) = (line.1 ≤ most) × Offsets most rest

line_offset : (lines : List (ℕ × ℕ)) (number offset most : ℕ) → Offsets most lines → has lines number offset ≡ true → offset ≤ most
line_offset [] number offset most n m = absurd (false≢true m)
line_offset (line ∷ rest) number offset most (n, ns) m = go (eqb line.0 number) (eqb line.1 offset) refl refl (line_offset rest number offset most ns)
  where
    go : (here there : Bool) → eqb line.0 number ≡ here → eqb line.1 offset ≡ there → (has rest number offset ≡ true → offset ≤ most) → offset ≤ most
    go here true e f further = let o : line.1 ≡ offset = eqb-true line.1 offset f in omega (arith, n, o)
    go true false e f further = further (rw f at (rw e at m))
    go false false e f further = further (rw e at m)

-- "the longest plan has 1,485 bytes", 1,484 where its platform record has six: no refusal stands behind that place, where a byte after the end record of such a plan is.
pub last_place : {size number pl : ℕ} → Listed size number pl → pl ≤ place size 64 + 3
last_place (of_first number offset m) = omega (arith, line_offset record_refusals number offset 1 (omega arith, (omega arith, (omega arith, (omega arith, tt)))) m)
last_place (of_later k number offset few m) = omega (arith, few, line_offset record_refusals number offset 1 (omega arith, (omega arith, (omega arith, (omega arith, tt)))) m)
last_place (of_platform number offset m) =
    omega (arith, line_offset platform_refusals number offset 9 (omega arith, (omega arith, (omega arith, (omega arith, (omega arith, (omega arith, (omega arith, tt))))))) m)
last_place (of_flow k number offset few m) =
    omega (
      arith,
      few,
      line_offset flow_refusals number offset 19
          (omega arith, (omega arith, (omega arith, (omega arith, (omega arith, (omega arith, (omega arith, (omega arith, (omega arith, (omega arith, (omega arith, (omega arith, tt))))))))))))
          m,
    )
last_place of_flow_65 = omega arith
last_place (of_end k number offset few m) = omega (arith, few, line_offset end_refusals number offset 3 (omega arith, tt) m)
