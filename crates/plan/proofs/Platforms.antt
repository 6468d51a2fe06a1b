-- The platform record: its length and its values tell the same, and its fields are passed exactly if they are allowed.
use Prim.Native.Nat.{ℕ, ◌+◌, ◌≤◌}
use native.Mathlib.Omega.{arith}
use native.Mathlib.Decide.{ℕ_discrete}
use mathlib.Core.Path.{◌≡◌, sym, ap, subst, ◌∙◌}
use mathlib.Core.List.{List}
use mathlib.Core.Logic.{⊎_elim}
use lib.ListN.{take}
use Rattle.framing.specs.Header.{length_at}
use Rattle.framing_numbers.specs.Numbers.{one_at}
use Rattle.plan_table.specs.Table.{six_or_seven, platform_fields, fields_of}
use Rattle.plan_table.specs.declared.Kind.TheVariants.{PlatformRecord}
use Rattle.plan_table.proofs.Lengths.{six, seven}
use Rattle.plan_values.specs.Values.{platform_at, platform_length}
use Rattle.plan_values.specs.declared.Platform.{Platform}
use Rattle.plan_values.proofs.Seventh.{seventh, no_seventh, six_for_none, seven_for_some, either_length}
use Rattle.plan_checks.specs.declared.Limits.{Limits}
use Rattle.plan.specs.Legal.{LegalPlatform}
use Rattle.plan.proofs.Fields.{Allowed}

-- the length of a platform's record is legal
pub own_length : (p : Platform) → platform_length p ≡ six_or_seven (platform_length p)
own_length p = ⊎_elim (λ w. w.0 ∙ sym (six (λ s. omega (arith, w.0)))) (λ w. w.0 ∙ sym (seven w.0)) (either_length p)

module _ (s : List ℕ) (at : ℕ) (l : Limits) where
  abbrev Lines : Type 0
  Lines = Allowed s at l 3 (fields_of PlatformRecord (length_at s at))

  with_seven : length_at s at ≡ 7 → Lines ≡ Allowed s at l 3 platform_fields
  with_seven e = ap (λ (n : ℕ). Allowed s at l 3 (take n platform_fields)) (seven e)

  with_six : (length_at s at ≡ 7 → ⊥) → Lines ≡ Allowed s at l 3 (take 6 platform_fields)
  with_six n = ap (λ (n : ℕ). Allowed s at l 3 (take n platform_fields)) (six n)

  pub platform_legal : Lines → LegalPlatform (platform_at s at)
  platform_legal w = go (ℕ_discrete (length_at s at) 7)
    where
      go : Dec (length_at s at ≡ 7) → LegalPlatform (platform_at s at)
      go (yes e) =
          let (a, (b, (c, (d, (f, (g, (h, u))))))) = subst (λ T. T) (with_seven e) w in
          record { columns = a; rows = b; link = c; routing = d; buffer = f; method = g; priority_flits = (omega arith, omega (arith, h.1, seventh s at e)) }
      go (no n) =
          let (a, (b, (c, (d, (f, (g, u)))))) = subst (λ T. T) (with_six n) w in
          record { columns = a; rows = b; link = c; routing = d; buffer = f; method = g; priority_flits = (omega arith, omega (arith, no_seventh s at n)) }

  -- the values that are read ask for the length that is told
  pub told_length : length_at s at ≡ six_or_seven (length_at s at) → Lines → platform_length (platform_at s at) ≡ length_at s at
  told_length own w = go (ℕ_discrete (length_at s at) 7)
    where
      go : Dec (length_at s at ≡ 7) → platform_length (platform_at s at) ≡ length_at s at
      go (yes e) =
          let (a, (b, (c, (d, (f, (g, (h, u))))))) = subst (λ T. T) (with_seven e) w in
          seven_for_some (platform_at s at) (λ z. omega (arith, h.0, seventh s at e)) ∙ sym e
      go (no n) = six_for_none (platform_at s at) (no_seventh s at n) ∙ sym (own ∙ six n)

  pub legal_platform : length_at s at ≡ platform_length (platform_at s at) → LegalPlatform (platform_at s at) → Lines
  legal_platform own w = go (ℕ_discrete (length_at s at) 7)
    where
      some : length_at s at ≡ 7 → one_at s (at + 9) ≡ 0 → ⊥
      some e z = omega (arith, e, own, six_for_none (platform_at s at) (seventh s at e ∙ z))

      go : Dec (length_at s at ≡ 7) → Lines
      go (yes e) =
          let last : (1 ≤ one_at s (at + 9)) × (one_at s (at + 9) ≤ 8) = (omega (arith, some e), omega (arith, w.priority_flits.1, seventh s at e)) in
          subst (λ T. T) (sym (with_seven e)) (w.columns, (w.rows, (w.link, (w.routing, (w.buffer, (w.method, (last, tt)))))))
      go (no n) = subst (λ T. T) (sym (with_six n)) (w.columns, (w.rows, (w.link, (w.routing, (w.buffer, (w.method, tt))))))
