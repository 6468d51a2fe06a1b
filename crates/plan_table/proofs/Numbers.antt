-- The table of fields has the numbers of the list of refusals.
use Prim.Native.Nat.{ℕ, ◌+◌}
use mathlib.Core.Path.{◌≡◌, refl}
use mathlib.Core.Bool.{true}
use mathlib.Core.List.{List, [], ◌∷◌}
use lib.ListN.{get_or, take}
use Rattle.framing.specs.First.{◌when◌else◌}
use Rattle.framing.specs.Returned.{number_of}
use Rattle.framing_numbers.specs.Numbers.{bytes_of}
use Rattle.plan_table.specs.Table.{fields_of, platform_fields, flow_fields, width, highest_of, refusal_above, refusal_of, no_field}
use Rattle.plan_table.specs.Refusals.{platform_refusals, refusals_of, has}
use Rattle.plan_table.proofs.Lengths.{by_length}
use Rattle.plan_table.specs.declared.Field.{Field}
use Rattle.plan_table.specs.declared.Kind.{Kind}
use Rattle.plan_table.specs.declared.Kind.TheVariants.{PlatformRecord, FlowRecord, EndRecord}

-- the table of fields gives each the number that is listed at its place
abbrev pub NumberedBy : List (ℕ × ℕ) → ℕ → List Field → Type 0
NumberedBy lines offset [] = Unit {0}
NumberedBy lines offset (f ∷ fs) =
    ((has lines (number_of f.3) offset ≡ true) × (has lines (number_of (refusal_above (highest_of f) f.3)) offset ≡ true))
    × NumberedBy lines (offset + bytes_of (width f)) fs

pub numbered : (kind : Kind) (told : ℕ) → NumberedBy (refusals_of kind) 3 (fields_of kind told)
numbered PlatformRecord told =
    by_length (λ n. NumberedBy platform_refusals 3 (take n platform_fields))
    ((refl, refl), ((refl, refl), ((refl, refl), ((refl, refl), ((refl, refl), ((refl, refl), tt))))))
    ((refl, refl), ((refl, refl), ((refl, refl), ((refl, refl), ((refl, refl), ((refl, refl), ((refl, refl), tt)))))))
    told
numbered FlowRecord told = ((refl, refl), ((refl, refl), ((refl, refl), ((refl, refl), ((refl, refl), ((refl, refl), ((refl, refl), ((refl, refl), tt))))))))
numbered EndRecord told = tt

-- "36 is deadline zero, 38 is deadline above period"
pub deadline_zero : number_of (refusal_of (get_or flow_fields 6 no_field) 0) ≡ 36
unfolding ◌when◌else◌
deadline_zero = refl

pub deadline_above : number_of (refusal_of (get_or flow_fields 6 no_field) 1) ≡ 38
unfolding ◌when◌else◌
deadline_above = refl
