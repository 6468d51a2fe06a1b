-- A column beside the flows: an array of 64 that has a value of each of the flows so far.
use Prim.Native.Nat.{ℕ, ◌+◌, ◌≤◌, ◌<◌}
use native.Mathlib.Omega.{arith}
use mathlib.Core.Path.{◌≡◌, refl, sym, ap, ◌∙◌}
use mathlib.Core.List.{List, [], ◌∷◌, ◌++◌, map, map-append}
use Rattle.std.proofs.lemmas.Simd.{map-map}
use lib.ListN.{length, take, set, replicate, length-set}
use Rattle.plan_checks.specs.declared.Names.{Names}
use Rattle.plan_values.specs.declared.Flow.{Flow}
use Rattle.plan.proofs.Padding.{taken_more}

pub record Column {A : Type 0} (value : Flow → A) (column : List A) (flows : List Flow) (count : ℕ) : Type 0 where
  pub long : length column ≡ 64
  pub same : take count column ≡ map value (take count flows)

pub column_none : {A : Type 0} (value : Flow → A) (none : A) (flows : List Flow) → Column value (replicate 64 none) flows 0
column_none value none flows = record { long = refl; same = refl }

-- What no two flows may have alike.
abbrev pub names_of : Flow → Names
names_of f = record { id = f.id; priority = f.priority }

module _ {A : Type 0} {value : Flow → A} {column : List A} {flows : List Flow} {count : ℕ} (w : Column value column flows count) where
  pub column_more : (f : Flow) → length flows ≡ 64 → count < 64 → Column value (set column count (value f)) (set flows count f) (count + 1)
  column_more f l room = record {
    long = rw length-set w.long;
    same =
        taken_more column count (value f) w.long room
        ∙ ap (λ (xs : List A). xs ++ value f ∷ []) w.same
        ∙ sym (ap (map value) (taken_more flows count f l room) ∙ map-append value (take count flows) (f ∷ []));
  }

-- A value that is in the column too.
pub column_map : {A B : Type 0} {value : Flow → A} {column : List A} {flows : List Flow} {count : ℕ} → Column value column flows count → (g : A → B) → map (λ (f : Flow). g (value f)) (take count flows) ≡ map g (take count column)
column_map {value} {flows} {count} w g = sym (map-map g value (take count flows)) ∙ ap (map g) (sym w.same)
