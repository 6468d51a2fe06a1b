-- A record's fields are passed exactly if each value is allowed.
use Prim.Native.Nat.{ℕ, ◌+◌, ◌≤◌, ◌<◌}
use mathlib.Core.Path.{◌≡◌, refl}
use mathlib.Core.Bool.{Bool, true, false, ◌||◌}
use mathlib.Core.List.{List, [], ◌∷◌}
use native.Mathlib.Omega.{arith}
use lib.Dec.{ltb}
use borrow.Author.Tests.{ltb-false, leb-false, le-ltb, lt-leb}
use Rattle.framing_numbers.specs.Numbers.{bytes_of, number_at}
use Rattle.framing.specs.First.{◌when◌else◌}
use Rattle.plan_table.specs.Table.{flow_fields, width, lowest_of, highest_of}
use Rattle.plan_values.specs.Values.{flow_at}
use Rattle.plan_checks.specs.Checks.{limits_at}
use Rattle.plan_checks.specs.Checks.{above}
use Rattle.plan.specs.Records.{fields_from}
use Rattle.plan.specs.Legal.{LegalFlow}
use Rattle.plan_values.specs.declared.Platform.{Platform}
use Rattle.std.specs.Prelude.{Ok}
use Rattle.plan_table.specs.declared.Field.{Field}
use Rattle.plan_table.specs.declared.Kind.{Kind}
use Rattle.plan_table.specs.declared.Kind.TheVariants.{FlowRecord}
use Rattle.plan_table.specs.declared.Limit.{Limit}
use Rattle.plan_table.specs.declared.Limit.TheVariants.{UpTo, BelowNodes, UpToPeriod}
use Rattle.plan_checks.specs.declared.Limits.{Limits}
use Rattle.plan.proofs.Order.{passed}

abbrev pub Below : Limits → Limit → ℕ → Type 0
Below l (UpTo n) v = v ≤ n
Below l BelowNodes v = v < l.nodes
Below l (UpToPeriod own) v = v ≤ l.period

-- the fields from the one at this offset on have allowed values
abbrev pub Allowed : List ℕ → ℕ → Limits → ℕ → List Field → Type 0
Allowed s at l offset [] = Unit {0}
Allowed s at l offset (f ∷ fs) =
    ((lowest_of f ≤ number_at s (width f) (at + offset)) × Below l (highest_of f) (number_at s (width f) (at + offset)))
    × Allowed s at l (offset + bytes_of (width f)) fs

pub neither : (a b : Bool) → (a || b) ≡ false → (a ≡ false) × (b ≡ false)
neither true b e = absurd (let z : ◌≡◌ {A = ℕ} 0 1 = cc in omega arith)
neither false b e = (refl, e)

not_above : (l : Limits) (limit : Limit) (v : ℕ) → above l limit v ≡ false → Below l limit v
not_above l (UpTo n) v e = ltb-false n v e
not_above l BelowNodes v e = leb-false l.nodes v e
not_above l (UpToPeriod own) v e = ltb-false l.period v e

below_not : (l : Limits) (limit : Limit) (v : ℕ) → Below l limit v → above l limit v ≡ false
below_not l (UpTo n) v h = le-ltb n v h
below_not l BelowNodes v h = lt-leb l.nodes v h
below_not l (UpToPeriod own) v h = le-ltb l.period v h

module _ (s : List ℕ) (at : ℕ) (kind : Kind) (l : Limits) where
  pub passed_allowed : (offset : ℕ) (fs : List Field) {found : Kind} → fields_from s at kind l offset fs ≡ Ok found → Allowed s at l offset fs
  unfolding fields_from
  passed_allowed offset [] e = tt
  passed_allowed offset (f ∷ fs) e =
      let v = number_at s (width f) (at + offset) in
      let t = passed _ _ _ e in
      let n = neither (ltb v (lowest_of f)) (above l (highest_of f) v) t.0 in
      ((ltb-false v (lowest_of f) n.0, not_above l (highest_of f) v n.1), passed_allowed (offset + bytes_of (width f)) fs t.1)

  pub allowed_passed : (offset : ℕ) (fs : List Field) → Allowed s at l offset fs → fields_from s at kind l offset fs ≡ Ok kind
  unfolding fields_from ◌when◌else◌
  allowed_passed offset [] w = refl
  allowed_passed offset (f ∷ fs) (w, ws) =
      let v = number_at s (width f) (at + offset) in
      rw (le-ltb v (lowest_of f) w.0, below_not l (highest_of f) v w.1) (allowed_passed (offset + bytes_of (width f)) fs ws)

-- the flow's table, line by line
module _ (s : List ℕ) (at : ℕ) where
  pub flow_legal : (p : Platform) → Allowed s at (limits_at s at FlowRecord p) 3 flow_fields → ((flow_at s at).source ≡ (flow_at s at).destination → ⊥) → LegalFlow p (flow_at s at)
  flow_legal p (a, (b, (c, (d, (e, (f, (g, (h, w)))))))) m = record { id = a; priority = b; source = c.1; destination = d.1; flits = e; period = f; deadline = g; jitter = h; moves = m }

  pub legal_flow : (p : Platform) → LegalFlow p (flow_at s at) → Allowed s at (limits_at s at FlowRecord p) 3 flow_fields
  legal_flow p w = (w.id, (w.priority, ((omega arith, w.source), ((omega arith, w.destination), (w.flits, (w.period, (w.deadline, (w.jitter, tt))))))))
