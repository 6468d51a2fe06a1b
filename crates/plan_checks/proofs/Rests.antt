-- What a record's kind asks behind its fields.
use Prim.Native.Nat.{ℕ}
use mathlib.Core.Path.{◌≡◌}
use mathlib.Core.List.{List}
use Rattle.plan_values.specs.Values.{flow_at}
use Rattle.plan_checks.specs.Checks.{clash_at, tail_at, rest_at}
use Rattle.plan_values.specs.declared.Flow.{Flow}
use Rattle.std.specs.Prelude.{Result, Ok}
use Rattle.framing.specs.declared.returned.Refusal.{Refusal}
use Rattle.plan_table.specs.declared.Kind.{Kind}
use Rattle.plan_table.specs.declared.Kind.TheVariants.{PlatformRecord, FlowRecord, EndRecord}

module _ (s : List ℕ) (at : ℕ) (ids priorities : List ℕ) {kind : Kind} where
  pub rest_platform : kind ≡ PlatformRecord → Ok kind ≡ rest_at s at kind ids priorities
  unfolding rest_at
  rest_platform e = rw e

  pub rest_flow : {f : Flow} {r : Result Kind Refusal} → kind ≡ FlowRecord → f ≡ flow_at s at → r ≡ clash_at at f ids priorities → r ≡ rest_at s at kind ids priorities
  unfolding rest_at
  rest_flow e g p = rw (e, ← g) p

  pub rest_end : {r : Result Kind Refusal} → kind ≡ EndRecord → r ≡ tail_at s at → r ≡ rest_at s at kind ids priorities
  unfolding rest_at
  rest_end e p = rw e p

pub ruleset rests = (rest_platform, rest_flow, rest_end)
