-- What the type of `write`'s plan says of its flows: each value is below what its field's bytes can hold.
use Prim.Native.Nat.{zero, suc}
use mathlib.Core.List.{List, [], ◌∷◌}
use native.Mathlib.Omega.{arith}
use mir.Val.{Val}
use denote.Array.{each}
use denote.Laws.{Is}
use denote.Shadow.{shadow}
use Rattle.plan_table.specs.Table.{flow_fields}
use Rattle.plan_values.specs.declared.Flow.{Flow}
use Rattle.plan_values.specs.contracts.Flow as T
use Rattle.plan.specs.declared.Plan.{Plan}
use Rattle.plan.specs.contracts.Plan as P
use Rattle.writer_bytes.specs.PlanBytes.{flow_values}
use Rattle.writer.specs.Fits.{Fits, FitsEach}

flow_typed : (f : Flow) (vs : List Val) → Is T.the_row f vs → Fits flow_fields (flow_values f)
flow_typed f vs (vss, (e, (id, (priority, (source, (destination, (flits, (period, (deadline, (jitter, t)))))))))) =
    (id.1, (priority.1, (source.1, (destination.1, (flits.1, (period.1, (deadline.1, (jitter.1, tt))))))))

pub flows_typed : (fs : List Flow) (us : List Val) → shadow (each Flow (T.the_row).own_val fs us) → FitsEach fs
flows_typed [] us p k h = absurd (omega arith)
flows_typed (f ∷ fs) [] p k h = absurd p
flows_typed (f ∷ fs) (u ∷ us) p zero h = flow_typed f (u ∷ []) p.0
flows_typed (f ∷ fs) (u ∷ us) p (suc k) h = flows_typed fs us p.1 k (omega arith)

pub plan_typed : (plan : Plan) (vs : List Val) → Is P.the_row plan vs → FitsEach plan.flows
plan_typed plan vs (vss, (e, (platform, (flows, (count, t))))) = flows_typed plan.flows flows.0 flows.1.1
