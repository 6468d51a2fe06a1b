-- `plan::read` meets its contract: a line for each goal that the check leaves, by the lemmas of Turns and Scan.
use Rattle.std.proofs.lemmas.Result.{err_from_is_err_and}
use native.Mathlib.Omega.{arith}
use mathlib.Core.Path.{refl, sym, ap, ◌∙◌}
use Rattle.plan_table.specs.Table.{fields_of}
use lib.ListN.{replicate}
use Rattle.plan.proofs.Order.{framed, flow_room}
use Rattle.plan.proofs.Padding.{accepted_is}
use Rattle.plan.proofs.Turns.{sofar_none, frame_refuses, platform_inside, inside_none, field_refuses, inside_more, rest_refuses, end_accepted, platform_taken, flow_taken}
use Rattle.plan.proofs.read.Goals.{in-PlatformRecord, in-FlowRecord}
use Rattle.plan.proofs.read.Goals as goal

pub records-init : goal.records-init
records-init c = sofar_none _ _ _ _ c.blank_platform-platform.ensures (ap (replicate 64) c.blank_flow-flows.ensures)

pub returns-in_err-kind : goal.returns-in_err-kind
returns-in_err-kind c = let p = err_from_is_err_and c.from_residual.result c.from_residual.ensures.1 in rw (p.1, p.2) (frame_refuses c.records.invariant (rw c.new-r.ensures at (sym c.check_frame.ensures ∙ c.in_err-kind.was)))

pub limits_at-limits-requires : goal.limits_at-limits-requires
limits_at-limits-requires c = rw c.new-r.ensures (framed _ _ _ (rw c.new-r.ensures at (sym c.check_frame.ensures ∙ c.in_ok-kind.was))).whole

pub length_at-requires : goal.length_at-requires
length_at-requires c = rw c.new-r.ensures (omega (arith, (framed _ _ _ (rw c.new-r.ensures at (sym c.check_frame.ensures ∙ c.in_ok-kind.was))).whole))

pub loop-field-init : goal.loop-field-init
loop-field-init c = inside_none c.records.invariant (rw c.new-r.ensures at (sym c.check_frame.ensures ∙ c.in_ok-kind.was)) (rw c.new-r.ensures at c.limits_at-limits.ensures)

pub loop-field-preserved : goal.loop-field-preserved
loop-field-preserved c = inside_more c.loop-field.invariant (rw c.new-r.ensures at (c.fields_of-field-items.ensures ∙ ap (fields_of _) c.length_at.ensures)) _ c.loop-field-test.true refl c.number_at-value.ensures c.is_outside.ensures c.if-is_outside.false c.bytes_of-offset.ensures

pub returns-in_err-check_rest : goal.returns-in_err-check_rest
returns-in_err-check_rest c = let p = err_from_is_err_and c.from_residual-in_err-check_rest.result c.from_residual-in_err-check_rest.ensures.1 in rw (p.1, p.2) (rest_refuses c.loop-field.invariant (rw c.new-r.ensures at (c.fields_of-field-items.ensures ∙ ap (fields_of _) c.length_at.ensures)) c.loop-field-test.false (rw c.new-r.ensures at c.check_rest.ensures) c.in_err-check_rest.was)

pub platform_at-platform-requires : goal.platform_at-platform-requires
platform_at-platform-requires c = rw c.new-r.ensures (platform_inside c.loop-field.invariant (rw c.new-r.ensures at (c.fields_of-field-items.ensures ∙ ap (fields_of _) c.length_at.ensures)) c.in-PlatformRecord.is)

pub bounds-flows-count : goal.bounds-flows-count
bounds-flows-count c = flow_room (framed _ _ _ c.loop-field.invariant.frame) c.in-FlowRecord.is

pub bounds-names-count : goal.bounds-names-count
bounds-names-count c = flow_room (framed _ _ _ c.loop-field.invariant.frame) c.in-FlowRecord.is

pub records-preserved : goal.records-preserved
records-preserved c =
    elim c.match-kind.branch [
      | in-PlatformRecord w ↦ rw (w.platform-is, w.flows-is, w.names-is, w.count-is) (platform_taken c.loop-field.invariant (rw c.new-r.ensures at (c.fields_of-field-items.ensures ∙ ap (fields_of _) c.length_at.ensures)) c.loop-field-test.false (rw c.new-r.ensures at c.check_rest.ensures) c.in_ok-check_rest.was w.in-PlatformRecord.is (rw c.new-r.ensures at w.platform_at-platform.ensures))
      | in-FlowRecord w ↦ rw (w.platform-is, w.flows-is, w.names-is, w.count-is) (flow_taken c.loop-field.invariant (rw c.new-r.ensures at (c.fields_of-field-items.ensures ∙ ap (fields_of _) c.length_at.ensures)) c.loop-field-test.false (rw c.new-r.ensures at c.check_rest.ensures) c.in_ok-check_rest.was w.in-FlowRecord.is (rw c.new-r.ensures at w.flow_at-flow.ensures))
    ]

pub returns-then-is_outside : goal.returns-then-is_outside
returns-then-is_outside c = field_refuses c.loop-field.invariant (rw c.new-r.ensures at (c.fields_of-field-items.ensures ∙ ap (fields_of _) c.length_at.ensures)) _ c.loop-field-test.true refl c.number_at-value.ensures c.is_outside.ensures c.if-is_outside.true c.refusal_of.ensures

pub returns-in-EndRecord : goal.returns-in-EndRecord
returns-in-EndRecord c = accepted_is _ _ _ c.records.invariant.long c.records.invariant.few c.records.invariant.blank ∙ end_accepted c.loop-field.invariant (rw c.new-r.ensures at (c.fields_of-field-items.ensures ∙ ap (fields_of _) c.length_at.ensures)) c.loop-field-test.false (rw c.new-r.ensures at c.check_rest.ensures) c.in_ok-check_rest.was c.in-EndRecord.is
