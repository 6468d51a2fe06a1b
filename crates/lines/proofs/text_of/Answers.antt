-- `lines::text_of` meets its contract.
use native.Mathlib.Omega.{arith}
use mathlib.Core.Path.{sym, ◌∙◌}
use Rattle.std.proofs.Common.{ap, length}
use Rattle.framing.specs.Returned.{returned_of}
use Rattle.framing.proofs.Faults.{number_some}
use Rattle.lines.proofs.Printing.{printed_refused, all_lines, printed_lines}
use Rattle.lines.proofs.text_of.Goals as goal

pub returns-in-Err : goal.returns-in-Err
returns-in-Err c =
    let refusal = c.put_refusal.ensures in (
      printed_refused _ (ap returned_of (sym c.in-Err.is) ∙ c.analyse.ensures.0, c.analyse.ensures.1) (number_some c.in-Err.refusal.0) c.new-text.ensures refusal.0,
      omega (arith, refusal.1, ap length c.new-text.ensures),
    )

pub platform_at-requires : goal.platform_at-requires
platform_at-requires c =
    let mesh = (all_lines c.args.bytes.now (ap returned_of (sym c.in-Ok.is) ∙ c.analyse.ensures.0, c.analyse.ensures.1) (omega arith)).1.mesh in
    rw c.new.ensures mesh

pub overflow_sub-count : goal.overflow_sub-count
overflow_sub-count c = omega (arith, (all_lines c.args.bytes.now (ap returned_of (sym c.in-Ok.is) ∙ c.analyse.ensures.0, c.analyse.ensures.1) (omega arith)).1.size)

pub put_flows-requires : goal.put_flows-requires
put_flows-requires c =
    let w = (all_lines c.args.bytes.now (ap returned_of (sym c.in-Ok.is) ∙ c.analyse.ensures.0, c.analyse.ensures.1) (omega arith)).1 in
    (omega (arith, w.size, w.few, c.put_mesh.ensures.1, ap length c.new-text.ensures), omega (arith, w.size, w.whole))

pub returns : goal.returns
returns c =
    let bytes = c.args.bytes.now in
    let e = (ap returned_of (sym c.in-Ok.is) ∙ c.analyse.ensures.0) in
    let w = (all_lines bytes (e, c.analyse.ensures.1) (omega arith)).1 in
    let mesh = c.put_mesh.ensures in
    let flows = c.put_flows.ensures in (
      printed_lines bytes (e, c.analyse.ensures.1) (omega arith) _ (rw c.new.ensures at c.platform_at.ensures) (omega (arith, w.size)) c.new-text.ensures mesh.0 flows.0,
      omega (arith, w.size, w.few, flows.1, mesh.1, ap length c.new-text.ensures),
    )
