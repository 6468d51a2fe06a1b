-- `engine::kept_of` meets its contract.
use Prim.Native.Nat.{ℕ}
use mathlib.Core.Path.{refl, ap, ◌∙◌}
use lib.ListN.{take}
use Rattle.std.specs.Prelude.{Option, unwrap_or}
use Rattle.plan.specs.Legal.{flow}
use Rattle.engine_costs.specs.Figures.{figures_of}
use Rattle.engine.proofs.Answering.{hits_asked, keeps}
use Rattle.engine.proofs.kept_of.Goals as goal

pub hit_row-requires : goal.hit_row-requires
hit_row-requires c =
    let number = c.unwrap_or.ensures ∙ ap (λ (o : Option ℕ). unwrap_or o 0) c.bound-bound.ensures in
    hits_asked c.requires.turn c.requires.verdict number _ c.looked_at-seen.ensures.1 (ap (take c.looked_at-seen.result) c.direct.ensures.named)

pub returns : goal.returns
returns c =
    let number = c.unwrap_or.ensures ∙ ap (λ (o : Option ℕ). unwrap_or o 0) c.bound-bound.ensures in
    let figures = c.of.ensures ∙ ap (λ (o : Option ℕ). figures_of c.args.turn.now.cost o c.looked_at-seen.result (flow c.args.plan.now.flows c.args.turn.now.place)) c.bound-bound.ensures in
    keeps c.requires.turn c.requires.verdict number _ c.requires.way c.looked_at-seen.ensures.0 (ap (take c.looked_at-seen.result) c.direct.ensures.named) c.hit_row.ensures refl figures
