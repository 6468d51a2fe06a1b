-- A plan that was accepted is one that the engine may be given.
use mathlib.Core.Path.{refl, sym, ◌∙◌}
use Rattle.engine.proofs.Accepted.{reading_scene}
use Rattle.cases.proofs.put_case.Goals as goal

pub put_accepted-requires : goal.put_accepted-requires
put_accepted-requires g c = reading_scene _ (sym c.in-Ok.is ∙ c.read.ensures) refl
