-- `engine_rows::hits::hit_row` meets its contract.
use mathlib.Core.Path.{refl}
use Rattle.engine_rows.proofs.Places.{dealing_none}
use Rattle.engine_rows.proofs.hits.hit_row.Goals as goal

pub loop-k-init : goal.loop-k-init
loop-k-init c = dealing_none _ _ _ _ refl
