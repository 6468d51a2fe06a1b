-- `mesh_stretches::shared_hops` meets its contract: hops to higher places, and to lower ones.
use native.Mathlib.Omega.{arith}
use Rattle.mesh_stretches.proofs.Hopping.{hops_up, hops_down}
use Rattle.mesh_stretches.proofs.shared_hops.Goals as goal

pub returns-then-u-v : goal.returns-then-u-v
returns-then-u-v c =
    hops_up c.requires (omega arith)
    (rw (c.max.ensures, c.min.ensures, c.saturating_sub.ensures) at c.hops_between.ensures)

pub returns-else-u-v : goal.returns-else-u-v
returns-else-u-v c =
    hops_down c.requires (omega arith)
    (rw (c.max-else-u-v.ensures, c.min-else-u-v.ensures, c.saturating_sub-else-u-v.ensures) at c.hops_between-else-u-v.ensures)
