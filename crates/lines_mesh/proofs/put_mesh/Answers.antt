-- `lines_mesh::put_mesh` meets its contract.
use Rattle.std.proofs.Common.{arith}
use Rattle.lines_items.specs.Words.{line_end}
use Rattle.lines_items.proofs.Chain.{longer, chain}
use Rattle.lines_mesh.specs.Mesh.{mesh_start, mesh_line}
use Rattle.lines_mesh.proofs.put_mesh.Goals as goal

pub returns : goal.returns
unfolding mesh_start mesh_line
returns g c =
    let size = rw (c.into.ensures, c.into-2.ensures) at c.push_two.ensures in
    let cycles = rw (c.into-3.ensures, c.into-4.ensures) at c.push_two-2.ensures in
    let method = rw (c.into-5.ensures, c.into-6.ensures, c.method_printed.ensures) at c.push_two-3.ensures in
    let end = c.push_word.ensures in (
      chain _ _ _ (chain _ _ _ (chain _ _ _ size.0 cycles.0) method.0) end,
      omega (arith, size.1, cycles.1, method.1, longer c.push_two-3.new.self line_end end),
    )
