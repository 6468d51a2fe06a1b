-- Document 01, "The program `bounds`": the mesh's line.
use Rattle.std.specs.Prelude.{ℕ, List, ◌++◌}
use Rattle.plan_values.specs.declared.Platform.{Platform}
use Rattle.model.specs.Latency.{method_used, method_number}
use Rattle.lines_items.specs.Words.{mesh_word, by_word, link_word, route_word, buffer_word, method_word, line_end}
use Rattle.lines_items.specs.Items.{item}

-- "First the mesh: columns by rows, link cycles, routing cycles,
unfoldable pub mesh_start : Platform → List ℕ
mesh_start p = (item mesh_word p.columns ++ item by_word p.rows) ++ (item link_word p.link ++ item route_word p.routing)

-- buffer flits, the method really used."
unfoldable pub mesh_line : Platform → List ℕ
mesh_line p = mesh_start p ++ (item buffer_word p.buffer ++ item method_word (method_number (method_used p))) ++ line_end
