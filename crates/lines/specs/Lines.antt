-- Document 01, "The program `bounds`": what is printed for any bytes.
use Rattle.std.specs.Prelude.{ℕ, List, ◌++◌, take, Result, Ok, Err}
use Rattle.framing.specs.Each.{each}
use Rattle.plan.specs.declared.Plan.{Plan}
use Rattle.framing.specs.Returned.{number_of}
use Rattle.framing.specs.declared.returned.Refusal.{Refusal}
use Rattle.plan.specs.Reading.{read_plan}
use Rattle.model.specs.Verdicts.{answers}
use Rattle.lines_mesh.specs.Mesh.{mesh_line}
use Rattle.lines_flow.specs.Flows.{flow_line, refusal_line}

-- "A small program prints the same result as text."
unfoldable pub text_by : Result Plan Refusal → List ℕ
text_by (Err refusal) = refusal_line (number_of refusal.0) refusal.1
text_by (Ok plan) = mesh_line plan.platform ++ each flow_line (answers plan.platform (take plan.count plan.flows))

abbrev pub text_of : List ℕ → List ℕ
text_of bytes = text_by (read_plan bytes)
