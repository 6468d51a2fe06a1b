-- Document 01, "The program `bounds`" and "Figures to meet": P's text, and other texts, computed from the bytes.
use Prim.Native.Nat.{ℕ}
use mathlib.Core.Path.{◌≡◌, refl}
use mathlib.Core.List.{List, [], ◌∷◌, ◌++◌, map}
use lib.ListN.{take, set}
use Rattle.framing.specs.First.{◌when◌else◌}
use Rattle.framing.specs.Each.{each}
use Rattle.plan_table.specs.Table.{tag_of, six_or_seven}
use Rattle.plan_values.specs.Values.{priority_flits_at}
use Rattle.plan_checks.specs.Checks.{header_at, tagged_at, frame_at, clash_at, tail_at, rest_at}
use Rattle.plan.specs.Records.{fields_from, ◌then◌, body_at, record_at}
use Rattle.plan.specs.Reading.{accepted, refused, after, records, read_plan}
use Rattle.plan.specs.PlanP.{P}
use Rattle.mesh.specs.Mesh.{hops, along, xy}
use Rattle.mesh.specs.Shared.{on, domain, first_from}
use Rattle.recurrence.specs.Rounding.{up}
use Rattle.recurrence.specs.Sums.{sum_over}
use Rattle.recurrence.specs.ComesTo.{comes_to_from, comes_to}
use Rattle.model.specs.Latency.{method_used, latency}
use Rattle.model.specs.Interference.{direct_for, indirect_for, comes_before, those}
use Rattle.model.specs.Delays.{allowance, weight, term, terms}
use Rattle.model.specs.Verdicts.{highest, judged, judge, verdict_below, verdict, answers}
use Rattle.lines_items.specs.Decimal.{digits_below, decimal}
use Rattle.lines_items.specs.Items.{item}
use Rattle.lines_mesh.specs.Mesh.{mesh_start, mesh_line}
use Rattle.lines_flow.specs.Flows.{told, flow_line, refusal_line}
use Rattle.lines.specs.Lines.{text_by, text_of}
use Rattle.lines.specs.Replied.{told_at, record_line, record_lines}

-- The method's digit stands at the end of P's first line.
abbrev mesh_of : ℕ → List ℕ
mesh_of method = 109 ∷ 101 ∷ 115 ∷ 104 ∷ 32 ∷ 54 ∷ 120 ∷ 49 ∷ 32 ∷ 108 ∷ 105 ∷ 110 ∷ 107 ∷ 32 ∷ 49 ∷ 32 ∷ 114 ∷ 111 ∷ 117 ∷ 116 ∷ 101 ∷ 32 ∷ 48 ∷ 32 ∷ 98 ∷ 117 ∷ 102 ∷ 102 ∷ 101 ∷ 114 ∷ 32 ∷ 49 ∷ 48 ∷ 32 ∷ 109 ∷ 101 ∷ 116 ∷ 104 ∷ 111 ∷ 100 ∷ 32 ∷ method ∷ 10 ∷ []

abbrev flows_of_p : List ℕ
flows_of_p =
    -- 2 bounded 62 rounds 1
    50 ∷ 32 ∷ 98 ∷ 111 ∷ 117 ∷ 110 ∷ 100 ∷ 101 ∷ 100 ∷ 32 ∷ 54 ∷ 50 ∷ 32 ∷ 114 ∷ 111 ∷ 117 ∷ 110 ∷ 100 ∷ 115 ∷ 32 ∷ 49 ∷ 10 ∷
    -- 3 bounded 328 rounds 2
    51 ∷ 32 ∷ 98 ∷ 111 ∷ 117 ∷ 110 ∷ 100 ∷ 101 ∷ 100 ∷ 32 ∷ 51 ∷ 50 ∷ 56 ∷ 32 ∷ 114 ∷ 111 ∷ 117 ∷ 110 ∷ 100 ∷ 115 ∷ 32 ∷ 50 ∷ 10 ∷
    -- 5 bounded 396 rounds 2
    53 ∷ 32 ∷ 98 ∷ 111 ∷ 117 ∷ 110 ∷ 100 ∷ 101 ∷ 100 ∷ 32 ∷ 51 ∷ 57 ∷ 54 ∷ 32 ∷ 114 ∷ 111 ∷ 117 ∷ 110 ∷ 100 ∷ 115 ∷ 32 ∷ 50 ∷ 10 ∷ []

-- "7 late rounds 1", "9 waits 7": P with a deadline of 327 for flow 3.
abbrev late_text : List ℕ
late_text =
    -- 2 bounded 62 rounds 1
    50 ∷ 32 ∷ 98 ∷ 111 ∷ 117 ∷ 110 ∷ 100 ∷ 101 ∷ 100 ∷ 32 ∷ 54 ∷ 50 ∷ 32 ∷ 114 ∷ 111 ∷ 117 ∷ 110 ∷ 100 ∷ 115 ∷ 32 ∷ 49 ∷ 10 ∷
    -- 3 late rounds 1
    51 ∷ 32 ∷ 108 ∷ 97 ∷ 116 ∷ 101 ∷ 32 ∷ 114 ∷ 111 ∷ 117 ∷ 110 ∷ 100 ∷ 115 ∷ 32 ∷ 49 ∷ 10 ∷
    -- 5 waits 3
    53 ∷ 32 ∷ 119 ∷ 97 ∷ 105 ∷ 116 ∷ 115 ∷ 32 ∷ 51 ∷ 10 ∷ []

-- refused 1 at 78, refused 24 at 7
abbrev cut_text : List ℕ
cut_text = 114 ∷ 101 ∷ 102 ∷ 117 ∷ 115 ∷ 101 ∷ 100 ∷ 32 ∷ 49 ∷ 32 ∷ 97 ∷ 116 ∷ 32 ∷ 55 ∷ 56 ∷ 10 ∷ []

abbrev buffer_text : List ℕ
buffer_text = 114 ∷ 101 ∷ 102 ∷ 117 ∷ 115 ∷ 101 ∷ 100 ∷ 32 ∷ 50 ∷ 52 ∷ 32 ∷ 97 ∷ 116 ∷ 32 ∷ 55 ∷ 10 ∷ []

-- P with this method and no flows.
abbrev no_flows : ℕ → List ℕ
no_flows method = set (take 9 P) 8 method ++ (0x7F ∷ 0 ∷ 0 ∷ [])

-- The bytes offered and the text printed; methods are printed as used, so that 0 is printed as 3.
abbrev offered : List (List ℕ)
offered = P ∷ set (set P 49 0x01) 50 0x47 ∷ no_flows 0 ∷ no_flows 2 ∷ take 78 P ∷ set P 7 65 ∷ []

abbrev printed : List (List ℕ)
printed = (mesh_of 51 ++ flows_of_p) ∷ (mesh_of 51 ++ late_text) ∷ mesh_of 51 ∷ mesh_of 50 ∷ cut_text ∷ buffer_text ∷ []

texts : map text_of offered ≡ printed
unfolding tag_of six_or_seven priority_flits_at header_at tagged_at frame_at fields_from clash_at tail_at rest_at ◌then◌ body_at record_at accepted refused after records read_plan ◌when◌else◌ hops along xy on domain first_from up sum_over comes_to_from comes_to method_used latency direct_for indirect_for comes_before those allowance weight term terms highest judged judge verdict_below verdict answers each digits_below decimal item mesh_start mesh_line told flow_line refusal_line text_by
texts = refl

-- The lines of a reply's three records: `2 bounded 62 rounds 1`, `7 late rounds 3`, `9 waits 7`.
abbrev records_of : List ℕ
records_of =
    0x81 ∷ 0x00 ∷ 0x0D ∷ 0x00 ∷ 0x02 ∷ 0x00 ∷ 0xFF ∷ 0xFF ∷ 0x00 ∷ 0x00 ∷ 0x00 ∷ 0x3E ∷ 0x00 ∷ 0x00 ∷ 0x00 ∷ 0x01
    ∷ 0x81 ∷ 0x00 ∷ 0x0D ∷ 0x00 ∷ 0x07 ∷ 0x01 ∷ 0xFF ∷ 0xFF ∷ 0x00 ∷ 0x00 ∷ 0x00 ∷ 0x00 ∷ 0x00 ∷ 0x00 ∷ 0x00 ∷ 0x03
    ∷ 0x81 ∷ 0x00 ∷ 0x0D ∷ 0x00 ∷ 0x09 ∷ 0x02 ∷ 0x00 ∷ 0x07 ∷ 0x00 ∷ 0x00 ∷ 0x00 ∷ 0x00 ∷ 0x00 ∷ 0x00 ∷ 0x00 ∷ 0x00
    ∷ []

lines_of_records : record_lines records_of 3 ≡ 50 ∷ 32 ∷ 98 ∷ 111 ∷ 117 ∷ 110 ∷ 100 ∷ 101 ∷ 100 ∷ 32 ∷ 54 ∷ 50 ∷ 32 ∷ 114 ∷ 111 ∷ 117 ∷ 110 ∷ 100 ∷ 115 ∷ 32 ∷ 49 ∷ 10 ∷ 55 ∷ 32 ∷ 108 ∷ 97 ∷ 116 ∷ 101 ∷ 32 ∷ 114 ∷ 111 ∷ 117 ∷ 110 ∷ 100 ∷ 115 ∷ 32 ∷ 51 ∷ 10 ∷ 57 ∷ 32 ∷ 119 ∷ 97 ∷ 105 ∷ 116 ∷ 115 ∷ 32 ∷ 55 ∷ 10 ∷ []
unfolding digits_below decimal item ◌when◌else◌ told_at record_line record_lines
lines_of_records = refl
