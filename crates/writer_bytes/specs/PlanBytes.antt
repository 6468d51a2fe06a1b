-- Document 01, "The plan's bytes", with document 02, L7: the bytes of a plan, as they would be written. The widths are those of the reader's table.
use Rattle.std.specs.Prelude.{ℕ, ◌+◌, ◌*◌, List, [], ◌∷◌, ◌++◌}
use Rattle.framing.specs.BigEndian.{number_bytes}
use Rattle.framing.specs.Each.{each}
use Rattle.framing.specs.Header.{end_record}
use Rattle.framing_numbers.specs.declared.Width.TheVariants.{Two}
use Rattle.plan_table.specs.Table.{tag_byte, fields_of, width}
use Rattle.plan_values.specs.Values.{platform_length}
use Rattle.plan_values.specs.declared.Platform.{Platform}
use Rattle.plan_values.specs.declared.Flow.{Flow}
use Rattle.plan_table.specs.declared.Field.{Field}
use Rattle.plan_table.specs.declared.Kind.{Kind}
use Rattle.plan_table.specs.declared.Kind.TheVariants.{PlatformRecord, FlowRecord}

-- "columns (1) .. rows (1) .. link cycles (1) .. routing cycles (1) .. buffer flits (1) .. method (1)", and "a seventh byte, priority flits"
abbrev pub platform_values : Platform → List ℕ
platform_values p = p.columns ∷ p.rows ∷ p.link ∷ p.routing ∷ p.buffer ∷ p.method ∷ p.priority_flits ∷ []

-- "id (2) .. priority (2) .. source (1) and destination (1) .. flits (2) .. period (4) .. deadline (4) .. jitter (4)"
abbrev pub flow_values : Flow → List ℕ
flow_values f =
    f.id ∷ f.priority ∷ f.source ∷ f.destination ∷ f.flits ∷ f.period ∷ f.deadline ∷ f.jitter ∷ []

-- Document 02, L1: "Every value has its field's width." "Numbers are unsigned, most significant byte first."
abbrev pub body_bytes : List Field → List ℕ → List ℕ
body_bytes [] values = []
body_bytes (f ∷ fields) [] = []
body_bytes (f ∷ fields) (v ∷ values) = number_bytes (width f) v ++ body_bytes fields values

-- "Every record is a one-byte tag, a two-byte body length and a body", which has the fields of that length.
abbrev pub record_bytes : Kind → ℕ → List ℕ → List ℕ
record_bytes kind size values = tag_byte kind ∷ (number_bytes Two size ++ body_bytes (fields_of kind size) values)

-- "A six-byte record means zero, and the writer uses it then"
unfoldable pub platform_bytes : Platform → List ℕ
platform_bytes p = record_bytes PlatformRecord (platform_length p) (platform_values p)

unfoldable pub flow_bytes : Flow → List ℕ
flow_bytes f = record_bytes FlowRecord 20 (flow_values f)

-- "One platform record, then 0 to 64 flows, then the end record, then nothing."
abbrev pub plan_bytes : Platform → List Flow → List ℕ
plan_bytes p fs = platform_bytes p ++ (each flow_bytes fs ++ end_record)

-- How many they are: 12 + 23 n for n flows, or 13 + 23 n with a seventh byte.
abbrev pub plan_length : Platform → ℕ → ℕ
plan_length p count = 6 + platform_length p + 23 * count
