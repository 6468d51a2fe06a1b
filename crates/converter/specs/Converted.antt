-- Document 02, L6: "a conversion, in the lent plan itself, that rewrites 0 as 2 and alters no other byte of an accepted plan".
use Rattle.std.specs.Prelude.{ℕ, List, Result, Ok, Err, eqb, set}
use Rattle.framing_numbers.specs.Numbers.{one_at}
use Rattle.framing.specs.First.{◌when◌else◌}
use Rattle.framing.specs.Returned.{outcome, value_by}
use Rattle.framing.specs.declared.returned.Refusal.{Refusal}
use Rattle.framing.specs.declared.returned.Returned.{Returned}
use Rattle.plan_values.specs.declared.Platform.{Platform}
use Rattle.plan.specs.Reading.{read_plan}
use Rattle.model.specs.Latency.{method_used}
use Rattle.model.specs.declared.Method.{Method}
use Rattle.model.specs.declared.Method.TheVariants.{XLWX}

-- Document 01, "The plan's bytes": the method stands behind tag, length and five fields, in a platform record of six bytes as of seven.
abbrev pub method_place : ℕ
method_place = 8

-- "rewrites 0 as 2"
unfoldable pub rewritten : List ℕ → List ℕ
rewritten s = set s method_place 2 when eqb (one_at s method_place) 0 else s

-- ".. of an accepted plan"; "the conversion refuses as the reader does, altering nothing".
unfoldable pub converted_by : Result (Unit {0}) Refusal → List ℕ → List ℕ
converted_by (Err refusal) s = s
converted_by (Ok accepted) s = rewritten s

-- The lent plan's bytes then.
abbrev pub converted : List ℕ → List ℕ
converted s = converted_by (outcome (read_plan s)) s

-- The reader's number and place, or 0 and 0.
abbrev pub returned : List ℕ → Returned
returned s = value_by (outcome (read_plan s)) 0

-- "Plans stored with 0 must keep their approved figures": those of the house default of document 01, "which is XLWX". 1, 2 and 3 mean what they meant.
unfoldable pub approved_method : Platform → Method
approved_method p = XLWX when eqb p.method 0 else method_used p
