-- Document 01, "The plan's bytes" and "Routes and shared links", and document 02, L3, L6 and L7: the method really used, the unloaded latency, and what a bound is held against.
use Rattle.std.specs.Prelude.{ℕ, ◌+◌, ◌-◌, ◌*◌, eqb, length}
use Rattle.framing.specs.First.{◌when◌else◌}
use Rattle.plan_values.specs.declared.Platform.{Platform}
use Rattle.plan_values.specs.declared.Flow.{Flow}
use Rattle.model.specs.Links.{route_of}
use Rattle.model.specs.declared.Method.{Method}
use Rattle.model.specs.declared.Method.TheVariants.{SB, XLWX, IBN}

-- Document 02, L6: "The house default becomes IBN .. From now on method 0 means 3"
abbrev pub house_default : Method
house_default = IBN

-- "Method 1 is SB, 2 is XLWX, 3 is IBN .. ; 0 asks for the house default": the method really used.
unfoldable pub method_used : Platform → Method
method_used p =
    SB when eqb p.method 1 else
    XLWX when eqb p.method 2 else
    IBN when eqb p.method 3 else
    house_default

-- "Method 1 is SB, 2 is XLWX, 3 is IBN": a method's number.
abbrev pub method_number : Method → ℕ
method_number SB = 1
method_number XLWX = 2
method_number IBN = 3

-- The same platform with another method's number.
abbrev pub with_method : ℕ → Platform → Platform
with_method number p =
    record { columns = p.columns; rows = p.rows; link = p.link; routing = p.routing; buffer = p.buffer; method = number; priority_flits = p.priority_flits }

-- Document 02, L7: "priority flits .., added to each flow's flits wherever C is worked out"
abbrev pub flits_sent : Platform → Flow → ℕ
flits_sent p f = f.flits + p.priority_flits

-- "Unloaded latency C = link cycles x (flits + length - 1) + routing cycles x (length - 1)."
unfoldable pub latency : Platform → Flow → ℕ
latency p f = p.link * (flits_sent p f + length (route_of p f) - 1) + p.routing * (length (route_of p f) - 1)

-- "Wherever the verdicts, demands 2 and 3 and the round count say deadline, they now read deadline less the flow's own jitter": 0 where the jitter is not below it.
abbrev pub limit : Flow → ℕ
limit f = f.deadline - f.jitter
