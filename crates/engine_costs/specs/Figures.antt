-- What is kept of a flow that has had its turn.
use Rattle.std.specs.Prelude.{ℕ, Option, None}
use Rattle.plan_values.specs.declared.Flow.{Flow}
use Rattle.engine_costs.specs.declared.figures.Figures.{Figures}

-- The latency, the bound if there is one, and when its packets come: the shift is the jitter alone; last how many of its direct flows are looked at as third ones.
abbrev pub figures_of : ℕ → Option ℕ → ℕ → Flow → Figures
figures_of cost bound seen f = record { cost = cost; bound = bound; arrivals = record { shift = f.jitter; period = f.period }; seen = seen }

-- What stands where no flow has had its turn.
abbrev pub no_figures : Figures
no_figures = record { cost = 0; bound = None; arrivals = record { shift = 0; period = 1 }; seen = 0 }
