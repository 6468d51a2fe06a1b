-- What the engine adds up for a pair of flows.
use Rattle.std.specs.Prelude.{ℕ, zero, suc, ◌+◌, ◌-◌, ◌*◌, min, Bool, cond, not, ◌&&◌, ltb}
use Rattle.plan_values.specs.declared.Platform.{Platform}
use Rattle.model.specs.declared.Method.{Method}
use Rattle.model.specs.declared.Method.TheVariants.{SB, XLWX, IBN}
use Rattle.model.specs.Latency.{method_used}
use Rattle.recurrence.specs.Recurrence.{Arrivals, Term}
use Rattle.engine_terms.specs.declared.terms.Way.{Way}

-- "j has higher priority and they share a link", by the priorities of i and j and the number of links that they share.
abbrev pub direct_by : ℕ → ℕ → ℕ → Bool
direct_by own theirs shared = ltb theirs own && ltb 0 shared

-- f 0 + f 1 + .. + f (n - 1)
unfoldable pub sum_to : ℕ → (ℕ → ℕ) → ℕ
sum_to zero f = 0
sum_to (suc n) f = sum_to n f + f n

-- What flow k brings for (i, j): it shares no link with i, and comes before or after by its first place on j's route.
unfoldable pub up_part : ℕ → ℕ → ℕ → ℕ → ℕ → ℕ
up_part shared place first hit cost = cond (not (ltb 0 shared) && ltb place first) (hit * cost) 0

unfoldable pub down_part : ℕ → ℕ → ℕ → ℕ → ℕ → ℕ → ℕ
down_part shared place first cap hit cost = cond (not (ltb 0 shared) && not (ltb place first)) (hit * min cost cap) 0

-- By the links that each flow shares with i, its first place on j's route, its hits on j and its latency.
module _ (shared places hits cost : ℕ → ℕ) (first : ℕ) where
  abbrev pub up_load : ℕ → ℕ
  up_load k = up_part (shared k) (places k) first (hits k) (cost k)

  abbrev pub down_load : ℕ → ℕ → ℕ
  down_load cap k = down_part (shared k) (places k) first cap (hits k) (cost k)

-- "min(C_k, B)": what a hit of a downstream flow costs at most. XLWX has no such limit, and SB looks at no third flow.
abbrev pub cap_by : Method → Platform → ℕ → ℕ
cap_by SB p shared = 0
cap_by XLWX p shared = 4_294_967_295
cap_by IBN p shared = p.buffer * p.link * shared

abbrev pub looked_at : Method → ℕ → ℕ
looked_at SB count = 0
looked_at XLWX count = count
looked_at IBN count = count

abbrev pub way_of : Platform → Way
way_of p = record { method = method_used p; platform = p }

-- "delay allowance A", from the bound and the latency, or from the upstream flows.
abbrev pub allowance_by : Method → ℕ → ℕ → ℕ → ℕ
allowance_by SB R cost up = R - cost
allowance_by XLWX R cost up = up
allowance_by IBN R cost up = R - cost

abbrev pub term_by : Method → Arrivals → ℕ → ℕ → ℕ → ℕ → Term
term_by m a R cost up down = record { shift = a.shift + allowance_by m R cost up; period = a.period; weight = cost + down }
