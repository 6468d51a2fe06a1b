-- Document 01, "The three recurrences". R is the bound of j under the same method, and j is direct for i.
use Rattle.std.specs.Prelude.{ℕ, ◌+◌, ◌-◌, ◌*◌, min, List, map}
use Rattle.plan_values.specs.declared.Platform.{Platform}
use Rattle.plan_values.specs.declared.Flow.{Flow}
use Rattle.recurrence.specs.Recurrence.{Term}
use Rattle.recurrence.specs.Rounding.{up}
use Rattle.recurrence.specs.Sums.{sum_over}
use Rattle.model.specs.Links.{pair_of}
use Rattle.model.specs.Latency.{latency}
use Rattle.model.specs.Interference.{direct_for, upstream_for, downstream_for, those}
use Rattle.model.specs.declared.Method.{Method}
use Rattle.model.specs.declared.Method.TheVariants.{SB, XLWX, IBN}

-- "hits of k on j = up((R_j + jitter_k) / period_k)"
abbrev pub hits : ℕ → Flow → ℕ
hits R k = up (R + k.jitter) k.period

-- "sum over .. k of hits x .."
abbrev pub hit_sum : (Flow → ℕ) → ℕ → List Flow → ℕ
hit_sum cost R ks = sum_over ks (λ k. hits R k * cost k)

-- "B = buffer flits x link cycles x number of links shared by i and j"
abbrev pub buffered : Platform → Flow → Flow → ℕ
buffered p i j = p.buffer * p.link * (pair_of p i j).count

-- "SB: delay allowance A = R_j - C_j"; "XLWX: A = sum over upstream k of hits x C_k"; "IBN: A = R_j - C_j"
unfoldable pub allowance : Method → Platform → List Flow → ℕ → Flow → Flow → ℕ
allowance SB p fs R i j = R - latency p j
allowance XLWX p fs R i j = hit_sum (latency p) R (those (upstream_for p i j) fs)
allowance IBN p fs R i j = R - latency p j

-- "SB: .. weight W = C_j"; "XLWX: .. W = C_j + sum over downstream k of hits x C_k"; "IBN: .. W = C_j + sum over downstream k of hits x min(C_k, B)"
unfoldable pub weight : Method → Platform → List Flow → ℕ → Flow → Flow → ℕ
weight SB p fs R i j = latency p j
weight XLWX p fs R i j = latency p j + hit_sum (latency p) R (those (downstream_for p i j) fs)
weight IBN p fs R i j = latency p j + hit_sum (λ k. min (latency p k) (buffered p i j)) R (those (downstream_for p i j) fs)

-- "n_j(x) = up((x + jitter_j + A) / period_j)", times W_j: j's term in the recurrence of i.
unfoldable pub term : Method → Platform → List Flow → ℕ → Flow → Flow → Term
term m p fs R i j = record { shift = j.jitter + allowance m p fs R i j; period = j.period; weight = weight m p fs R i j }

-- "sum over direct j": the terms of i's recurrence, from the bounds of its direct flows.
unfoldable pub terms : Method → Platform → List Flow → (Flow → ℕ) → Flow → List Term
terms m p fs bound i = map (λ j. term m p fs (bound j) i j) (those (direct_for p i) fs)
