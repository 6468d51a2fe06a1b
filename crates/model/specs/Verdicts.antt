-- Document 01, "Verdicts and rounds": the verdict of every flow of a plan, computed.
use Rattle.std.specs.Prelude.{ℕ, zero, suc, Bool, true, false, cond, not, ◌&&◌, List, [], ◌∷◌, map, ltb}
use Rattle.std.proofs.Math.Option.{Option, none, some}
use Rattle.plan_values.specs.declared.Platform.{Platform}
use Rattle.plan_values.specs.declared.Flow.{Flow}
use Rattle.recurrence.specs.declared.Settled.{Settled}
use Rattle.recurrence.specs.declared.Settled.TheVariants.{Bounded as BoundedAt, Late as LateAfter}
use Rattle.recurrence.specs.Recurrence.{Term, right_side, total}
use Rattle.recurrence.specs.ComesTo.{comes_to}
use Rattle.model.specs.Latency.{method_used, method_number, with_method, latency, limit}
use Rattle.model.specs.Interference.{direct_for, those}
use Rattle.model.specs.Delays.{terms}
use Rattle.model.specs.declared.Method.{Method}
use Rattle.model.specs.declared.Verdict.{Verdict}
use Rattle.model.specs.declared.Verdict.TheVariants.{Bounded, Late, Waits}
use Rattle.model.specs.declared.Answer.{Answer}

-- "Where an answer is an enum, a definition sets out this paper's number and values for each of its cases." The verdict's number:
abbrev pub verdict_number : Verdict → ℕ
verdict_number (Bounded r k) = 0
verdict_number (Late k) = 1
verdict_number (Waits id) = 2

-- "The named flow is FFFF unless the verdict is 2"
abbrev pub named_flow : Verdict → ℕ
named_flow (Bounded r k) = 0xFFFF
named_flow (Late k) = 0xFFFF
named_flow (Waits id) = id

-- "the bound is 0 unless the verdict is 0"
abbrev pub bound_in : Verdict → ℕ
bound_in (Bounded r k) = r
bound_in (Late k) = 0
bound_in (Waits id) = 0

-- "Waits (2): .. Rounds 0."
abbrev pub rounds_in : Verdict → ℕ
rounds_in (Bounded r k) = k
rounds_in (Late k) = k
rounds_in (Waits id) = 0

abbrev pub is_bounded : Verdict → Bool
is_bounded (Bounded r k) = true
is_bounded (Late k) = false
is_bounded (Waits id) = false

-- The terms of i's recurrence from the verdicts of the other flows; "The recurrence for i is R = C_i + sum over direct j of n_j(R) x W_j."
abbrev pub terms_of : Platform → List Flow → (Flow → Verdict) → Flow → List Term
terms_of p fs answer i = terms (method_used p) p fs (λ j. bound_in (answer j)) i

abbrev pub recurrence_of : Platform → List Flow → (Flow → Verdict) → Flow → ℕ → ℕ
recurrence_of p fs answer i = right_side (latency p i) (terms_of p fs answer i)

-- "N(x) the sum of n_j(x) over direct j"
abbrev pub packets_in : Platform → List Flow → (Flow → Verdict) → Flow → ℕ → ℕ
packets_in p fs answer i = total (terms_of p fs answer i)

-- "some direct flow isn't bounded": j keeps i waiting.
abbrev pub holds_up : Platform → (Flow → Verdict) → Flow → Flow → Bool
holds_up p answer i j = direct_for p i j && not (is_bounded (answer j))

-- The one of higher priority.
abbrev pub higher : Flow → Flow → Flow
higher f g = cond (ltb g.priority f.priority) g f

-- "the unbounded direct flow of highest priority": of the one found so far, if any, and those of a list.
unfoldable pub highest : Option Flow → List Flow → Option Flow
highest found [] = found
highest none (f ∷ fs) = highest (some f) fs
highest (some g) (f ∷ fs) = highest (some (higher g f)) fs

-- What a recurrence comes to, as a verdict.
abbrev pub settled_verdict : Settled → Verdict
settled_verdict (BoundedAt r k) = Bounded r k
settled_verdict (LateAfter k) = Late k

-- "Waits .. comes first, even if C exceeds the deadline"; otherwise the recurrence decides.
unfoldable pub judged : Platform → List Flow → (Flow → Verdict) → Flow → Option Flow → Verdict
judged p fs answer i (some j) = Waits j.id
judged p fs answer i none = settled_verdict (comes_to (recurrence_of p fs answer i) (latency p i) (limit i))

unfoldable pub judge : Platform → List Flow → (Flow → Verdict) → Flow → Verdict
judge p fs answer i = judged p fs answer i (highest none (those (holds_up p answer i) fs))

-- The verdict of a flow whose priority number is below n: its direct flows' numbers are smaller yet. With n = 0 there is no such flow.
unfoldable pub verdict_below : ℕ → Platform → List Flow → Flow → Verdict
verdict_below zero p fs i = Late 0
verdict_below (suc n) p fs i = judge p fs (verdict_below n p fs) i

unfoldable pub verdict : Platform → List Flow → Flow → Verdict
verdict p fs i = verdict_below (suc i.priority) p fs i

-- "For each flow, in plan order"
abbrev pub answer_to : Platform → List Flow → Flow → Answer
answer_to p fs i = record { id = i.id; verdict = verdict p fs i }

unfoldable pub answers : Platform → List Flow → List Answer
answers p fs = map (answer_to p fs) fs

-- The answers by a method, whatever number the platform has.
abbrev pub answers_by : Method → Platform → List Flow → List Answer
answers_by m p fs = answers (with_method (method_number m) p) fs
