-- What plan P cannot show, since its link cycles are 1, its routing cycles and jitters 0, its mesh one row, and its deadlines the periods: computed from the definitions alone.
use Prim.Native.Nat.{ℕ}
use mathlib.Core.Path.{◌≡◌, refl}
use native.Mathlib.Omega.{arith}
use mathlib.Core.List.{List, [], ◌∷◌, map}
use lib.ListN.{drop}
use Rattle.std.specs.Prelude.{Ok, Err}
use Rattle.framing.specs.First.{◌when◌else◌}
use Rattle.plan_values.specs.declared.Platform.{Platform}
use Rattle.plan_values.specs.declared.Flow.{Flow}
use Rattle.mesh.specs.declared.Pair.{Pair}
use Rattle.mesh.specs.Mesh.{hops, along, xy}
use Rattle.mesh.specs.Shared.{on, domain, first_from}
use Rattle.recurrence.specs.Rounding.{up}
use Rattle.recurrence.specs.Sums.{sum_over}
use Rattle.recurrence.specs.ComesTo.{comes_to_from, comes_to}
use Rattle.model.specs.declared.Method.TheVariants.{SB, XLWX, IBN}
use Rattle.model.specs.declared.Verdict.{Verdict}
use Rattle.model.specs.declared.Verdict.TheVariants.{Bounded, Late, Waits}
use Rattle.model.proofs.SameAnswers.{with_more}
use Rattle.model.specs.Links.{pair_of}
use Rattle.model.specs.Numbered.{Numbered}
use Rattle.model.specs.Latency.{method_used, with_method, latency}
use Rattle.model.specs.Interference.{direct_for, indirect_for, comes_before, those}
use Rattle.model.specs.Delays.{allowance, weight, term, terms}
use Rattle.model.specs.Verdicts.{verdict_number, named_flow, bound_in, rounds_in, packets_in, highest, judged, judge, verdict_below, verdict, answers, answers_by}

abbrev mesh : (columns rows link routing buffer method : ℕ) → Platform
mesh columns rows link routing buffer method = record { columns = columns; rows = rows; link = link; routing = routing; buffer = buffer; method = method; priority_flits = 0 }

-- A line of six nodes with link cycles 1 and routing cycles 0, as in P.
abbrev line : (buffer method : ℕ) → Platform
line = mesh 6 1 1 0

abbrev flow : (id priority source destination flits period deadline jitter : ℕ) → Flow
flow id priority source destination flits period deadline jitter =
    record { id = id; priority = priority; source = source; destination = destination; flits = flits; period = period; deadline = deadline; jitter = jitter }

abbrev pair : (count first : ℕ) → Pair
pair count first = record { count = count; first = first }

-- A plan, and the verdicts of its flows in plan order.
pub record Example : Type 0 where
  pub platform : Platform
  pub flows : List Flow
  pub verdicts : List Verdict

abbrev example : Platform → List Flow → List Verdict → Example
example p fs vs = record { platform = p; flows = fs; verdicts = vs }

-- "From now on method 0 means 3"
methods : map (λ m. method_used (line 1 m)) (0 ∷ 1 ∷ 2 ∷ 3 ∷ []) ≡ IBN ∷ SB ∷ XLWX ∷ IBN ∷ []
unfolding method_used ◌when◌else◌
methods = refl

-- Another method's number, and all else the same.
other_method : with_method 9 (with_more 7 (mesh 1 2 3 4 5 6)) ≡ with_more 7 (mesh 1 2 3 4 5 9)
other_method = refl

-- "This agrees with Table V of 002 with link cycles 1 and routing cycles 0": 62 (60 flits, 3 links), 204 (198, 7), 132 (128, 5).
table_V : (latency (line 10 3) (flow 2 1 4 5 60 200 200 0) ≡ 62) × (latency (line 10 3) (flow 3 2 0 5 198 4000 4000 0) ≡ 204) × (latency (line 10 3) (flow 5 3 1 4 128 6000 6000 0) ≡ 132)
unfolding latency hops along xy
table_V = (refl, refl, refl)

-- C with link cycles 3 and routing cycles 2: on a line, with 4 links, 3 x (10 + 4 - 1) + 2 x (4 - 1); over a corner, with 5, 3 x (10 + 5 - 1) + 2 x (5 - 1).
latencies :
    (latency (mesh 6 1 3 2 1 0) (flow 1 1 0 2 10 100 100 0) ≡ 45) × (latency (mesh 3 2 3 2 1 0) (flow 1 1 0 5 10 100 100 0) ≡ 50)
unfolding latency hops along xy
latencies = (refl, refl)

-- "priority flits .., added to each flow's flits": the same with 5 of them, 3 x 5 more.
latencies_more :
    (latency (with_more 5 (mesh 6 1 3 2 1 0)) (flow 1 1 0 2 10 100 100 0) ≡ 60) × (latency (with_more 5 (mesh 3 2 3 2 1 0)) (flow 1 1 0 5 10 100 100 0) ≡ 65)
unfolding latency hops along xy
latencies_more = (refl, refl)

-- Three columns and two rows: flow 1 goes 1, 2, 5, flow 2 goes 3, 4, 5, and flow 3 goes 0, 1, 2, 5.
abbrev over_corners : List Flow
over_corners = flow 1 1 1 5 10 100 100 0 ∷ flow 2 2 3 5 10 100 100 0 ∷ flow 3 3 0 5 20 100 100 0 ∷ []

pairs :
    map (λ i. map (pair_of (mesh 3 2 1 0 1 0) i) over_corners) over_corners
    ≡ (pair 4 0 ∷ pair 1 3 ∷ pair 3 1 ∷ []) ∷ (pair 1 3 ∷ pair 4 0 ∷ pair 1 3 ∷ []) ∷ (pair 3 2 ∷ pair 1 4 ∷ pair 5 0 ∷ []) ∷ []
unfolding hops along xy on domain first_from
pairs = refl

-- B is buffer flits x 3 link cycles x 3 links; C is 66, 108 and 132, and flow 2's bound 108 + 66.
abbrev buffers : List Flow
buffers = flow 1 1 4 5 20 300 300 0 ∷ flow 2 2 0 5 30 1000 1000 0 ∷ flow 3 3 1 4 40 2000 2000 0 ∷ []

-- Flow 1 is upstream and flow 2 downstream of flow 3 for flow 4: C is 10, 20, 50 and 30, flow 3's bound 80. Two packets of flow 3 come under each method.
abbrev both_sides : List Flow
both_sides = flow 1 1 0 1 8 100 100 0 ∷ flow 2 2 4 5 18 100 100 0 ∷ flow 3 3 0 5 44 105 105 0 ∷ flow 4 4 2 3 28 2000 2000 0 ∷ []

-- Flow 1 delays flow 2 and flow 3 themselves. C is 10, 50 and 40, flow 2's bound 60, and 110 passes its period.
abbrev no_order : List Flow
no_order = flow 1 1 3 5 7 1000 1000 0 ∷ flow 2 2 0 5 44 100 100 0 ∷ flow 3 3 1 4 36 1000 1000 0 ∷ []

-- "Deadlines run from the tick": P's flows with these jitters. Their C is 62, 204 and 132, their bounds in P are 62, 328 and 396.
abbrev jittered : ℕ → ℕ → ℕ → List Flow
jittered two three five = flow 2 1 4 5 60 200 200 two ∷ flow 3 2 0 5 198 4000 4000 three ∷ flow 5 3 1 4 128 6000 6000 five ∷ []

-- Each operand counts. Flow 7 goes along row 0; on its way it meets flows 1 and 2, then flows 5 and 9, then flows 4 and 3. C is 66, 40, 29, 27, 72, 20, 16 and 24 in plan
-- order; flow 4, delayed by flow 8, is bounded by 27 + 20, and flow 2, delayed by flow 1, by 16 + 29. For (9, 7), flows 1 and 2 are upstream, flows 4 and 3 downstream, flow 5 is
-- direct for both, and B is 7 x 2 x 2 = 28, between the C of flow 4 and that of flow 3.
abbrev crossing : ℕ → List Flow
crossing jitter =
    flow 7 9 0 5 12 1190 1140 jitter
    ∷ flow 3 6 11 5 13 170 160 28
    ∷ flow 1 2 0 2 4 360 350 57
    ∷ flow 4 5 4 11 3 350 340 56
    ∷ flow 9 12 2 10 22 9000 8000 31
    ∷ flow 8 1 10 11 3 170 165 24
    ∷ flow 2 7 1 2 1 160 150 44
    ∷ flow 5 4 2 3 5 440 430 1
    ∷ []

-- The verdicts of these flows, where flow 7 is bounded by r after k rounds and flow 9 by s after l.
abbrev crossed : (r k s l : ℕ) → List Verdict
crossed r k s l = Bounded r k ∷ Bounded 40 1 ∷ Bounded 29 1 ∷ Bounded 47 2 ∷ Bounded s l ∷ Bounded 20 1 ∷ Bounded 45 2 ∷ Bounded 24 1 ∷ []

abbrev table : List Example
table =
    -- 13; 13 + 13; 24 + 13 + 13, and flow 1, direct for flow 3 too, is no part of flow 2's weight
    example (mesh 3 2 1 0 1 0) over_corners (Bounded 13 1 ∷ Bounded 26 2 ∷ Bounded 50 2 ∷ [])
    -- B is 18, below C of flow 1: 132 + 108 + 18
    ∷ example (mesh 6 1 3 0 2 3) buffers (Bounded 66 1 ∷ Bounded 174 2 ∷ Bounded 258 2 ∷ [])
    -- with a priority flit C is 69, 111 and 135, and B 18 as before: 135 + 111 + 18
    ∷ example (with_more 1 (mesh 6 1 3 0 2 3)) buffers (Bounded 69 1 ∷ Bounded 180 2 ∷ Bounded 264 2 ∷ [])
    -- B is 576, above it: 132 + 108 + 66
    ∷ example (mesh 6 1 3 0 64 3) buffers (Bounded 66 1 ∷ Bounded 174 2 ∷ Bounded 306 2 ∷ [])
    -- jitter: flow 1's brings a second packet and a second hit, up((70 + 60) / 100), so that flow 2 weighs 50 + 2 x 10; flow 2's brings a second
    -- packet, up((110 + 900) / 1000): 40 + 2 x 70; a flow's own is nowhere in its bound
    ∷ example (line 1 2) (flow 1 1 4 5 8 100 100 60 ∷ flow 2 2 0 5 44 1000 1000 900 ∷ flow 3 3 1 4 36 2000 2000 777 ∷ []) (Bounded 10 1 ∷ Bounded 70 2 ∷ Bounded 180 3 ∷ [])
    -- SB allows 80 - 50 and weighs 50
    ∷ example (line 10 1) both_sides (Bounded 10 1 ∷ Bounded 20 1 ∷ Bounded 80 2 ∷ Bounded 130 3 ∷ [])
    -- XLWX allows 10 and weighs 50 + 20
    ∷ example (line 10 2) both_sides (Bounded 10 1 ∷ Bounded 20 1 ∷ Bounded 80 2 ∷ Bounded 170 3 ∷ [])
    -- IBN allows 80 - 50 and weighs 50 + 10, since B is 10
    ∷ example (line 10 3) both_sides (Bounded 10 1 ∷ Bounded 20 1 ∷ Bounded 80 2 ∷ Bounded 150 3 ∷ [])
    -- flow 1 shares links with flow 2 and with flow 3: it delays flow 3 itself and is no part of flow 2's weight, 40 + 10 + 50
    ∷ example (line 1 2) (flow 1 1 3 5 7 1000 1000 0 ∷ flow 2 2 0 5 44 1000 1000 0 ∷ flow 3 3 1 4 36 1000 1000 0 ∷ []) (Bounded 10 1 ∷ Bounded 60 2 ∷ Bounded 100 2 ∷ [])
    -- "Taking XLWX as never below SB, or IBN as never above XLWX": by SB and IBN flow 2 is allowed 60 - 50 and has two packets, by XLWX it is allowed nothing
    ∷ example (line 1 1) no_order (Bounded 10 1 ∷ Bounded 60 2 ∷ Bounded 150 3 ∷ [])
    ∷ example (line 1 2) no_order (Bounded 10 1 ∷ Bounded 60 2 ∷ Bounded 100 2 ∷ [])
    ∷ example (line 1 3) no_order (Bounded 10 1 ∷ Bounded 60 2 ∷ Bounded 150 3 ∷ [])
    -- a chain: flow 2 weighs 20 + 10 for flow 3, and is downstream of flow 3 for flow 4 with its C of 20, not with that weight: 40 + 30 + 20
    ∷ example (mesh 8 1 1 0 1 2) (flow 1 1 5 7 7 100 100 0 ∷ flow 2 2 3 6 16 200 200 0 ∷ flow 3 3 0 4 25 1000 1000 0 ∷ flow 4 4 1 3 37 1000 1000 0 ∷ []) (Bounded 10 1 ∷ Bounded 30 2 ∷ Bounded 60 2 ∷ Bounded 90 2 ∷ [])
    -- "a window of 400 with period 400 holds one packet, 401 two": C is 300 and 301, and flow 1 weighs 100
    ∷ example (line 1 2) (flow 1 1 0 5 94 400 400 0 ∷ flow 2 2 1 4 296 2000 2000 0 ∷ []) (Bounded 100 1 ∷ Bounded 400 2 ∷ [])
    ∷ example (line 1 2) (flow 1 1 0 5 94 400 400 0 ∷ flow 2 2 1 4 297 2000 2000 0 ∷ []) (Bounded 100 1 ∷ Bounded 501 3 ∷ [])
    -- "This comes first, even if C exceeds the deadline": C is 50 and 40, the deadlines are 49 and 39
    ∷ example (line 1 2) (flow 7 1 0 5 44 100 49 0 ∷ flow 9 2 1 4 36 100 39 0 ∷ []) (Late 0 ∷ Waits 7 ∷ [])
    -- "It names the unbounded direct flow of highest priority": 30 of the flows 50, 30 and 70, which are direct for flow 90 and not bounded; of the flows above
    -- it, 20 goes another way and 10 is bounded
    ∷ example (line 1 0)
    (flow 90 9 1 4 36 100 39 0 ∷ flow 50 5 3 4 5 100 100 0 ∷ flow 30 3 2 4 50 100 10 0 ∷ flow 70 7 3 4 5 100 100 0 ∷ flow 20 2 5 0 50 100 10 0 ∷ flow 10 1 1 2 1 100 100 0 ∷ [])
    (Waits 30 ∷ Waits 30 ∷ Late 0 ∷ Waits 30 ∷ Late 0 ∷ Bounded 3 1 ∷ [])
    -- just met, by C: 62 + 138; the jitter brings flow 3 a third packet, up((390 + 138) / 200), and flow 5 a third hit
    ∷ example (line 10 3) (jittered 138 0 0) (Bounded 62 1 ∷ Bounded 390 3 ∷ Bounded 426 2 ∷ [])
    -- just missed
    ∷ example (line 10 3) (jittered 139 0 0) (Late 0 ∷ Waits 2 ∷ Waits 3 ∷ [])
    -- just met, by the bound: 328 + 3672; the jitter brings flow 5 a second packet, up((660 + 124 + 3672) / 4000)
    ∷ example (line 10 3) (jittered 0 3672 0) (Bounded 62 1 ∷ Bounded 328 2 ∷ Bounded 660 3 ∷ [])
    -- just missed
    ∷ example (line 10 3) (jittered 0 3673 0) (Bounded 62 1 ∷ Late 1 ∷ Waits 3 ∷ [])
    -- C and jitter together are the deadline, and one more: the last jitter with a round, and the first without
    ∷ example (line 10 3) (jittered 0 3796 0) (Bounded 62 1 ∷ Late 1 ∷ Waits 3 ∷ [])
    ∷ example (line 10 3) (jittered 0 3797 0) (Bounded 62 1 ∷ Late 0 ∷ Waits 3 ∷ [])
    -- a jitter equal to the deadline, above it, and the largest
    ∷ example (line 10 3) (jittered 0 0 6000) (Bounded 62 1 ∷ Bounded 328 2 ∷ Late 0 ∷ [])
    ∷ example (line 10 3) (jittered 0 0 6001) (Bounded 62 1 ∷ Bounded 328 2 ∷ Late 0 ∷ [])
    ∷ example (line 10 3) (jittered 0 0 1_000_000_000) (Bounded 62 1 ∷ Bounded 328 2 ∷ Late 0 ∷ [])
    -- a flow that waits, its own jitter above its deadline
    ∷ example (line 10 3) (jittered 0 4001 6001) (Bounded 62 1 ∷ Late 0 ∷ Waits 3 ∷ [])
    -- SB: A = 274 - 66 and W = 66. 162 + 820 + 208 is flow 7's period: one packet, 72 + 24 + 66; one cycle more brings a second
    ∷ example (mesh 6 4 2 5 7 1) (crossing 820) (crossed 274 4 162 2)
    ∷ example (mesh 6 4 2 5 7 1) (crossing 821) (crossed 274 4 228 3)
    -- XLWX: A = 1 x 29 + 3 x 16 and W = 66 + 1 x 27 + 2 x 40. 269 + 844 + 77 is the period: 72 + 24 + 173; one cycle more brings a second packet, and flow 5's
    ∷ example (mesh 6 4 2 5 7 2) (crossing 844) (crossed 294 4 269 2)
    ∷ example (mesh 6 4 2 5 7 2) (crossing 845) (crossed 294 4 466 4)
    -- IBN: A = 398 - 66 and W = 66 + 2 x 27 + 3 x 28. 300 + 558 + 332 is the period: 72 + 24 + 204; one cycle more brings a second packet, and flow 5's
    ∷ example (mesh 6 4 2 5 7 3) (crossing 558) (crossed 398 6 300 2)
    ∷ example (mesh 6 4 2 5 7 3) (crossing 559) (crossed 398 6 528 4)
    ∷ []

examples : map (λ e. map (λ a. a.verdict) (answers e.platform e.flows)) table ≡ map (λ e. e.verdicts) table
unfolding hops along xy on domain first_from up sum_over comes_to_from comes_to method_used ◌when◌else◌ latency direct_for indirect_for comes_before those allowance weight term terms highest judged judge verdict_below verdict answers
examples = refl

-- By each method, whatever number the platform has: flow 4 of the plan with flows on both sides.
by_methods : map (λ m. map (λ a. a.verdict) (drop 3 (answers_by m (line 10 0) both_sides))) (SB ∷ XLWX ∷ IBN ∷ []) ≡ (Bounded 130 3 ∷ []) ∷ (Bounded 170 3 ∷ []) ∷ (Bounded 150 3 ∷ []) ∷ []
unfolding hops along xy on domain first_from up sum_over comes_to_from comes_to method_used ◌when◌else◌ latency direct_for indirect_for comes_before those allowance weight term terms highest judged judge verdict_below verdict answers
by_methods = refl

-- "a definition sets out this paper's number and values for each of its cases": the number, the named flow, the bound and the rounds.
values :
    map (λ v. verdict_number v ∷ named_flow v ∷ bound_in v ∷ rounds_in v ∷ []) (Bounded 11 12 ∷ Late 13 ∷ Waits 14 ∷ [])
    ≡ (0 ∷ 0xFFFF ∷ 11 ∷ 12 ∷ []) ∷ (1 ∷ 0xFFFF ∷ 0 ∷ 13 ∷ []) ∷ (2 ∷ 14 ∷ 0 ∷ 0 ∷ []) ∷ []
values = refl

-- "For each flow, in plan order", by its id.
in_plan_order : map (λ a. a.id) (answers (mesh 6 4 2 5 7 0) (crossing 0)) ≡ 7 ∷ 3 ∷ 1 ∷ 4 ∷ 9 ∷ 8 ∷ 2 ∷ 5 ∷ []
unfolding answers
in_plan_order = refl

-- "N(x) the sum of n_j(x) over direct j": flow 7 brings flow 9 a second packet after 268, up((268 + 845 + 77) / 1190) being 1, and flow 5 after 439, up((439 + 1) / 440).
packets_for_9 :
    map (packets_in (mesh 6 4 2 5 7 2) (crossing 845) (verdict (mesh 6 4 2 5 7 2) (crossing 845)) (flow 9 12 2 10 22 9000 8000 31)) (268 ∷ 269 ∷ 439 ∷ 440 ∷ [])
    ≡ 2 ∷ 3 ∷ 3 ∷ 4 ∷ []
unfolding hops along xy on domain first_from up sum_over comes_to_from comes_to method_used ◌when◌else◌ latency direct_for indirect_for comes_before those allowance weight term terms highest judged judge verdict_below verdict answers
packets_for_9 = refl

-- "Method 1 is SB, 2 is XLWX, 3 is IBN", read from a number: the numbers beside them are no method's, and are told as they are.
numbered : Numbered 1 (Ok SB) × Numbered 2 (Ok XLWX) × Numbered 3 (Ok IBN) × Numbered 0 (Err (record { 0 = 0 })) × Numbered 4 (Err (record { 0 = 4 }))
numbered = (refl, refl, refl, (refl, λ e. omega (arith, e), λ e. omega (arith, e), λ e. omega (arith, e)), (refl, λ e. omega (arith, e), λ e. omega (arith, e), λ e. omega (arith, e)))

-- .. and 1, 2 and 3 are read, each as its own.
numbered_not :
    (Numbered 1 (Err (record { 0 = 1 })) → ⊥)
    × (Numbered 2 (Err (record { 0 = 2 })) → ⊥)
    × (Numbered 3 (Err (record { 0 = 3 })) → ⊥)
    × (Numbered 2 (Ok SB) → ⊥)
    × (Numbered 4 (Err (record { 0 = 0 })) → ⊥)
numbered_not = (
  λ (_, a, b, c). a refl,
  λ (_, a, b, c). b refl,
  λ (_, a, b, c). c refl,
  λ e. omega (arith, e),
  λ (e, a, b, c). omega (arith, e),
)
