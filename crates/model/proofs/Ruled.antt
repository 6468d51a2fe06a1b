-- What Rules says of given answers to three flows on P's line: flow 7 is direct for flows 8 and 9, and flow 8 for flow 9; C of flow 7 is 16. Blanks behind the answers.
use Prim.Native.Nat.{ℕ, zero, suc, ◌≤◌, ◌<◌}
use native.Mathlib.Omega.{arith}
use mathlib.Core.Path.{◌≡◌, refl}
use mathlib.Core.List.{List, [], ◌∷◌, map}
use mathlib.Core.Logic.{inl}
use lib.ListN.{replicate}
use Rattle.framing.specs.First.{◌when◌else◌}
use Rattle.plan_values.specs.declared.Platform.{Platform}
use Rattle.plan_values.specs.declared.Flow.{Flow}
use Rattle.plan.specs.Legal.{flow}
use Rattle.mesh.specs.Mesh.{hops, along, xy}
use Rattle.mesh.specs.Shared.{on, domain, first_from}
use Rattle.recurrence.specs.Rounding.{up}
use Rattle.recurrence.specs.Sums.{sum_over}
use Rattle.recurrence.specs.Verdicts.{replaced, Rounds}
use Rattle.recurrence.specs.ComesTo.{comes_to_from, comes_to}
use Rattle.model.specs.declared.Verdict.{Verdict}
use Rattle.model.specs.declared.Verdict.TheVariants.{Bounded, Late, Waits}
use Rattle.model.specs.Latency.{method_used, latency}
use Rattle.model.specs.Interference.{direct_for, indirect_for, comes_before, those}
use Rattle.model.specs.Delays.{allowance, weight, term, terms}
use Rattle.model.specs.Verdicts.{highest, judged, judge, verdict_below, verdict, answers}
use Rattle.model.specs.Answers.{answer_array}
use Rattle.model.specs.Rules.{Unbounded, AllBounded, IsWaiting, IsBounded, IsLate, Says, Right}

abbrev line : Platform
line = record { columns = 6; rows = 1; link = 1; routing = 0; buffer = 10; method = 1; priority_flits = 0 }

abbrev of : (id priority source destination deadline : ℕ) → Flow
of id priority source destination deadline = record { id = id; priority = priority; source = source; destination = destination; flits = 10; period = 100; deadline = deadline; jitter = 0 }

abbrev one : Flow
one = of 7 1 0 5 100

abbrev three : Flow
three = of 9 3 2 3 100

abbrev all : List Flow
all = one ∷ of 8 2 1 4 100 ∷ three ∷ []

-- An answer that bounds no flow, and one that bounds all.
abbrev late : Flow → Verdict
late f = Late 1

abbrev bounds : Flow → Verdict
bounds f = Bounded 16 1

-- "some direct flow isn't bounded": flow 7 is one for flow 9, and so is flow 8; not flow 8 for flow 7, nor one that is bounded, nor one behind the list.
unbounded : Unbounded line all late three 0 × Unbounded line all late three 1
unfolding hops along xy on domain first_from up sum_over method_used ◌when◌else◌ latency direct_for those terms replaced Rounds
unbounded = (record { inside = omega arith; direct = refl; unbounded = refl }, record { inside = omega arith; direct = refl; unbounded = refl })

unbounded_not : (Unbounded line all late three 3 → ⊥) × (Unbounded line all late one 1 → ⊥) × (Unbounded line all bounds three 1 → ⊥)
unfolding hops along xy on domain first_from up sum_over method_used ◌when◌else◌ latency direct_for those terms replaced Rounds
unbounded_not = (
  λ w. omega (arith, w.inside),
  λ w. let z : ◌≡◌ {A = ℕ} 0 1 = cc w.direct in omega arith,
  λ w. let z : ◌≡◌ {A = ℕ} 0 1 = cc w.unbounded in omega arith,
)

all_bounded : AllBounded line all bounds three × (AllBounded line all late three → ⊥)
all_bounded = (λ k w. let z : ◌≡◌ {A = ℕ} 0 1 = cc w.unbounded in omega arith, λ w. w 1 unbounded.1)

-- "It names the unbounded direct flow of highest priority": flow 7, not flow 8.
waits : IsWaiting line all late three 7
waits = record { place = 0; waits = unbounded.0; names = refl; highest = go }
  where
    go : (k : ℕ) → Unbounded line all late three k → 1 ≤ (flow all k).priority
    go zero w = omega arith
    go (suc zero) w = omega arith
    go (suc (suc zero)) w = omega arith
    go (suc (suc (suc k))) w = absurd (omega (arith, w.inside))

waits_not : IsWaiting line all late three 8 → ⊥
waits_not w = go w.place w.waits.inside w.names (w.highest 0 unbounded.0)
  where
    go : (place : ℕ) → place < 3 → 8 ≡ (flow all place).id → (flow all place).priority ≤ 1 → ⊥
    go zero h e l = omega (arith, e)
    go (suc zero) h e l = omega (arith, l)
    go (suc (suc zero)) h e l = omega (arith, e)
    go (suc (suc (suc place))) h e l = omega (arith, h)

-- A flow of priority 1 waits on none, whatever the others are.
free : (i : Flow) → i.priority ≡ 1 → AllBounded line all late i
unfolding hops along xy on domain first_from up sum_over method_used ◌when◌else◌ latency direct_for those terms replaced Rounds
free i e zero w = let z : ◌≡◌ {A = ℕ} 0 1 = cc (e, w.direct) in omega arith
free i e (suc zero) w = let z : ◌≡◌ {A = ℕ} 0 1 = cc (e, w.direct) in omega arith
free i e (suc (suc zero)) w = let z : ◌≡◌ {A = ℕ} 0 1 = cc (e, w.direct) in omega arith
free i e (suc (suc (suc k))) w = omega (arith, w.inside)

-- "the least whole number not above the deadline that solves the recurrence": 16, after 1 round.
is_bounded_lem : IsBounded line all late one 16 1
unfolding hops along xy on domain first_from up sum_over method_used ◌when◌else◌ latency direct_for those terms replaced Rounds
is_bounded_lem = record { free = free one refl; bound = record { within = omega arith; solves = refl; least = λ x e. omega (arith, e) }; rounds = (omega arith, λ i h w. absurd (omega (arith, h)), inl refl) }

is_bounded_not : (IsBounded line all late one 15 1 → ⊥) × (IsBounded line all late one 16 2 → ⊥) × (IsBounded line all late three 16 1 → ⊥)
unfolding hops along xy on domain first_from up sum_over method_used ◌when◌else◌ latency direct_for those terms replaced Rounds
is_bounded_not = (λ w. omega (arith, w.bound.solves), λ w. w.rounds.1 0 (omega arith) (inl refl), λ w. w.free 1 unbounded.1)

-- "no solution at or below the deadline exists": with deadline 15 flow 7 is late, with 0 rounds.
is_late : IsLate line all late (of 7 1 0 5 15) 0
unfolding hops along xy on domain first_from up sum_over method_used ◌when◌else◌ latency direct_for those terms replaced Rounds
is_late = record { free = free (of 7 1 0 5 15) refl; none = λ x h e. omega (arith, h, e); rounds = omega arith }

is_late_not : (IsLate line all late one 0 → ⊥) × (IsLate line all late (of 7 1 0 5 15) 1 → ⊥) × (IsLate line all late three 1 → ⊥)
unfolding hops along xy on domain first_from up sum_over method_used ◌when◌else◌ latency direct_for those terms replaced Rounds
is_late_not = (λ w. w.none 16 (omega arith) refl, λ w. omega (arith, w.rounds.0), λ w. w.free 1 unbounded.1)

says : Says line all late one (Bounded 16 1) × Says line all late (of 7 1 0 5 15) (Late 0) × Says line all late three (Waits 7)
says = (is_bounded_lem, is_late, waits)

-- The answers to a plan of flow 7 alone.
right : Right line (one ∷ []) bounds
unfolding hops along xy on domain first_from up sum_over method_used ◌when◌else◌ latency direct_for those terms replaced Rounds
right zero h = record { free = go; bound = record { within = omega arith; solves = refl; least = λ x e. omega (arith, e) }; rounds = (omega arith, λ i l w. absurd (omega (arith, l)), inl refl) }
  where
    go : AllBounded line (one ∷ []) bounds one
    go k w = let z : ◌≡◌ {A = ℕ} 0 1 = cc w.unbounded in omega arith
right (suc k) h = absurd (omega (arith, h))

right_not : Right line (one ∷ []) late → ⊥
unfolding hops along xy on domain first_from up sum_over method_used ◌when◌else◌ latency direct_for those terms replaced Rounds
right_not w = (w 0 (omega arith)).none 16 (omega arith) refl

-- Behind the answers stand blanks: they wait on no flow, since no id is FFFF.
blanks : answer_array line [] ≡ replicate 64 (record { id = 0xFFFF; verdict = Waits 0xFFFF })
unfolding answers
blanks = refl

-- The verdict goes by the priority, not by the id: flow 0, whose C is 14, is delayed by flow 7.
flow_0 : map (λ a. a.verdict) (answers line (one ∷ of 0 2 1 4 100 ∷ [])) ≡ Bounded 16 1 ∷ Bounded 30 2 ∷ []
unfolding hops along xy on domain first_from up sum_over comes_to_from comes_to method_used ◌when◌else◌ latency direct_for indirect_for comes_before those allowance weight term terms highest judged judge verdict_below verdict answers
flow_0 = refl
