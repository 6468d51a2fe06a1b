-- Figures of document 01, computed from the definitions alone.
use Prim.Native.Nat.{ℕ, zero, suc, ◌+◌, ◌≤◌}
use mathlib.Core.Path.{◌≡◌, refl}
use mathlib.Core.List.{List, [], ◌∷◌, map}
use mathlib.Core.Logic.{inl, inr}
use native.Mathlib.Omega.{arith}
use Rattle.recurrence.specs.declared.Settled.{Settled}
use Rattle.recurrence.specs.declared.Settled.TheVariants.{Bounded, Late}
use Rattle.std.specs.Prelude.{replicate}
use Rattle.std.proofs.lemmas.List.Elements.{All-cons}
use Rattle.recurrence.specs.Rounding.{up}
use Rattle.recurrence.specs.Sums.{sum_over}
use Rattle.recurrence.specs.Recurrence.{Term, weighed, packets, right_side, total, released}
use Rattle.recurrence.specs.Held.{held, Ordered}
use Rattle.recurrence.specs.Limits.{Fair, Given}
use Rattle.recurrence.specs.Verdicts.{Bound, NoBound, RightVerdict, replaced, Last, GoesOn, Rounds, Allowed}
use Rattle.recurrence.specs.ComesTo.{comes_to_from, comes_to}

abbrev term : ℕ → ℕ → ℕ → Term
term shift period weight = record { shift = shift; period = period; weight = weight }

abbrev settled : ℕ → ℕ → List Term → Settled
settled c limit ts = comes_to (right_side c ts) c limit

-- "with jitter and allowance zero, a window of 400 with period 400 holds one packet, 401 two"
exact_multiple : (packets (term 0 400 1) 400 ≡ 1) × (packets (term 0 400 1) 401 ≡ 2) × (packets (term 0 400 1) 0 ≡ 0)
unfolding up
exact_multiple = (refl, refl, refl)

-- "With no direct flow R = C_i"; "If C is above the deadline, zero."
none_direct : (settled 62 200 [] ≡ Bounded 62 1) × (settled 62 62 [] ≡ Bounded 62 1) × (settled 62 61 [] ≡ Late 0)
unfolding sum_over comes_to_from comes_to
none_direct = (refl, refl, refl)

-- P's flow 3, which flow 2 delays: "328, rounds 2"; with deadline 328 the same; with deadline 327 "late, 1".
-- "Calling a flow late because its first value passes the period of an interferer" is wrong: 204 is above flow 2's period of 200.
abbrev flow_3 : List Term
flow_3 = term 0 200 62 ∷ []

flow_3_of_p : (settled 204 4000 flow_3 ≡ Bounded 328 2) × (settled 204 328 flow_3 ≡ Bounded 328 2) × (settled 204 327 flow_3 ≡ Late 1)
unfolding up sum_over comes_to_from comes_to
flow_3_of_p = (refl, refl, refl)

-- P's flow 5, which flow 3 delays, by the rows of "Figures to meet": methods 1, 2 and 3, buffer 2, and the deadlines 335 and 131.
flow_5_of_p :
    (settled 132 6000 (term 124 4000 204 ∷ []) ≡ Bounded 336 2)
    × (settled 132 6000 (term 0 4000 328 ∷ []) ≡ Bounded 460 2)
    × (settled 132 6000 (term 124 4000 264 ∷ []) ≡ Bounded 396 2)
    × (settled 132 6000 (term 124 4000 216 ∷ []) ≡ Bounded 348 2)
    × (settled 132 335 (term 124 4000 204 ∷ []) ≡ Late 1)
    × (settled 132 131 (term 124 4000 264 ∷ []) ≡ Late 0)
unfolding up sum_over comes_to_from comes_to
flow_5_of_p = (refl, refl, refl, refl, refl, refl)

-- The same with period 400 for flow 3: its packets come again before flow 5 is through.
flow_5_again :
    (settled 132 6000 (term 124 400 204 ∷ []) ≡ Bounded 540 3)
    × (settled 132 6000 (term 0 400 328 ∷ []) ≡ Bounded 788 3)
    × (settled 132 6000 (term 124 400 264 ∷ []) ≡ Bounded 660 3)
unfolding up sum_over comes_to_from comes_to
flow_5_again = (refl, refl, refl)

-- A flow that leaves no room makes the other late, round by round; the longest limit costs the definition nothing.
no_room : (settled 132 1_000 (term 0 1 1 ∷ []) ≡ Late 7) × (settled 204 1_000_000_000 flow_3 ≡ Bounded 328 2)
unfolding up sum_over comes_to_from comes_to
no_room = (refl, refl)

-- Two direct flows, no number twice: 72 + 173 + 24 = 269, which with the shift of 921 is one period of 1190. One cycle more, and a second packet of each comes in turn: 442, 466.
abbrev two_terms : ℕ → List Term
two_terms shift = term shift 1190 173 ∷ term 1 440 24 ∷ []

two_direct :
    (settled 72 8000 (two_terms 921) ≡ Bounded 269 2)
    × (settled 72 8000 (two_terms 922) ≡ Bounded 466 4)
    × (settled 72 466 (two_terms 922) ≡ Bounded 466 4)
    × (settled 72 465 (two_terms 922) ≡ Late 3)
    × (settled 72 441 (two_terms 922) ≡ Late 2)
unfolding up sum_over comes_to_from comes_to
two_direct = (refl, refl, refl, refl, refl)

-- "N(x) the sum of n_j(x) over direct j", in windows x; and "sum over direct j of up((deadline - C) / period_j)", of stretches, where a shift counts for nothing.
counts :
    (map (total (two_terms 922)) (268 ∷ 269 ∷ 439 ∷ 440 ∷ []) ≡ 2 ∷ 3 ∷ 3 ∷ 4 ∷ [])
    × (map (released (two_terms 922)) (0 ∷ 440 ∷ 441 ∷ 1190 ∷ 1191 ∷ []) ≡ 0 ∷ 2 ∷ 3 ∷ 4 ∷ 5 ∷ [])
unfolding up sum_over
counts = (refl, refl)

-- The same terms by the fields that the code keeps: 2110 is 921 + 1189, and 440 is 1 + 439. Fields of zero are a period of one cycle.
columns : weighed (held 2110 1189) 173 ∷ weighed (held 440 439) 24 ∷ [] ≡ two_terms 921
columns = refl

short_columns : weighed (held 0 0) 0 ≡ term 0 1 0
short_columns = refl

-- "until the new value equals the old": a value below the old is not yet the last.
falling : comes_to (λ x. 2) 3 5 ≡ Bounded 2 2
unfolding comes_to_from comes_to
falling = refl

-- What `settle` is given: the limits, and one past each.
fair : Fair (term 2_000_000_000 1_000_000_000 1_000_000_000) × Fair (term 0 1 0)
fair = (
  record { some = omega arith; period = omega arith; shift = omega arith; light = omega arith },
  record { some = omega arith; period = omega arith; shift = omega arith; light = omega arith },
)

unfair : (Fair (term 0 0 0) → ⊥) × (Fair (term 0 1_000_000_001 0) → ⊥) × (Fair (term 2_000_000_001 1 0) → ⊥) × (Fair (term 0 5 6) → ⊥)
unfair = (λ w. omega (arith, w.some), λ w. omega (arith, w.period), λ w. omega (arith, w.shift), λ w. omega (arith, w.light))

given : Given 1_000_000_000 1_000_000_000 (term 1 9 7 ∷ [])
given = record {
  latency = omega arith;
  window = omega arith;
  few = omega arith;
  fair = All-cons Fair (term 1 9 7) [] (record { some = omega arith; period = omega arith; shift = omega arith; light = omega arith }) (λ k d l. absurd (omega (arith, l)));
}

ordered : Ordered 8 8 × Ordered 9 8
ordered = (omega arith, omega arith)

not_given :
    (Given 1_000_000_001 0 [] → ⊥)
    × (Given 0 1_000_000_001 [] → ⊥)
    × (Given 0 0 (replicate 65 (term 0 1 0)) → ⊥)
    × (Ordered 8 9 → ⊥)
    × (Given 0 0 (term 1 9 10 ∷ []) → ⊥)
not_given = (
  λ w. omega (arith, w.latency),
  λ w. omega (arith, w.window),
  λ w. let few : 65 ≤ 64 = w.few in omega arith,
  λ w. omega (arith, w),
  λ w. omega (arith, (w.fair 0 (term 0 1 0) (omega arith)).light),
)

-- "the least whole number not above the deadline that solves the recurrence": of R = 5, and of R = R, which all numbers solve.
bound : Bound (λ x. 5) 5 5 × Bound (λ x. x) 9 0 × RightVerdict (λ x. 5) 9 (Bounded 5 7)
bound = (
  record { within = omega arith; solves = refl; least = λ x e. omega (arith, e) },
  record { within = omega arith; solves = refl; least = λ x e. omega arith },
  record { within = omega arith; solves = refl; least = λ x e. omega (arith, e) },
)

no_bound : (Bound (λ x. 5) 4 5 → ⊥) × (Bound (λ x. 5) 9 6 → ⊥) × (Bound (λ x. x) 9 1 → ⊥) × NoBound (λ x. 5) 4 × RightVerdict (λ x. 5) 4 (Late 7) × (NoBound (λ x. 5) 5 → ⊥)
no_bound = (
  λ w. omega (arith, w.within),
  λ w. omega (arith, w.solves),
  λ w. omega (arith, w.least 0 refl),
  λ x h e. omega (arith, h, e),
  λ x h e. omega (arith, h, e),
  λ w. w 5 (omega arith) refl,
)

-- "Rounds: start at x = C": of R = R + R from 3, the values 3, 6, 12.
values : map (replaced (λ x. x + x) 3) (0 ∷ 1 ∷ 2 ∷ []) ≡ 3 ∷ 6 ∷ 12 ∷ []
unfolding replaced
values = refl

-- "until the new value equals the old or is above the deadline"
last : Last (λ x. 5) 9 5 × Last (λ x. x) 9 3 × Last (λ x. x + x) 5 3
last = (inl refl, inl refl, inr (omega arith))

not_last : Last (λ x. x + x) 6 3 → ⊥
not_last (inl e) = omega (arith, e)
not_last (inr l) = omega (arith, l)

-- "If C is above the deadline, zero. Otherwise .. each replacement counts one": with deadline 2 none, with 3 to 5 one, with 6 to 11 two.
rounds : Rounds (λ x. x + x) 3 2 0 × Rounds (λ x. x + x) 3 3 1 × Rounds (λ x. x + x) 3 6 2
unfolding replaced Rounds
rounds = (omega arith, (omega arith, λ i h w. absurd (omega (arith, h)), inr (omega arith)), (omega arith, go, inr (omega arith)))
  where
    go : GoesOn (λ x. x + x) 3 6 1
    go zero h w = not_last w
    go (suc i) h w = absurd (omega (arith, h))

not_rounds : (Rounds (λ x. x + x) 3 3 0 → ⊥) × (Rounds (λ x. x + x) 3 2 1 → ⊥) × (Rounds (λ x. x + x) 3 6 1 → ⊥) × (Rounds (λ x. x + x) 3 6 3 → ⊥)
unfolding replaced Rounds
not_rounds = (λ w. omega (arith, w), λ w. omega (arith, w.0), λ w. not_last w.2, λ w. w.1 1 (omega arith) (inr (omega arith)))

-- Of R = 5 from 3: bounded by 5 after two rounds, 5 and 5 again.
allowed : Allowed (λ x. 5) 3 9 (Bounded 5 2)
unfolding replaced Rounds
allowed = record { verdict = record { within = omega arith; solves = refl; least = λ x e. omega (arith, e) }; rounds = (omega arith, go, inl refl) }
  where
    not_yet : Last (λ x. 5) 9 3 → ⊥
    not_yet (inl e) = omega (arith, e)
    not_yet (inr l) = omega (arith, l)

    go : GoesOn (λ x. 5) 3 9 1
    go zero h w = not_yet w
    go (suc i) h w = absurd (omega (arith, h))
