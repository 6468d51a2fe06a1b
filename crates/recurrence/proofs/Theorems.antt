-- What document 01 says of one flow's recurrence, for a flow of latency c, a limit, and its terms.
use Prim.Native.Nat.{ℕ, zero, suc, ◌+◌, ◌-◌, ◌^◌, ◌≤◌, ◌<◌}
use mathlib.Core.Path.{◌≡◌, refl, sym, subst}
use mathlib.Core.Logic.{◌↔◌}
use mathlib.Core.List.{List, []}
use native.Mathlib.Nat.{add-zero}
use native.Mathlib.Numerals.{add-one}
use native.Mathlib.Omega.{arith}
use lib.ListN.{length}
use Rattle.recurrence.specs.declared.Settled.{Settled}
use Rattle.recurrence.specs.declared.Settled.TheVariants.{Bounded, Late}
use Rattle.recurrence.specs.Sums.{sum_over}
use Rattle.recurrence.specs.Recurrence.{Term, delay, right_side, total, released}
use Rattle.recurrence.specs.Limits.{Fair, AllFair}
use Rattle.recurrence.specs.Verdicts.{Bound, NoBound, replaced, Rounds, rounds_of, Allowed}
use Rattle.recurrence.specs.ComesTo.{comes_to}
use Rattle.recurrence.proofs.Climbing.{replaced_raised, climbing_none, climbing_bounded}
use Rattle.recurrence.proofs.Counting.{rounds_far, bounded_count, late_count}
use Rattle.recurrence.proofs.Windows.{right_side_rising, total_counts, total_reach, delay_fits, right_side_fits}
use Rattle.recurrence.proofs.Computed.{rounds_once, allowed_once, verdict_bounded, verdict_late, computed_allowed}

-- Two outcomes allowed for one recurrence coincide.
pub allowed_alike : {F : ℕ → ℕ} {c limit : ℕ} {o p : Settled} → Allowed F c limit o → Allowed F c limit p → o ≡ p
allowed_alike a b = allowed_once _ _ a b

module _ (c limit : ℕ) (ts : List Term) where
  -- What is computed is what is allowed.
  pub comes_to_allowed : Allowed (right_side c ts) c limit (comes_to (right_side c ts) c limit)
  comes_to_allowed = computed_allowed (right_side_rising c ts) limit

  -- A bound is not below the latency, so that "R_j - C_j" is a whole number.
  pub latency_within : {r : ℕ} → Bound (right_side c ts) limit r → c ≤ r
  latency_within b = omega (arith, b.solves)

  module _ {o : Settled} (a : Allowed (right_side c ts) c limit o) where
    -- "Bounded (0): the least whole number not above the deadline that solves the recurrence."
    pub bounded_exactly : (r : ℕ) → ((k : ℕ) × (o ≡ Bounded r k)) ↔ Bound (right_side c ts) limit r
    bounded_exactly = verdict_bounded (right_side c ts) limit _ a.verdict

    -- "Late (1): .. no solution at or below the deadline exists."
    pub late_exactly : ((k : ℕ) × (o ≡ Late k)) ↔ NoBound (right_side c ts) limit
    late_exactly = verdict_late (right_side c ts) limit _ a.verdict

    -- "each replacement counts one": the rounds, neither more nor fewer.
    pub rounds_exactly : (k : ℕ) → (rounds_of o ≡ k) ↔ Rounds (right_side c ts) c limit k
    rounds_exactly k = (
      (λ e. subst (Rounds (right_side c ts) c limit) e a.rounds),
      (λ b. rounds_once (right_side c ts) c limit (rounds_of o) k a.rounds b),
    )

    -- "If C is above the deadline, zero", and only then.
    pub rounds_zero : (rounds_of o ≡ 0) ↔ (limit < c)
    unfolding Rounds
    rounds_zero = rounds_exactly 0

    -- "Each replacement except possibly the last raises x ..
    pub each_raises : (i : ℕ) → i + 1 < rounds_of o → replaced (right_side c ts) c i < replaced (right_side c ts) c (i + 1)
    unfolding Rounds replaced
    each_raises i l = raised (rounds_of o) a.rounds l
      where
        raised : (k : ℕ) → Rounds (right_side c ts) c limit k → i + 1 < k → replaced (right_side c ts) c i < replaced (right_side c ts) c (i + 1)
        raised zero rounds l = absurd (omega arith)
        raised (suc k) rounds l = rw add-one (replaced_raised (right_side_rising c ts) rounds.1 i (omega arith))

    -- .. so rounds fit four bytes."
    pub rounds_four_bytes : limit ≤ 1_000_000_000 → rounds_of o < 2 ^ 32
    rounds_four_bytes low = omega (arith, rounds_far (right_side_rising c ts) limit (rounds_of o) a.rounds)

  -- "a bounded flow has rounds at most 2 + N(R) - N(C)"
  pub rounds_bounded : (r k : ℕ) → Allowed (right_side c ts) c limit (Bounded r k) → k + total ts c ≤ 2 + total ts r
  rounds_bounded r k a = bounded_count (right_side_rising c ts) (total_counts c ts) limit r k a.verdict a.rounds

  -- "a late one with C not above the deadline at most 1 + N(deadline) - N(C)"
  pub rounds_late : c ≤ limit → (k : ℕ) → Allowed (right_side c ts) c limit (Late k) → k + total ts c ≤ 1 + total ts limit
  rounds_late low k a = late_count (right_side_rising c ts) (total_counts c ts) limit k low a.verdict a.rounds

  -- "Either is at most 2 + sum over direct j of up((deadline - C) / period_j)"
  pub rounds_plan : c ≤ limit → (o : Settled) → Allowed (right_side c ts) c limit o → rounds_of o ≤ 2 + released ts (limit - c)
  rounds_plan low (Bounded r k) a =
      omega (arith, rounds_bounded r k a, (total_counts c ts).mono a.verdict.within, total_reach ts c limit)
  rounds_plan low (Late k) a = omega (arith, rounds_late low k a, total_reach ts c limit)

-- "With no direct flow R = C_i", after one round.
pub alone : (c limit : ℕ) → c ≤ limit → Allowed (right_side c []) c limit (Bounded c 1)
unfolding sum_over
alone c limit low = climbing_bounded (right_side_rising c []) (climbing_none (right_side_rising c []) low) (sym (add-zero c)) refl

-- "Sums therefore stay inside 64 bits": a window and its period fit 32 bits, so does a flow's delay, and the right side 38, with all that is summed on the way.
pub term_fits : {t : Term} {x : ℕ} → Fair t → x ≤ 1_000_000_000 → (x + t.shift + t.period < 2 ^ 32) × (delay t x < 2 ^ 32)
term_fits fair low = (omega (arith, fair.period, fair.shift), omega (arith, delay_fits fair low))

pub sums_fit : (c : ℕ) (ts : List Term) (x : ℕ) → c ≤ 1_000_000_000 → length ts ≤ 64 → AllFair ts → x ≤ 1_000_000_000 → right_side c ts x < 2 ^ 38
sums_fit = right_side_fits
