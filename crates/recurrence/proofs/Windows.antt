-- Packets and delays never fall as the window grows, and fit under the limits.
use Prim.Native.Nat.{ℕ, ◌+◌, ◌-◌, ◌*◌, ◌^◌, ◌≤◌, ◌<◌}
use mathlib.Core.List.{List}
use native.Mathlib.Nat.{mul-le-mul_left, mul-le-mul_right}
use native.Mathlib.Omega.{arith}
use lib.ListN.{length}
use Rattle.recurrence.specs.Rounding.{up}
use Rattle.recurrence.specs.Sums.{sum_over}
use Rattle.recurrence.specs.Recurrence.{Term, packets, delay, right_side, total, released}
use Rattle.recurrence.specs.Limits.{Fair, AllFair, Given}
use Rattle.recurrence.proofs.Quotients.{up_mono, up_add, up_over}
use Rattle.recurrence.proofs.Sums.{sum_add, sum_same}
use Rattle.std.proofs.lemmas.List.Sums.{sum_by-le, sum_by-le-sum_by}
use Rattle.recurrence.proofs.Climbing.{Rising}
use Rattle.recurrence.proofs.Counting.{Counts}

packets_mono : {x y : ℕ} → x ≤ y → (t : Term) → packets t x ≤ packets t y
packets_mono h t = up_mono t.period (omega arith)

pub right_side_rising : (c : ℕ) (ts : List Term) → Rising (right_side c ts) c
unfolding sum_over
right_side_rising c ts = record {
  mono = λ h. omega (arith, sum_by-le-sum_by (λ t. delay t _) (λ t. delay t _) ts (λ t. mul-le-mul_right t.weight (packets_mono h t)));
  base = λ x. omega arith;
}

-- The right side rises only where more packets come.
pub total_counts : (c : ℕ) (ts : List Term) → Counts (total ts) (right_side c ts)
unfolding sum_over
total_counts c ts = record {
  mono = λ h. sum_by-le-sum_by _ _ ts (packets_mono h);
  rises = λ {x} {y} h more.
      let n : ¬ (total ts y ≤ total ts x) = (λ same. omega (arith, sum_same (λ (t : Term). t.weight) (packets_mono h) ts same)) in
      omega arith;
}

-- A window y holds no more packets than x does and are released in the stretch between.
pub total_reach : (ts : List Term) (x y : ℕ) → total ts y ≤ total ts x + released ts (y - x)
total_reach ts x y = sum_add (λ t. packets t y) (λ t. packets t x) (λ t. up (y - x) t.period) reach ts
  where
    reach : (t : Term) → packets t y ≤ packets t x + up (y - x) t.period
    reach t =
        omega
        (arith, up_mono t.period {a = y + t.shift} {b = x + t.shift + (y - x)} (omega arith), up_add t.period (x + t.shift) (y - x))

-- The packets of a fair flow, one after the other, take little longer than their window.
pub delay_fits : {t : Term} {x : ℕ} → Fair t → x ≤ 1_000_000_000 → delay t x ≤ 4_000_000_000
delay_fits {t} {x} fair low =
    omega (arith, mul-le-mul_left (packets t x) fair.light, up_over (x + t.shift) t.period, fair.period, fair.shift)

pub delays_fit : (ts : List Term) {x : ℕ} → AllFair ts → x ≤ 1_000_000_000 → sum_over ts (λ t. delay t x) ≤ length ts * 4_000_000_000
unfolding sum_over
delays_fit ts {x} fair low = sum_by-le (λ t. delay t x) 4_000_000_000 ts (λ k d l. delay_fits (fair k d l) low)

-- At most 64 delays and the latency: 257,000,000,000 at most.
pub right_side_fits : (c : ℕ) (ts : List Term) (x : ℕ) → c ≤ 1_000_000_000 → length ts ≤ 64 → AllFair ts → x ≤ 1_000_000_000 → right_side c ts x < 2 ^ 38
right_side_fits c ts x latency few fair low = omega (arith, delays_fit ts fair low)

-- The same of what `settle` is given: nothing that it adds up comes near 64 bits.
pub given_fits : {c limit : ℕ} {ts : List Term} {x : ℕ} → Given c limit ts → x ≤ limit → right_side c ts x < 2 ^ 38
given_fits {c} {limit} {ts} {x} g low = right_side_fits c ts x g.latency g.few g.fair (omega (arith, g.window))
