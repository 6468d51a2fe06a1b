-- The laws of `up`. All but the first hold at a period of zero too, where `up` is zero.
use Prim.Native.Nat.{ℕ, zero, suc, ◌+◌, ◌-◌, ◌*◌, ◌/◌, ◌≤◌, ◌<◌}
use mathlib.Core.Path.{◌≡◌, ap}
use mathlib.Core.Logic.{◌↔◌}
use native.Mathlib.Nat.{div-lt_iff_lt-mul, div-mul-le_self, div-zero, le_refl}
use native.Mathlib.Omega.{arith}
use Rattle.recurrence.specs.Rounding.{up}

-- `up a p` periods cover a, and no fewer do.
pub up_covers : (a k : ℕ) {p : ℕ} → 0 < p → (up a p ≤ k) ↔ (a ≤ k * p)
unfolding up
up_covers a k {p} pos = (
  (λ h. let q : a + (p - 1) < suc k * p = (div-lt_iff_lt-mul pos).0 (omega arith) in omega arith),
  (λ h. let q : (a + (p - 1)) / p < suc k = (div-lt_iff_lt-mul pos).1 (omega arith) in omega arith),
)

covered : {p : ℕ} → 0 < p → (a : ℕ) → a ≤ up a p * p
covered {p} pos a = (up_covers a (up a p) pos).0 (le_refl _)

-- A longer window holds no fewer packets.
pub up_mono : (p : ℕ) {a b : ℕ} → a ≤ b → up a p ≤ up b p
unfolding up
up_mono zero {a} {b} h = omega (arith, div-zero (a + (zero - 1)), div-zero (b + (zero - 1)))
up_mono (suc p) {a} {b} h = let pos : 0 < suc p = omega arith in (up_covers a (up b (suc p)) pos).1 (omega (arith, covered pos b))

-- A window cut in two holds no more packets than its parts.
pub up_add : (p a b : ℕ) → up (a + b) p ≤ up a p + up b p
unfolding up
up_add zero a b = omega (arith, div-zero (a + b + (zero - 1)))
up_add (suc p) a b =
    let pos : 0 < suc p = omega arith in
    (up_covers (a + b) (up a (suc p) + up b (suc p)) pos).1 (omega (arith, covered pos a, covered pos b))

-- The periods run past a by less than one.
pub up_over : (a p : ℕ) → up a p * p ≤ a + (p - 1)
unfolding up
up_over a p = div-mul-le_self (a + (p - 1)) p

-- One addition and one division round up.
pub up_held : (window end last : ℕ) → last ≤ end → (window + end) / (last + 1) ≡ up (window + (end - last)) (last + 1)
unfolding up
up_held window end last h = ap (λ (a : ℕ). a / (last + 1)) (omega arith)
