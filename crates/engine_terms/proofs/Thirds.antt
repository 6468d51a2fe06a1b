-- A third flow's part in the loads of a pair, and the loop that adds the parts up.
use Prim.Native.Nat.{ℕ, ◌+◌, ◌*◌, ◌≤◌, ◌<◌, min}
use native.Mathlib.Omega.{arith}
use mathlib.Core.Path.{◌≡◌, refl, ap, ◌∙◌}
use mathlib.Core.List.{List}
use lib.ListN.{length, take, get_or}
use lib.Seq.{get_or-take}
use mathlib.Core.Bool.{Bool, true, false, cond, not, ◌&&◌}
use borrow.Author.Tests.{lt-ltb, le-ltb}
use lib.Dec.{ltb}
use Rattle.engine_terms.specs.Loads.{up_part, down_part, sum_to}
use Rattle.engine_terms.proofs.Sums.{sum_more, sum_within}

module _ (shared place first cap hit cost : ℕ) where
  -- no hit costs nothing, wherever the flow stands
  pub third_idle : hit ≡ 0 → (up_part shared place first hit cost ≡ 0) × (down_part shared place first cap hit cost ≡ 0)
  unfolding up_part down_part
  third_idle e = rw e (go (not (ltb 0 shared) && ltb place first) cost, go (not (ltb 0 shared) && not (ltb place first)) (min cost cap))
    where
      go : (b : Bool) (c : ℕ) → cond b (0 * c) 0 ≡ 0
      go true c = omega arith
      go false c = refl

  pub third_near : 0 < shared → (up_part shared place first hit cost ≡ 0) × (down_part shared place first cap hit cost ≡ 0)
  unfolding up_part down_part
  third_near h = (rw (lt-ltb 0 shared h), rw (lt-ltb 0 shared h))

  module _ (apart : shared ≤ 0) where
    pub third_up : place < first → (up_part shared place first hit cost ≡ hit * cost) × (down_part shared place first cap hit cost ≡ 0)
    unfolding up_part down_part
    third_up h = (rw (le-ltb 0 shared apart, lt-ltb place first h), rw (le-ltb 0 shared apart, lt-ltb place first h))

    pub third_down : first ≤ place → (up_part shared place first hit cost ≡ 0) × (down_part shared place first cap hit cost ≡ hit * min cost cap)
    unfolding up_part down_part
    third_down h = (rw (le-ltb 0 shared apart, le-ltb place first h), rw (le-ltb 0 shared apart, le-ltb place first h))

-- what the loop of `sum_loads` knows behind k flows: `ups` and `downs` are the parts to add
pub record Adding (ups downs : ℕ → ℕ) (count up down k : ℕ) : Type 0 where
  pub few : count ≤ 64
  pub within : k ≤ count
  pub ups_small : sum_to count ups ≤ 1_000_000_000
  pub downs_small : sum_to count downs ≤ 1_000_000_000
  pub up_is : up ≡ sum_to k ups
  pub down_is : down ≡ sum_to k downs

pub adding_none : (ups downs : ℕ → ℕ) (count : ℕ) → count ≤ 64 → sum_to count ups ≤ 1_000_000_000 → sum_to count downs ≤ 1_000_000_000 → Adding ups downs count 0 0 0
unfolding sum_to
adding_none ups downs count h a b = record { few = h; within = omega arith; ups_small = a; downs_small = b; up_is = refl; down_is = refl }

module _ {ups downs : ℕ → ℕ} {count up down k : ℕ} (w : Adding ups downs count up down k) where
  pub adding_room : k < count → (up + ups k ≤ 1_000_000_000) × (down + downs k ≤ 1_000_000_000)
  adding_room h = (
    omega (arith, w.ups_small, w.up_is, sum_more ups k, sum_within ups (k + 1) count (omega arith)),
    omega (arith, w.downs_small, w.down_is, sum_more downs k, sum_within downs (k + 1) count (omega arith)),
  )

  pub adding_more : {new_up new_down : ℕ} → k < count → new_up ≡ up + ups k → new_down ≡ down + downs k → Adding ups downs count new_up new_down (k + 1)
  adding_more h e f = record {
    few = w.few;
    within = omega arith;
    ups_small = w.ups_small;
    downs_small = w.downs_small;
    up_is = omega (arith, e, w.up_is, sum_more ups k);
    down_is = omega (arith, f, w.down_is, sum_more downs k);
  }

  pub adding_all : count ≤ k → (up ≡ sum_to count ups) × (down ≡ sum_to count downs)
  adding_all h = let e : k ≡ count = omega (arith, w.within) in (rw e at w.up_is, rw e at w.down_is)

-- what a loop along the first n of some cells reads
pub read_along : (cells : List ℕ) {items : List ℕ} {n m x : ℕ} → items ≡ take n cells → length items ≡ n → m < length items → x ≡ get_or items m 0 → (m < n) × (x ≡ get_or cells m 0)
read_along cells {n = n} {m} e l h r = let i : m < n = omega arith in (i, r ∙ ap (λ (xs : List ℕ). get_or xs m 0) e ∙ get_or-take n cells m 0 i)
