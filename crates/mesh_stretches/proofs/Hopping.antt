-- What hops along one line share: those that both take to higher places, or to lower ones.
use Prim.Native.Nat.{ℕ, zero, suc, ◌+◌, ◌-◌, ◌*◌, ◌≤◌, ◌<◌, min, max}
use mathlib.Core.Path.{◌≡◌, refl, sym, ap₂, ◌∙◌}
use native.Mathlib.Nat.{add-zero, zero-add, le_of_lt}
use native.Mathlib.Omega.{arith}
use native.Mathlib.Decide.{dec_lt}
use Rattle.mesh.specs.Mesh.{straight}
use Rattle.mesh.specs.Shared.{Shares}
use Rattle.mesh_stretches.specs.Stretches.{Stretched, HopsShared}
use Rattle.mesh.proofs.Spans.{line_span, begins}
use Rattle.mesh.proofs.Walks.{walk}
use Rattle.mesh_stretches.proofs.Keeping.{run_shares}

-- The same run by other numbers, its place only where it has links.
alike : {k k' q q' n f : ℕ} → k ≡ k' → (0 < k' → q ≡ q') → Stretched k q n f → Stretched k' q' n f
alike e place s =
    record {
      many = s.many ∙ e;
      some = λ h. s.some (omega arith) ∙ place h;
      none = λ z. s.none (omega arith);
    }

small_both : {m q n f : ℕ} (k : ℕ) → k < m → q < m → Stretched k q n f → (n < m) × (f < m)
small_both zero h h' s = omega (arith, s.none (omega arith))
small_both (suc k) h h' s = omega (arith, s.some (omega arith))

begins_some : (k p q : ℕ) → 0 < k → begins k p q ≡ p
begins_some zero p q h = absurd (omega arith)
begins_some (suc k) p q h = refl

begins_none : (k p q : ℕ) → k ≡ 0 → begins k p q ≡ q
begins_none zero p q e = refl
begins_none (suc k) p q e = absurd (omega arith)

-- A line without a link shares none.
line_none : (l s l' t : ℕ) → l ≡ 0 → (line_span l s l' t).count ≡ 0
line_none l s l' t e = omega arith

no_hops : (u v : ℕ) → u ≤ v → u - v ≡ 0
no_hops u v h = omega arith

shifted : (p x y : ℕ) → x - y ≡ (p + x) - (p + y)
shifted p x y = omega arith

some_left : (x y : ℕ) → y ≡ 0 → 0 < x + y → 0 < x
some_left x y e h = omega arith

-- Of two lines to higher places, and of two to lower ones, the numbers of the places alone count: `x` and `y` are the hops.
line_up : (p u v s t x y : ℕ) → x + u ≡ v → y + s ≡ t → (line_span x (p + u) y (p + s)).count ≡ min v t - max u s
line_up p u v s t x y e e' = omega arith

line_down : (p u v s t x y : ℕ) → x + v ≡ u → y + t ≡ s → (line_span x (p + s) y (p + u)).count ≡ min u s - max v t
line_down p u v s t x y e e' = omega arith

-- The second line may go the other way, and then it shares none.
other_way : (p u x q : ℕ) → (line_span x (p + u) 0 (p + q)).count ≡ 0
other_way p u x q = omega arith

no_places : (u v s t : ℕ) → t ≤ s → min v t - max u s ≡ 0
no_places u v s t h = omega arith

rise_is : (p u v s t : ℕ) → u < v → (line_span (v - u) (p + u) (t - s) (p + s)).count ≡ min v t - max u s
rise_is p u v s t h = go (dec_lt s t)
  where
    go : Dec (s < t) → (line_span (v - u) (p + u) (t - s) (p + s)).count ≡ min v t - max u s
    go (yes l) = line_up p u v s t (v - u) (t - s) (omega arith) (omega arith)
    go (no l) = let e : t - s ≡ 0 = omega arith in rw e (other_way p u (v - u) s) ∙ sym (no_places u v s t (omega arith))

fall_is : (p u v s t : ℕ) → v ≤ u → (line_span (u - v) (p + s) (s - t) (p + u)).count ≡ min u s - max v t
fall_is p u v s t h = go (dec_lt t s)
  where
    go : Dec (t < s) → (line_span (u - v) (p + s) (s - t) (p + u)).count ≡ min u s - max v t
    go (yes l) = line_down p u v s t (u - v) (s - t) (omega arith) (omega arith)
    go (no l) = let e : s - t ≡ 0 = omega arith in rw e (other_way p s (u - v) u) ∙ sym (no_places v u t s (omega arith))

module _ {u v s t n f : ℕ} (small : (u < 8) × (v < 8) × (s < 8) × (t < 8)) where
  pub hops_up : u < v → Stretched (min v t - max u s) (s - u) n f → HopsShared u v s t n f
  hops_up h w =
      record {
        small = small_both _ (omega arith) (omega arith) w;
        on_line = λ kind line l.
            let up = rise_is (8 * line) u v s t h in
            let down = line_none (u - v) (8 * line + s) (s - t) (8 * line + u) (no_hops u v (le_of_lt h)) in
            run_shares (walk kind line u v line s t (l, small.0, small.1, l, small.2, small.3)).run
            (alike (sym (ap₂ ◌+◌ up down ∙ add-zero _)) (λ g. shifted (8 * line) s u ∙ sym (begins_some _ _ _ (some_left _ _ down g))) w);
      }

  pub hops_down : v ≤ u → Stretched (min u s - max v t) (u - s) n f → HopsShared u v s t n f
  hops_down h w =
      record {
        small = small_both _ (omega arith) (omega arith) w;
        on_line = λ kind line l.
            let up = line_none (v - u) (8 * line + u) (t - s) (8 * line + s) (no_hops v u h) in
            let down = fall_is (8 * line) u v s t h in
            run_shares (walk kind line u v line s t (l, small.0, small.1, l, small.2, small.3)).run
            (alike (sym (ap₂ ◌+◌ up down ∙ zero-add _)) (λ g. shifted (8 * line) u s ∙ sym (begins_none _ _ _ up ∙ rw (no_hops v u h) (zero-add _))) w);
      }

pub hops_shares : {u v s t n f : ℕ} → HopsShared u v s t n f → (kind : ℕ) {g g' : ℕ} → g ≡ g' → g < 8 → Shares (straight kind g u v) (straight kind g' s t) n f
hops_shares h kind {g} e l = rw (← e) (h.on_line kind g l)
