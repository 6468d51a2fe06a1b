-- What is promised of a stretch of two routes, and of a stretch with another behind it.
use Rattle.std.specs.Prelude.{ℕ, ◌+◌, ◌≤◌, ◌<◌, ◌≡◌, Bool, cond}
use Rattle.mesh.specs.Mesh.{straight}
use Rattle.mesh.specs.Shared.{Shares}

-- A run of `n` links from place `f` on; "the place is 0 where none is shared".
pub record Stretched (n f count first : ℕ) : Type 0 where
  pub many : count ≡ n
  pub some : 0 < n → first ≡ f
  pub none : n ≡ 0 → first ≡ 0

-- What hops from `u` to `v` share with hops from `s` to `t`, on whatever line.
pub record HopsShared (u v s t count first : ℕ) : Type 0 where
  pub small : (count < 8) × (first < 8)
  pub on_line : (kind line : ℕ) → line < 8 → Shares (straight kind line u v) (straight kind line s t) count first

-- What one link shares with one other, which may be the same.
pub record LinkShared (same : Bool) (count first : ℕ) : Type 0 where
  pub few : count ≤ 1
  pub many : count ≡ cond same 1 0
  pub place : first ≡ 0

-- Two stretches, one behind the other: `n` links are shared in the first from place `f` on, `n'` in the second from `f'` on, and the first has `m` links on the first route.
pub record Joined (m n f n' f' count first : ℕ) : Type 0 where
  pub many : count ≡ n + n'
  pub early : 0 < n → first ≡ f
  pub late : n ≡ 0 → 0 < n' → first ≡ m + f'
  pub none : n ≡ 0 → n' ≡ 0 → first ≡ 0
