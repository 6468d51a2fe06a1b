-- What the analysis keeps of a run of shared links, and of a stretch with another behind it.
use Prim.Native.Nat.{ℕ, zero, suc, ◌+◌, ◌≤◌, ◌<◌}
use mathlib.Core.Path.{◌≡◌, sym, ◌∙◌}
use mathlib.Core.List.{List, ◌++◌}
use native.Mathlib.Omega.{arith}
use native.Mathlib.Decide.{dec_lt}
use lib.ListN.{length}
use Rattle.mesh.specs.Shared.{first_shared, Shares}
use Rattle.mesh_stretches.specs.Stretches.{Stretched, Joined}
use Rattle.mesh.proofs.Spans.{Span, Run, begins, join_span}
use Rattle.mesh.proofs.Counts.{run_count, run_first, run_counted, run_inside}

-- A run's two numbers are what its routes share, and nothing else is.
module _ {a b : List ℕ} {x : Span} {n f : ℕ} (run : Run a b x) where
  pub run_shares : Stretched x.count x.first n f → Shares a b n f
  run_shares s = record { many = s.many ∙ sym (run_count run); place = go (dec_lt 0 x.count) }
    where
      go : Dec (0 < x.count) → f ≡ first_shared a b
      go (yes h) = s.some h ∙ sym (run_first run (omega (arith, run_count run))).0
      go (no h) = s.none (omega arith) ∙ sym ((run_counted run).none (omega arith))

  shares_run : Shares a b n f → Stretched x.count x.first n f
  shares_run w =
      record {
        many = w.many ∙ run_count run;
        some = λ h. w.place ∙ (run_first run (omega (arith, run_count run))).0;
        none = λ e. w.place ∙ (run_counted run).none e;
      }

  pub none_shared : (0 < x.count → ⊥) → n ≡ 0 → f ≡ 0 → Shares a b n f
  none_shared none e e' = let z : x.count ≡ 0 = go (dec_lt 0 x.count) in run_shares (record { many = e ∙ sym z; some = λ h. absurd (none h); none = λ _. e' })
    where
      go : Dec (0 < x.count) → x.count ≡ 0
      go (yes h) = absurd (none h)
      go (no h) = omega arith

  -- They stand on the first route.
  pub shares_within : Shares a b n f → (n ≤ length a) × (f ≤ length a)
  shares_within w = go (dec_lt 0 x.count)
    where
      s : Stretched x.count x.first n f
      s = shares_run w

      go : Dec (0 < x.count) → (n ≤ length a) × (f ≤ length a)
      go (yes h) = omega (arith, s.many, s.some h, run_inside run h)
      go (no h) = omega (arith, s.many, s.none (omega arith))

-- Joined numbers are those of the joined run.
joined_run : {m q k' q' n f n' f' count first : ℕ} (k : ℕ) → Stretched k q n f → Stretched k' q' n' f' → Joined m n f n' f' count first
    → Stretched (k + k') (begins k q (m + q')) count first
joined_run zero s s' j =
    record {
      many = omega arith;
      some = λ h. omega (arith, j.late (omega arith) (omega arith), s'.some (omega arith));
      none = λ e. j.none (omega arith) (omega arith);
    }
joined_run (suc k) s s' j =
    record {
      many = omega arith;
      some = λ h. j.early (omega arith) ∙ s.some (omega arith);
      none = λ e. absurd (omega arith);
    }

pub joined_shares : {a b a' b' : List ℕ} {x y : Span} {m n f n' f' count first : ℕ} (m' : ℕ)
    → Run a b x → Run a' b' y → Run (a ++ a') (b ++ b') (join_span m m' x y)
    → Shares a b n f → Shares a' b' n' f' → Joined m n f n' f' count first → Shares (a ++ a') (b ++ b') count first
joined_shares m' run run' both w w' j = run_shares both (joined_run _ (shares_run run w) (shares_run run' w') j)
