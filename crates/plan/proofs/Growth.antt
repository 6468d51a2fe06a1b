-- A plan's flows grow by one at the end.
use Prim.Native.Nat.{ℕ, zero, suc, ◌+◌, ◌<◌}
use native.Mathlib.Omega.{arith}
use native.Mathlib.Nat.{le_of_suc-le-suc}
use native.Mathlib.Decide.{ℕ_discrete}
use mathlib.Core.Path.{◌≡◌, refl}
use mathlib.Core.Bool.{false}
use mathlib.Core.List.{List, [], ◌∷◌, ◌++◌, map}
use lib.ListN.{length, length-append, get_or-append}
use lib.Seq.{get_or-append_seam}
use lib.Dec.{eqb}
use borrow.Author.Tests.{eqb-false}
use Rattle.plan_values.specs.Values.{blank_flow}
use Rattle.plan.specs.Records.{ids_of, priorities_of}
use Rattle.plan_checks.specs.Checks.{taken}
use Rattle.plan.specs.Legal.{LegalFlow, flow, Distinct, Legal}
use Rattle.plan_values.specs.declared.Platform.{Platform}
use Rattle.plan_values.specs.declared.Flow.{Flow}
use Rattle.plan.proofs.Fields.{neither}

-- what a search that found nothing says of each flow, and the other way round
module _ (value : Flow → ℕ) (v : ℕ) where
  pub none_found : (fs : List Flow) → taken (map value fs) v ≡ false → (k : ℕ) → k < length fs → eqb (value (flow fs k)) v ≡ false
  none_found [] e k h = absurd (omega arith)
  none_found (f ∷ fs) e zero h = (neither (eqb (value f) v) _ e).0
  none_found (f ∷ fs) e (suc k) h = none_found fs (neither (eqb (value f) v) _ e).1 k (le_of_suc-le-suc h)

  pub found_none : (fs : List Flow) → ((k : ℕ) → k < length fs → eqb (value (flow fs k)) v ≡ false) → taken (map value fs) v ≡ false
  found_none [] h = refl
  found_none (f ∷ fs) h = rw (h 0 (omega arith), found_none fs (λ k l. h (suc k) (omega arith)))

module _ (fs : List Flow) (f : Flow) where
  pub longer : length (fs ++ f ∷ []) ≡ length fs + 1
  longer = length-append fs (f ∷ [])

  earlier : (k : ℕ) → k < length fs → flow (fs ++ f ∷ []) k ≡ flow fs k
  earlier k h = get_or-append fs (f ∷ []) blank_flow k h

  newest : flow (fs ++ f ∷ []) (length fs) ≡ f
  newest = get_or-append_seam fs f [] blank_flow

  -- what holds of each flow in its place, and of the new one in the place behind them
  pub each_more : (Q : ℕ → Flow → Type 0) → ((k : ℕ) → k < length fs → Q k (flow fs k)) → Q (length fs) f → (k : ℕ) → k < length (fs ++ f ∷ []) → Q k (flow (fs ++ f ∷ []) k)
  each_more Q old new k h = go (ℕ_discrete k (length fs))
    where
      go : Dec (k ≡ length fs) → Q k (flow (fs ++ f ∷ []) k)
      go (yes e) = rw (e, newest) new
      go (no n) = let b : k < length fs = omega (arith, longer) in rw (earlier k b) (old k b)

  distinct_more : (value : Flow → ℕ) → Distinct value fs → taken (map value fs) (value f) ≡ false → Distinct value (fs ++ f ∷ [])
  distinct_more value old new j k l h = go (ℕ_discrete k (length fs))
    where
      go : Dec (k ≡ length fs) → value (flow (fs ++ f ∷ []) j) ≡ value (flow (fs ++ f ∷ []) k) → ⊥
      go (yes e) = let b : j < length fs = omega arith in rw (earlier j b, e, newest) (eqb-false (value (flow fs j)) (value f) (none_found value (value f) fs new j b))
      go (no n) =
          let b : k < length fs = omega (arith, longer) in
          let a : j < length fs = omega arith in
          rw (earlier j a, earlier k b) (old j k l b)

  pub legal_more : (p : Platform) → Legal p fs → length fs < 64 → LegalFlow p f → taken (ids_of fs) f.id ≡ false → taken (priorities_of fs) f.priority ≡ false → Legal p (fs ++ f ∷ [])
  legal_more p w room legal i q = record {
    platform = w.platform;
    few = omega (arith, longer);
    each = each_more (λ k. LegalFlow p) w.each legal;
    ids = distinct_more (λ g. g.id) w.ids i;
    priorities = distinct_more (λ g. g.priority) w.priorities q;
  }
