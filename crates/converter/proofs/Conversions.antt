-- Document 02, L6: what a conversion comes to, of any bytes, said without a reader: `Laid` and `Legal` of plan's specs say which bytes are a plan, `RefusedBecause` why
-- others are none.
use Prim.Native.Nat.{ℕ, ◌<◌}
use native.Mathlib.Decide.{ℕ_discrete}
use mathlib.Core.Path.{◌≡◌, refl, sym, ap, ◌∙◌}
use mathlib.Core.Logic.{◌↔◌, ◌≢◌}
use mathlib.Core.List.{List}
use lib.ListN.{length, set, length-set}
use lib.Seq.{get_or-set_same, get_or-set_other, ext_get_or}
use Rattle.framing_numbers.specs.Numbers.{one_at}
use Rattle.std.specs.Prelude.{Result, Ok}
use Rattle.framing.specs.Returned.{number_of, refused_with, accepted_with}
use Rattle.framing.specs.declared.returned.Returned.{Returned}
use Rattle.framing.specs.declared.returned.Refusal.{Refusal}
use Rattle.plan_values.specs.declared.Platform.{Platform}
use Rattle.plan_values.specs.declared.Flow.{Flow}
use Rattle.plan.specs.declared.Plan.{Plan}
use Rattle.plan.specs.Legal.{Legal}
use Rattle.plan.specs.Layout.{Laid}
use Rattle.plan.specs.Reasons.{RefusedBecause}
use Rattle.plan.specs.Reading.{plan_of, accepted, refused, read_plan}
use Rattle.plan.proofs.Answered.{Lawful, accepts, refuses, answered}
use Rattle.plan.proofs.Exact.{accepted_exactly}
use Rattle.plan.proofs.Because.{refused_exactly, refused_for}
use Rattle.converter.specs.Converted.{converted, returned}
use Rattle.converter.proofs.Converting.{Convert, refused_kept, method_inside, zero_rewritten, other_kept}

-- "rewrites 0 as 2 and alters no other byte"
pub record Rewritten (s t : List ℕ) : Type 0 where
  pub long : length t ≡ length s
  pub method : one_at t 8 ≡ 2
  pub others : (i : ℕ) → i ≢ 8 → one_at t i ≡ one_at s i

pub data Conversion (s : List ℕ) : Returned → List ℕ → Type 0 where
  -- ".. of an accepted plan"
  rewrites : (p : Platform) (fs : List Flow) → Laid s p fs → Legal p fs → p.method ≡ 0 → {t : List ℕ} → Rewritten s t → Conversion s (accepted_with 0) t
  -- A plan that names its method is accepted and keeps every byte.
  keeps : (p : Platform) (fs : List Flow) → Laid s p fs → Legal p fs → p.method ≢ 0 → Conversion s (accepted_with 0) s
  -- "refuses as the reader does, altering nothing"
  sends_back : (number place : ℕ) → RefusedBecause s number place → Conversion s (refused_with number place) s

-- No other bytes are rewritten so.
rewritten_once : (s t : List ℕ) → 8 < length s → Rewritten s t → t ≡ set s 8 2
rewritten_once s t h w = ext_get_or 0 t (set s 8 2) (w.long ∙ sym (length-set s 8 2)) (λ i l. go i (ℕ_discrete i 8))
  where
    go : (i : ℕ) → Dec (i ≡ 8) → one_at t i ≡ one_at (set s 8 2) i
    go i (yes e) = rw e (w.method ∙ sym (get_or-set_same s 8 2 0 h))
    go i (no n) = w.others i n ∙ sym (get_or-set_other s 8 i 2 0 n)

rewritten_so : (s : List ℕ) → 8 < length s → Rewritten s (set s 8 2)
rewritten_so s h = record { long = length-set s 8 2; method = get_or-set_same s 8 2 0 h; others = λ i n. get_or-set_other s 8 i 2 0 n }

module _ (s : List ℕ) where
  -- The byte of an accepted plan's method.
  module _ (p : Platform) (fs : List Flow) (e : read_plan s ≡ accepted p fs) where
    read_as : read_plan s ≡ Ok (plan_of p fs)
    unfolding accepted
    read_as = e

    method_is : one_at s 8 ≡ p.method
    method_is = ap (λ (q : Platform). q.method) ((accepted_exactly s p fs).0 e).0.platform.1

    inside : 8 < length s
    inside = method_inside s read_as

    pub converts_zero : p.method ≡ 0 → Convert s (accepted_with 0) (set s 8 2)
    converts_zero z = zero_rewritten s read_as (method_is ∙ z)

    pub keeps_other : p.method ≢ 0 → Convert s (accepted_with 0) s
    keeps_other n = other_kept s read_as (λ z. n (sym method_is ∙ z))

  settled : {r : Returned} {t : List ℕ} → Convert s r t → Conversion s r t → Conversion s (returned s) (converted s)
  settled (e, f) c = rw (← e, ← f) c

  comes_to_lem : Conversion s (returned s) (converted s)
  unfolding refused
  comes_to_lem = go (read_plan s) refl (answered s)
    where
      by_method : (p : Platform) (fs : List Flow) → Laid s p fs → Legal p fs → read_plan s ≡ accepted p fs → Dec (p.method ≡ 0) → Conversion s (returned s) (converted s)
      by_method p fs laid legal e (yes z) = settled (converts_zero p fs e z) (rewrites p fs laid legal z (rewritten_so s (inside p fs e)))
      by_method p fs laid legal e (no n) = settled (keeps_other p fs e n) (keeps p fs laid legal n)

      go : (r : Result Plan Refusal) → read_plan s ≡ r → Lawful s r → Conversion s (returned s) (converted s)
      go r e (accepts p fs laid legal) = by_method p fs laid legal e (ℕ_discrete p.method 0)
      go r e (refuses fault place n h) = settled (refused_kept s e) (sends_back (number_of fault) place ((refused_exactly s fault place).0 e))

  -- What `convert` promises is what a conversion comes to, no less and no more.
  pub promised_exactly : (r : Returned) (t : List ℕ) → ((r ≡ returned s) × (t ≡ converted s)) ↔ Conversion s r t
  unfolding refused
  promised_exactly r t = ((λ (e, f). rw (e, f) comes_to_lem), go)
    where
      go : {r : Returned} {t : List ℕ} → Conversion s r t → Convert s r t
      go (rewrites p fs laid legal z w) =
          let e = (accepted_exactly s p fs).1 (laid, legal) in
          rw (rewritten_once s _ (inside p fs e) w) (converts_zero p fs e z)
      go (keeps p fs laid legal n) = keeps_other p fs ((accepted_exactly s p fs).1 (laid, legal)) n
      go (sends_back number place w) = let (fault, n, e) = refused_for s number place w in rw n at (refused_kept s e)

  -- "two results allowed for one input coincide"
  pub once : (r q : Returned) (t u : List ℕ) → Conversion s r t → Conversion s q u → (r ≡ q) × (t ≡ u)
  once r q t u a b =
      let (e, f) = (promised_exactly r t).1 a in
      let (g, h) = (promised_exactly q u).1 b in
      (e ∙ sym g, f ∙ sym h)
