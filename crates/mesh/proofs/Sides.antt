-- Where `i` and `k` share no link, the places of the first links that `j` shares with each tell which come before the others.
use Prim.Native.Nat.{ℕ, ◌+◌, ◌≤◌, ◌<◌}
use mathlib.Core.Path.{◌≡◌, sym, ◌∙◌}
use mathlib.Core.Bool.{true}
use mathlib.Core.List.{List}
use native.Mathlib.Omega.{arith}
use native.Mathlib.Decide.{dec_lt}
use lib.ListN.{length, get_or}
use Rattle.mesh.specs.Shared.{on, shared_count, first_shared, AllBefore, Sides}
use Rattle.mesh.proofs.Spans.{Span, Run}
use Rattle.mesh.proofs.Counts.{on_at, run_places, run_first, run_count}

-- Routes that share no link have none on both.
none_on_both : {a b : List ℕ} {x : Span} → Run a b x → shared_count a b ≡ 0 → (z : ℕ) → on a z ≡ true → on b z ≡ true → ⊥
none_on_both {a} {b} run none z ea eb =
    let (p, hp, fp) = on_at a z ea in
    let (q, hq, fq) = on_at b z eb in
    omega (arith, run_count run, run.only p q hp hq (fp ∙ sym fq))

-- Two runs on `j` that have no link in common: the one that begins first is before the other.
module _ {j k i : List ℕ} {x y : Span} (with_k : Run j k x) (with_i : Run j i y) (apart : (z : ℕ) → on k z ≡ true → on i z ≡ true → ⊥) where
  first_before : x.first < y.first → AllBefore j k i
  first_before h p q hp hq ek ei = go (dec_lt y.first (x.first + x.count))
    where
      in_k : (x.first ≤ p) × (p < x.first + x.count)
      in_k = (run_places with_k p hp).0 ek

      in_i : (y.first ≤ q) × (q < y.first + y.count)
      in_i = (run_places with_i q hq).0 ei

      go : Dec (y.first < x.first + x.count) → p < q
      go (yes l) =
          let m : y.first < length j = omega (arith, in_i) in
          absurd (apart (get_or j y.first 0) ((run_places with_k y.first m).1 (omega arith)) ((run_places with_i y.first m).1 (omega (arith, in_i))))
      go (no l) = omega (arith, in_k, in_i)

-- So each of the two orders of the first places says one of the two orders of all links.
pub run_sides : {i j k : List ℕ} {x y z : Span} → Run j k x → Run j i y → Run i k z
    → 0 < shared_count j k → 0 < shared_count j i → shared_count i k ≡ 0 → Sides i j k
run_sides {i} {j} {k} {x} {y} with_k with_i between some_k some_i none =
    record {
      before = (λ h. first_before with_k with_i (λ l ek ei. apart l ei ek) (omega (arith, at_k, at_i)), λ all. all (first_shared j k) (first_shared j i) at_k.1 at_i.1 at_k.2 at_i.2);
      after = (λ h. first_before with_i with_k apart (other h (dec_lt y.first x.first)), λ all. let l = all (first_shared j i) (first_shared j k) at_i.1 at_k.1 at_i.2 at_k.2 in omega arith);
    }
  where
    at_k : (first_shared j k ≡ x.first) × (first_shared j k < length j) × (on k (get_or j (first_shared j k) 0) ≡ true)
    at_k = run_first with_k some_k

    at_i : (first_shared j i ≡ y.first) × (first_shared j i < length j) × (on i (get_or j (first_shared j i) 0) ≡ true)
    at_i = run_first with_i some_i

    apart : (l : ℕ) → on i l ≡ true → on k l ≡ true → ⊥
    apart = none_on_both between none

    other : first_shared j i ≤ first_shared j k → Dec (y.first < x.first) → y.first < x.first
    other h (yes l) = l
    other h (no l) =
        let e : first_shared j i ≡ first_shared j k = omega (arith, at_k, at_i) in
        absurd (apart (get_or j (first_shared j k) 0) (rw e at at_i.2) at_k.2)
