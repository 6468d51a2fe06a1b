-- The contention domain, its count and its first place, where the shared links are one run.
use Prim.Native.Nat.{ℕ, zero, suc, ◌+◌, ◌-◌, ◌≤◌, ◌<◌, min}
use mathlib.Core.Path.{◌≡◌, refl, sym, ap, ◌∙◌}
use mathlib.Core.Bool.{Bool, true, false, false≢true, or-true}
use mathlib.Core.List.{List, [], ◌∷◌, ◌++◌}
use mathlib.Core.Logic.{◌↔◌}
use native.Mathlib.Omega.{arith}
use native.Mathlib.Decide.{dec_lt}
use borrow.Author.Tests.{eqb-true, eq-eqb}
use lib.Dec.{eqb}
use lib.ListN.{length, get_or, take, drop, length-take, length-drop, take-append-drop}
use lib.Seq.{length-take-le, get_or-take, get_or-drop, take-add, ext_get_or}
use Rattle.mesh.specs.Shared.{on, domain, OneRun, shared_count, first_from, first_shared}
use Rattle.mesh.proofs.Spans.{Span, Run}

-- A link is on a route if it stands at some place of it.
pub on_at : (b : List ℕ) (x : ℕ) → on b x ≡ true → (q : ℕ) × (q < length b) × (get_or b q 0 ≡ x)
unfolding on
on_at [] x e = absurd (false≢true e)
on_at (y ∷ b) x e = go (on_at b x) (eqb x y) refl
  where
    go : (on b x ≡ true → (q : ℕ) × (q < length b) × (get_or b q 0 ≡ x)) → (t : Bool) → eqb x y ≡ t → (q : ℕ) × (q < suc (length b)) × (get_or (y ∷ b) q 0 ≡ x)
    go more true f = (0, omega arith, sym (eqb-true x y f))
    go more false f = let r = more (rw f at e) in (suc r.0, omega arith, r.2)

pub at_on : (b : List ℕ) (q : ℕ) → q < length b → on b (get_or b q 0) ≡ true
unfolding on
at_on [] q h = absurd (omega arith)
at_on (y ∷ b) zero h = rw (eq-eqb y y refl)
at_on (y ∷ b) (suc q) h = rw (at_on b q (omega arith)) (or-true (eqb (get_or b q 0) y))

-- The links of `a` on `b` are the `n` from place `f` on.
abbrev Between : List ℕ → List ℕ → ℕ → ℕ → Type 0
Between a b f n = (p : ℕ) → p < length a → (on b (get_or a p 0) ≡ true) ↔ ((f ≤ p) × (p < f + n))

-- Then these are the domain, and the first is at `i + f` where the first place of `a` is `i`.
pub record Counted (i : ℕ) (a b : List ℕ) (f n : ℕ) : Type 0 where
  pub links : domain a b ≡ take n (drop f a)
  pub some : 0 < n → first_from i a b ≡ i + f
  pub none : n ≡ 0 → first_from i a b ≡ 0

-- A test that cannot pass fails.
off : (t : Bool) → (t ≡ true → ⊥) → t ≡ false
off true h = absurd (h refl)
off false h = refl

between : (i : ℕ) (a b : List ℕ) (f n : ℕ) → (0 < n → f + n ≤ length a) → Between a b f n → Counted i a b f n
unfolding domain first_from
between i [] b zero zero h w = record { links = refl; some = λ g. absurd (omega arith); none = λ g. refl }
between i [] b zero (suc n) h w = absurd (omega (arith, h (omega arith)))
between i [] b (suc f) zero h w = record { links = refl; some = λ g. absurd (omega arith); none = λ g. refl }
between i [] b (suc f) (suc n) h w = absurd (omega (arith, h (omega arith)))
between i (x ∷ a) b zero zero h w =
    let e : on b x ≡ false = off (on b x) (λ t. omega (arith, (w 0 (omega arith)).0 t)) in
    let r = between (suc i) a b 0 0 (λ g. absurd (omega arith)) (λ p l. let g = w (suc p) (omega arith) in (λ t. omega (arith, g.0 t), λ o. absurd (omega arith))) in
    record { links = rw e r.links; some = λ g. absurd (omega arith); none = λ g. rw e (r.none refl) }
between i (x ∷ a) b zero (suc n) h w =
    let e : on b x ≡ true = (w 0 (omega arith)).1 (omega arith) in
    let r = between (suc i) a b 0 n (λ g. omega (arith, h (omega arith))) (λ p l. let g = w (suc p) (omega arith) in (λ t. omega (arith, g.0 t), λ o. g.1 (omega arith))) in
    record { links = rw e (ap (λ (t : List ℕ). x ∷ t) r.links); some = λ g. rw e (omega arith); none = λ g. absurd (omega arith) }
between i (x ∷ a) b (suc f) n h w =
    let e : on b x ≡ false = off (on b x) (λ t. omega (arith, (w 0 (omega arith)).0 t)) in
    let r = between (suc i) a b f n (λ g. omega (arith, h g)) (λ p l. let g = w (suc p) (omega arith) in (λ t. omega (arith, g.0 t), λ o. g.1 (omega arith))) in
    record { links = rw e r.links; some = λ g. rw e (omega (arith, r.some g)); none = λ g. rw e (r.none g) }

-- A list that shares one run with itself has no link twice.
pub run_once : {a : List ℕ} {x : Span} → Run a a x → (p q : ℕ) → p < length a → q < length a → get_or a p 0 ≡ get_or a q 0 → p ≡ q
run_once r p q hp hq e = omega (arith, r.only p q hp hq e, r.only p p hp hp refl)

-- The run as the second route has it.
abbrev turned : Span → Span
turned x = record { count = x.count; first = x.first'; first' = x.first }

turn_run : {a b : List ℕ} {x : Span} → Run a b x → Run b a (turned x)
turn_run run =
    record {
      each = λ k h. let e = run.each k h in (e.1, e.0, sym e.2);
      only = λ p q hp hq e. omega (arith, run.only q p hq hp (sym e));
    }

module _ {a b : List ℕ} {x : Span} (run : Run a b x) where
  -- A place of `a` is in the run exactly if its link is on `b`.
  pub run_places : Between a b x.first x.count
  run_places p h = (
    λ e. let r = on_at b (get_or a p 0) e in let o = run.only p r.0 h r.1 (sym r.2) in (o.0, o.1),
    λ w. let e = run.each (p - x.first) (omega arith) in
        let i : x.first + (p - x.first) ≡ p = omega arith in
        rw (← i) (rw e.2 (at_on b (x.first' + (p - x.first)) e.1)),
  )

  pub run_inside : 0 < x.count → x.first + x.count ≤ length a
  run_inside h = omega (arith, run.each (x.count - 1) (omega arith))

  pub run_counted : Counted 0 a b x.first x.count
  run_counted = between 0 a b x.first x.count run_inside run_places

  run_length : length (take x.count (drop x.first a)) ≡ x.count
  run_length = simp (length-take, length-drop) (go (dec_lt 0 x.count))
    where
      go : Dec (0 < x.count) → min x.count (length a - x.first) ≡ x.count
      go (yes h) = omega (arith, run_inside h)
      go (no h) = omega arith

  run_split : a ≡ take x.first a ++ domain a b ++ drop (x.first + x.count) a
  run_split =
      sym (take-append-drop (x.first + x.count) a)
      ∙ ap (λ (t : List ℕ). t ++ drop (x.first + x.count) a) (take-add x.first x.count a ∙ ap (λ (t : List ℕ). take x.first a ++ t) (sym run_counted.links))

  pub run_count : shared_count a b ≡ x.count
  run_count = ap length run_counted.links ∙ run_length

-- The first place stands on the route, and its link is shared.
pub run_first : {a b : List ℕ} {x : Span} → Run a b x → 0 < shared_count a b
    → (first_shared a b ≡ x.first) × (first_shared a b < length a) × (on b (get_or a (first_shared a b) 0) ≡ true)
run_first {a} {b} {x} run some =
    let n : 0 < x.count = omega (arith, run_count run) in
    let e : first_shared a b ≡ x.first = omega (arith, (run_counted run).some n) in
    let l : x.first < length a = omega (arith, run_inside run n) in
    (e, omega arith, rw e ((run_places run x.first l).1 (omega arith)))

-- So the run begins where the first place says.
begin : {a b : List ℕ} {x : Span} → Run a b x → 0 < shared_count a b → first_shared a b ≡ length (take x.first a)
begin {a} {b} {x} run h = let f = run_first run h in f.0 ∙ sym (length-take-le x.first a (omega arith))

-- A run is one unbroken run on each route, in the same order on both.
pub run_one : {a b : List ℕ} {x : Span} → Run a b x → OneRun a b
run_one {a} {b} {x} run =
    record {
      before = take x.first a;
      after = drop (x.first + x.count) a;
      before' = take x.first' b;
      after' = drop (x.first' + x.count) b;
      on_first = run_split run;
      on_second = rw same at (run_split back);
      same_order = same;
      begins = λ h. (begin run h, begin back (rw (← same) at h));
    }
  where
    back : Run b a (turned x)
    back = turn_run run

    link_same : (i : ℕ) → i < x.count → get_or (take x.count (drop x.first' b)) i 0 ≡ get_or (take x.count (drop x.first a)) i 0
    link_same i h = simp (get_or-take, get_or-drop) (sym (run.each i h).2)

    same : domain b a ≡ domain a b
    same =
        (run_counted back).links
        ∙ ext_get_or 0 _ _ (run_length back ∙ sym (run_length run)) (λ i h. link_same i (rw (run_length back) at h))
        ∙ sym (run_counted run).links
