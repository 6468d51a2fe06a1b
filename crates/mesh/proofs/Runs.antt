-- One unbroken run of shared links: on two straight lines of links, and on two walks that are made of such lines.
use Prim.Native.Nat.{ℕ, zero, suc, ◌+◌, ◌-◌, ◌≤◌, ◌<◌}
use mathlib.Core.Path.{◌≡◌, refl, sym, ◌∙◌}
use mathlib.Core.List.{List, ◌++◌}
use mathlib.Core.Logic.{◌⊎◌, inl, inr, ◌↔◌}
use native.Mathlib.Omega.{arith}
use native.Mathlib.Decide.{dec_lt}
use lib.ListN.{length, get_or, length-append, get_or-append}
use Rattle.mesh.specs.Mesh.{hops}
use Rattle.mesh.proofs.Spans.{Span, Run, line_span, begins, join_span}
use Rattle.mesh.proofs.Places.{length_hops, get_d_hops, get_d_back}

-- A place of a joined list stands in its front or in its back.
data Part (xs ys : List ℕ) (p : ℕ) : Type 0 where
  front : p < length xs → get_or (xs ++ ys) p 0 ≡ get_or xs p 0 → Part xs ys p
  back : (k : ℕ) → p ≡ length xs + k → k < length ys → get_or (xs ++ ys) p 0 ≡ get_or ys k 0 → Part xs ys p

part : (xs ys : List ℕ) (p : ℕ) → p < length (xs ++ ys) → Part xs ys p
part xs ys p h = go (dec_lt p (length xs))
  where
    go : Dec (p < length xs) → Part xs ys p
    go (yes l) = front l (get_or-append xs ys 0 p l)
    go (no g) =
        let e : p ≡ length xs + (p - length xs) = omega arith in
        back (p - length xs) e (omega (arith, length-append xs ys)) (get_d_back xs ys p (p - length xs) e)

-- Each link's number is at least `lo` and below `hi`.
abbrev pub Within : ℕ → ℕ → List ℕ → Type 0
Within lo hi xs = (p : ℕ) → p < length xs → (lo ≤ get_or xs p 0) × (get_or xs p 0 < hi)

within_hops : (lo hi : ℕ) (at : ℕ → ℕ) (n : ℕ) → ((k : ℕ) → k < n → (lo ≤ at k) × (at k < hi)) → Within lo hi (hops at n)
within_hops lo hi at n f p h = let l : p < n = rw length_hops at h in rw (get_d_hops at n p l) (f p l)

within_append : (lo t hi : ℕ) (xs ys : List ℕ) → (lo ≤ t) × (t ≤ hi) → Within lo t xs → Within t hi ys → Within lo hi (xs ++ ys)
within_append lo t hi xs ys o f g p h = go (part xs ys p h)
  where
    go : Part xs ys p → (lo ≤ get_or (xs ++ ys) p 0) × (get_or (xs ++ ys) p 0 < hi)
    go (front l e) = omega (arith, f p l)
    go (back k e l e') = omega (arith, g k l)

-- A run of two walks over links `lo` to below `hi`.
-- `S`: the walks start at one node. `E`: they end at one node. A run then begins, or ends, where both walks do.
pub record Stretch (lo hi : ℕ) (S E : Type 0) (a b : List ℕ) (x : Span) : Type 0 where
  pub run : Run a b x
  pub within : Within lo hi a × Within lo hi b
  pub starts : 0 < x.count → S → (x.first ≡ 0) × (x.first' ≡ 0)
  pub ends : 0 < x.count → E → (x.first + x.count ≡ length a) × (x.first' + x.count ≡ length b)
  pub whole : S → E → (x.count ≡ length a) × (x.count ≡ length b)

pub meeting : {lo hi : ℕ} {S S' E E' : Type 0} {a b : List ℕ} {x : Span} → (S' → S) → (E' → E)
    → Stretch lo hi S E a b x → Stretch lo hi S' E' a b x
meeting f g s =
    record {
      run = s.run;
      within = s.within;
      starts = λ h x. s.starts h (f x);
      ends = λ h y. s.ends h (g y);
      whole = λ x y. s.whole (f x) (g y);
    }

-- Two lines of links on one axis.
module _
    {S E : Type 0}
    (lo hi : ℕ)
    (at at' : ℕ → ℕ)
    (l s l' t : ℕ)
    (in_a : (k : ℕ) → k < l → (lo ≤ at k) × (at k < hi))
    (in_b : (k : ℕ) → k < l' → (lo ≤ at' k) × (at' k < hi))
    (axis : (k k' : ℕ) → k < l → k' < l' → (at k ≡ at' k') ↔ (k + s ≡ k' + t))
    (start : S → 0 < l → 0 < l' → s ≡ t)
    (end : E → 0 < l → 0 < l' → l + s ≡ l' + t)
    (equal : S → E → l ≡ l')
  where
    line_run : Run (hops at l) (hops at' l') (line_span l s l' t)
    line_run =
        record {
          each = λ k h.
              let u : t - s + k < l = omega arith in
              let v : s - t + k < l' = omega arith in (
                rw length_hops u,
                rw length_hops v,
                get_d_hops at l (t - s + k) u ∙ (axis (t - s + k) (s - t + k) u v).1 (omega arith) ∙ sym (get_d_hops at' l' (s - t + k) v),
              );
          only = λ p q h h' e.
              let u : p < l = rw length_hops at h in
              let v : q < l' = rw length_hops at h' in
              let f = (axis p q u v).0 (sym (get_d_hops at l p u) ∙ e ∙ get_d_hops at' l' q v) in
              omega arith;
        }

    pub line : Stretch lo hi S E (hops at l) (hops at' l') (line_span l s l' t)
    line =
        record {
          run = line_run;
          within = (within_hops lo hi at l in_a, within_hops lo hi at' l' in_b);
          starts = λ h x. omega (arith, start x (omega arith) (omega arith));
          ends = λ h y. rw (length_hops at l, length_hops at' l') (omega (arith, end y (omega arith) (omega arith)));
          whole = λ x y. rw (length_hops at l, length_hops at' l') (go x (equal x y) (dec_lt 0 l));
        }
      where
        go : S → l ≡ l' → Dec (0 < l) → ((line_span l s l' t).count ≡ l) × ((line_span l s l' t).count ≡ l')
        go x e (yes h) = omega (arith, start x h (omega arith))
        go x e (no h) = omega arith

begins_cases : {C : Type 0} (n p q x y : ℕ)
    → (n ≡ 0 → begins n p x ≡ x → begins n q y ≡ y → C)
    → (0 < n → begins n p x ≡ p → begins n q y ≡ q → C)
    → C
begins_cases zero p q x y none some = none refl refl refl
begins_cases (suc n) p q x y none some = some (omega arith) refl refl

-- Two stretches make one if walks that meet before and after the seam meet at the seam.
module _
    {lo t hi m m' : ℕ}
    {S M E : Type 0}
    {a a' b b' : List ℕ}
    {x y : Span}
    (order : (lo ≤ t) × (t ≤ hi))
    (long : length a ≡ m)
    (long' : length b ≡ m')
    (s : Stretch lo t S M a b x)
    (s' : Stretch t hi M E a' b' y)
    (meet : (S ⊎ (0 < x.count)) → (E ⊎ (0 < y.count)) → M)
  where
    abbrev z : Span
    z = join_span m m' x y

    by_first : {C : Type 0}
        → (x.count ≡ 0 → z.first ≡ m + y.first → z.first' ≡ m' + y.first' → C)
        → (0 < x.count → z.first ≡ x.first → z.first' ≡ x.first' → C)
        → C
    by_first = begins_cases x.count x.first x.first' (m + y.first) (m' + y.first')

    touch : 0 < x.count → 0 < y.count
        → (x.first + x.count ≡ length a) × (x.first' + x.count ≡ length b) × (y.first ≡ 0) × (y.first' ≡ 0)
    touch h h' =
        let mid : M = meet (inr h) (inr h') in
        ((s.ends h mid).0, (s.ends h mid).1, (s'.starts h' mid).0, (s'.starts h' mid).1)

    lengths : (length (a ++ a') ≡ length a + length a') × (length (b ++ b') ≡ length b + length b')
    lengths = (length-append a a', length-append b b')

    abbrev Inside : ℕ → ℕ → Type 0
    Inside i j = (z.first ≤ i) × (i < z.first + z.count) × (z.first' + i ≡ z.first + j)

    only_joined : (i j : ℕ) → i < length (a ++ a') → j < length (b ++ b') → get_or (a ++ a') i 0 ≡ get_or (b ++ b') j 0 → Inside i j
    only_joined i j hi hj e = go (part a a' i hi) (part b b' j hj)
      where
        go : Part a a' i → Part b b' j → Inside i j
        go (front h f) (front k g) =
            let o = s.run.only i j h k (sym f ∙ e ∙ g) in
            by_first (λ n u v. absurd (omega arith)) (λ n u v. omega arith)
        go (front h f) (back l k h' g) = absurd (omega (arith, s.within.0 i h, s'.within.1 l h'))
        go (back l k h f) (front h' g) = absurd (omega (arith, s'.within.0 l h, s.within.1 j h'))
        go (back l k h f) (back l' k' h' g) =
            let o = s'.run.only l l' h h' (sym f ∙ e ∙ g) in
            by_first (λ n u v. omega arith) (λ n u v. omega (arith, touch n (omega arith)))

    abbrev Both : ℕ → ℕ → Type 0
    Both i j = (i < length (a ++ a')) × (j < length (b ++ b')) × (get_or (a ++ a') i 0 ≡ get_or (b ++ b') j 0)

    each_joined : (k : ℕ) → k < z.count → Both (z.first + k) (z.first' + k)
    each_joined k h = go (dec_lt k x.count)
      where
        early : (i j : ℕ) → i ≡ x.first + k → j ≡ x.first' + k → k < x.count → Both i j
        early i j u v l =
            let f = s.run.each k l in
            rw (u, v)
            (omega (arith, lengths), omega (arith, lengths), get_or-append a a' 0 (x.first + k) f.0 ∙ f.2 ∙ sym (get_or-append b b' 0 (x.first' + k) f.1))

        late : (i j n : ℕ) → i ≡ length a + (y.first + n) → j ≡ length b + (y.first' + n) → n < y.count → Both i j
        late i j n u v l =
            let f = s'.run.each n l in
            (omega (arith, lengths), omega (arith, lengths), get_d_back a a' i (y.first + n) u ∙ f.2 ∙ sym (get_d_back b b' j (y.first' + n) v))

        go : Dec (k < x.count) → Both (z.first + k) (z.first' + k)
        go (yes l) =
            by_first (λ n u v. absurd (omega arith)) (λ n u v. early (z.first + k) (z.first' + k) (omega arith) (omega arith) l)
        go (no l) =
            by_first
            (λ n u v. late (z.first + k) (z.first' + k) k (omega arith) (omega arith) (omega arith))
            (λ n u v. let w = touch n (omega arith) in late (z.first + k) (z.first' + k) (k - x.count) (omega arith) (omega arith) (omega arith))

    pub join : Stretch lo hi S E (a ++ a') (b ++ b') (join_span m m' x y)
    join =
        record {
          run = record { each = each_joined; only = only_joined };
          within = (within_append lo t hi a a' order s.within.0 s'.within.0, within_append lo t hi b b' order s.within.1 s'.within.1);
          starts =
              λ h from. by_first
              (λ n u v. let mid = meet (inl from) (inr (omega arith)) in omega (arith, s.whole from mid, s'.starts (omega arith) mid))
              (λ n u v. omega (arith, s.starts n from));
          ends =
              λ h to. by_first
              (λ n u v. omega (arith, lengths, s'.ends (omega arith) to))
              (λ n u v. let mid = meet (inr n) (inl to) in omega (arith, lengths, s.ends n mid, s'.whole mid to));
          whole = λ from to. let mid = meet (inl from) (inl to) in omega (arith, lengths, s.whole from mid, s'.whole mid to);
        }
