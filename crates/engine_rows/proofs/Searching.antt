-- A search for the highest priority among the places that pass a test, as `min_by_key` runs it behind `filter`.
use Prim.Native.Nat.{ℕ, suc, ◌+◌, ◌≤◌, ◌<◌}
use native.Mathlib.Omega.{arith}
use native.Mathlib.Nat.{le_refl}
use native.Mathlib.Decide.{dec_lt}
use mathlib.Core.Path.{◌≡◌, refl, sym, ap, ap₂, subst, ◌∙◌}
use mathlib.Core.Bool.{Bool, true, false, cond, false≢true}
use mathlib.Core.List.{List, [], ◌∷◌}
use lib.Dec.{ltb}
use lib.ListN.{length, get_or, take}
use lib.Seq.{length-take-le, get_or-take}
use borrow.Author.Count.{below_more}
use borrow.Author.Tests.{lt-ltb, le-ltb, ltb-true, ltb-false}
use denote.Ref.{Bor}
use denote.Param.Members.{Mut}
use Rattle.std.specs.Prelude.{Option, Some, None}
use Rattle.std.specs.Option.{option_map}
use Rattle.std.specs.Ordering.{nat_cmp, min_by_ordering, MatchOrdering}
use Rattle.std.specs.declared.cmp.Ordering.{Ordering}
use Rattle.std.specs.declared.cmp.Ordering.TheVariants.{Less, Equal, Greater}
use Rattle.std.specs.List.{All, enumerate_from, filter, fold, reduce, FoldsTo}
use Rattle.std.specs.Fn.{CalledAt, TakesAt}
use Rattle.std.specs.Iterator.{KeyTurn, CallableInMinByKey, PicksMinByKey}
use Rattle.std.proofs.lemmas.Cmp.{ranked}
use Rattle.std.proofs.lemmas.List.{get_or_default}
use Rattle.std.proofs.lemmas.List.FromFn.{length-enumerate_from, get_or-enumerate_from}
use Rattle.std.proofs.lemmas.Iterator.{YieldsList}
use Rattle.std.proofs.lemmas.Iterator.Consumers.{reduce_by_from_yields_List, YieldsList-turn}
use Rattle.std.proofs.lemmas.Fn.{serves_by}
use Rattle.engine_rows.specs.Search.{Highest, HighestNamed}

-- ---- one more place
pub highest_none : {passes : ℕ → Bool} {priority : ℕ → ℕ} → Highest passes priority 0 None
highest_none = record { found = λ b e. cc; least = λ b e. cc; first = λ b e. cc; none = λ e k h. absurd (omega arith) }

module _ {passes : ℕ → Bool} {priority : ℕ → ℕ} {n : ℕ} where
  -- the first that passes
  pub highest_new : Highest passes priority n None → passes n ≡ true → Highest passes priority (n + 1) (Some n)
  highest_new w t = record {
    found = λ b e. let s : b ≡ n = cc in rw s (omega arith, t);
    least = λ b e. let s : b ≡ n = cc in below_more _ n (λ k h q. absurd (w.none refl k h q)) (λ q. rw s (le_refl _));
    first = λ b e k h q. let s : b ≡ n = cc in absurd (w.none refl k (omega arith) q);
    none = λ e. cc;
  }

  pub highest_skip : {best : Option ℕ} → Highest passes priority n best → passes n ≡ false → Highest passes priority (n + 1) best
  highest_skip w f = record {
    found = λ b e. let o = w.found b e in (omega (arith, o), o.1);
    least = λ b e. below_more _ n (w.least b e) (λ q. absurd (false≢true (sym f ∙ q)));
    first = w.first;
    none = λ e. below_more _ n (w.none e) (λ q. false≢true (sym f ∙ q));
  }

  -- one of higher priority than the best so far, or not
  pub highest_over : {b : ℕ} → Highest passes priority n (Some b) → passes n ≡ true → priority n < priority b → Highest passes priority (n + 1) (Some n)
  highest_over {b} w t l = record {
    found = λ c e. let s : c ≡ n = cc in rw s (omega arith, t);
    least = λ c e. let s : c ≡ n = cc in rw s (below_more _ n (λ k h q. omega (arith, w.least b refl k h q)) (λ q. le_refl _));
    first = λ c e k h q. let s : c ≡ n = cc in rw s (omega (arith, w.least b refl k (omega arith) q));
    none = λ e. cc;
  }

  pub highest_under : {b : ℕ} → Highest passes priority n (Some b) → priority b ≤ priority n → Highest passes priority (n + 1) (Some b)
  highest_under {b} w l = record {
    found = λ c e. let o = w.found c e in (omega (arith, o), o.1);
    least = λ c e. let s : c ≡ b = cc in below_more _ n (w.least c e) (λ q. rw s l);
    first = w.first;
    none = λ e. cc;
  }

-- of the one found so far and the next
abbrev pub lesser : {B : Type 0} → (B → ℕ) → B → B → B
lesser key b y = cond (ltb (key y) (key b)) y b

-- the one of the least key in a list, first come
abbrev pub least : {B : Type 0} → (B → ℕ) → List B → Option B
least key items = reduce (lesser key) items

-- ---- the one of the least key among those that pass
module _ {B : Type 0} (test : B → Bool) (key : B → ℕ) (at : ℕ → B) where
  -- `items` stand at the places from n on
  abbrev Stand : List B → ℕ → Type 0
  Stand items n = (k : ℕ) (d : B) → k < length items → get_or items k d ≡ at (n + k)

  stand_next : (x : B) (items : List B) (n : ℕ) → Stand (x ∷ items) n → Stand items (n + 1)
  stand_next x items n s k d h = s (suc k) d (omega arith) ∙ ap at (omega arith)

  abbrev Best : ℕ → Option ℕ → Type 0
  Best = Highest (λ k. test (at k)) (λ k. key (at k))

  -- the best place among the first n, and what stands there
  pub record Chosen (n : ℕ) (found : Option B) : Type 0 where
    pub place : Option ℕ
    pub highest : Best n place
    pub there : option_map at place ≡ found

  chosen_from : (items : List B) (n b all : ℕ) → n + length items ≡ all → Stand items n → Best n (Some b) → Chosen all (Some (fold (lesser key) (at b) (filter test items)))
  chosen_from [] n b all a s w = let e : n ≡ all = omega arith in record { place = Some b; highest = rw e at w; there = refl }
  chosen_from (x ∷ items) n b all a s w = go (λ c v. chosen_from items (n + 1) c all (omega arith) (stand_next x items n s) v) (test x) refl (ltb (key x) (key (at b))) refl
    where
      here : x ≡ at n
      here = s 0 x (omega arith) ∙ ap at (omega arith)

      go : ((c : ℕ) → Best (n + 1) (Some c) → Chosen all (Some (fold (lesser key) (at c) (filter test items)))) → (t : Bool) → test x ≡ t → (l : Bool) → ltb (key x) (key (at b)) ≡ l
          → Chosen all (Some (fold (lesser key) (at b) (filter test (x ∷ items))))
      go rest false t l e = rw t (rest b (highest_skip w (rw here at t)))
      go rest true t true e =
          let kept : lesser key (at b) x ≡ at n = rw e here in
          rw t (subst (λ (y : B). Chosen all (Some (fold (lesser key) y (filter test items)))) (sym kept) (rest n (highest_over w (rw here at t) (ltb-true _ _ (rw here at e)))))
      go rest true t false e =
          let kept : lesser key (at b) x ≡ at b = rw e refl in
          rw t (subst (λ (y : B). Chosen all (Some (fold (lesser key) y (filter test items)))) (sym kept) (rest b (highest_under w (ltb-false _ _ (rw here at e)))))

  chosen_first : (items : List B) (n all : ℕ) → n + length items ≡ all → Stand items n → Best n None → Chosen all (least key (filter test items))
  chosen_first [] n all a s w = let e : n ≡ all = omega arith in record { place = None; highest = rw e at w; there = refl }
  chosen_first (x ∷ items) n all a s w =
      go (λ v. chosen_first items (n + 1) all (omega arith) (stand_next x items n s) v) (λ v. chosen_from items (n + 1) n all (omega arith) (stand_next x items n s) v) (test x) refl
    where
      here : x ≡ at n
      here = s 0 x (omega arith) ∙ ap at (omega arith)

      go : (Best (n + 1) None → Chosen all (least key (filter test items))) → (Best (n + 1) (Some n) → Chosen all (Some (fold (lesser key) (at n) (filter test items)))) → (t : Bool) → test x ≡ t
          → Chosen all (least key (filter test (x ∷ items)))
      go later now false t = rw t (later (highest_skip w (rw here at t)))
      go later now true t = rw (t, here) (now (highest_new w (rw here at t)))

  pub chosen : (items : List B) → Stand items 0 → Chosen (length items) (least key (filter test items))
  chosen items s = chosen_first items 0 (length items) (omega arith) s highest_none

-- ---- what `min_by_key` says, where a closure computes a key of each item
module _ {A B F : Type 0} (v : A → B) (g : Mut F (Bor A × Unit {0}) ℕ) (key : B → ℕ) (f : F) (k : (x : A) (b : ℕ) (q : F) → CalledAt g f x b q → (q ≡ f) × (b ≡ key (v x))) where
  -- the one kept of two, and its key
  picked : A → A → A
  picked b x = min_by_ordering (nat_cmp (key (v b)) (key (v x))) b x

  picked_is : (b x : A) → v (picked b x) ≡ lesser key (v b) (v x)
  unfolding picked
  picked_is b x = go (nat_cmp (key (v b)) (key (v x))) (ranked (key (v b)) (key (v x)) _ refl)
    where
      go : (o : Ordering) → MatchOrdering o (key (v b) < key (v x)) (key (v b) ≡ key (v x)) (key (v x) < key (v b)) → v (min_by_ordering o b x) ≡ lesser key (v b) (v x)
      go Less l = rw (le-ltb (key (v x)) (key (v b)) (omega arith)) refl
      go Equal l = rw (le-ltb (key (v x)) (key (v b)) (omega arith)) refl
      go Greater l = rw (lt-ltb (key (v x)) (key (v b)) l) refl

  picked_key : (o : Ordering) (b x : A) → min_by_ordering o (key (v b)) (key (v x)) ≡ key (v (min_by_ordering o b x))
  picked_key Less b x = refl
  picked_key Equal b x = refl
  picked_key Greater b x = refl

  folds_picked : (xs : List A) (p q : (F × ℕ) × A) → p.0.0 ≡ f → p.0.1 ≡ key (v p.1) → FoldsTo (KeyTurn min_by_ordering min_by_ordering g nat_cmp) p xs q → FoldsTo (λ b x c. c ≡ picked b x) p.1 xs q.1
  unfolding picked
  folds_picked [] p q a e c = ap (λ w. w.1) c
  folds_picked (x ∷ xs) p q a e c =
      let m = k x c.1.0 c.0.0.0 (subst (λ w. CalledAt g w x c.1.0 c.0.0.0) a c.1.2) in
      let o : c.1.1 ≡ nat_cmp (key (v p.1)) (key (v x)) = cc in
      let at : c.0.1 ≡ min_by_ordering (nat_cmp (key (v p.1)) (key (v x))) p.1 x = cc in
      (c.0.1, at, folds_picked xs c.0 q m.0 (c.1.4 ∙ ap₂ (min_by_ordering c.1.1) e m.1 ∙ picked_key c.1.1 p.1 x ∙ ap (λ (y : A). key (v y)) (sym c.1.5)) c.2)

  pub least_is : {S : Type 0} {steps : S → Option A → S → Type 0} {all : List B} (s : S) (r : Option A) → PicksMinByKey steps g nat_cmp s f r → YieldsList steps v s all → option_map v r ≡ least key all
  least_is s None h e = reduce_by_from_yields_List picked (lesser key) s None picked_is h e
  least_is s (Some y) h e = reduce_by_from_yields_List picked (lesser key) s (Some y) picked_is (h.0, h.1, h.5, folds_picked h.1 ((h.3, h.2), h.0) (h.4, y) (k h.0 h.2 h.3 h.6).0 (k h.0 h.2 h.3 h.6).1 h.7) e

  -- it may be called at every item, where the closure may be called at each of which P holds, and P holds of all
  pub least_may : {S : Type 0} {steps : S → Option A → S → Type 0} (P : B → Type 0) (all : List B) (s : S) → YieldsList steps v s all → All P all → ((x : A) → P (v x) → TakesAt g f x) → CallableInMinByKey steps g nat_cmp s f
  least_may P [] s e a may = λ x t w. absurd (e.runs x t w)
  least_may {S} {steps} P (y ∷ ys) s e a may = λ x t w.
      let o = e.runs.1 x t w in
      let later : YieldsList steps v t ys = record { runs = o.1 } in
      let here : P (v x) = subst P (sym o.0) (a 0 y (omega arith)) in (
        may x here,
        λ b q c. serves_by (KeyTurn min_by_ordering min_by_ordering g nat_cmp) (λ xs p. p.0.0 ≡ f)
            (λ xs p z r j turn. (k z turn.0 r.0.0 (subst (λ h. CalledAt g h z turn.0 r.0.0) j turn.2)).0)
            steps (λ p z. TakesAt g p.0.0 z) t ((q, b), x) (k x b q c).0
            (λ xs u p z n l w' j.
            let m = YieldsList-turn later xs u l (Some z) n z refl w' in
            subst (λ h. TakesAt g h z) (sym j) (may z (subst P (sym m.1) (a (suc (length xs)) (v z) (omega (arith, m.0)))))),
      )

-- ---- the place of the one found, where each item has its place beside it
pub chosen_place : {B : Type 0} (test : B → Bool) (key : B → ℕ) (xs : List B) (d : B) (found : Option ℕ)
    → found ≡ option_map (λ p. p.0) (least (λ (p : ℕ × B). key p.1) (filter (λ p. test p.1) (enumerate_from 0 xs)))
    → Highest (λ k. test (get_or xs k d)) (λ k. key (get_or xs k d)) (length xs) found
chosen_place {B} test key xs d found e =
    let at : ℕ → ℕ × B = λ k. (k, get_or xs k d) in
    let w = chosen (λ (p : ℕ × B). test p.1) (λ p. key p.1) at (enumerate_from 0 xs) stands in
    rw (e ∙ ap (option_map (λ p. p.0)) (sym w.there) ∙ placed w.place, ← length-enumerate_from 0 xs) w.highest
  where
    placed : (o : Option ℕ) → option_map {U = ℕ} (λ (p : ℕ × B). p.0) (option_map (λ k. (k, get_or xs k d)) o) ≡ o
    placed None = refl
    placed (Some k) = refl

    pair : {i j : ℕ} {x y : B} → i ≡ j → x ≡ y → ◌≡◌ {A = ℕ × B} (i, x) (j, y)
    pair e f = λ t. (e t, f t)

    stands : (k : ℕ) (c : ℕ × B) → k < length (enumerate_from 0 xs) → ◌≡◌ {A = ℕ × B} (get_or (enumerate_from 0 xs) k c) (0 + k, get_or xs (0 + k) d)
    stands k c h =
        let l : k < length xs = omega (arith, length-enumerate_from 0 xs) in
        let z : k ≡ 0 + k = omega arith in
        get_or-enumerate_from 0 xs k c l ∙ pair refl (get_or_default xs k c.1 d l ∙ ap (λ (m : ℕ). get_or xs m d) z)

-- ---- what a list names there
pub chosen_named : (test : ℕ → Bool) (key : ℕ → ℕ) (cells : List ℕ) (n : ℕ) (found : Option ℕ) → n ≤ length cells
    → found ≡ least key (filter test (take n cells)) → HighestNamed test key cells n found
chosen_named test key cells n found h e =
    let w = chosen test key (λ m. get_or cells m 0) (take n cells) stands in
    record { place = w.place; highest = rw (length-take-le n cells h) at w.highest; there = e ∙ sym w.there }
  where
    stands : (k d : ℕ) → k < length (take n cells) → get_or (take n cells) k d ≡ get_or cells (0 + k) 0
    stands k d l =
        let i : k < n = omega (arith, length-take-le n cells h) in
        let z : k ≡ 0 + k = omega arith in
        get_or-take n cells k d i ∙ get_or_default cells k d 0 (omega arith) ∙ ap (λ (m : ℕ). get_or cells m 0) z

-- ---- two answers to one search are one
module _ {passes : ℕ → Bool} {priority : ℕ → ℕ} {n : ℕ} where
  no_earlier : (a b : ℕ) → Highest passes priority n (Some a) → Highest passes priority n (Some b) → a < b → ⊥
  no_earlier a b u v l =
      let p = u.found a refl in
      let q = v.found b refl in
      omega (arith, v.first b refl a l p.1, u.least a refl b q.0 q.1)

  pub highest_once : (a b : Option ℕ) → Highest passes priority n a → Highest passes priority n b → a ≡ b
  highest_once None None u v = refl
  highest_once None (Some b) u v = let q = v.found b refl in absurd (u.none refl b q.0 q.1)
  highest_once (Some a) None u v = let p = u.found a refl in absurd (v.none refl a p.0 p.1)
  highest_once (Some a) (Some b) u v = go (dec_lt a b) (dec_lt b a)
    where
      go : Dec (a < b) → Dec (b < a) → ◌≡◌ {A = Option ℕ} (Some a) (Some b)
      go (yes l) d = absurd (no_earlier a b u v l)
      go (no m) (yes l) = absurd (no_earlier b a v u l)
      go (no m) (no o) = ap Some (omega arith)

pub named_once : {passes : ℕ → Bool} {priority : ℕ → ℕ} {cells : List ℕ} {n : ℕ} (a b : Option ℕ) → HighestNamed passes priority cells n a → HighestNamed passes priority cells n b → a ≡ b
named_once {cells = cells} a b u v = u.there ∙ ap (option_map (λ m. get_or cells m 0)) (highest_once u.place v.place u.highest v.highest) ∙ sym v.there
