-- The loop that lists the places that pass a test, what such a list says, and the loop that fills an array along it.
use Prim.Native.Nat.{ℕ, zero, suc, ◌+◌, ◌≤◌, ◌<◌}
use native.Mathlib.Omega.{arith}
use native.Mathlib.Numerals.{add-one}
use native.Mathlib.Decide.{ℕ_discrete}
use mathlib.Core.Path.{◌≡◌, refl, sym, ap, ap₂, ◌∙◌}
use mathlib.Core.Bool.{Bool, true, false, cond, false≢true}
use mathlib.Core.List.{List, [], ◌∷◌, ◌++◌, map, map-append, append-nil}
use lib.ListN.{length, get_or, take, set, replicate, length-append, length-set, length-replicate, get_or-replicate, get_or-append}
use lib.Seq.{length-take-le, take-suc, take-suc-set, get_or-take, get_or-append_seam}
use Rattle.plan_values.specs.declared.Flow.{Flow}
use Rattle.plan_values.specs.Values.{blank_flow}
use Rattle.plan.specs.Legal.{flow}
use Rattle.recurrence.specs.Sums.{sum_over}
use Rattle.std.proofs.lemmas.List.Sums.{sum_by_push}
use Rattle.model.specs.Interference.{keep, those}
use Rattle.engine_terms.specs.Loads.{sum_to}
use Rattle.engine_rows.specs.Filled.{Blank}
use Rattle.engine_rows.specs.Places.{places, Listed, Dealt}
use Rattle.engine_rows.proofs.Placing.{blank_none, blank_room, blank_more}

-- ---- the loop that lists them
pub record Naming (test : ℕ → Bool) (count : ℕ) (cells : List ℕ) (n k : ℕ) : Type 0 where
  pub few : count ≤ 64
  pub room : length cells ≡ 64
  pub within : k ≤ count
  pub below : n ≤ k
  pub held : take n cells ≡ places test k
  pub empty : Blank 0 cells n

pub naming_none : (test : ℕ → Bool) (count : ℕ) (cells : List ℕ) → count ≤ 64 → cells ≡ replicate 64 0 → Naming test count cells 0 0
unfolding places
naming_none test count cells h e = record { few = h; room = blank_room 0 e; within = omega arith; below = omega arith; held = refl; empty = blank_none 0 e }

next_places : (test : ℕ → Bool) (k : ℕ) {b : Bool} → test k ≡ b → places test (k + 1) ≡ places test k ++ cond b (k ∷ []) []
unfolding places
next_places test k e = ap (places test) (add-one k) ∙ ap (λ (c : Bool). places test k ++ cond c (k ∷ []) []) e

module _ {test : ℕ → Bool} {count : ℕ} {cells : List ℕ} {n k : ℕ} (w : Naming test count cells n k) where
  pub naming_more : k < count → test k ≡ true → {x : ℕ} → x ≡ k → Naming test count (set cells n x) (n + 1) (k + 1)
  naming_more h t {x} e = record {
    few = w.few;
    room = rw length-set w.room;
    within = omega arith;
    below = omega (arith, w.below);
    held =
        ap (λ (m : ℕ). take m (set cells n x)) (add-one n)
        ∙ take-suc-set cells n x (omega (arith, w.below, w.few, w.room))
        ∙ ap₂ (λ (l : List ℕ) (y : ℕ). l ++ y ∷ []) w.held e
        ∙ sym (next_places test k t);
    empty = blank_more x (omega (arith, w.below, w.few, w.room)) w.empty;
  }

  pub naming_skip : k < count → test k ≡ false → Naming test count cells n (k + 1)
  naming_skip h t = record {
    few = w.few;
    room = w.room;
    within = omega arith;
    below = omega (arith, w.below);
    held = w.held ∙ sym (append-nil (places test k)) ∙ sym (next_places test k t);
    empty = w.empty;
  }

  pub naming_all : count ≤ k → Listed test count cells n
  naming_all h =
      let e : k ≡ count = omega (arith, w.within) in
      record { small = w.few; few = omega (arith, w.below); room = w.room; listed = w.held ∙ ap (places test) e }

-- ---- what the list says
-- k stands in one of the first n cells
pub record At (cells : List ℕ) (n k : ℕ) : Type 0 where
  pub place : ℕ
  pub low : place < n
  pub is : get_or cells place 0 ≡ k

every_last : (P : ℕ → Type 0) (xs : List ℕ) (x : ℕ) → ((m : ℕ) → m < length xs → P (get_or xs m 0)) → P x → (m : ℕ) → m < length (xs ++ x ∷ []) → P (get_or (xs ++ x ∷ []) m 0)
every_last P [] x each last zero h = last
every_last P [] x each last (suc m) h = absurd (omega arith)
every_last P (y ∷ xs) x each last zero h = each 0 (omega arith)
every_last P (y ∷ xs) x each last (suc m) h = every_last P xs x (λ k l. each (suc k) (omega arith)) last m (omega arith)

places_inside : (test : ℕ → Bool) (c m : ℕ) → m < length (places test c) → (get_or (places test c) m 0 < c) × (test (get_or (places test c) m 0) ≡ true)
unfolding places
places_inside test zero m h = absurd (omega arith)
places_inside test (suc c) m h = go (test c) refl (λ k l. let i = places_inside test c k l in (omega (arith, i), i.1)) h
  where
    xs : List ℕ
    xs = places test c

    Inside : ℕ → Type 0
    Inside v = (v < suc c) × (test v ≡ true)

    go : (b : Bool) → test c ≡ b → ((k : ℕ) → k < length xs → Inside (get_or xs k 0)) → m < length (xs ++ cond b (c ∷ []) []) → Inside (get_or (xs ++ cond b (c ∷ []) []) m 0)
    go true t before l = every_last Inside xs c before (omega arith, t) m l
    go false t before l = rw (append-nil xs) (before m (rw (append-nil xs) at l))

places_where : (test : ℕ → Bool) (c k : ℕ) → k < c → test k ≡ true → At (places test c) (length (places test c)) k
unfolding places
places_where test zero k h t = absurd (omega arith)
places_where test (suc c) k h t = go (ℕ_discrete k c) (λ l. places_where test c k l t)
  where
    xs : List ℕ
    xs = places test c

    go : Dec (k ≡ c) → (k < c → At xs (length xs) k) → At (xs ++ cond (test c) (c ∷ []) []) (length (xs ++ cond (test c) (c ∷ []) [])) k
    go (yes e) before =
        rw (sym (ap test e) ∙ t) (record { place = length xs; low = omega (arith, length-append xs (c ∷ [])); is = get_or-append_seam xs c [] 0 ∙ sym e })
    go (no n) before =
        let a = before (omega arith) in
        let ys = cond (test c) (c ∷ []) [] in
        record { place = a.place; low = omega (arith, a.low, length-append xs ys); is = get_or-append xs ys 0 a.place a.low ∙ a.is }

module _ {test : ℕ → Bool} {count : ℕ} {cells : List ℕ} {n : ℕ} (w : Listed test count cells n) where
  pub listed_long : length (places test count) ≡ n
  listed_long = ap length (sym w.listed) ∙ length-take-le n cells (omega (arith, w.small, w.few, w.room))

  listed_cell : (m : ℕ) → m < n → get_or (places test count) m 0 ≡ get_or cells m 0
  listed_cell m h = ap (λ (l : List ℕ). get_or l m 0) (sym w.listed) ∙ get_or-take n cells m 0 h

  pub listed_inside : (m : ℕ) → m < n → (get_or cells m 0 < count) × (test (get_or cells m 0) ≡ true)
  listed_inside m h = rw (listed_cell m h) at (places_inside test count m (omega (arith, listed_long)))

  pub listed_where : (k : ℕ) → k < count → test k ≡ true → At cells n k
  listed_where k h t =
      let a = places_where test count k h t in
      let l : a.place < n = omega (arith, a.low, listed_long) in
      record { place = a.place; low = l; is = sym (listed_cell a.place l) ∙ a.is }

those_last : (test : Flow → Bool) (xs : List Flow) (x : Flow) → those test (xs ++ x ∷ []) ≡ those test xs ++ keep (test x) x []
unfolding those
those_last test [] x = refl
those_last test (y ∷ xs) x = rw (those_last test xs x) (go (test y))
  where
    go : (b : Bool) → keep b y (those test xs ++ keep (test x) x []) ≡ keep b y (those test xs) ++ keep (test x) x []
    go true = refl
    go false = refl

places_flows : (flows : List Flow) (t : Flow → Bool) (c : ℕ) → c ≤ length flows → map (flow flows) (places (λ k. t (flow flows k)) c) ≡ those t (take c flows)
unfolding places those
places_flows flows t zero h = refl
places_flows flows t (suc c) h =
    map-append (flow flows) (places (λ k. t (flow flows k)) c) (cond (t (flow flows c)) (c ∷ []) [])
    ∙ ap₂ ◌++◌ (places_flows flows t c (omega arith)) (go (t (flow flows c)))
    ∙ sym (those_last t (take c flows) (flow flows c))
    ∙ ap (those t) (sym (take-suc flows c blank_flow (omega arith)))
  where
    go : (b : Bool) → map (flow flows) (cond b (c ∷ []) []) ≡ keep b (flow flows c) []
    go true = refl
    go false = refl

pub listed_flows : (flows : List Flow) (t : Flow → Bool) {count : ℕ} {cells : List ℕ} {n : ℕ} → count ≤ length flows → Listed (λ k. t (flow flows k)) count cells n → map (flow flows) (take n cells) ≡ those t (take count flows)
listed_flows flows t {count} h w = ap (map (flow flows)) w.listed ∙ places_flows flows t count h

-- one more cell of a list that is read along
pub map_next : {A : Type 0} (f : ℕ → A) (cells : List ℕ) (m : ℕ) → m < length cells → map f (take (m + 1) cells) ≡ map f (take m cells) ++ f (get_or cells m 0) ∷ []
map_next f cells m h =
    ap (λ (k : ℕ). map f (take k cells)) (add-one m)
    ∙ ap (map f) (take-suc cells m 0 h)
    ∙ map-append f (take m cells) (get_or cells m 0 ∷ [])

-- ---- the loop that fills the named cells of an array, and leaves 0 in the others
pub record Dealing (wanted : ℕ → ℕ) (cells : List ℕ) (n : ℕ) (out : List ℕ) (m : ℕ) : Type 0 where
  pub within : m ≤ n
  pub room : length out ≡ 64
  pub so_far : Dealt wanted cells m out

pub dealing_none : (wanted : ℕ → ℕ) (cells : List ℕ) (n : ℕ) (out : List ℕ) → out ≡ replicate 64 0 → Dealing wanted cells n out 0
dealing_none wanted cells n out e = record {
  within = omega arith;
  room = ap length e ∙ length-replicate {A = ℕ} 64 0;
  so_far = record { named = λ l h. absurd (omega arith); others = λ k h t. ap (λ (o : List ℕ). get_or o k 0) e ∙ get_or-replicate {A = ℕ} 64 k 0 0 h };
}

-- along a list of the places that pass
pub dealt_cell : {test : ℕ → Bool} {wanted : ℕ → ℕ} {count : ℕ} {cells : List ℕ} {n : ℕ} {out : List ℕ} → Listed test count cells n → Dealt wanted cells n out → (k : ℕ) → k < count → get_or out k 0 ≡ cond (test k) (wanted k) 0
dealt_cell {test} {wanted} {count} {cells} {n} {out} w d k g = go (test k) refl
  where
    go : (b : Bool) → test k ≡ b → get_or out k 0 ≡ cond b (wanted k) 0
    go true t = let a = listed_where w k g t in rw a.is at (d.named a.place a.low)
    go false t = d.others k (omega (arith, w.small)) (λ m l e. false≢true (sym t ∙ ap test (sym e) ∙ (listed_inside w m l).1))

-- two figures that agree on the listed places
pub map_along : {A : Type 0} (f g : ℕ → A) (cells : List ℕ) (n : ℕ) → n ≤ length cells → ((m : ℕ) → m < n → f (get_or cells m 0) ≡ g (get_or cells m 0)) → map f (take n cells) ≡ map g (take n cells)
map_along f g cells zero h same = refl
map_along {A} f g cells (suc n) h same =
    ap (λ (k : ℕ). map f (take k cells)) (sym (add-one n))
    ∙ map_next f cells n (omega arith)
    ∙ ap₂ (λ (l : List A) (x : A). l ++ x ∷ []) (map_along f g cells n (omega arith) (λ m l. same m (omega arith))) (same n (omega arith))
    ∙ sym (map_next g cells n (omega arith))
    ∙ ap (λ (k : ℕ). map g (take k cells)) (add-one n)

places_same : {test other : ℕ → Bool} (c : ℕ) → ((k : ℕ) → k < c → test k ≡ other k) → places test c ≡ places other c
unfolding places
places_same zero same = refl
places_same (suc c) same = ap₂ (λ (l : List ℕ) (b : Bool). l ++ cond b (c ∷ []) []) (places_same c (λ k h. same k (omega arith))) (same c (omega arith))

-- a list of the places that pass is one of those that pass another test that agrees
pub listed_same : {test other : ℕ → Bool} {count : ℕ} {cells : List ℕ} {n : ℕ} → ((k : ℕ) → k < count → test k ≡ other k) → Listed test count cells n → Listed other count cells n
listed_same {count = count} same w = record { small = w.small; few = w.few; room = w.room; listed = w.listed ∙ places_same count same }

-- a sum along the list is one over all places, where the figure is 0 at those that do not pass
sum_places : (test : ℕ → Bool) (f : ℕ → ℕ) (c : ℕ) → ((k : ℕ) → k < c → test k ≡ false → f k ≡ 0) → sum_over (places test c) f ≡ sum_to c f
unfolding places sum_over sum_to
sum_places test f zero none = refl
sum_places test f (suc c) none = go (test c) refl (sum_places test f c (λ k h. none k (omega arith)))
  where
    go : (b : Bool) → test c ≡ b → sum_over (places test c) f ≡ sum_to c f → sum_over (places test c ++ cond b (c ∷ []) []) f ≡ sum_to c f + f c
    go true t before = sum_by_push f (places test c) c ∙ ap (λ (s : ℕ). s + f c) before
    go false t before = ap (λ (l : List ℕ). sum_over l f) (append-nil (places test c)) ∙ omega (arith, before, none c (omega arith) t)

sum_along : (f : ℕ → ℕ) (cells : List ℕ) (n : ℕ) → n ≤ length cells → sum_to n (λ m. f (get_or cells m 0)) ≡ sum_over (take n cells) f
unfolding sum_to sum_over
sum_along f cells zero h = refl
sum_along f cells (suc n) h = ap (λ (s : ℕ). s + f (get_or cells n 0)) (sum_along f cells n (omega arith)) ∙ sym (sum_by_push f (take n cells) (get_or cells n 0)) ∙ ap (λ (l : List ℕ). sum_over l f) (sym (take-suc cells n 0 (omega arith)))

pub sum_listed : {test : ℕ → Bool} {count : ℕ} {cells : List ℕ} {n : ℕ} → Listed test count cells n → (f : ℕ → ℕ) → ((k : ℕ) → k < count → test k ≡ false → f k ≡ 0) → sum_to n (λ m. f (get_or cells m 0)) ≡ sum_to count f
sum_listed {test} {count} {cells} {n} w f none =
    sum_along f cells n (omega (arith, w.small, w.few, w.room))
    ∙ ap (λ (l : List ℕ). sum_over l f) w.listed
    ∙ sum_places test f count none
