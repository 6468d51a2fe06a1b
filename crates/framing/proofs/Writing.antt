-- A loop that writes a record for each thing of a list, each into its own part of a lent buffer.
use Prim.Native.Nat.{ℕ, ◌+◌, ◌-◌, ◌*◌, ◌≤◌, ◌<◌}
use mathlib.Core.Path.{◌≡◌, refl, sym, ap, ◌∙◌}
use mathlib.Core.List.{List, ◌++◌, append_assoc, append-nil}
use native.Mathlib.Omega.{arith}
use native.Mathlib.Nat.{add-zero, mul-zero, mul-suc}
use native.Mathlib.Numerals.{add-one}
use lib.ListN.{length, take, drop, get_or, length-append, take-append-drop}
use lib.Seq.{take_at, drop_at, drop-drop, length-take-le}
use Rattle.std.proofs.lemmas.List.{take_all}
use Rattle.framing.specs.Each.{each}
use Rattle.framing.specs.Put.{put}
use Rattle.framing.proofs.Each.{each_more}

-- What a slice holds once its part from `at` to `to` was lent and came back holding ys.
abbrev pub lent : List ℕ → ℕ → ℕ → List ℕ → List ℕ
lent xs at to ys = take at xs ++ (ys ++ drop (to - at) (drop at xs))

-- Behind what was written so far a part of k bytes is written with ys.
pub part_written : (was done ys : List ℕ) (at k : ℕ) → length done ≡ at → lent (done ++ drop at was) at (at + k) ys ≡ (done ++ ys) ++ drop (at + k) was
part_written was done ys at k l =
    let q : at + k - at ≡ k = omega arith in
    rw (q, take_at done (drop at was) at l, drop_at done (drop at was) at l, drop-drop k at was, append_assoc done ys (drop (at + k) was))

-- Behind `front` stand the records of the first i things, up to place `at i`, and further on what the buffer held.
pub record Writing {A : Type 0} (made : A → List ℕ) (at : ℕ → ℕ) (front was : List ℕ) (list : List A) (count : ℕ) (buffer : List ℕ) (i : ℕ) : Type 0 where
  pub things : count ≤ length list
  pub within : i ≤ count
  pub far : length (front ++ each made (take i list)) ≡ at i
  pub long : length buffer ≡ length was
  pub held : buffer ≡ (front ++ each made (take i list)) ++ drop (at i) was

module _ {A : Type 0} {made : A → List ℕ} {at : ℕ → ℕ} {front was : List ℕ} {list : List A} {count : ℕ} where
  pub writing_none : {buffer : List ℕ} → count ≤ length list → length front ≡ at 0 → length buffer ≡ length was → buffer ≡ front ++ drop (at 0) was → Writing made at front was list count buffer 0
  unfolding each
  writing_none h f l e = record { things = h; within = omega arith; far = rw append-nil f; long = l; held = rw append-nil e }

  module _ {buffer : List ℕ} {i : ℕ} (w : Writing made at front was list count buffer i) where
    at_part : (k : ℕ) (ys : List ℕ) → lent buffer (at i) (at i + k) ys ≡ ((front ++ each made (take i list)) ++ ys) ++ drop (at i + k) was
    at_part k ys = rw w.held (part_written was (front ++ each made (take i list)) ys (at i) k w.far)

    pub writing_more :
        i < count → (size : ℕ) → at (i + 1) ≡ at i + size → (d : A) {ys : List ℕ} → length (made (get_or list i d)) ≡ size → ys ≡ made (get_or list i d) →
        length (lent buffer (at i) (at i + size) ys) ≡ length buffer → Writing made at front was list count (lent buffer (at i) (at i + size) ys) (i + 1)
    writing_more h size next d {ys} n e l =
        let more : front ++ each made (take (i + 1) list) ≡ (front ++ each made (take i list)) ++ made (get_or list i d) =
        ap (λ (x : List ℕ). front ++ x) (each_more made list i d (omega (arith, w.things))) ∙ sym (append_assoc front (each made (take i list)) (made (get_or list i d))) in
        record {
          things = w.things;
          within = omega arith;
          far = ap length more ∙ length-append (front ++ each made (take i list)) (made (get_or list i d)) ∙ omega (arith, w.far);
          long = l ∙ w.long;
          held = at_part size ys ∙ (λ j. ((front ++ each made (take i list)) ++ e j) ++ drop (sym next j) was) ∙ ap (λ (x : List ℕ). x ++ drop (at (i + 1)) was) (sym more);
        }

-- Records of one size, from place `start` on of what the buffer held.
pub record Rowed {A : Type 0} (made : A → List ℕ) (start size : ℕ) (was : List ℕ) (list : List A) (buffer : List ℕ) (i : ℕ) : Type 0 where
  pub inside : start ≤ length was
  pub writing : Writing made (λ (k : ℕ). start + size * k) (take start was) was list (length list) buffer i

module _ {A : Type 0} {made : A → List ℕ} {start size : ℕ} {was : List ℕ} {list : List A} where
  pub rowed_none : start ≤ length was → Rowed made start size was list was 0
  rowed_none h =
      let first : start ≡ start + size * 0 = simp (mul-zero, add-zero) refl in
      record { inside = h; writing = writing_none (omega arith) (length-take-le start was h ∙ first) refl (sym (take-append-drop start was) ∙ ap (λ (k : ℕ). take start was ++ drop k was) first) }

  module _ {buffer : List ℕ} {i : ℕ} (w : Rowed made start size was list buffer i) where
    pub rowed_more : i < length list → {place : ℕ} → place ≡ start + size * i → (d : A) {ys : List ℕ} → length ys ≡ size → ys ≡ made (get_or list i d) → length (lent buffer place (place + size) ys) ≡ length buffer → Rowed made start size was list (lent buffer place (place + size) ys) (i + 1)
    rowed_more h {place} e d {ys} n f l =
        let next : start + size * (i + 1) ≡ start + size * i + size = rw (add-one, mul-suc) (omega arith) in
        let here : lent buffer place (place + size) ys ≡ lent buffer (start + size * i) (start + size * i + size) ys = ap (λ (k : ℕ). lent buffer k (k + size) ys) e in
        record { inside = w.inside; writing = rw here (writing_more w.writing h size next d (ap length (sym f) ∙ n) f (ap length (sym here) ∙ l)) }

    pub rowed_all : length list ≤ i → buffer ≡ put was start (each made list)
    rowed_all h =
        let all : take i list ≡ list = take_all i list h in
        let far : length (take start was ++ each made (take i list)) ≡ start + size * i = w.writing.far in
        let n : start + size * i ≡ start + length (each made list) =
        sym far ∙ length-append (take start was) (each made (take i list)) ∙ ap (λ (k : ℕ). k + length (each made (take i list))) (length-take-le start was w.inside) ∙ ap (λ (x : List A). start + length (each made x)) all in
        w.writing.held ∙ λ j. (take start was ++ each made (all j)) ++ drop (n j) was
