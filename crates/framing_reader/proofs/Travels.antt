-- The calls of a reader's methods, each as one step of a walk that carries the token and what the bytes own (`Held.antt`). The machine value that each returns is known.
--     starts_at    `Reader::new`: a reader of the bytes s at the place n
--     moves_past   `Reader::past`: from the place n to m, which is n + count
--     takes_at     a number of one width: the number at the place n
--     held, copies, lands_in       a local read, a local copied into another, a result stored in a local: each by the local's place in the context
--     reader_typed     a reader's machine value has the struct's MIR type, whose lifetime a local's erases
--     within, further, below       the places in a record that lies in the bytes
--     carried      of a function with a slice and a place for its parameters: what it owns on entry is what its walk carries
-- Assumes `Logic`.
use mathlib.Core.Path.{◌≡◌, refl, subst⁻¹}
use Prim.Native.Nat.{ℕ, ◌+◌, ◌≤◌, ◌<◌, ◌^◌}
use native.Mathlib.Omega.{arith}
use mathlib.Core.List.{List, [], ◌∷◌}
use lib.Dec.{T as Holds}
use lib.ListN.{length}
use seplogic.Ra.Ura.{Ura}
use base.Fraction.{full_share}
use mir.Syntax.{Width, Callee as Name, Place, place, Opd as Operand, copy, rv_opd, Body, seq, assign, call, named, erased, w64}
use mir.Val.{Val, WT, has_ty, vint}
use base.Logic.{SProp, ent, snd∗, ex_e, id⊢}
use base.Fml.{Lft, Share, fat, froom}
use prog.Memory.{Memory}
use prog.Routine.{Routine}
use prog.Wp.{Env, Calls, Loops, spot_of}
use types.Logic.{Logic, sem}
use contract.Monad.{Fun, fact}
use types.Kit.{Item, ‵, raw, nth, put, ⋆, Post, runs, lands, Seq, Step, step, ◌$◌, ◌∵◌, !, qed, move, drop, use1, join, fsplit, fjoin, frame, done}
use types.Run.{Opd, Opds, look, init, stop, from, load, of_opd, assigns, land}
use sound.WpLaws.{FmC}
use denote.RattleType.{owns}
use denote.Laws.{Is}
use denote.Plain.{UInt, uint_Makes, uint_Tells}
use denote.Builtin.{u8, usize}
use denote.Ref.{Bor}
use denote.Signature.{named_lft}
use denote.Slice.{ShrSlice}
use denote.Steps.{owned, nothing}
use denote.Struct.Laws as LL
use denote.Triple.Statement.{Contract, Triple}
use denote.Triple.Spec.{triple_of}
use denote.Triple.Walked.{says}
use denote.Triple.Clauses.{ensured, lasts}
use Rattle.framing_reader.specs.Reader.{reader_at}
use Rattle.framing_reader.specs.declared.Reader.{Reader}
use Rattle.framing_reader.proofs.Held.{ReaderT, seen, Bytes, Reading, Token, alone, shut, calls_for}
use Rattle.framing_reader.proofs.Taking.{taking, taken, Taker}
use Rattle.framing_reader.specs.contracts.Reader as T
use Rattle.framing_reader.proofs.Reader.TheLaws as T'
use Rattle.framing_reader.specs.contracts.Reader.new as start
use Rattle.framing_reader.specs.contracts.Reader.past as past

-- ---- locals
module _ {M : Type 1} {𝓤 : Ura M} {𝓛 : Logic 𝓤} {K : Type 0} {Γ : List (Item 𝓤)} {E : Env 𝓤 𝓛.H} where
  open 𝓛 use {H}

  pub held : K → (n : ℕ) {i : ℕ} {q : Share} {v : Val} → nth 𝓛 n Γ ≡ ‵ (fat q (spot_of 𝓤 H E i).0 (spot_of 𝓤 H E i).1 (spot_of 𝓤 H E i).2 v) → Opd K 𝓛 Γ E (copy (place i [])) v
  held t n e = load t (from t (stop t)) (look t n e)

  module _ {C : Calls 𝓤 H} {Λ : Loops 𝓤 H} {g : Post 𝓤 H} {d : ℕ} {next : Body} {v : Val} where
    pub lands_in : K → (n : ℕ) → nth 𝓛 n Γ ≡ ‵ (froom (spot_of 𝓤 H E d).0 (spot_of 𝓤 H E d).1 (spot_of 𝓤 H E d).2) → Holds (has_ty (spot_of 𝓤 H E d).0 v) × WT v
        → Step K 𝓛 (put 𝓛 n (‵ (fat full_share (spot_of 𝓤 H E d).0 (spot_of 𝓤 H E d).1 (spot_of 𝓤 H E d).2 v)) Γ) (runs C Λ E next g) Γ (lands C Λ E (place d []) v next g)
    lands_in t n e typed = land t (from t (stop t)) (init t n e typed)

    pub copies : K → {i : ℕ} → Opd K 𝓛 Γ E (copy (place i [])) v → (n : ℕ) → nth 𝓛 n Γ ≡ ‵ (froom (spot_of 𝓤 H E d).0 (spot_of 𝓤 H E d).1 (spot_of 𝓤 H E d).2) → Holds (has_ty (spot_of 𝓤 H E d).0 v) × WT v
        → Step K 𝓛 (put 𝓛 n (‵ (fat full_share (spot_of 𝓤 H E d).0 (spot_of 𝓤 H E d).1 (spot_of 𝓤 H E d).2 v)) Γ) (runs C Λ E next g) Γ (runs C Λ E (seq (assign (place d []) (rv_opd (copy (place i [])))) next) g)
    copies t o n e typed = assigns t (of_opd t o) (from t (stop t)) (init t n e typed)

-- ---- places
module _ (s : Bor (List ℕ)) (n size : ℕ) (inside : n + size ≤ length s.now) where
  pub within : (k : ℕ) → k ≤ size → n + k ≤ length s.now
  within k h = omega arith

  pub further : (k more : ℕ) → k + more ≤ size → n + k + more ≤ length s.now
  further k more h = omega arith

  pub below : WT (seen s) → (k : ℕ) → k ≤ size → n + k < 2 ^ 64
  below wt k h = let long : length s.now < 2 ^ 64 = wt.1.0.fits in omega arith

pub reader_typed : (s : Bor (List ℕ)) (n : ℕ) → WT (seen s) → n < 2 ^ 64 → Holds (has_ty (T'.mir erased) (T'.lowered (reader_at s n))) × WT (T'.lowered (reader_at s n))
reader_typed s n wt fits = (tt, (wt, (record { fits = fits }, tt)))

-- a function with plain parameters: what it owns on entry is what its walk carries
pub carried : {M : Type 1} {𝓤 : Ura M} (𝓛 : Logic 𝓤) → (κ : Lft) (q : Share) (s : Bor (List ℕ)) (n : ℕ)
    → ent 𝓤 (⋆ 𝓛 (Token 𝓤 κ q ∷ ‵ (owns (ShrSlice (named 0) κ u8 ∷ usize ∷ []) (s, (n, tt)) (seen s ∷ [], (vint w64 n ∷ [], tt))) ∷ [])) (⋆ 𝓛 (Token 𝓤 κ q ∷ ‵ (Bytes κ s) ∷ []))
carried {𝓤 = 𝓤} 𝓛 κ q s n = qed 𝓛 (Token 𝓤 κ q ∷ ‵ (owns (ShrSlice (named 0) κ u8 ∷ usize ∷ []) (s, (n, tt)) (seen s ∷ [], (vint w64 n ∷ [], tt))) ∷ []) ∵ move ! (1 ∷ []) $ fsplit ! $ move ! (1 ∷ []) $ drop ! $ move ! (1 ∷ []) $ frame ! $ done !

module _ {M : Type 1} {𝓤 : Ura M} (𝓛 : Logic 𝓤) (mem : Memory → SProp 𝓤) (run : Routine → Fun 𝓤) where
  abbrev pub ReaderAt : Contract 𝓤
  ReaderAt = triple_of 𝓛 start.signature (start.spec 𝓛 mem run)

  abbrev pub Past : Contract 𝓤
  Past = triple_of 𝓛 past.signature (past.spec 𝓛 mem run)

-- what each callee's triple binds outside, and what its `ensures` says
module _ {M : Type 1} {𝓤 : Ura M} (𝓛 : Logic 𝓤) (mem : Memory → SProp 𝓤) (run : Routine → Fun 𝓤) (κ : Lft) (q : Share) (s : Bor (List ℕ)) (n : ℕ) where
  abbrev to_start : (ReaderAt 𝓛 mem run).Ghost
  to_start = (((κ, tt), (q, tt), tt, (s, (n, tt)), (seen s ∷ [], (vint w64 n ∷ [], tt))), tt)

  start_said : (x : Reader) → ent 𝓤 (ensured 𝓛 start.ended (start.clauses 𝓛 mem run) (κ, tt) (s, (n, tt)) tt x) (fact 𝓤 (x ≡ reader_at s n))
  start_said x = ex_e 𝓤 _ (λ ws. snd∗ 𝓤 (sem 𝓛 (lasts start.ended (κ, tt) (s, (n, tt)) ws)) (fact 𝓤 (x ≡ reader_at s n)))

  abbrev to_move : ℕ → (Past 𝓛 mem run).Ghost
  to_move count = (((κ, tt), (q, tt), tt, (reader_at s n, (count, tt)), (T'.lowered (reader_at s n) ∷ [], (vint w64 count ∷ [], tt))), tt)

  move_said : (count : ℕ) (x : Reader) → ent 𝓤 (ensured 𝓛 past.ended (past.clauses 𝓛 mem run) (κ, tt) (reader_at s n, (count, tt)) tt x) (fact 𝓤 (x ≡ reader_at s (n + count)))
  move_said count x = ex_e 𝓤 _ (λ ws. snd∗ 𝓤 (sem 𝓛 (lasts past.ended (κ, tt) (reader_at s n, (count, tt)) ws)) (fact 𝓤 (x ≡ reader_at s (n + count))))

module _ (w : Width) (size : ℕ) (number : List ℕ → ℕ → ℕ) {M : Type 1} {𝓤 : Ura M} (𝓛 : Logic 𝓤) (κ : Lft) (q : Share) (s : Bor (List ℕ)) (n : ℕ) where
  abbrev to_take : (Taker w size number 𝓛).Ghost
  to_take = (((κ, tt), (q, tt), tt, (reader_at s n, tt), (T'.lowered (reader_at s n) ∷ [], tt)), tt)

  take_said : (x : ℕ) → ent 𝓤 (ensured 𝓛 (taking w) (taken w size number 𝓛) (κ, tt) (reader_at s n, tt) tt x) (fact 𝓤 (x ≡ number s.now n))
  take_said x = ex_e 𝓤 _ (λ ws. snd∗ 𝓤 (sem 𝓛 (lasts (taking w) (κ, tt) (reader_at s n, tt) ws)) (fact 𝓤 (x ≡ number s.now n)))

-- what the walk carries gives what each callee asks
module _ {M : Type 1} {𝓤 : Ura M} (𝓛 : Logic 𝓤) (mem : Memory → SProp 𝓤) (run : Routine → Fun 𝓤) (κ : Lft) (q : Share) (s : Bor (List ℕ)) (n : ℕ) (fits : n < 2 ^ 64) where
  asks_start : ent 𝓤 (⋆ 𝓛 (Token 𝓤 κ q ∷ ‵ (Bytes κ s) ∷ [])) ((ReaderAt 𝓛 mem run).pre (to_start 𝓛 mem run κ q s n))
  asks_start =
      qed 𝓛 (Token 𝓤 κ q ∷ ‵ (Bytes κ s) ∷ []) ∵
      nothing ! $ owned ! usize (Is usize) (uint_Makes 𝓛 w64) n _ (refl, fits) $ fjoin ! $ move ! (2 ∷ 0 ∷ []) $ fjoin ! $ move ! (1 ∷ 0 ∷ []) $ join ! $ frame ! $ done !

  asks_move : (count : ℕ) → count < 2 ^ 64 → n + count ≤ length s.now → ent 𝓤 (⋆ 𝓛 (Token 𝓤 κ q ∷ ‵ (Bytes κ s) ∷ [])) ((Past 𝓛 mem run).pre (to_move 𝓛 mem run κ q s n count))
  asks_move count count_fits inside =
      qed 𝓛 (Token 𝓤 κ q ∷ ‵ (Bytes κ s) ∷ []) ∵
      says ! inside $ frame ! $ use1 𝓛 (‵ (Reading κ (reader_at s n))) (shut 𝓛 κ s n fits) $ nothing ! $ owned ! usize (Is usize) (uint_Makes 𝓛 w64) count _ (refl, count_fits) $ fjoin ! $ move ! (1 ∷ 0 ∷ []) $ fjoin ! $ done !

  asks_take : (w : Width) (size : ℕ) (number : List ℕ → ℕ → ℕ) → n + size ≤ length s.now → ent 𝓤 (⋆ 𝓛 (Token 𝓤 κ q ∷ ‵ (Bytes κ s) ∷ [])) ((Taker w size number 𝓛).pre (to_take w size number 𝓛 κ q s n))
  asks_take w size number inside =
      qed 𝓛 (Token 𝓤 κ q ∷ ‵ (Bytes κ s) ∷ []) ∵ says ! inside $ frame ! $ use1 𝓛 (‵ (Reading κ (reader_at s n))) (shut 𝓛 κ s n fits) $ nothing ! $ move ! (1 ∷ 0 ∷ []) $ fjoin ! $ done !

-- a reader's machine value is told
told : (κ : Lft) (found : Reader) (u : Val) → Is (ReaderT (κ, tt)) found (u ∷ []) → T'.lowered found ≡ u
told κ found u is = alone (LL.tells (T.the_type (named_lft 1 0 tt (κ, tt))) (T'.the_laws (named_lft 1 0 tt (κ, tt))) found _ is)

module _ {M : Type 1} {𝓤 : Ura M} {𝓛 : Logic 𝓤} {K : Type 0} {Γ : List (Item 𝓤)} {E : Env 𝓤 𝓛.H} {C : Calls 𝓤 𝓛.H} {Λ : Loops 𝓤 𝓛.H} {f : Name} {xs : List Operand} {g : Post 𝓤 𝓛.H} {d : Place} {next : Body} where
  open 𝓛 use {H}

  pub starts_at : K → FmC 𝓤 H 𝓛.laws C → (κ : Lft) (q : Share) (s : Bor (List ℕ)) (mem : Memory → SProp 𝓤) (run : Routine → Fun 𝓤) → Triple 𝓤 (C f) (ReaderAt 𝓛 mem run) → (n : ℕ) → n < 2 ^ 64
      → Opds K 𝓛 (raw ((ReaderAt 𝓛 mem run).pre (to_start 𝓛 mem run κ q s n)) ∷ ‵ (Bytes κ s) ∷ Γ) E xs (seen s ∷ vint w64 n ∷ [])
      → Step K 𝓛 (Token 𝓤 κ q ∷ ‵ (Bytes κ s) ∷ Γ) (lands C Λ E d (T'.lowered (reader_at s n)) next g) (Token 𝓤 κ q ∷ ‵ (Bytes κ s) ∷ Γ) (runs C Λ E (seq (call f xs d) next) g)
  starts_at t fm κ q s mem run known n fits os =
      step (λ k. calls_for t fm κ q s (ReaderAt 𝓛 mem run) known (to_start 𝓛 mem run κ q s n) (ReaderT (κ, tt)) _ (reader_at s n) (T'.lowered (reader_at s n)) (asks_start 𝓛 mem run κ q s n fits) (λ u. id⊢ 𝓤 _) (start_said 𝓛 mem run κ q s n) (told κ (reader_at s n)) os (λ _. k))

  pub moves_past : K → FmC 𝓤 H 𝓛.laws C → (κ : Lft) (q : Share) (s : Bor (List ℕ)) (mem : Memory → SProp 𝓤) (run : Routine → Fun 𝓤) → Triple 𝓤 (C f) (Past 𝓛 mem run) → (n : ℕ) → n < 2 ^ 64 → (count : ℕ) → count < 2 ^ 64 → n + count ≤ length s.now → {m : ℕ} → n + count ≡ m
      → Opds K 𝓛 (raw ((Past 𝓛 mem run).pre (to_move 𝓛 mem run κ q s n count)) ∷ ‵ (Bytes κ s) ∷ Γ) E xs (T'.lowered (reader_at s n) ∷ vint w64 count ∷ [])
      → Step K 𝓛 (Token 𝓤 κ q ∷ ‵ (Bytes κ s) ∷ Γ) (lands C Λ E d (T'.lowered (reader_at s m)) next g) (Token 𝓤 κ q ∷ ‵ (Bytes κ s) ∷ Γ) (runs C Λ E (seq (call f xs d) next) g)
  moves_past t fm κ q s mem run known n fits count count_fits inside e os =
      step (λ k. calls_for t fm κ q s (Past 𝓛 mem run) known (to_move 𝓛 mem run κ q s n count) (ReaderT (κ, tt)) _ (reader_at s (n + count)) (T'.lowered (reader_at s (n + count))) (asks_move 𝓛 mem run κ q s n fits count count_fits inside) (λ u. id⊢ 𝓤 _) (move_said 𝓛 mem run κ q s n count) (told κ (reader_at s (n + count))) os (λ _. subst⁻¹ (λ (z : ℕ). Seq K 𝓛 (Token 𝓤 κ q ∷ ‵ (Bytes κ s) ∷ Γ) (lands C Λ E d (T'.lowered (reader_at s z)) next g)) e k))

  pub takes_at : K → FmC 𝓤 H 𝓛.laws C → (κ : Lft) (q : Share) (s : Bor (List ℕ)) (mem : Memory → SProp 𝓤) (run : Routine → Fun 𝓤) (w : Width) (size : ℕ) (number : List ℕ → ℕ → ℕ) → Triple 𝓤 (C f) (Taker w size number 𝓛) → (n : ℕ) → n < 2 ^ 64 → n + size ≤ length s.now
      → Opds K 𝓛 (raw ((Taker w size number 𝓛).pre (to_take w size number 𝓛 κ q s n)) ∷ ‵ (Bytes κ s) ∷ Γ) E xs (T'.lowered (reader_at s n) ∷ [])
      → (Is (UInt w) (number s.now n) (vint w (number s.now n) ∷ []) → Seq K 𝓛 (Token 𝓤 κ q ∷ ‵ (Bytes κ s) ∷ Γ) (lands C Λ E d (vint w (number s.now n)) next g))
      → Seq K 𝓛 (Token 𝓤 κ q ∷ ‵ (Bytes κ s) ∷ Γ) (runs C Λ E (seq (call f xs d) next) g)
  takes_at t fm κ q s mem run w size number known n fits inside os k =
      calls_for t fm κ q s (Taker w size number 𝓛) known (to_take w size number 𝓛 κ q s n) (UInt w) _ (number s.now n) (vint w (number s.now n)) (asks_take 𝓛 mem run κ q s n fits w size number inside) (λ u. id⊢ 𝓤 _) (take_said w size number 𝓛 κ q s n) (λ u is. alone (uint_Tells w (number s.now n) _ is)) os k
