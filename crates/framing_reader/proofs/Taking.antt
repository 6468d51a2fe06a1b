-- A number taken at a reader's place, for every width: a walk of the MIR, by hand. The struct is taken apart, and the covered function is called on the slice and the place.
-- All that the walk knows of the callee is that it meets its contract.
--     taking, taken    `fn(Reader<'a>) -> u_n`, and its contract: of the bytes at the place, the number
--     reading, read    `fn(&'a [u8], usize) -> u_n`, and its contract
--     thin             the MIR.        takes       it meets its contract
-- Assumes nothing.
use mathlib.Core.Path.{◌≡◌, refl}
use Prim.Native.Nat.{ℕ, ◌+◌, ◌≤◌, ◌<◌, ◌^◌}
use mathlib.Core.List.{List, [], ◌∷◌}
use lib.Dec.{T as Holds}
use lib.ListN.{length}
use seplogic.Ra.Ura.{Ura}
use mir.Syntax.{Width, Callee as Name, Fn, named, erased, imm, w8, w64, ty_int, ty_ref, local, value_local, place, field, copy, rv_opd, seq, assign, call, return}
use mir.Val.{Val, WT, has_ty, vint}
use base.Logic.{SProp, ent, snd∗, ex_e, id⊢}
use base.Fml.{Lft, Share}
use prog.Wp.{Calls, Loops, WpFn, Tables}
use types.Logic.{Logic, sem}
use contract.Monad.{fact}
use types.Kit.{‵, raw, ◌⊛◌, ⋆, ◌$◌, ◌∵◌, !, qed, by, move, drop, use1, split, fsplit, fjoin, suffices, frame, done}
use types.Part.{whole, sub, look_in}
use types.Run.{look, init, stop, fld, from, load, of_opd, and_then, no_more, assigns, land, returns, enter, alloc1, alloc0, params1, pass1, pass0}
use sound.WpLaws.{FmC, fm_of, WpFn-mono}
use denote.RattleType.{owns}
use denote.Laws.{Is}
use denote.Plain.{UInt, uint_Makes, uint_Lawful, uint_Tells}
use denote.Builtin.{u8, usize}
use denote.Signature.{named_lft, plain, shr_slice_of}
use denote.Slice.{slice_ty}
use denote.Steps.{owned, nothing}
use denote.Struct.Laws as LL
use denote.Triple.Statement.{Contract, Triple}
use denote.Triple.Entry.{on_entry}
use denote.Triple.Spec.{Meets, triple_of}
use denote.Triple.Walked.{says, needs, Stays, stay_none, walk_of, Goes-none, Walks, ends_at, walked, walk_Meets}
use denote.Exit.{yes}
use denote.Triple.Clauses.{Ended, Clauses, closing, ensured, lasts}
use Rattle.framing_reader.specs.declared.Reader.{Reader}
use Rattle.framing_reader.proofs.Leaving.{none, cell, leaves}
use Rattle.framing_reader.proofs.Held.{ReaderT, seen, Bytes, Reading, Token, alone, shut, opened, calls_for}
use Rattle.framing_reader.specs.contracts.Reader as T
use Rattle.framing_reader.proofs.Reader.TheLaws as T'

abbrev pub taking : Width → Ended
taking w = record { signature = record { lifetimes = 1; outlives = []; params = plain ReaderT ∷ []; result = plain (λ _. UInt w) }; kept = (yes, tt) }

abbrev pub reading : Width → Ended
reading w = record { signature = record { lifetimes = 1; outlives = []; params = shr_slice_of (0 ∷ []) tt (plain (λ _. u8)) ∷ plain (λ _. usize) ∷ []; result = plain (λ _. UInt w) }; kept = (yes, (yes, tt)) }

abbrev pub thin : Width → Name → Fn
thin w callee =
    record {
      lifetimes = 1;
      outlives = [];
      ty_params = [];
      givens = 0;
      params = 1;
      locals = local (ty_int w) value_local ∷ local (T'.mir (named 0)) value_local ∷ local (slice_ty (ty_ref erased imm (ty_int w8))) value_local ∷ local (ty_int w64) value_local ∷ [];
      body =
          seq (assign (place 2 []) (rv_opd (copy (place 1 (field 0 ∷ [])))))
          (seq (assign (place 3 []) (rv_opd (copy (place 1 (field 1 ∷ [])))))
          (seq (call callee (copy (place 2 []) ∷ copy (place 3 []) ∷ []) (place 0 [])) return));
    }

abbrev stayed : (w : Width) → Stays (taking w).signature.params (taking w).kept
stayed w = (stay_none ReaderT yes, tt)

-- the `size` bytes at a place are the number `number`
module _ (w : Width) (size : ℕ) (number : List ℕ → ℕ → ℕ) {M : Type 1} {𝓤 : Ura M} (𝓛 : Logic 𝓤) where
  abbrev pub taken : Clauses 𝓤 (taking w)
  taken κs a = record { ghost = Unit {0}; requires = λ _. fact 𝓤 (a.0.at + size ≤ length a.0.plan.now); ensures = λ _ r _. fact 𝓤 (r ≡ number a.0.plan.now a.0.at) }

  abbrev pub Taker : Contract 𝓤
  Taker = triple_of 𝓛 (taking w).signature (closing 𝓛 (taking w) taken)

  abbrev read : Clauses 𝓤 (reading w)
  read κs a = record { ghost = Unit {0}; requires = λ _. fact 𝓤 (a.1.0 + size ≤ length a.0.now); ensures = λ _ r _. fact 𝓤 (r ≡ number a.0.now a.1.0) }

  abbrev pub Callee : Contract 𝓤
  Callee = triple_of 𝓛 (reading w).signature (closing 𝓛 (reading w) read)

module _ (w : Width) (size : ℕ) (number : List ℕ → ℕ → ℕ) {M : Type 1} {𝓤 : Ura M} (𝓛 : Logic 𝓤) (κ : Lft) (q : Share) (d : Reader) (inside : d.at + size ≤ length d.plan.now) (fits : d.at < 2 ^ 64) where
  open 𝓛 use {H}

  abbrev C₀ : Contract 𝓤
  C₀ = Callee w size number 𝓛

  abbrev mach : Val
  mach = T'.lowered d

  abbrev found : ℕ
  found = number d.plan.now d.at

  abbrev Post : Val → SProp 𝓤
  Post = (walk_of 𝓛 (taking w) (stayed w) (taken w size number 𝓛)).post (((κ, tt), (q, tt), tt, (d, tt), (mach ∷ [], tt)), tt)

  -- what is owned on entry is what the walk carries
  carried : ent 𝓤 (on_entry 𝓛 (taking w).signature (κ, tt) (q, tt) (d, tt) (mach ∷ [], tt)) (⋆ 𝓛 (Token 𝓤 κ q ∷ ‵ (Bytes κ d.plan) ∷ []))
  carried =
      qed 𝓛 (Token 𝓤 κ q ∷ ‵ (owns (ReaderT (κ, tt) ∷ []) (d, tt) (mach ∷ [], tt)) ∷ []) ∵
      move ! (1 ∷ []) $ fsplit ! $ move ! (1 ∷ []) $ drop ! $ use1 𝓛 (‵ (Bytes κ d.plan)) (opened 𝓛 κ d.plan d.at) $ move ! (1 ∷ []) $ frame ! $ done !

  abbrev to : C₀.Ghost
  to = (((κ, tt), (q, tt), tt, (d.plan, (d.at, tt)), (seen d.plan ∷ [], (vint w64 d.at ∷ [], tt))), tt)

  asked : ent 𝓤 (⋆ 𝓛 (Token 𝓤 κ q ∷ ‵ (Bytes κ d.plan) ∷ [])) (C₀.pre to)
  asked =
      qed 𝓛 (Token 𝓤 κ q ∷ ‵ (Bytes κ d.plan) ∷ []) ∵
      says ! inside $ frame ! $ nothing ! $ owned ! usize (Is usize) (uint_Makes 𝓛 w64) d.at _ (refl, fits) $ fjoin ! $ move ! (1 ∷ 0 ∷ []) $ fjoin ! $ done !

  -- of the callee's `ensured`, the clause alone: it has no `&mut`, so what is said of last values is dropped
  abbrev ensures : ℕ → SProp 𝓤
  ensures = ensured 𝓛 (reading w) (read w size number 𝓛) (κ, tt) (d.plan, (d.at, tt)) tt

  said : (r : ℕ) → ent 𝓤 (ensures r) (fact 𝓤 (r ≡ found))
  said r = ex_e 𝓤 _ (λ ws. snd∗ 𝓤 (sem 𝓛 (lasts (reading w) (κ, tt) (d.plan, (d.at, tt)) ws)) (fact 𝓤 (r ≡ found)))

  exits : Is (UInt w) found (vint w found ∷ []) → ent 𝓤 (⋆ 𝓛 (Token 𝓤 κ q ∷ ‵ (Bytes κ d.plan) ∷ [])) (Post (vint w found))
  exits is =
      qed 𝓛 (Token 𝓤 κ q ∷ ‵ (Bytes κ d.plan) ∷ []) ∵
      suffices ! _ (ends_at 𝓛 (taking w) (stayed w) (taken w size number 𝓛) (((κ, tt), (q, tt), tt, (d, tt), (mach ∷ [], tt)), tt) (vint w found) found (tt, tt) (tt, tt)) $ says ! refl $
      frame ! $ use1 𝓛 (‵ (Reading κ d)) (shut 𝓛 κ d.plan d.at fits) $ nothing ! $ move ! (1 ∷ 0 ∷ []) $ fjoin ! $ frame ! $ owned ! (UInt w) (Is (UInt w)) (uint_Makes 𝓛 w) found _ is $ done !

  module _ (callee : Name) (C : Calls 𝓤 H) (Λ : Loops 𝓤 H) (fm : FmC 𝓤 H 𝓛.laws C) (known : Triple 𝓤 (C callee) C₀) where
    walk : Holds (has_ty (T'.mir (named 0)) mach) × WT mach → ent 𝓤 (on_entry 𝓛 (taking w).signature (κ, tt) (q, tt) (d, tt) (mach ∷ [], tt)) (WpFn 𝓤 H C Λ (thin w callee) (mach ∷ []) Post)
    walk wt =
        qed 𝓛 (raw (on_entry 𝓛 (taking w).signature (κ, tt) (q, tt) (d, tt) (mach ∷ [], tt)) ∷ []) ∵ enter ! C Λ (thin w callee) (mach ∷ []) _ $
        alloc1 ! (λ l₀. alloc1 ! (λ l₁. alloc1 ! (λ l₂. alloc1 ! (λ l₃. alloc0 ! $ params1 ! $ pass1 ! (init ! 4 refl wt) $ pass0 ! $
        assigns ! (of_opd ! (load ! (from ! (fld ! refl (stop !))) (look_in ! 4 (sub ! 0 refl (whole !))))) (from ! (stop !)) (init ! 2 refl (tt, wt.1.0)) $
        assigns ! (of_opd ! (load ! (from ! (fld ! refl (stop !))) (look_in ! 4 (sub ! 1 refl (whole !))))) (from ! (stop !)) (init ! 0 refl (tt, wt.1.1.0)) $
        move ! (8 ∷ []) $ use1 𝓛 (Token 𝓤 κ q ⊛ ‵ (Bytes κ d.plan)) carried $ split ! $
        calls_for ! fm κ q d.plan C₀ known to (UInt w) ensures found (vint w found) asked (λ u. id⊢ 𝓤 _) said (λ u is. alone (uint_Tells w found _ is)) (and_then ! (load ! (from ! (stop !)) (look ! 4 refl)) (and_then ! (load ! (from ! (stop !)) (look ! 2 refl)) (no_more !))) (λ is.
        -- [the token; what the bytes own; _3; …; _2; …; _1; …; room for _0; …]
        land ! (from ! (stop !)) (init ! 8 refl ((uint_Lawful 𝓛 w).typed found _ is).0) $
        returns ! (look ! 8 refl) $ leaves ! (cell (cell (cell (cell none)))) $ by ! (exits is))))))

module _ (w : Width) (size : ℕ) (number : List ℕ → ℕ → ℕ) {M : Type 1} {𝓤 : Ura M} (𝓛 : Logic 𝓤) (callee : Name) where
  open 𝓛 use {H}

  walks : (C : Calls 𝓤 H) (Λ : Loops 𝓤 H) → FmC 𝓤 H 𝓛.laws C → Triple 𝓤 (C callee) (Callee w size number 𝓛) → Walks 𝓛 (taking w) (stayed w) (WpFn 𝓤 H C Λ (thin w callee)) (taken w size number 𝓛)
  walks C Λ fm known =
      walked 𝓛 (taking w) (stayed w) (taken w size number 𝓛) (WpFn 𝓤 H C Λ (thin w callee))
      (λ κs. (LL.vals (T.the_type (named_lft 1 0 tt κs)) (T'.the_laws (named_lft 1 0 tt κs)), tt)) (λ κs. (LL.tells (T.the_type (named_lft 1 0 tt κs)) (T'.the_laws (named_lft 1 0 tt κs)), tt))
      (λ κs qs bounds a g are. needs 𝓤 _ _ (λ inside.
      let wt = ((LL.lawful (T.the_type (named_lft 1 0 tt κs)) (T'.the_laws (named_lft 1 0 tt κs)) 𝓛).typed a.0 _ are.0).0 in
      walk w size number 𝓛 κs.0 qs.0 a.0 inside wt.1.1.0.fits callee C Λ fm known wt))

  pub takes : (𝓣 : Tables 𝓤 H) → Triple 𝓤 (𝓣.C callee) (Callee w size number 𝓛) → Meets 𝓛 (taking w).signature (WpFn 𝓤 H 𝓣.C 𝓣.Λ (thin w callee)) (closing 𝓛 (taking w) (taken w size number 𝓛))
  takes 𝓣 known =
      walk_Meets 𝓛 (taking w) (stayed w) (Goes-none 𝓛 1 ReaderT yes (λ κs x f. refl), tt) (taken w size number 𝓛) (WpFn 𝓤 H 𝓣.C 𝓣.Λ (thin w callee)) (WpFn-mono 𝓤 H 𝓛.laws 𝓣 (thin w callee))
      (walks 𝓣.C 𝓣.Λ (fm_of 𝓤 H 𝓛.laws 𝓣) known)
