-- A function that reads a record's values from the slice and the place of the record, with a reader: what a walk of its MIR needs around the statements. `R` is the values' type, `size` the record's bytes and `value` what the values are.
--     recording, recorded      `fn(&'a [u8], usize) -> R`, and its contract
--     exits        how the walk ends: at the machine value v of the values
--     meets        a walk from each entry gives the contract
-- Assumes nothing.
use mathlib.Core.Path.{◌≡◌, refl}
use Prim.Native.Nat.{ℕ, ◌+◌, ◌≤◌, ◌<◌, ◌^◌}
use mathlib.Core.List.{List, [], ◌∷◌}
use lib.ListN.{length}
use seplogic.Ra.Ura.{Ura}
use mir.Syntax.{Fn, named, w64}
use mir.Val.{Val, WT, vint}
use base.Logic.{SProp, ent}
use base.Fml.{Lft, Share}
use prog.Wp.{WpFn, Tables}
use types.Logic.{Logic}
use contract.Monad.{fact}
use types.Kit.{‵, ⋆, ◌$◌, ◌∵◌, !, qed, move, fjoin, suffices, frame, done}
use sound.WpLaws.{WpFn-mono}
use denote.RattleType.{RattleType}
use denote.Laws.{Is, Makes}
use denote.Plain.{uint_vals, uint_Makes, uint_Tells}
use denote.Builtin.{u8, usize}
use denote.Ref.{Bor}
use denote.Signature.{plain, shr_slice_of}
use denote.Slice.{shr_slice_vals, shr_slice_Tells, shr_slice_Lawful}
use denote.Steps.{owned, nothing}
use denote.Triple.Entry.{on_entry}
use denote.Triple.Spec.{Meets}
use denote.Triple.Walked.{says, needs, Stays, stay_none, stay_none_slice, walk_of, Goes-none, Goes-none_slice, ends_at, walked, walk_Meets}
use denote.Exit.{yes}
use denote.Triple.Clauses.{Ended, Clauses, closing}
use Rattle.framing_reader.proofs.Held.{seen, Bytes, Token}

abbrev pub recording : RattleType → Ended
recording R = record { signature = record { lifetimes = 1; outlives = []; params = shr_slice_of (0 ∷ []) tt (plain (λ _. u8)) ∷ plain (λ _. usize) ∷ []; result = plain (λ _. R) }; kept = (yes, (yes, tt)) }

abbrev stayed : (R : RattleType) → Stays (recording R).signature.params (recording R).kept
stayed R = (stay_none_slice (0 ∷ []) tt (plain (λ _. u8)) yes, (stay_none (λ _. usize) yes, tt))

module _ (R : RattleType) (size : ℕ) (value : List ℕ → ℕ → R.Denot) {M : Type 1} {𝓤 : Ura M} (𝓛 : Logic 𝓤) where
  open 𝓛 use {H}

  abbrev pub recorded : Clauses 𝓤 (recording R)
  recorded κs a = record { ghost = Unit {0}; requires = λ _. fact 𝓤 (a.1.0 + size ≤ length a.0.now); ensures = λ _ r _. fact 𝓤 (r ≡ value a.0.now a.1.0) }

  -- on entry to the function at the bytes s and the place n, and on exit from it
  module _ (κ : Lft) (q : Share) (s : Bor (List ℕ)) (n : ℕ) where
    abbrev pub Entry : SProp 𝓤
    Entry = on_entry 𝓛 (recording R).signature (κ, tt) (q, tt) (s, (n, tt)) (seen s ∷ [], (vint w64 n ∷ [], tt))

    abbrev pub Exit : Val → SProp 𝓤
    Exit = (walk_of 𝓛 (recording R) (stayed R) recorded).post (((κ, tt), (q, tt), tt, (s, (n, tt)), (seen s ∷ [], (vint w64 n ∷ [], tt))), tt)

    pub exits : n < 2 ^ 64 → Makes 𝓛 R (Is R) → (v : Val) → Is R (value s.now n) (v ∷ []) → ent 𝓤 (⋆ 𝓛 (Token 𝓤 κ q ∷ ‵ (Bytes κ s) ∷ [])) (Exit v)
    exits fits makes v is =
        qed 𝓛 (Token 𝓤 κ q ∷ ‵ (Bytes κ s) ∷ []) ∵
        suffices ! _ (ends_at 𝓛 (recording R) (stayed R) recorded (((κ, tt), (q, tt), tt, (s, (n, tt)), (seen s ∷ [], (vint w64 n ∷ [], tt))), tt) v (value s.now n) (tt, (tt, tt)) (tt, (tt, tt))) $ says ! refl $
        frame ! $ nothing ! $ owned ! usize (Is usize) (uint_Makes 𝓛 w64) n _ (refl, fits) $ fjoin ! $ move ! (1 ∷ 0 ∷ []) $ fjoin ! $ frame ! $ owned ! R (Is R) makes (value s.now n) (v ∷ []) is $ done !

  pub meets : (𝓣 : Tables 𝓤 H) (function : Fn)
      → ((κ : Lft) (q : Share) (s : Bor (List ℕ)) (n : ℕ) → n + size ≤ length s.now → n < 2 ^ 64 → WT (seen s) → ent 𝓤 (Entry κ q s n) (WpFn 𝓤 H 𝓣.C 𝓣.Λ function (seen s ∷ vint w64 n ∷ []) (Exit κ q s n)))
      → Meets 𝓛 (recording R).signature (WpFn 𝓤 H 𝓣.C 𝓣.Λ function) (closing 𝓛 (recording R) recorded)
  meets 𝓣 function walk =
      walk_Meets 𝓛 (recording R) (stayed R) (Goes-none_slice 𝓛 1 (0 ∷ []) tt (plain (λ _. u8)) yes, (Goes-none 𝓛 1 (λ _. usize) yes (λ κs x f. refl), tt)) recorded (WpFn 𝓤 H 𝓣.C 𝓣.Λ function) (WpFn-mono 𝓤 H 𝓛.laws 𝓣 function)
      (walked 𝓛 (recording R) (stayed R) recorded (WpFn 𝓤 H 𝓣.C 𝓣.Λ function) (λ κs. (shr_slice_vals, (uint_vals w64, tt))) (λ κs. (shr_slice_Tells (named 0) κs.0 u8, (uint_Tells w64, tt)))
      (λ κs qs bounds a g are. needs 𝓤 _ _ (λ inside.
      walk κs.0 qs.0 a.0 a.1.0 inside are.1.0.1 ((shr_slice_Lawful 𝓛 (named 0) κs.0 u8).typed a.0 (seen a.0 ∷ []) are.0).0.1)))
