-- What the walks over a `Reader` share. A walk carries the lifetime's token and what the plan's bytes own, and makes of them what each call asks.
--     ReaderT          the struct's type, over the signature's lifetimes
--     Token, Bytes     what a walk carries.        seen s      the machine value of the bytes s
--     shut, opened     what the bytes own and what a reader of them owns, each from the other
--     calls_for        a call, as one step: what is carried gives what the callee asks and is kept, and the result's machine value is known
-- Assumes `Logic`.
use mathlib.Core.Path.{◌≡◌, refl, sym, subst}
use Prim.Native.Nat.{ℕ, ◌<◌, ◌^◌}
use mathlib.Core.List.{List, [], ◌∷◌}
use lib.ListN.{length}
use seplogic.Ra.Ura.{Ura}
use mir.Syntax.{Callee as Name, Place, Opd as Operand, Body, seq, call, named, w8, w64}
use mir.Val.{Val}
use base.Logic.{SProp, ent}
use base.Fml.{Lft, Share, Fml, ftrue, flft}
use prog.Wp.{Env, Calls, Loops}
use types.Logic.{Logic, sem}
use contract.Lifetimes.{Lfts}
use contract.Monad.{fact}
use types.Kit.{Item, ‵, raw, mean, ◌⊛◌, given, ⋆, some, later, Post, runs, lands, Seq, ◌$◌, ◌∵◌, !, qed, by, move, drop, use1, use2, split, learn, pick, fjoin, await, done}
use types.Run.{Opds}
use sound.WpLaws.{FmC}
use denote.RattleType.{RattleType}
use denote.Laws.{Is, shows}
use denote.Plain.{uint_Makes, uint_row_laws}
use denote.Builtin.{u8, usize}
use denote.Ref.{Bor}
use denote.Signature.{named_lft}
use denote.Slice.{slice_val, ShrSlice, shr_slice_copy}
use denote.Steps.{owned, peeks, heard, nothing}
use denote.Struct.Declared.{Declared}
use denote.Struct.Laws as LL
use denote.Struct.Rest.{all_own, field_own, rest, own_open, own_out, own_shut}
use denote.Triple.Statement.{Contract, Triple}
use denote.Triple.Call.{calls_at}
use Rattle.framing_reader.specs.Reader.{reader_at}
use Rattle.framing_reader.specs.declared.Reader.{Reader}
use Rattle.framing_reader.specs.contracts.Reader as T
use Rattle.framing_reader.proofs.Reader.TheLaws as T'

abbrev pub ReaderT : Lfts 1 → RattleType
ReaderT κs = T.the_row (named_lft 1 0 tt κs)

abbrev pub seen : Bor (List ℕ) → Val
seen s = slice_val s.ref_ptr (length s.now)

abbrev pub Bytes : Lft → Bor (List ℕ) → Fml
Bytes κ s = (ShrSlice (named 0) κ u8).own_val s (seen s ∷ [])

abbrev pub Reading : Lft → Reader → Fml
Reading κ r = (ReaderT (κ, tt)).own_val r (T'.lowered r ∷ [])

abbrev pub Token : {M : Type 1} (𝓤 : Ura M) → Lft → Share → Item 𝓤
Token 𝓤 κ q = ‵ (flft κ q) ⊛ ‵ ftrue

-- a machine value that is told in a list of one
pub alone : {u v : Val} → u ∷ [] ≡ v ∷ [] → v ≡ u
alone e = cc

module _ {M : Type 1} {𝓤 : Ura M} (𝓛 : Logic 𝓤) (κ : Lft) (s : Bor (List ℕ)) (n : ℕ) where
  abbrev D : Declared
  D = T.the_type (named_lft 1 0 tt (κ, tt))

  abbrev L : LL.Laws D
  L = T'.the_laws (named_lft 1 0 tt (κ, tt))

  pub shut : n < 2 ^ 64 → ent 𝓤 (sem 𝓛 (Bytes κ s)) (sem 𝓛 (Reading κ (reader_at s n)))
  shut fits = qed 𝓛 (‵ (Bytes κ s) ∷ []) ∵ nothing ! $ owned ! usize (Is usize) (uint_Makes 𝓛 w64) n _ (refl, fits) $ fjoin ! $ move ! (1 ∷ 0 ∷ []) $ fjoin ! $ by ! (own_shut 𝓛 D L (s, (n, tt)))

  pub opened : ent 𝓤 (sem 𝓛 (Reading κ (reader_at s n))) (sem 𝓛 (Bytes κ s))
  opened =
      qed 𝓛 (‵ (Reading κ (reader_at s n)) ∷ []) ∵
      use1 𝓛 (given (T'.lowered (reader_at s n) ∷ [] ≡ T'.lowered (reader_at s n) ∷ []) (‵ (all_own D.parts L (s, (n, tt))))) (own_open 𝓛 D L (s, (n, tt)) (T'.lowered (reader_at s n))) $
      learn ! (λ _. use1 𝓛 (‵ (field_own D.parts L 0 s) ⊛ ‵ (rest D.parts L 0 (s, (n, tt)))) (own_out 𝓛 D.parts L 0 (s, (n, tt))) $ split ! $ move ! (1 ∷ []) $ drop ! $ done !)

module _ {M : Type 1} {𝓤 : Ura M} {𝓛 : Logic 𝓤} {K : Type 0} {Γ : List (Item 𝓤)} {E : Env 𝓤 𝓛.H} {C : Calls 𝓤 𝓛.H} {Λ : Loops 𝓤 𝓛.H} {f : Name} {xs : List Operand} {g : Post 𝓤 𝓛.H} {d : Place} {next : Body} where
  open 𝓛 use {H}

  pub calls_for : K → FmC 𝓤 H 𝓛.laws C → (κ : Lft) (q : Share) (s : Bor (List ℕ)) (c : Contract 𝓤) → Triple 𝓤 (C f) c → (x : c.Ghost) (R : RattleType) (ensures : R.Denot → SProp 𝓤) (found : R.Denot) (v : Val)
      → ent 𝓤 (⋆ 𝓛 (Token 𝓤 κ q ∷ ‵ (Bytes κ s) ∷ [])) (c.pre x)
      → ((u : Val) → ent 𝓤 (c.post x u) (mean 𝓛 (later (some (λ (r : R.Denot). (Token 𝓤 κ q ⊛ ‵ (R.own_val r (u ∷ []))) ⊛ raw (ensures r))))))
      → ((r : R.Denot) → ent 𝓤 (ensures r) (fact 𝓤 (r ≡ found)))
      → ((u : Val) → Is R found (u ∷ []) → v ≡ u)
      → Opds K 𝓛 (raw (c.pre x) ∷ ‵ (Bytes κ s) ∷ Γ) E xs (c.args x)
      → (Is R found (v ∷ []) → Seq K 𝓛 (Token 𝓤 κ q ∷ ‵ (Bytes κ s) ∷ Γ) (lands C Λ E d v next g))
      → Seq K 𝓛 (Token 𝓤 κ q ∷ ‵ (Bytes κ s) ∷ Γ) (runs C Λ E (seq (call f xs d) next) g)
  calls_for t fm κ q s c known x R ensures found v goes told said tells os k =
      move t (1 ∷ []) $ use1 𝓛 (‵ (Bytes κ s) ⊛ ‵ (Bytes κ s)) ((shr_slice_copy 𝓛 (named 0) κ u8 (uint_row_laws w8)).twice s (seen s ∷ [])) $ split t $ move t (2 ∷ 0 ∷ []) $
      use2 𝓛 (raw (c.pre x)) goes $
      calls_at t fm c known x os (λ u. use1 𝓛 (later (some (λ (r : R.Denot). (Token 𝓤 κ q ⊛ ‵ (R.own_val r (u ∷ []))) ⊛ raw (ensures r)))) (told u) $ await t tt $ pick t (λ r.
      split t $ move t (1 ∷ []) $ use1 𝓛 (raw (fact 𝓤 (r ≡ found))) (said r) $ heard t (r ≡ found) (λ e. split t $ move t (1 ∷ []) $ peeks t R (Is R) (shows 𝓛 R) r (u ∷ []) (λ is. drop t $
      (let was : Is R found (u ∷ []) = subst (λ (z : R.Denot). Is R z (u ∷ [])) e is in
      let same : v ≡ u = tells u was in
      subst (λ (z : Val). Seq K 𝓛 (Token 𝓤 κ q ∷ ‵ (Bytes κ s) ∷ Γ) (lands C Λ E d z next g)) same (k (subst (λ (z : Val). Is R found (z ∷ [])) (sym same) was)))))))
