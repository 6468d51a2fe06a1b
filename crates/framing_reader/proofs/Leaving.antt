-- The end of a walk: all locals of the function are freed, in one step. The context has what the walk carries, two entries, and then the locals from the last to the first, each with what is freed with it.
--     Cells        these entries are the function's locals, whatever they hold
--     leaves       all of them are freed
-- Assumes `Logic`.
use Prim.Native.Nat.{ℕ, zero}
use mathlib.Core.List.{List, [], ◌∷◌}
use seplogic.Ra.Ura.{Ura}
use base.Fraction.{full_share}
use mir.Syntax.{Ty}
use mir.Val.{Val}
use base.Logic.{SProp, ent, sep, via, assoc∗, assoc', comm∗, mono_l, mono_r, snd∗}
use base.Fml.{fat, fdies}
use prog.Wp.{Heap, Env, release}
use types.Logic.{Logic}
use types.Kit.{Item, ‵, mean, ⋆, pop, Goal, frees, aim, Step, step}

-- `Cells Γ E E'`: the locals of Γ, and behind them those of E, are the locals E'.
pub data Cells {M : Type 1} (𝓤 : Ura M) (H : Heap 𝓤) : List (Item 𝓤) → Env 𝓤 H → Env 𝓤 H → Type 2 where
  none : {E : Env 𝓤 H} → Cells 𝓤 H [] E E
  cell : {τ : Ty} {b : ℕ} {v : Val} {Γ : List (Item 𝓤)} {E E' : Env 𝓤 H} → Cells 𝓤 H Γ ((τ, b) ∷ E) E' → Cells 𝓤 H (‵ (fat full_share τ b zero v) ∷ ‵ (fdies τ b) ∷ Γ) E E'

module _ {M : Type 1} {𝓤 : Ura M} (𝓛 : Logic 𝓤) (P : SProp 𝓤) where
  -- one local, out of the context and into what is freed
  open 𝓛 use {H}

  one_out : (τ : Ty) (b : ℕ) (v : Val) (Γ : List (Item 𝓤)) (E : Env 𝓤 H)
      → ent 𝓤 (sep 𝓤 (⋆ 𝓛 (‵ (fat full_share τ b zero v) ∷ ‵ (fdies τ b) ∷ Γ)) (release 𝓤 H E P)) (sep 𝓤 (⋆ 𝓛 Γ) (release 𝓤 H ((τ, b) ∷ E) P))
  one_out τ b v Γ E =
      let held = H.at full_share τ b zero v in
      let room = H.room τ b zero in
      let dies = H.dies τ b in
      let rest = ⋆ 𝓛 Γ in
      let freed = release 𝓤 H E P in
      via 𝓤 (sep 𝓤 (sep 𝓤 (sep 𝓤 room dies) rest) freed)
      (mono_l 𝓤 freed
      (via 𝓤 (sep 𝓤 held (sep 𝓤 dies rest)) (mono_r 𝓤 held (pop 𝓛 (‵ (fdies τ b)) Γ))
      (via 𝓤 (sep 𝓤 room (sep 𝓤 dies rest)) (mono_l 𝓤 (sep 𝓤 dies rest) (𝓛.laws.at_room τ b zero v)) (assoc' 𝓤 room dies rest))))
      (via 𝓤 (sep 𝓤 (sep 𝓤 rest (sep 𝓤 room dies)) freed) (mono_l 𝓤 freed (comm∗ 𝓤 (sep 𝓤 room dies) rest)) (assoc∗ 𝓤 rest (sep 𝓤 room dies) freed))

  all_out : {Γ : List (Item 𝓤)} {E E' : Env 𝓤 H} → Cells 𝓤 H Γ E E' → ent 𝓤 (sep 𝓤 (⋆ 𝓛 Γ) (release 𝓤 H E P)) (release 𝓤 H E' P)
  all_out (none {E}) = snd∗ 𝓤 (⋆ 𝓛 []) (release 𝓤 H E P)
  all_out (cell {τ} {b} {v} {Γ} {E} more) = via 𝓤 (sep 𝓤 (⋆ 𝓛 Γ) (release 𝓤 H ((τ, b) ∷ E) P)) (one_out τ b v Γ E) (all_out more)

module _ {M : Type 1} {𝓤 : Ura M} {𝓛 : Logic 𝓤} {K : Type 0} {i j : Item 𝓤} {Γ : List (Item 𝓤)} {E : Env 𝓤 𝓛.H} {g : Goal 𝓤 𝓛.H} where
  open 𝓛 use {H}

  pub leaves : K → Cells 𝓤 H Γ [] E → Step K 𝓛 (i ∷ j ∷ []) g (i ∷ j ∷ Γ) (frees E g)
  leaves t cells =
      let carried = sep 𝓤 (mean 𝓛 i) (mean 𝓛 j) in
      let locals = ⋆ 𝓛 Γ in
      step (λ s. record {
        prf =
            via 𝓤 (sep 𝓤 (mean 𝓛 i) (sep 𝓤 (mean 𝓛 j) locals)) (mono_r 𝓤 (mean 𝓛 i) (pop 𝓛 j Γ))
            (via 𝓤 (sep 𝓤 carried locals) (assoc' 𝓤 (mean 𝓛 i) (mean 𝓛 j) locals)
            (via 𝓤 (sep 𝓤 locals carried) (comm∗ 𝓤 carried locals)
            (via 𝓤 (sep 𝓤 locals (aim 𝓤 H g)) (mono_r 𝓤 locals s.prf) (all_out 𝓛 (aim 𝓤 H g) cells))));
      })
