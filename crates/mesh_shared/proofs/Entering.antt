-- What two routes share of their links into the mesh and out of it: one link of each, at a spot.
use Prim.Native.Nat.{ℕ, ◌+◌, ◌-◌, ◌<◌, min, max}
use mathlib.Core.Path.{◌≡◌, refl}
use mathlib.Core.Bool.{Bool, true, false}
use mathlib.Core.List.{[], ◌∷◌}
use native.Mathlib.Omega.{arith}
use borrow.Author.Tests.{eqb-true, eqb-false}
use lib.Dec.{eqb}
use Rattle.mesh.specs.declared.spots.Spot.{Spot}
use Rattle.mesh.specs.declared.spots.Spots.{Spots}
use Rattle.mesh.specs.Mesh.{link, injection, ejection}
use Rattle.mesh.specs.Shared.{Shares}
use Rattle.mesh.specs.Halves.{OnMesh}
use Rattle.mesh_stretches.specs.Stretches.{LinkShared}
use Rattle.mesh.proofs.Spans.{spot_number, link_span}
use Rattle.mesh.proofs.Walks.{one_link}
use Rattle.mesh_stretches.proofs.Keeping.{run_shares}

none_both : (p q : ℕ) → (p ≡ q → ⊥) → min (1 + p) (1 + q) - max p q ≡ 0
none_both p q h = omega arith

-- It is shared if both stand at one spot.
link_shares : (kind : ℕ) (s t : Spot) → (s.row < 8) × (s.column < 8) × (t.row < 8) × (t.column < 8)
    → {n f : ℕ} (same : Bool) → (same ≡ true → spot_number s ≡ spot_number t) → (same ≡ false → spot_number s ≡ spot_number t → ⊥)
    → LinkShared same n f → Shares (link kind s.row s.column ∷ []) (link kind t.row t.column ∷ []) n f
link_shares kind s t small true one two w =
    run_shares (one_link kind s t small).run (record { many = omega (arith, one refl); some = λ h. omega (arith, one refl); none = λ e. w.place })
link_shares kind s t small false one two w =
    let apart : (link_span s t).count ≡ 0 = none_both (spot_number s) (spot_number t) (two refl) in
    run_shares (one_link kind s t small).run (record { many = omega arith; some = λ h. absurd (omega arith); none = λ e. w.place })

module _ {a b : Spots} {n f : ℕ} (on_a : OnMesh a) (on_b : OnMesh b) where
  pub injection_shares : a.source.row ≡ b.source.row → LinkShared (eqb a.source.column b.source.column) n f
      → Shares (injection a.source.row a.source.column ∷ []) (injection b.source.row b.source.column ∷ []) n f
  injection_shares one =
      link_shares 0 a.source b.source (omega arith) (eqb a.source.column b.source.column)
      (λ e. omega (arith, eqb-true a.source.column b.source.column e))
      (λ e g. eqb-false a.source.column b.source.column e (omega arith))

  pub ejection_shares : a.destination.column ≡ b.destination.column → LinkShared (eqb a.destination.row b.destination.row) n f
      → Shares (ejection a.destination.row a.destination.column ∷ []) (ejection b.destination.row b.destination.column ∷ []) n f
  ejection_shares one =
      link_shares 5 a.destination b.destination (omega arith) (eqb a.destination.row b.destination.row)
      (λ e. omega (arith, eqb-true a.destination.row b.destination.row e))
      (λ e g. eqb-false a.destination.row b.destination.row e (omega arith))
