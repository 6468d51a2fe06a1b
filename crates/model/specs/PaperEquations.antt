-- Source document 002, equations (1) to (10), each name with its equation's number. What 002 writes as R_i on the right is the window x here, so that its equations read
-- R_i = F(R_i); R gives the bounds R_j of the flows above, under the same method.
use Rattle.std.specs.Prelude.{ℕ, ◌+◌, ◌-◌, ◌*◌, ◌/◌, ◌%◌, min, cond, List, eqb, length}
use Rattle.plan_values.specs.declared.Platform.{Platform}
use Rattle.plan_values.specs.declared.Flow.{Flow}
use Rattle.model.specs.declared.Method.{Method}
use Rattle.model.specs.declared.Method.TheVariants.{SB, XLWX, IBN}
use Rattle.model.specs.PaperSets.{T, J, linkl, buf, cd, C, sum, Sᴰ, Sᵘᵖ, Sᵈᵒʷⁿ}

-- "the ceiling function": the quotient, and one more where something is left over.
unfoldable pub ⌈◌÷◌⌉ : ℕ → ℕ → ℕ
⌈ a ÷ b ⌉ = a / b + cond (eqb (a % b) 0) 0 1

-- "the number of 'hits' is bounded by the ratio surrounded by the ceiling function": hits of τ_j in a window x.
abbrev pub hits_in : ℕ → Flow → ℕ
hits_in x j = ⌈ (x + J j) ÷ T j ⌉

-- (7) bi_ij = buf(Ξ).linkl(Ξ).|cd_ij|
abbrev pub bi₇ : Platform → Flow → Flow → ℕ
bi₇ p i j = buf p * linkl p * length (cd p i j)

module _ (p : Platform) (Γ : List Flow) (R : Flow → ℕ) where
  -- (1) I_i^D = Σ_{τ_j ∈ S_i^D} ⌈(R_i + J_j) / T_j⌉ C_j
  abbrev pub Iᴰ₁ : Flow → ℕ → ℕ
  Iᴰ₁ i x = sum Γ (Sᴰ p i) (λ j. hits_in x j * C p j)

  -- "J_j^I = R_j - C_j". No bound is below C_j.
  abbrev pub Jᴵ : Flow → ℕ
  Jᴵ j = R j - C p j

  -- (2) I_i = Σ_{τ_j ∈ S_i^D} ⌈(R_i + J_j + J_j^I) / T_j⌉ C_j
  abbrev pub I₂ : Flow → ℕ → ℕ
  I₂ i x = sum Γ (Sᴰ p i) (λ j. ⌈ (x + J j + Jᴵ j) ÷ T j ⌉ * C p j)

  -- (3) R_i^SB = C_i + I_i
  abbrev pub R₃ : Flow → ℕ → ℕ
  R₃ i x = C p i + I₂ i x

  -- I_kj, what τ_j suffers from τ_k. Difference: 002 has no formula for it; it is τ_k's part of (1) for τ_j, as document 01's "hits x C_k" and (8) count it, with no J_k^I.
  abbrev pub I : Flow → Flow → ℕ
  I k j = hits_in (R j) k * C p k

  -- (4) I_ji^up = Σ_{τ_k ∈ S_{I_i}^{up_j}} I_kj
  abbrev pub Iᵘᵖ₄ : Flow → Flow → ℕ
  Iᵘᵖ₄ j i = sum Γ (Sᵘᵖ p Γ i j) (λ k. I k j)

  -- (5) I_ji^down = Σ_{τ_k ∈ S_{I_i}^{down_j}} I_kj
  abbrev pub Iᵈᵒʷⁿ₅ : Flow → Flow → ℕ
  Iᵈᵒʷⁿ₅ j i = sum Γ (Sᵈᵒʷⁿ p Γ i j) (λ k. I k j)

  -- (6) R_i^XLWX = C_i + Σ_{τ_j ∈ S_i^D} ⌈(R_i + J_j + I_ji^up) / T_j⌉ (C_j + I_ji^down)
  abbrev pub R₆ : Flow → ℕ → ℕ
  R₆ i x = C p i + sum Γ (Sᴰ p i) (λ j. ⌈ (x + J j + Iᵘᵖ₄ j i) ÷ T j ⌉ * (C p j + Iᵈᵒʷⁿ₅ j i))

  -- (8) I_ji^down = Σ_{τ_k ∈ S_{I_i}^{down_j}} ⌈(R_j + J_k) / T_k⌉ bi_ij
  abbrev pub Iᵈᵒʷⁿ₈ : Flow → Flow → ℕ
  Iᵈᵒʷⁿ₈ j i = sum Γ (Sᵈᵒʷⁿ p Γ i j) (λ k. hits_in (R j) k * bi₇ p i j)

  -- (9) I_ji^down = Σ_{τ_k ∈ S_{I_i}^{down_j}} ⌈(R_j + J_k) / T_k⌉ min(bi_ij, C_k)
  abbrev pub Iᵈᵒʷⁿ₉ : Flow → Flow → ℕ
  Iᵈᵒʷⁿ₉ j i = sum Γ (Sᵈᵒʷⁿ p Γ i j) (λ k. hits_in (R j) k * min (bi₇ p i j) (C p k))

  -- (10) R_i^IBN = C_i + Σ_{τ_j ∈ S_i^D} ⌈(R_i + J_j + J_j^I) / T_j⌉ (C_j + I_ji^down), "using I_ji^down as defined in Equation 9"
  abbrev pub R₁₀ : Flow → ℕ → ℕ
  R₁₀ i x = C p i + sum Γ (Sᴰ p i) (λ j. ⌈ (x + J j + Jᴵ j) ÷ T j ⌉ * (C p j + Iᵈᵒʷⁿ₉ j i))

  -- The equation of each method.
  abbrev pub equation_of : Method → Flow → ℕ → ℕ
  equation_of SB = R₃
  equation_of XLWX = R₆
  equation_of IBN = R₁₀
