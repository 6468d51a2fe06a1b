-- What the tables of source document 002 leave equal, since all jitters are 0 there, link cycles 1, routing cycles 0 and every network a line: its equations on the flows `crossing` of Examples,
-- computed from the paper's side alone. The bounds are those that Examples has from document 01's.
use Prim.Native.Nat.{ℕ}
use mathlib.Core.Path.{◌≡◌, refl}
use mathlib.Core.Bool.{true, false, cond}
use mathlib.Core.List.{List, [], ◌∷◌, map}
use lib.Dec.{eqb}
use Rattle.plan_values.specs.declared.Platform.{Platform}
use Rattle.plan_values.specs.declared.Flow.{Flow}
use Rattle.mesh.specs.Mesh.{hops, along, xy}
use Rattle.mesh.specs.Shared.{on, domain}
use Rattle.model.specs.declared.Method.{Method}
use Rattle.model.specs.declared.Method.TheVariants.{SB, XLWX, IBN}
use Rattle.model.specs.PaperSets.{C, order, some_of, sum, Sᴰ, Sᴵ, Sᵘᵖ, Sᵈᵒʷⁿ}
use Rattle.model.specs.PaperEquations.{⌈◌÷◌⌉, Iᴰ₁, Iᵈᵒʷⁿ₈, Iᵈᵒʷⁿ₉, equation_of}

abbrev mesh : Platform
mesh = record { columns = 6; rows = 4; link = 2; routing = 5; buffer = 7; method = 0; priority_flits = 0 }

abbrev τ : (id P source destination L T D J : ℕ) → Flow
τ id P source destination L T D J = record { id = id; priority = P; source = source; destination = destination; flits = L; period = T; deadline = D; jitter = J }

abbrev nine : Flow
nine = τ 9 12 2 10 22 9000 8000 31

abbrev seven : ℕ → Flow
seven J = τ 7 9 0 5 12 1190 1140 J

abbrev crossing : ℕ → List Flow
crossing J = seven J ∷ τ 3 6 11 5 13 170 160 28 ∷ τ 1 2 0 2 4 360 350 57 ∷ τ 4 5 4 11 3 350 340 56 ∷ nine ∷ τ 8 1 10 11 3 170 165 24 ∷ τ 2 7 1 2 1 160 150 44 ∷ τ 5 4 2 3 5 440 430 1 ∷ []

-- The bounds in plan order, where those of τ_7 and τ_9 are r and s; and the bound of a flow by its id.
abbrev bounds : ℕ → ℕ → List ℕ
bounds r s = r ∷ 40 ∷ 29 ∷ 47 ∷ s ∷ 20 ∷ 45 ∷ 24 ∷ []

unfoldable by_id : List Flow → List ℕ → Flow → ℕ
by_id [] R i = 0
by_id (j ∷ Γ) [] i = 0
by_id (j ∷ Γ) (r ∷ R) i = cond (eqb j.id i.id) r (by_id Γ R i)

-- The right sides of all flows at their bounds.
abbrev sides : Method → ℕ → ℕ → ℕ → List ℕ
sides analysis J r s = map (λ i. equation_of mesh (crossing J) (by_id (crossing J) (bounds r s)) analysis i (by_id (crossing J) (bounds r s) i)) (crossing J)

crossing_solves :
    (sides SB 820 274 162 ≡ bounds 274 162)
    × (sides SB 821 274 228 ≡ bounds 274 228)
    × (sides XLWX 844 294 269 ≡ bounds 294 269)
    × (sides XLWX 845 294 466 ≡ bounds 294 466)
    × (sides IBN 558 398 300 ≡ bounds 398 300)
    × (sides IBN 559 398 528 ≡ bounds 398 528)
unfolding hops along xy on domain C order some_of sum Sᴰ Sᴵ Sᵘᵖ Sᵈᵒʷⁿ ⌈◌÷◌⌉ by_id
crossing_solves = (refl, refl, refl, refl, refl, refl)

-- With one cycle more of jitter, the windows of the bounds before hold two packets of τ_7: 72 + 2 x 66 + 24, 72 + 2 x 173 + 24 and 72 + 2 x 204 + 24.
abbrev of_nine : Method → ℕ → ℕ → ℕ → ℕ → ℕ
of_nine analysis J r s x = equation_of mesh (crossing J) (by_id (crossing J) (bounds r s)) analysis nine x

second_packets : (of_nine SB 821 274 228 162 ≡ 228) × (of_nine XLWX 845 294 466 269 ≡ 442) × (of_nine IBN 559 398 528 300 ≡ 504)
unfolding hops along xy on domain C order some_of sum Sᴰ Sᴵ Sᵘᵖ Sᵈᵒʷⁿ ⌈◌÷◌⌉ by_id
second_packets = (refl, refl, refl)

-- (1): two packets of τ_7, whose C is 66, in a window of 633, and two of τ_5, whose C is 24. (8): 2 + 3 hits at 28; (9): 2 hits at 27 and 3 at 28.
sums :
    (Iᴰ₁ mesh (crossing 558) (by_id (crossing 558) (bounds 398 300)) nine 633 ≡ 180)
    × (Iᵈᵒʷⁿ₈ mesh (crossing 558) (by_id (crossing 558) (bounds 398 300)) (seven 558) nine ≡ 140)
    × (Iᵈᵒʷⁿ₉ mesh (crossing 558) (by_id (crossing 558) (bounds 398 300)) (seven 558) nine ≡ 138)
unfolding hops along xy on domain C order some_of sum Sᴰ Sᴵ Sᵘᵖ Sᵈᵒʷⁿ ⌈◌÷◌⌉ by_id
sums = (refl, refl, refl)

-- "the ceiling function"
ceilings : ⌈ 0 ÷ 400 ⌉ ∷ ⌈ 1 ÷ 400 ⌉ ∷ ⌈ 400 ÷ 400 ⌉ ∷ ⌈ 800 ÷ 400 ⌉ ∷ ⌈ 801 ÷ 400 ⌉ ∷ [] ≡ 0 ∷ 1 ∷ 1 ∷ 2 ∷ 3 ∷ []
unfolding ⌈◌÷◌⌉
ceilings = refl

-- "the order of a link λ_a over a route route_i (i.e. 1 for first, 2 for second, etc.)"
orders : map (λ a. order a (4 ∷ 6 ∷ 5 ∷ [])) (4 ∷ 6 ∷ 5 ∷ []) ≡ 1 ∷ 2 ∷ 3 ∷ []
unfolding order
orders = refl

-- "S_i^I = {τ_k ∈ Γ | τ_k ∈ S_j^D, τ_j ∈ S_i^D, τ_k ∉ S_i^D}": for τ_9, in plan order, τ_3, τ_1, τ_4 and τ_2, by τ_7; not τ_8, which delays none that delays τ_9.
indirect : map (Sᴵ mesh (crossing 0) nine) (crossing 0) ≡ false ∷ true ∷ true ∷ true ∷ false ∷ false ∷ true ∷ false ∷ []
unfolding hops along xy on domain some_of Sᴰ Sᴵ
indirect = refl
