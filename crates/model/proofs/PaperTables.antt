-- Tables I to VI of source document 002: each bound that it prints solves its equation as `PaperEquations` has it, and each C is the one printed; computed from the
-- paper's side alone. Its figures' routes are laid on a line, with link cycles 1 and routing cycles 0. Deadlines enter no equation, and all jitters are 0.
use Prim.Native.Nat.{ℕ}
use mathlib.Core.Path.{◌≡◌, refl}
use mathlib.Core.Bool.{cond}
use mathlib.Core.List.{List, [], ◌∷◌, map}
use lib.Dec.{eqb}
use Rattle.plan_values.specs.declared.Platform.{Platform}
use Rattle.plan_values.specs.declared.Flow.{Flow}
use Rattle.mesh.specs.Mesh.{hops, along, xy}
use Rattle.mesh.specs.Shared.{on, domain}
use Rattle.model.specs.declared.Method.{Method}
use Rattle.model.specs.declared.Method.TheVariants.{SB, XLWX, IBN}
use Rattle.model.specs.PaperSets.{C, order, some_of, sum, Sᴰ, Sᴵ, Sᵘᵖ, Sᵈᵒʷⁿ}
use Rattle.model.specs.PaperEquations.{⌈◌÷◌⌉, equation_of}

-- A line of eight nodes, buffers of so many flits.
abbrev line : ℕ → Platform
line b = record { columns = 8; rows = 1; link = 1; routing = 0; buffer = b; method = 0; priority_flits = 0 }

abbrev τ : (id P source destination L T : ℕ) → Flow
τ id P source destination L T = record { id = id; priority = P; source = source; destination = destination; flits = L; period = T; deadline = T; jitter = 0 }

abbrev example_1 : List Flow
example_1 = τ 6 1 0 1 12 1000 ∷ τ 7 2 1 2 50 208 ∷ τ 8 3 0 2 100 257 ∷ τ 9 4 1 2 50 1000 ∷ []

abbrev example_2 : List Flow
example_2 = τ 1 1 0 2 27 150 ∷ τ 2 2 5 6 28 150 ∷ τ 3 3 1 6 144 400 ∷ τ 4 4 5 6 98 600 ∷ τ 5 5 2 5 96 300 ∷ []

-- "we use only three flows and reuse the routes of τ_2, τ_3 and τ_5 from Example 2"
abbrev example_3 : List Flow
example_3 = τ 2 1 5 6 60 200 ∷ τ 3 2 1 6 198 4000 ∷ τ 5 3 2 5 128 6000 ∷ []

-- A column of a table of results: the buffers, the analysis and the bounds that it prints.
pub record Column : Type 0 where
  pub flows : List Flow
  pub b : ℕ
  pub analysis : Method
  pub R : List ℕ

abbrev column : List Flow → ℕ → Method → List ℕ → Column
column flows b analysis R = record { flows = flows; b = b; analysis = analysis; R = R }

abbrev columns : List Column
columns =
    -- Table II
    column example_1 10 SB (14 ∷ 52 ∷ 169 ∷ 362 ∷ [])
    ∷ column example_1 10 XLWX (14 ∷ 52 ∷ 169 ∷ 207 ∷ [])
    ∷ column example_1 10 IBN (14 ∷ 52 ∷ 169 ∷ 362 ∷ [])
    -- Table IV
    ∷ column example_2 10 SB (30 ∷ 30 ∷ 270 ∷ 520 ∷ 250 ∷ [])
    ∷ column example_2 10 XLWX (30 ∷ 30 ∷ 270 ∷ 340 ∷ 310 ∷ [])
    ∷ column example_2 10 IBN (30 ∷ 30 ∷ 270 ∷ 520 ∷ 520 ∷ [])
    ∷ column example_2 2 IBN (30 ∷ 30 ∷ 270 ∷ 520 ∷ 262 ∷ [])
    -- Table VI
    ∷ column example_3 10 SB (62 ∷ 328 ∷ 336 ∷ [])
    ∷ column example_3 10 XLWX (62 ∷ 328 ∷ 460 ∷ [])
    ∷ column example_3 10 IBN (62 ∷ 328 ∷ 396 ∷ [])
    ∷ column example_3 2 IBN (62 ∷ 328 ∷ 348 ∷ [])
    ∷ []

-- The bound that stands in a flow's row.
unfoldable in_row : List Flow → List ℕ → Flow → ℕ
in_row [] R i = 0
in_row (j ∷ Γ) [] i = 0
in_row (j ∷ Γ) (r ∷ R) i = cond (eqb j.id i.id) r (in_row Γ R i)

bounds_solve : map (λ c. map (λ i. equation_of (line c.b) c.flows (in_row c.flows c.R) c.analysis i (in_row c.flows c.R i)) c.flows) columns ≡ map (λ c. c.R) columns
unfolding hops along xy on domain C order some_of sum Sᴰ Sᴵ Sᵘᵖ Sᵈᵒʷⁿ ⌈◌÷◌⌉ in_row
bounds_solve = refl

-- Tables I, III and V
latencies_agree :
    map (λ Γ. map (C (line 10)) Γ) (example_1 ∷ example_2 ∷ example_3 ∷ [])
    ≡ (14 ∷ 52 ∷ 103 ∷ 52 ∷ []) ∷ (30 ∷ 30 ∷ 150 ∷ 100 ∷ 100 ∷ []) ∷ (62 ∷ 204 ∷ 132 ∷ []) ∷ []
unfolding hops along xy C
latencies_agree = refl
