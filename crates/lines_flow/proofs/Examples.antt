-- A flow's line and a refusal's, computed: in each no two numbers are equal, so that every number has its place.
use Prim.Native.Nat.{ℕ}
use mathlib.Core.Path.{◌≡◌, refl}
use mathlib.Core.List.{[], ◌∷◌, map}
use Rattle.model.specs.declared.Verdict.{Verdict}
use Rattle.model.specs.declared.Verdict.TheVariants.{Bounded, Late, Waits}
use Rattle.model.specs.declared.Answer.{Answer}
use Rattle.lines_items.specs.Decimal.{digits_below, decimal}
use Rattle.lines_items.specs.Items.{item}
use Rattle.lines_flow.specs.Flows.{told, flow_line, refusal_line}

abbrev answer : ℕ → Verdict → Answer
answer id verdict = record { id = id; verdict = verdict }

-- "Then per flow: id and verdict; after `bounded` the bound and rounds, after `late` the rounds, after `waits` the named id"
flows :
    map flow_line (answer 65534 (Bounded 1_000_000_000 4207) ∷ answer 0 (Late 19) ∷ answer 308 (Waits 70) ∷ [])
    ≡
    (54 ∷ 53 ∷ 53 ∷ 51 ∷ 52 ∷ 32 ∷ 98 ∷ 111 ∷ 117 ∷ 110 ∷ 100 ∷ 101 ∷ 100 ∷ 32 ∷ 49 ∷ 48 ∷ 48 ∷ 48 ∷ 48 ∷ 48 ∷ 48 ∷ 48 ∷ 48 ∷ 48 ∷ 32 ∷ 114 ∷ 111 ∷ 117 ∷ 110 ∷ 100 ∷ 115 ∷ 32 ∷ 52 ∷ 50 ∷ 48 ∷ 55 ∷ 10 ∷ [])  -- 65534 bounded 1000000000 rounds 4207
    ∷ (48 ∷ 32 ∷ 108 ∷ 97 ∷ 116 ∷ 101 ∷ 32 ∷ 114 ∷ 111 ∷ 117 ∷ 110 ∷ 100 ∷ 115 ∷ 32 ∷ 49 ∷ 57 ∷ 10 ∷ [])  -- 0 late rounds 19
    ∷ (51 ∷ 48 ∷ 56 ∷ 32 ∷ 119 ∷ 97 ∷ 105 ∷ 116 ∷ 115 ∷ 32 ∷ 55 ∷ 48 ∷ 10 ∷ [])  -- 308 waits 70
    ∷ []
unfolding digits_below decimal item told flow_line
flows = refl

-- "For a refusal it prints only `refused NUMBER at PLACE`."
refusal : refusal_line 24 107 ≡ 114 ∷ 101 ∷ 102 ∷ 117 ∷ 115 ∷ 101 ∷ 100 ∷ 32 ∷ 50 ∷ 52 ∷ 32 ∷ 97 ∷ 116 ∷ 32 ∷ 49 ∷ 48 ∷ 55 ∷ 10 ∷ []
unfolding digits_below decimal item refusal_line
refusal = refl
