-- Source document 002 (Indrusiak, Burns and Nikolić), Sections III and IV, in its own notation and from its own sets: a flow's attributes, routes, contention domains
-- and who interferes with whom. Nothing here cites `Interference` or `Delays`; that both sides come to the same is shown in `proofs/Paper.antt`. p is the network, Γ the flows.
use Rattle.std.specs.Prelude.{ℕ, suc, ◌+◌, ◌-◌, ◌*◌, Bool, true, false, cond, not, ◌&&◌, ◌||◌, List, [], ◌∷◌, eqb, ltb, length}
use Rattle.plan_values.specs.declared.Platform.{Platform}
use Rattle.plan_values.specs.declared.Flow.{Flow}
use Rattle.mesh.specs.Mesh.{route as route_between}
use Rattle.mesh.specs.Shared.{domain}

-- "attributes: τ_i = (P_i, C_i, T_i, D_i, J_i, π_i^s, π_i^d)", and "the maximum number of flits L_i of a packet of this flow"
abbrev pub P : Flow → ℕ
P i = i.priority

abbrev pub T : Flow → ℕ
T i = i.period

abbrev pub J : Flow → ℕ
J i = i.jitter

-- Difference: 002's packets have no flits for their priority; those of document 02, L7, are sent with each and so are part of it.
abbrev pub L : Platform → Flow → ℕ
L p i = i.flits + p.priority_flits

-- "The amount of time taken by a router to transmit a flit over any of its links", linkl(Ξ), and "the virtual channel buffer size of any of them", buf(Ξ)
abbrev pub linkl : Platform → ℕ
linkl p = p.link

abbrev pub buf : Platform → ℕ
buf p = p.buffer

-- "route_i = route(π_i^s, π_i^d)", "the totally ordered subset of Λ used to transfer packets": a list of links, "deterministic XY routing".
abbrev pub route : Platform → Flow → List ℕ
route p i = route_between p.columns i.source i.destination

-- "the ordered set of links shared by those packets: cd_{i,j} = route_i ∩ route_j", ordered as on route_i
abbrev pub cd : Platform → Flow → Flow → List ℕ
cd p i j = domain (route p i) (route p j)

-- C_i "is a function of the maximum number of flits L_i .. and the length of its route". Difference: 002 gives no formula, and its tables have L_i + |route_i| - 1; document
-- 01's has link and routing cycles. Section II: "As the header advances along the specified route", over each link and through each router between two,
-- "the remaining flits follow in a pipelined way", one behind the other.
unfoldable pub C : Platform → Flow → ℕ
C p i = length (route p i) * linkl p + (length (route p i) - 1) * p.routing + (L p i - 1) * linkl p

-- "the order of a link λ_a over a route route_i (i.e. 1 for first, 2 for second, etc.)". Difference: document 01 counts places from 0.
unfoldable pub order : ℕ → List ℕ → ℕ
order a [] = 0
order a (b ∷ links) = cond (eqb a b) 1 (suc (order a links))

-- "first(..) and last(..) to single out respectively the first and last link": of no links there is none, and 0 stands for it.
abbrev pub first : List ℕ → ℕ
first [] = 0
first (a ∷ links) = a

-- "cd_{i,j} ≠ ∅"
abbrev pub nonempty : List ℕ → Bool
nonempty [] = false
nonempty (a ∷ links) = true

-- A set of flows, by the test of who is in it; "τ_j ∈ Γ" for which a test holds; the sum over a set of a figure that each of its flows has.
abbrev pub FlowSet : Type 0
FlowSet = Flow → Bool

unfoldable pub some_of : List Flow → (Flow → Bool) → Bool
some_of [] test = false
some_of (j ∷ Γ) test = test j || some_of Γ test

unfoldable pub sum : List Flow → FlowSet → (Flow → ℕ) → ℕ
sum [] S figure = 0
sum (j ∷ Γ) S figure = cond (S j) (figure j) 0 + sum Γ S figure

-- "The direct interference set S_i^D of τ_i is the set of flows that have higher priority than τ_i and that share with it at least one network link". Difference: the formula behind
-- it says P_i < P_j, although "the value 1 denotes the highest priority"; the sentence and document 01 agree, and are followed.
unfoldable pub Sᴰ : Platform → Flow → FlowSet
Sᴰ p i j = ltb (P j) (P i) && nonempty (cd p i j)

-- "S_i^I = {τ_k ∈ Γ | τ_k ∈ S_j^D, τ_j ∈ S_i^D, τ_k ∉ S_i^D}"
unfoldable pub Sᴵ : Platform → List Flow → Flow → FlowSet
Sᴵ p Γ i k = some_of Γ (λ j. Sᴰ p j k && Sᴰ p i j) && not (Sᴰ p i k)

-- "S_{I_i}^{up_j} = {τ_k ∈ S_i^I ∩ S_j^D | order(first(cd_jk), route_j) < order(first(cd_ij), route_j)}"
unfoldable pub Sᵘᵖ : Platform → List Flow → Flow → Flow → FlowSet
Sᵘᵖ p Γ i j k = (Sᴵ p Γ i k && Sᴰ p j k) && ltb (order (first (cd p j k)) (route p j)) (order (first (cd p i j)) (route p j))

-- "S_{I_i}^{down_j} = {τ_k ∈ S_i^I ∩ S_j^D | order(first(cd_jk), route_j) > order(first(cd_ij), route_j)}". Difference: document 01's downstream is "otherwise"; equal orders do not occur.
unfoldable pub Sᵈᵒʷⁿ : Platform → List Flow → Flow → Flow → FlowSet
Sᵈᵒʷⁿ p Γ i j k = (Sᴵ p Γ i k && Sᴰ p j k) && ltb (order (first (cd p i j)) (route p j)) (order (first (cd p j k)) (route p j))
