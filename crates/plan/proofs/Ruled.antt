-- What a check of a record says, against the table's lines in their order: the first that holds stops it.
use Rattle.framing.specs.Returned.{number_of as fault_number}
use Rattle.framing.specs.declared.returned.Fault.{Fault}
use Prim.Native.Nat.{ℕ, suc, ◌+◌, ◌≤◌, ◌<◌}
use native.Mathlib.Omega.{arith}
use native.Mathlib.Decide.{ℕ_discrete}
use mathlib.Core.Path.{◌≡◌, refl, ap, subst, ◌∙◌}
use mathlib.Core.Bool.{Bool, true, false, ◌||◌}
use mathlib.Core.List.{List, [], ◌∷◌}
use lib.Dec.{ltb, leb}
use borrow.Author.Tests.{ltb-true, ltb-false, leb-true, leb-false}
use Rattle.framing.specs.First.{◌when◌else◌}
use Rattle.plan_table.specs.Table.{tag_byte}
use Rattle.plan.specs.Legal.{Within}
use Rattle.plan.specs.Reasons.{start, tag, Line, rank, number_of, offset_of, Outside, Holds, Faultless}
use Rattle.std.specs.Prelude.{Result, Ok, Err}
use Rattle.framing.specs.declared.returned.Refusal.{Refusal}
use Rattle.plan_table.specs.declared.Kind.{Kind}
use Rattle.plan.proofs.Fields.{neither}
use Rattle.plan.proofs.Ranks.{order, same_rank, rank_small, From, all_ranks}

-- ---- tests
same : {A : Type 0} (test : Bool) (a : A) → (a when test else a) ≡ a
unfolding ◌when◌else◌
same true a = refl
same false a = refl

pub either : (a b : Bool) → (a || b) ≡ true → (a ≡ false → b ≡ true)
either true b e f = absurd (let z : ◌≡◌ {A = ℕ} 0 1 = cc in omega arith)
either false b e f = e

pub by_bool : {A : Type 0} (b : Bool) → (b ≡ true → A) → (b ≡ false → A) → A
by_bool true t f = t refl
by_bool false t f = f refl

module _ (lowest highest v : ℕ) where
  outside_true : (ltb v lowest || ltb highest v) ≡ true → Outside lowest highest v
  outside_true e (a, b) = by_bool (ltb v lowest) (λ t. omega (arith, ltb-true v lowest t)) (λ f. omega (arith, ltb-true highest v (either _ _ e f)))

  outside_false : (ltb v lowest || ltb highest v) ≡ false → Within lowest highest v
  outside_false e = let n = neither (ltb v lowest) (ltb highest v) e in (ltb-false v lowest n.0, ltb-false highest v n.1)

-- ---- what a check says, against the lines that are left
module _ (s : List ℕ) (n : ℕ) where
  pub data Ruled : Result Kind Refusal → List Line → Type 0 where
    stops : (l : Line) {ls : List Line} {fault : Fault} {pl : ℕ} → Holds s n l → fault_number fault ≡ number_of l → pl ≡ start s n + offset_of l → Ruled (Err (fault, pl)) (l ∷ ls)
    passes : (l : Line) {ls : List Line} {c : Result Kind Refusal} → (Holds s n l → ⊥) → Ruled c ls → Ruled c (l ∷ ls)
    ends : (kind : Kind) → tag s n ≡ tag_byte kind → Ruled (Ok kind) []

module _ {s : List ℕ} {n : ℕ} where
  -- a check whose faults are the whole's
  module _ (whole : Result Kind Refusal → Result Kind Refusal) (keeps : (refusal : Refusal) → whole (Err refusal) ≡ Err refusal) where
    pub step : (l : Line) (fault : Fault) {ls : List Line} (test : Bool) {pl : ℕ} {next : Result Kind Refusal} → (test ≡ true → Holds s n l) → (test ≡ false → Holds s n l → ⊥) → fault_number fault ≡ number_of l → pl ≡ start s n + offset_of l → (test ≡ false → Ruled s n (whole next) ls) → Ruled s n (whole (Err (fault, pl) when test else next)) (l ∷ ls)
    unfolding ◌when◌else◌
    step l fault true t f a b more = rw (keeps _) (stops l (t refl) a b)
    step l fault false t f a b more = passes l (f refl) (more refl)

    -- a field with a lowest and a highest value
    pub field : (l : Line) (fault : Fault) {ls : List Line} (lowest highest v : ℕ) {pl : ℕ} {next : Result Kind Refusal} → (Outside lowest highest v → Holds s n l) → (Holds s n l → Outside lowest highest v) → fault_number fault ≡ number_of l → pl ≡ start s n + offset_of l → Ruled s n (whole next) ls → Ruled s n (whole (Err (fault when ltb v lowest else fault, pl) when (ltb v lowest || ltb highest v) else next)) (l ∷ ls)
    field l fault lowest highest v t f a b more =
        step l (fault when ltb v lowest else fault) (ltb v lowest || ltb highest v)
        (λ e. t (outside_true lowest highest v e))
        (λ e h. f h (outside_false lowest highest v e))
        (ap fault_number (same (ltb v lowest) fault) ∙ a) b (λ e. more)

    -- a field below the count of nodes
    pub node : (l : Line) (fault : Fault) {ls : List Line} (many v : ℕ) {pl : ℕ} {next : Result Kind Refusal} → (many ≤ v → Holds s n l) → (Holds s n l → many ≤ v) → fault_number fault ≡ number_of l → pl ≡ start s n + offset_of l → Ruled s n (whole next) ls → Ruled s n (whole (Err (fault when ltb v 0 else fault, pl) when (ltb v 0 || leb many v) else next)) (l ∷ ls)
    node l fault many v t f a b more =
        step l (fault when ltb v 0 else fault) (ltb v 0 || leb many v)
        (λ e. by_bool (ltb v 0) (λ z. absurd (omega (arith, ltb-true v 0 z))) (λ z. t (leb-true many v (either _ _ e z))))
        (λ e h. omega (arith, f h, leb-false many v (neither (ltb v 0) (leb many v) e).1))
        (ap fault_number (same (ltb v 0) fault) ∙ a) b (λ e. more)

    -- a field with a line for a value below the lowest, and a line for one above the highest
    pub both : (l m : Line) (fault other : Fault) {ls : List Line} (low high : Bool) {pl : ℕ} {next : Result Kind Refusal} → (low ≡ true → Holds s n l) → (low ≡ false → Holds s n l → ⊥) → (high ≡ true → Holds s n m) → (high ≡ false → Holds s n m → ⊥) → fault_number fault ≡ number_of l → fault_number other ≡ number_of m → pl ≡ start s n + offset_of l → pl ≡ start s n + offset_of m → Ruled s n (whole next) ls → Ruled s n (whole (Err (fault when low else other, pl) when (low || high) else next)) (l ∷ m ∷ ls)
    unfolding ◌when◌else◌
    both l m fault other true high lt lf ht hf a b c d more = rw (keeps _) (stops l (lt refl) a c)
    both l m fault other false high lt lf ht hf a b c d more = passes l (lf refl) (step m other high ht hf b d (λ e. more))

-- ---- by ranks
module _ (s : List ℕ) (n : ℕ) where
  -- the line that decides, among those from rank r on
  pub record Decides (r number pl : ℕ) : Type 0 where
    pub line : Line
    pub holds : Holds s n line
    pub first : (l : Line) → r ≤ rank l → rank l < rank line → Holds s n l → ⊥
    pub number_is : number ≡ number_of line
    pub place_is : pl ≡ start s n + offset_of line

  -- one line less
  further : (r : ℕ) (l m : Line) → rank l ≡ r → (Holds s n l → ⊥) → (suc r ≤ rank m → Holds s n m → ⊥) → r ≤ rank m → Holds s n m → ⊥
  further r l m q d more a = go (ℕ_discrete (rank m) (rank l))
    where
      go : Dec (rank m ≡ rank l) → Holds s n m → ⊥
      go (yes e) h = d (subst (Holds s n) (same_rank m l e) h)
      go (no u) h = more (omega arith) h

  stopped : {ls : List Line} {refusal : Refusal} → Ruled s n (Err refusal) ls → (r : ℕ) → From r ls → Decides r (fault_number refusal.0) refusal.1
  stopped (stops l h a b) r (q, qs) = record { line = l; holds = h; first = λ m c d. absurd (omega arith); number_is = a; place_is = b }
  stopped (passes l d w) r (q, qs) =
      let f = stopped w (suc r) qs in
      record { line = f.line; holds = f.holds; first = λ m c e. further r l m q d (λ b. f.first m b e) c; number_is = f.number_is; place_is = f.place_is }

  cleared : {ls : List Line} {kind : Kind} → Ruled s n (Ok kind) ls → (r : ℕ) → From r ls → ((l : Line) → r ≤ rank l → Holds s n l → ⊥) × (tag s n ≡ tag_byte kind)
  cleared (ends kind e) r q = (λ l c. absurd (rank_small l (omega arith)), e)
  cleared (passes l d w) r (q, qs) = let f = cleared w (suc r) qs in (λ m. further r l m q d (f.0 m), f.1)

  pub decides : {refusal : Refusal} → Ruled s n (Err refusal) order → Decides 0 (fault_number refusal.0) refusal.1
  decides w = stopped w 0 all_ranks

  pub faultless : {kind : Kind} → Ruled s n (Ok kind) order → Faultless s n × (tag s n ≡ tag_byte kind)
  faultless w = let f = cleared w 0 all_ranks in (λ l. f.0 l (omega arith), f.1)
