-- The links that two routes share (document 01, "Routes and shared links").
use Rattle.std.specs.Prelude.{ℕ, suc, ◌≤◌, ◌<◌, ◌≡◌, Bool, true, false, cond, ◌||◌, List, [], ◌∷◌, ◌++◌, ◌↔◌, eqb, length, get_or}

-- Whether a link stands on a route.
unfoldable pub on : List ℕ → ℕ → Bool
on [] x = false
on (y ∷ b) x = eqb x y || on b x

-- "The contention domain of two flows is the set of links on both routes": the links of `a` that stand on `b` too, in the order of `a`.
unfoldable pub domain : List ℕ → List ℕ → List ℕ
domain [] b = []
domain (x ∷ a) b = cond (on b x) (x ∷ domain a b) (domain a b)

-- ".. the count of shared links .."
abbrev pub shared_count : List ℕ → List ℕ → ℕ
shared_count a b = length (domain a b)

-- The place of the first link of `a` that stands on `b`, where the first link of `a` has place `i`.
unfoldable pub first_from : ℕ → List ℕ → List ℕ → ℕ
first_from i [] b = 0
first_from i (x ∷ a) b = cond (on b x) i (first_from (suc i) a b)

-- ".. with the place of the first on the first flow's route, counted from 0 at the injection link; the place is 0 where none is shared."
abbrev pub first_shared : List ℕ → List ℕ → ℕ
first_shared a b = first_from 0 a b

-- "It is empty or one unbroken run on each route, in the same order on both." The run begins at the first place.
pub record OneRun (a b : List ℕ) : Type 0 where
  pub before : List ℕ
  pub after : List ℕ
  pub before' : List ℕ
  pub after' : List ℕ
  pub on_first : a ≡ before ++ domain a b ++ after
  pub on_second : b ≡ before' ++ domain a b ++ after'
  pub same_order : domain b a ≡ domain a b
  pub begins : 0 < shared_count a b → (first_shared a b ≡ length before) × (first_shared b a ≡ length before')

-- What the analysis keeps of an ordered pair of routes.
pub record Shares (a b : List ℕ) (count first : ℕ) : Type 0 where
  pub many : count ≡ shared_count a b
  pub place : first ≡ first_shared a b

-- "its links shared with j come before those j shares with i on j's route": on `j`, each link of `k` before each link of `i`.
abbrev pub AllBefore : List ℕ → List ℕ → List ℕ → Type 0
AllBefore j k i = (p q : ℕ) → p < length j → q < length j → on k (get_or j p 0) ≡ true → on i (get_or j q 0) ≡ true → p < q

-- "otherwise they all come after": the two first places on `j` tell it for all links.
pub record Sides (i j k : List ℕ) : Type 0 where
  pub before : (first_shared j k < first_shared j i) ↔ AllBefore j k i
  pub after : (first_shared j i ≤ first_shared j k) ↔ AllBefore j i k
