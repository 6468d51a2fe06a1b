-- Document 02, L6: a plan's answers depend on its method's number through the method that it asks for, and on nothing else of it.
use Prim.Native.Nat.{ℕ, ◌+◌, ◌≤◌}
use native.Mathlib.Omega.{arith}
use native.Mathlib.Decide.{ℕ_discrete}
use mathlib.Core.Path.{◌≡◌, refl, sym, ap, ap₂, ◌∙◌}
use mathlib.Core.Logic.{◌≢◌}
use mathlib.Core.List.{List, [], ◌∷◌, map}
use Rattle.framing.specs.First.{◌when◌else◌}
use Rattle.plan_values.specs.declared.Platform.{Platform}
use Rattle.plan_values.specs.declared.Flow.{Flow}
use Rattle.model.specs.Latency.{method_used, method_number, with_method}
use Rattle.model.specs.declared.Method.{Method}
use Rattle.model.specs.declared.Method.TheVariants.{SB, XLWX, IBN}
use Rattle.model.specs.Verdicts.{answers, answers_by}
use Rattle.model.proofs.SameAnswers.{with_more, raised, answers_same}

-- No flits more leave a flow, the flows and the platform as they are.
none_more : (n : ℕ) → n + 0 ≡ n
none_more n = omega arith

raised_none : (f : Flow) → raised 0 f ≡ f
raised_none f x =
    record { id = f.id; priority = f.priority; source = f.source; destination = f.destination; flits = none_more f.flits x; period = f.period; deadline = f.deadline; jitter = f.jitter }

all_raised_none : (fs : List Flow) → map (raised 0) fs ≡ fs
all_raised_none [] = refl
all_raised_none (f ∷ fs) = ap₂ ◌∷◌ (raised_none f) (all_raised_none fs)

without_more : (p : Platform) → with_more 0 p ≡ p
without_more p x =
    record { columns = p.columns; rows = p.rows; link = p.link; routing = p.routing; buffer = p.buffer; method = p.method; priority_flits = none_more p.priority_flits x }

-- "Method 1 is SB, 2 is XLWX, 3 is IBN": a method's number asks for it.
pub asks_for : (m : Method) (p : Platform) → method_used (with_method (method_number m) p) ≡ m
unfolding method_used ◌when◌else◌
asks_for SB p = refl
asks_for XLWX p = refl
asks_for IBN p = refl

-- .. and a number other than 0 is that of the method it asks for.
pub number_used : (p : Platform) → p.method ≢ 0 → p.method ≤ 3 → method_number (method_used p) ≡ p.method
unfolding method_used ◌when◌else◌
number_used p n h = go (ℕ_discrete p.method 1) (ℕ_discrete p.method 2) (ℕ_discrete p.method 3)
  where
    go : Dec (p.method ≡ 1) → Dec (p.method ≡ 2) → Dec (p.method ≡ 3) → method_number (method_used p) ≡ p.method
    go (yes e) b c = rw e
    go (no a) (yes e) c = rw e
    go (no a) (no b) (yes e) = rw e
    go (no a) (no b) (no c) = absurd (omega arith)

-- "From now on method 0 means 3."
pub zero_asks_for_three : (p : Platform) → p.method ≡ 0 → method_used (with_method 3 p) ≡ method_used p
unfolding method_used ◌when◌else◌
zero_asks_for_three p z = rw z

module _ (p : Platform) (fs : List Flow) where
  pub same_method : (m : ℕ) → method_used (with_method m p) ≡ method_used p → answers (with_method m p) fs ≡ answers p fs
  same_method m used =
      ap (λ (q : Platform). answers (with_method m q) fs) (sym (without_more p))
      ∙ answers_same 0 m p used fs
      ∙ ap (answers p) (all_raised_none fs)

  -- .. so that the answers are those by the method really used.
  pub by_method : answers p fs ≡ answers_by (method_used p) p fs
  by_method = sym (same_method (method_number (method_used p)) (asks_for (method_used p) p))
