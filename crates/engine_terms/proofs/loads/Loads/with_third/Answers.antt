-- `engine_terms::loads::Loads::with_third` meets its contract: the two tests pick the case.
use native.Mathlib.Omega.{arith}
use mathlib.Core.Path.{ap}
use Prim.Native.Nat.{ℕ, ◌*◌}
use Rattle.engine_terms.proofs.Thirds.{third_near, third_up, third_down}
use Rattle.engine_terms.proofs.loads.Loads.with_third.Goals as goal

pub returns-then-third-gt0 : goal.returns-then-third-gt0
returns-then-third-gt0 c = let a = c.args in let t = a.third in let e = third_near t.shared t.place a.first a.cap t.hits t.cost (omega arith) in (omega arith, omega arith)

pub overflow_mul-result : goal.overflow_mul-result
overflow_mul-result c = let a = c.args in let t = a.third in let e = third_up t.shared t.place a.first a.cap t.hits t.cost (omega arith) (omega arith) in omega (arith, c.requires)

pub overflow_add-result : goal.overflow_add-result
overflow_add-result c = let a = c.args in let t = a.third in let e = third_up t.shared t.place a.first a.cap t.hits t.cost (omega arith) (omega arith) in omega (arith, c.requires)

pub returns-then-third-first : goal.returns-then-third-first
returns-then-third-first c = let a = c.args in let t = a.third in let e = third_up t.shared t.place a.first a.cap t.hits t.cost (omega arith) (omega arith) in (omega arith, omega arith)

pub overflow_mul-result-2 : goal.overflow_mul-result-2
overflow_mul-result-2 c = let a = c.args in let t = a.third in let e = third_down t.shared t.place a.first a.cap t.hits t.cost (omega arith) (omega arith) in let m = ap (λ (x : ℕ). t.hits * x) c.min.ensures in omega (arith, c.requires)

pub overflow_add-result-2 : goal.overflow_add-result-2
overflow_add-result-2 c = let a = c.args in let t = a.third in let e = third_down t.shared t.place a.first a.cap t.hits t.cost (omega arith) (omega arith) in let m = ap (λ (x : ℕ). t.hits * x) c.min.ensures in omega (arith, c.requires)

pub returns : goal.returns
returns c = let a = c.args in let t = a.third in let e = third_down t.shared t.place a.first a.cap t.hits t.cost (omega arith) (omega arith) in let m = ap (λ (x : ℕ). t.hits * x) c.min.ensures in (omega arith, omega arith)
