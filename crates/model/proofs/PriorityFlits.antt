-- Document 02, L7: priority flits are added to each flow's flits, and to nothing else. So a plan with k more of them has the answers of the plan whose flows have k flits more.
use Prim.Native.Nat.{ℕ}
use mathlib.Core.Path.{◌≡◌, refl}
use mathlib.Core.List.{List, map}
use Rattle.plan_values.specs.declared.Platform.{Platform}
use Rattle.plan_values.specs.declared.Flow.{Flow}
use Rattle.model.specs.Verdicts.{answers}
use Rattle.model.proofs.SameAnswers.{with_more, raised}
use Rattle.model.proofs.SameAnswers as same

-- "added to each flow's flits wherever C is worked out": the answers are those of the flows with so many flits more
pub answers_same : (k : ℕ) (p : Platform) (fs : List Flow) → answers (with_more k p) fs ≡ answers p (map (raised k) fs)
answers_same k p fs = same.answers_same k p.method p refl fs
