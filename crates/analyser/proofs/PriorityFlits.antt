-- Document 02, L7: of two accepted plans, one with k priority flits more and one whose flows have k flits more, all else equal, the replies are the same, byte for byte.
use Prim.Native.Nat.{ℕ}
use mathlib.Core.Path.{◌≡◌}
use mathlib.Core.List.{List, map}
use lib.ListN.{length, length-map}
use Rattle.plan_values.specs.declared.Platform.{Platform}
use Rattle.plan_values.specs.declared.Flow.{Flow}
use Rattle.plan.specs.Reading.{accepted, read_plan}
use Rattle.model.proofs.SameAnswers.{with_more, raised}
use Rattle.model.proofs.PriorityFlits.{answers_same}
use Rattle.engine.proofs.Accepted.{plan_flows}
use Rattle.analyser.specs.Analysed.{returned, left}

module _ (s u : List ℕ) (k : ℕ) (p : Platform) (fs : List Flow) (more : read_plan s ≡ accepted (with_more k p) fs) (raise : read_plan u ≡ accepted p (map (raised k) fs)) (held : List ℕ) where
  many : length (map (raised k) fs) ≡ length fs
  many = length-map fs (raised k)

  pub same_returned : returned s (length held) ≡ returned u (length held)
  unfolding accepted
  same_returned = rw (more, raise, many)

  pub same_reply : left s held ≡ left u held
  unfolding accepted
  same_reply = rw (more, raise, plan_flows fs, plan_flows (map (raised k) fs), many, answers_same k p fs)
