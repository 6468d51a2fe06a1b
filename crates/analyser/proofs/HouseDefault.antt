-- Document 02, L6: "From now on method 0 means 3". The reply to a plan is that of the answers by the method it asks for, and with 0 in its byte 8 it is, byte for
-- byte, the reply to the plan with 3 there.
use Prim.Native.Nat.{ℕ, ◌+◌, ◌*◌}
use native.Mathlib.Omega.{arith}
use mathlib.Core.Path.{◌≡◌, refl}
use mathlib.Core.List.{List}
use lib.ListN.{length, set}
use Rattle.framing.specs.Returned.{room_for, put_into, returned_by, left_by}
use Rattle.plan_values.specs.declared.Platform.{Platform}
use Rattle.plan_values.specs.declared.Flow.{Flow}
use Rattle.plan.specs.Reading.{accepted, read_plan}
use Rattle.model.specs.Latency.{method_used}
use Rattle.model.specs.Verdicts.{answers_by}
use Rattle.model.proofs.Methods.{zero_asks_for_three, same_method, by_method}
use Rattle.model.proofs.MethodByte.{method_there}
use Rattle.engine.proofs.Accepted.{plan_flows}
use Rattle.reply.specs.Reply.{reply_bytes}
use Rattle.analyser.specs.Analysed.{returned, left}

module _ (s : List ℕ) (p : Platform) (fs : List Flow) (e : read_plan s ≡ accepted p fs) (held : List ℕ) where
  pub replied_by :
      (returned s (length held) ≡ room_for (16 * length fs + 3) (length held)) × (left s held ≡ put_into (16 * length fs + 3) (reply_bytes (answers_by (method_used p) p fs)) held)
  unfolding accepted returned_by left_by
  replied_by = rw (e, plan_flows fs, ← by_method p fs) (refl, refl)

  pub zero_means_three : p.method ≡ 0 → (returned (set s 8 3) (length held) ≡ returned s (length held)) × (left (set s 8 3) held ≡ left s held)
  unfolding accepted
  zero_means_three z = rw (method_there s 3 p fs (omega arith) e, e, plan_flows fs, same_method p fs 3 (zero_asks_for_three p z)) (refl, refl)
