-- Document 01, "What sends a plan back" and "The reply", of any bytes and any buffer lent for the reply.
use Rattle.std.specs.Prelude.{ℕ, ◌+◌, ◌*◌, List, take}
use Rattle.framing.specs.Returned.{outcome, returned_by, left_by}
use Rattle.framing.specs.declared.returned.Returned.{Returned}
use Rattle.plan.specs.declared.Plan.{Plan}
use Rattle.plan.specs.Reading.{read_plan, plan_in}
use Rattle.model.specs.Verdicts.{answers}
use Rattle.reply.specs.Reply.{reply_bytes}

-- "A plan of n flows needs 16n + 3 bytes"
abbrev pub needs : Plan → ℕ
needs plan = 16 * plan.count + 3

-- "For each flow, in plan order": the reply to a plan.
abbrev pub reply_to : Plan → List ℕ
reply_to plan = reply_bytes (answers plan.platform (take plan.count plan.flows))

-- "A refusal returns its number and place .. Acceptance returns number 0 and the reply's length."
abbrev pub returned : List ℕ → ℕ → Returned
returned bytes room = returned_by (outcome (read_plan bytes)) (needs (plan_in (read_plan bytes))) room

-- "the whole reply buffer holds what it held before", or the reply and then its further bytes.
abbrev pub left : List ℕ → List ℕ → List ℕ
left bytes held = left_by (outcome (read_plan bytes)) (needs (plan_in (read_plan bytes))) (reply_to (plan_in (read_plan bytes))) held
