-- `analyse` returns and leaves what is defined, by what was read: a refusal, a plan whose reply does not fit, or one whose reply does.
use Prim.Native.Nat.{ℕ, ◌+◌, ◌*◌, ◌≤◌, ◌<◌}
use native.Mathlib.Omega.{arith}
use mathlib.Core.Path.{◌≡◌, refl, sym, ap, ◌∙◌}
use mathlib.Core.List.{List, ◌++◌}
use lib.ListN.{length, take, drop, length-map}
use lib.Seq.{length-take-le}
use Rattle.std.proofs.lemmas.List.{length-take}
use Rattle.std.specs.Prelude.{Ok, Err}
use Rattle.framing.specs.Returned.{number_of, refused_with, accepted_with, outcome}
use Rattle.framing.specs.declared.returned.Refusal.{Refusal}
use Rattle.framing.specs.declared.returned.Returned.{Returned}
use Rattle.framing.proofs.Rooms.{handed_on, too_short, room_enough}
use Rattle.plan.specs.declared.Plan.{Plan}
use Rattle.plan.specs.Reading.{read_plan, plan_in}
use Rattle.model.specs.declared.Answer.{Answer}
use Rattle.model.specs.Answers.{answer_array}
use Rattle.model.specs.Verdicts.{answer_to, answers}
use Rattle.engine.proofs.Accepted.{reading_scene, first_answers}
use Rattle.reply.specs.Reply.{reply_bytes}
use Rattle.analyser.specs.Analysed.{needs, reply_to, returned, left}

-- What the contract says of the result and of the bytes left in the buffer.
abbrev pub Replied : List ℕ → List ℕ → Returned → List ℕ → Type 0
Replied bytes held r is = (r ≡ returned bytes (length held)) × (is ≡ left bytes held)

module _ (bytes held : List ℕ) where
  pub replied_refused : {refusal : Refusal} → read_plan bytes ≡ Err refusal → Replied bytes held (refused_with (number_of refusal.0) refusal.1) held
  replied_refused e = handed_on (needs (plan_in (read_plan bytes))) (reply_to (plan_in (read_plan bytes))) held (ap outcome e)

  module _ {plan : Plan} (e : read_plan bytes ≡ Ok plan) where
    pub replied_short : length held < needs plan → Replied bytes held (refused_with 11 0) held
    replied_short h = rw e (too_short (needs plan) (reply_to plan) held refl h)

    pub replied_analysed : needs plan ≤ length held → Replied bytes held (accepted_with (needs plan)) (reply_to plan ++ drop (needs plan) held)
    replied_analysed h = rw e (room_enough (needs plan) (reply_to plan) held refl h)

    module _ {list : List Answer} (a : list ≡ answer_array plan.platform (take plan.count plan.flows)) where
      -- As many answers are written as the plan has flows.
      pub taken_length : length (take plan.count list) ≡ plan.count
      unfolding answers
      taken_length =
          let w = reading_scene bytes (sym e) refl in
          let fs = take plan.count plan.flows in
          ap length (first_answers plan w a) ∙ length-map fs (answer_to plan.platform fs) ∙ length-take-le plan.count plan.flows (omega (arith, w.few, w.room))

      pub answers_inside : plan.count ≤ length list
      answers_inside = omega (arith, taken_length, length-take plan.count list)

      pub replied_written :
          needs plan ≤ length held → {is : List ℕ} → is ≡ reply_bytes (take plan.count list) ++ drop (16 * length (take plan.count list) + 3) held →
          Replied bytes held (accepted_with (needs plan)) is
      replied_written h w =
          let (number, all) = replied_analysed h in
          let all_flows : take plan.count list ≡ answers plan.platform (take plan.count plan.flows) = first_answers plan (reading_scene bytes (sym e) refl) a in
          (number, w ∙ (λ i. reply_bytes (all_flows i) ++ drop (16 * taken_length i + 3) held) ∙ all)
