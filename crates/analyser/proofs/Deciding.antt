-- What is returned and left where the bytes are a plan, and that no other right answers make another reply.
use Prim.Native.Nat.{ℕ, suc, ◌+◌, ◌*◌, ◌^◌, ◌≤◌, ◌<◌}
use mathlib.Core.Path.{◌≡◌, refl, ◌∙◌}
use mathlib.Core.List.{List, [], ◌∷◌, ◌++◌}
use native.Mathlib.Omega.{arith}
use lib.ListN.{length, drop, get_or, length-append, length-drop, length-map}
use lib.Seq.{drop_at}
use Rattle.framing.specs.Returned.{number_of, refused_with, accepted_with}
use Rattle.framing.specs.declared.returned.Fault.{Fault}
use Rattle.plan_values.specs.declared.Platform.{Platform}
use Rattle.plan_values.specs.declared.Flow.{Flow}
use Rattle.plan.specs.Legal.{LegalFlow, Legal, flow}
use Rattle.plan.specs.Reading.{accepted, refused, read_plan}
use Rattle.plan.specs.Reasons.{RefusedBecause}
use Rattle.plan.proofs.Because.{refused_for}
use Rattle.plan.proofs.Exact.{legal}
use Rattle.model.specs.declared.Verdict.{Verdict}
use Rattle.model.specs.declared.Verdict.TheVariants.{Bounded, Late, Waits}
use Rattle.model.specs.Verdicts.{named_flow, bound_in, verdict, answer_to, answers}
use Rattle.model.specs.Rules.{Says, Right}
use Rattle.model.proofs.Verdicts.{verdict_says, right_once}
use Rattle.model.proofs.Fits.{bound_within}
use Rattle.model.proofs.FlowLines.{answers_at, rounds_line}
use Rattle.engine.proofs.Accepted.{plan_flows}
use Rattle.reply.specs.Reply.{reply_bytes}
use Rattle.reply.proofs.Theorems.{reply_length, Fits}
use Rattle.reply.specs.Records.{Tells}
use Rattle.reply.proofs.Records.{line, end_at}
use Rattle.analyser.specs.Records.{answer_lines, Holds}
use Rattle.analyser.proofs.Replying.{Replied, replied_refused, replied_short, replied_analysed}

module _ (bytes held : List ℕ) where
  pub refused_returned : (fault : Fault) (place : ℕ) → read_plan bytes ≡ refused fault place → Replied bytes held (refused_with (number_of fault) place) held
  unfolding refused
  refused_returned fault place e = replied_refused bytes held e

  pub reason_returned : (number place : ℕ) → RefusedBecause bytes number place → Replied bytes held (refused_with number place) held
  reason_returned number place w =
      let (fault, n, e) = refused_for bytes number place w in
      rw n at (refused_returned fault place e)

  module _ (p : Platform) (fs : List Flow) (e : read_plan bytes ≡ accepted p fs) where
    pub short_returned : length held < 16 * length fs + 3 → Replied bytes held (refused_with 11 0) held
    unfolding accepted
    short_returned h = replied_short bytes held e h

    pub reply_returned : 16 * length fs + 3 ≤ length held → Replied bytes held (accepted_with (16 * length fs + 3)) (reply_bytes (answers p fs) ++ drop (16 * length fs + 3) held)
    unfolding accepted
    reply_returned h = rw (plan_flows fs) at (replied_analysed bytes held e h)

-- Answers that agree on the flows of a plan have the same lines.
same_lines : (fs : List Flow) (f g : Flow → Verdict) → ((k : ℕ) → k < length fs → f (flow fs k) ≡ g (flow fs k)) → answer_lines fs f ≡ answer_lines fs g
same_lines [] f g same = refl
same_lines (i ∷ fs) f g same = rw (same 0 (omega arith), same_lines fs f g (λ k l. same (suc k) (omega arith)))

module _ (p : Platform) (fs : List Flow) (legal : Legal p fs) where
  pub right_lines : (answer : Flow → Verdict) → Right p fs answer → answer_lines fs answer ≡ answers p fs
  unfolding answers
  right_lines answer right = same_lines fs answer (verdict p fs) (right_once p fs legal answer right)

  -- The numbers of the answers fit the bytes of a record.
  named_fits : (i : Flow) (v : Verdict) → Says p fs (verdict p fs) i v → named_flow v < 2 ^ 16
  named_fits i (Bounded r n) s = omega arith
  named_fits i (Late n) s = omega arith
  named_fits i (Waits id) s = omega (arith, s.names, (legal.each s.place s.waits.inside).id)

  bound_fits : (i : Flow) → LegalFlow p i → (v : Verdict) → Says p fs (verdict p fs) i v → bound_in v < 2 ^ 32
  bound_fits i w (Bounded r n) s = omega (arith, bound_within p fs (verdict p fs) i w r s.bound)
  bound_fits i w (Late n) s = omega arith
  bound_fits i w (Waits id) s = omega arith

module _ (bytes : List ℕ) (p : Platform) (fs : List Flow) (e : read_plan bytes ≡ accepted p fs) where
  many : length (answers p fs) ≡ length fs
  unfolding answers
  many = length-map fs (answer_to p fs)

  -- Record k of the reply to a plan tells the answer to flow k.
  told : (rest : List ℕ) (k : ℕ) → k < length fs → Tells (reply_bytes (answers p fs) ++ rest) k (answer_to p fs (flow fs k))
  told rest k l =
      let i = flow fs k in
      let a = answer_to p fs i in
      let w = legal bytes p fs e in
      let fits : Fits (get_or (answers p fs) k a) = rw (answers_at p fs a k l) (record {
        id = omega (arith, (w.each k l).id);
        named = named_fits p fs w i (verdict p fs i) (verdict_says p fs i);
        bound = bound_fits p fs w i (w.each k l) (verdict p fs i) (verdict_says p fs i);
        rounds = rw (answers_at p fs a k l) at (rounds_line bytes p fs e a k l).four_bytes;
      }) in
      rw (answers_at p fs a k l) at (line (answers p fs) rest a k (omega (arith, many)) fits)

  pub held_reply : (held : List ℕ) → 16 * length fs + 3 ≤ length held → Holds fs (verdict p fs) held (reply_bytes (answers p fs) ++ drop (16 * length fs + 3) held)
  held_reply held room =
      let n = 16 * length fs + 3 in
      let long : length (reply_bytes (answers p fs)) ≡ n = omega (arith, reply_length (answers p fs), many) in
      record {
        each = told (drop n held);
        end = rw many at (end_at (answers p fs) (drop n held));
        further = drop_at (reply_bytes (answers p fs)) (drop n held) n long;
        long = length-append (reply_bytes (answers p fs)) (drop n held) ∙ omega (arith, length-drop n held);
      }
