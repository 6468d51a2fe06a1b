-- What the text says of any bytes: the same as the reply to them.
use Prim.Native.Nat.{ℕ, zero, suc, ◌+◌, ◌*◌, ◌≤◌, ◌<◌}
use mathlib.Core.Path.{◌≡◌, refl, sym, ap, ◌∙◌}
use mathlib.Core.Logic.{◌≢◌}
use mathlib.Core.List.{List, ◌++◌}
use native.Mathlib.Omega.{arith}
use native.Mathlib.Numerals.{add-one}
use lib.ListN.{length, take, get_or, length-map}
use lib.Seq.{take_all}
use Rattle.framing.specs.Each.{each}
use Rattle.framing.specs.Header.{length_at}
use Rattle.framing.specs.declared.returned.Returned.{Returned}
use Rattle.framing.proofs.Each.{each_more}
use Rattle.plan_values.specs.Values.{platform_at}
use Rattle.plan_values.proofs.Seventh.{length_within}
use Rattle.plan_values.specs.declared.Platform.{Platform}
use Rattle.plan_values.specs.declared.Flow.{Flow}
use Rattle.framing.specs.Returned.{number_of}
use Rattle.framing.specs.declared.returned.Fault.{Fault}
use Rattle.plan.specs.Legal.{flow}
use Rattle.plan.specs.Reading.{accepted, refused, read_plan}
use Rattle.plan.proofs.Because.{refused_for}
use Rattle.plan.proofs.Enough.{decided}
use Rattle.plan.proofs.Exact.{accepted_exactly}
use Rattle.model.specs.Verdicts.{answer_to, answers}
use Rattle.model.proofs.FlowLines.{answers_at}
use Rattle.engine.proofs.Accepted.{plan_flows}
use Rattle.reply.specs.Records.{verdict_at}
use Rattle.reply.proofs.Records.{answer_told}
use Rattle.analyser.specs.Analysed.{returned, left}
use Rattle.analyser.proofs.Demands.{Fine, Offered, analysed, sent_back, too_short, demand_1, demand_2, read_back, reply_size, success_exactly}
use Rattle.lines_mesh.specs.Mesh.{mesh_line}
use Rattle.lines_flow.specs.Flows.{flow_line, refusal_line}
use Rattle.lines.specs.Lines.{text_by, text_of}
use Rattle.lines.specs.Replied.{record_line, record_lines}
use Rattle.lines.proofs.Replied.{line_read}

-- "It reads at most 2,048 bytes of standard input, which always decides the reply": they decide the text.
pub text_decided : (bytes : List ℕ) → text_of (take 2048 bytes) ≡ text_of bytes
text_decided bytes = ap text_by (decided bytes)

-- ==== "A small program prints the same result as text."
-- The text is the mesh's line and those of the n records of a reply of `long` bytes.
pub record Lines (bytes is text : List ℕ) (long n : ℕ) : Type 0 where
  -- "A plan of n flows needs 16n + 3 bytes", has 64 flows at most, and the buffer has room for its reply.
  pub size : long ≡ 16 * n + 3
  pub few : n ≤ 64
  pub whole : long ≤ length is
  -- "First the mesh": the reply does not hold it; its values stand in the plan's first record, which is there.
  pub mesh : (9 ≤ length bytes) × (3 + length_at bytes 0 ≤ length bytes)
  -- "Then per flow": id, verdict and numbers of each line are those that stand in the record.
  pub lines : text ≡ mesh_line (platform_at bytes 0) ++ record_lines is n
  -- "one of three verdicts": no line says `waits` for a number that is not 2.
  pub one_of_three : (k : ℕ) → k < n → verdict_at is k ≤ 2

-- What is printed, where `r` is returned for the same bytes and the reply's buffer holds `is` then.
pub record SameAsReply (bytes : List ℕ) (r : Returned) (is text : List ℕ) : Type 0 where
  -- "For a refusal it prints only `refused NUMBER at PLACE`."
  pub refusal : r.number ≢ 0 → text ≡ refusal_line r.number r.value
  pub reply : r.number ≡ 0 → (n : ℕ) × Lines bytes is text r.value n

module _ (bytes held : List ℕ) where
  module _ {p : Platform} {fs : List Flow} (f : Fine bytes held p fs) where
    text_is : text_of bytes ≡ mesh_line p ++ each flow_line (answers p fs)
    unfolding text_by accepted
    text_is = rw ((accepted_exactly bytes p fs).1 (f.laid, f.legal), plan_flows fs)

    many : length (answers p fs) ≡ length fs
    unfolding answers
    many = length-map fs (answer_to p fs)

    line_is : (k : ℕ) → k < length fs → record_line (left bytes held) k ≡ flow_line (get_or (answers p fs) k (answer_to p fs (flow fs k)))
    line_is k l = sym (line_read (left bytes held) k) ∙ ap flow_line (answer_told ((read_back bytes held f).each k l) ∙ sym (answers_at p fs (answer_to p fs (flow fs k)) k l))

    lines_are : (n : ℕ) → n ≤ length fs → record_lines (left bytes held) n ≡ each flow_line (take n (answers p fs))
    unfolding record_lines each
    lines_are zero h = refl
    lines_are (suc n) h = rw (lines_are n (omega arith), line_is n (omega arith)) (sym (rw add-one at (each_more flow_line (answers p fs) n (answer_to p fs (flow fs n)) (omega (arith, many)))))

    says_lines : Lines bytes (left bytes held) (text_of bytes) (16 * length fs + 3) (length fs)
    says_lines = record {
      size = refl;
      few = f.legal.few;
      whole = omega (arith, f.room, (read_back bytes held f).long);
      mesh = (omega (arith, f.laid.nothing_else, (length_within p).0), omega (arith, f.laid.nothing_else, f.laid.platform.0.size_is));
      lines = text_is ∙ rw (f.laid.platform.1, lines_are (length fs) (omega arith), take_all (length fs) (answers p fs) (omega (arith, many)));
      one_of_three = λ k l. ((demand_2 bytes held f).each k l).one_of_three;
    }

  refused_text : (fault : Fault) (place : ℕ) → read_plan bytes ≡ refused fault place → text_of bytes ≡ refusal_line (number_of fault) place
  unfolding text_by refused
  refused_text fault place e = rw e

  -- Text and reply say the same, whatever the bytes are.
  pub same_as_the_reply : 1027 ≤ length held → SameAsReply bytes (returned bytes (length held)) (left bytes held) (text_of bytes)
  same_as_the_reply long = record {
    refusal = go (demand_1 bytes held);
    reply = λ e. let (p, fs, f) = (success_exactly bytes held).0 e in (length fs, rw (reply_size bytes held f) (says_lines f));
  }
    where
      go : {r : Returned} {is : List ℕ} → Offered bytes held r is → r.number ≢ 0 → text_of bytes ≡ refusal_line r.number r.value
      go (analysed f answer right) h = absurd (h refl)
      go (sent_back number place w n h) q = let (fault, number_is, e) = refused_for bytes number place w in refused_text fault place e ∙ ap (λ (n : ℕ). refusal_line n place) number_is
      go (too_short p fs laid legal h) q = absurd (omega (arith, legal.few))
