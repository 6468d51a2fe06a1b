-- Document 01, "The program `bounds`" and "Figures to meet": P's reply, and the rows about the reply, computed from the bytes.
-- And "Reading the promises strictly": what the wrong programs give for P is not what an offer of it comes to.
use Prim.Native.Nat.{ℕ}
use mathlib.Core.Path.{◌≡◌, refl, ap, ◌∙◌}
use mathlib.Core.Logic.{◌≢◌}
use mathlib.Core.List.{List, [], ◌∷◌, ◌++◌, map}
use native.Mathlib.Omega.{arith}
use lib.ListN.{take, get_or, set, replicate}
use Rattle.framing_numbers.specs.Numbers.{one_at}
use Rattle.framing.specs.First.{◌when◌else◌}
use Rattle.framing.specs.Each.{each}
use Rattle.framing.specs.Returned.{refused_with, accepted_with, room_for, put_into, returned_by, left_by}
use Rattle.framing.specs.declared.returned.Returned.{Returned}
use Rattle.plan_table.specs.Table.{tag_of, six_or_seven}
use Rattle.plan_values.specs.Values.{priority_flits_at}
use Rattle.plan_checks.specs.Checks.{header_at, tagged_at, frame_at, clash_at, tail_at, rest_at}
use Rattle.plan.specs.Records.{fields_from, ◌then◌, body_at, record_at}
use Rattle.plan.specs.Reading.{accepted, refused, after, records, read_plan}
use Rattle.plan.specs.PlanP.{P}
use Rattle.mesh.specs.Mesh.{hops, along, xy}
use Rattle.mesh.specs.Shared.{on, domain, first_from}
use Rattle.recurrence.specs.Rounding.{up}
use Rattle.recurrence.specs.Sums.{sum_over}
use Rattle.recurrence.specs.ComesTo.{comes_to_from, comes_to}
use Rattle.model.specs.Latency.{method_used, latency}
use Rattle.model.specs.Interference.{direct_for, indirect_for, comes_before, those}
use Rattle.model.specs.Delays.{allowance, weight, term, terms}
use Rattle.model.specs.Verdicts.{highest, judged, judge, verdict_below, verdict, answers}
use Rattle.reply.specs.Reply.{record_of}
use Rattle.reply.specs.Records.{id_at, verdict_at, bound_at, rounds_at}
use Rattle.analyser.specs.Analysed.{returned, left}
use Rattle.analyser.proofs.Demands.{Offered, promised_exactly}

-- "Reply, 51 bytes"
abbrev reply_of_P : List ℕ
reply_of_P =
    0x81 ∷ 0x00 ∷ 0x0D ∷ 0x00 ∷ 0x02 ∷ 0x00 ∷ 0xFF ∷ 0xFF ∷ 0x00 ∷ 0x00 ∷ 0x00 ∷ 0x3E ∷ 0x00 ∷ 0x00 ∷ 0x00 ∷ 0x01 ∷
    0x81 ∷ 0x00 ∷ 0x0D ∷ 0x00 ∷ 0x03 ∷ 0x00 ∷ 0xFF ∷ 0xFF ∷ 0x00 ∷ 0x00 ∷ 0x01 ∷ 0x48 ∷ 0x00 ∷ 0x00 ∷ 0x00 ∷ 0x02 ∷
    0x81 ∷ 0x00 ∷ 0x0D ∷ 0x00 ∷ 0x05 ∷ 0x00 ∷ 0xFF ∷ 0xFF ∷ 0x00 ∷ 0x00 ∷ 0x01 ∷ 0x8C ∷ 0x00 ∷ 0x00 ∷ 0x00 ∷ 0x02 ∷
    0x7F ∷ 0x00 ∷ 0x00 ∷ []

-- A plan without flows: its platform and end records.
abbrev no_flows : List ℕ
no_flows = 0x01 ∷ 0x00 ∷ 0x06 ∷ 0x06 ∷ 0x01 ∷ 0x01 ∷ 0x00 ∷ 0x0A ∷ 0x03 ∷ 0x7F ∷ 0x00 ∷ 0x00 ∷ []

-- A buffer of some bytes that no reply has.
abbrev buffer : ℕ → List ℕ
buffer long = replicate long 0xAA

-- A row: the bytes offered, the buffer's length, what is returned and what the buffer holds then.
record Row : Type 0 where
  bytes : List ℕ
  room : ℕ
  result : Returned
  holds : List ℕ

abbrev row : List ℕ → ℕ → Returned → List ℕ → Row
row bytes room result holds = record { bytes = bytes; room = room; result = result; holds = holds }

abbrev table : List Row
table =
    row P 51 (accepted_with 51) reply_of_P  -- "reply of 50 / 51 bytes | | refused 11 / accepted"
    ∷ row (set P 8 0) 51 (accepted_with 51) reply_of_P  -- document 02, L6: "Method 0 on P now gives 396 for flow 5"
    ∷ row P 50 (refused_with 11 0) (buffer 50)
    ∷ row P 54 (accepted_with 51) (reply_of_P ++ buffer 3)  -- "A longer buffer keeps its further bytes."
    ∷ row no_flows 3 (accepted_with 3) (0x7F ∷ 0x00 ∷ 0x00 ∷ [])  -- "no flows | | reply 7F 0000"
    ∷ row no_flows 2 (refused_with 11 0) (buffer 2)
    ∷ row (take 78 P) 60 (refused_with 1 78) (buffer 60)  -- "end record missing | | refused 1 at 78"
    ∷ row (set P 7 65) 60 (refused_with 24 7) (buffer 60)  -- document 02: "01's case of buffer 65 becomes 24 at 7"
    ∷ row (set P 7 65) 0 (refused_with 24 7) []  -- "Then 10, then 11."
    ∷ []

replies : (map (λ r. returned r.bytes r.room) table ≡ map (λ r. r.result) table) × (map (λ r. left r.bytes (buffer r.room)) table ≡ map (λ r. r.holds) table)
unfolding tag_of six_or_seven priority_flits_at header_at tagged_at frame_at fields_from clash_at tail_at rest_at ◌then◌ body_at record_at accepted refused after records read_plan ◌when◌else◌ hops along xy on domain first_from up sum_over comes_to_from comes_to method_used latency direct_for indirect_for comes_before those allowance weight term terms highest judged judge verdict_below verdict answers record_of each returned_by left_by room_for put_into
replies = (refl, refl)

-- "These must be turned down": what P's offer comes to, with a buffer of 51 bytes, is none of what these programs give.
record NotWrong (r : Returned) (is : List ℕ) : Type 0 where
  -- "refusing all plans (by demand 1)",
  refusing : r.number ≡ 0
  -- "calling all flows late or writing nothing (2);
  late : verdict_at is 0 ≢ 1
  nothing : is ≢ buffer 51
  -- analysing flow one and copying its figures down (2);
  copied : (bound_at is 1 ≢ bound_at is 0) × (id_at is 1 ≢ id_at is 0)
  -- inventing rounds (3, ..)".
  invented : map (rounds_at is) (0 ∷ 1 ∷ 2 ∷ []) ≡ 1 ∷ 2 ∷ 2 ∷ []

wrong_excluded : (r : Returned) (is : List ℕ) → Offered P (buffer 51) r is → NotWrong r is
wrong_excluded r is o =
    let (e, f) = (promised_exactly P (buffer 51) r is).1 o in
    let a : r ≡ accepted_with 51 = e ∙ ap (λ l. get_or l 0 (refused_with 0 0)) replies.0 in
    let b : is ≡ reply_of_P = f ∙ ap (λ l. get_or l 0 []) replies.1 in
    rw (a, b)
    (record {
      refusing = refl;
      late = λ e. omega arith;
      nothing = λ e. absurd (omega (arith, ap (λ (s : List ℕ). one_at s 0) e));
      copied = ((λ e. omega arith), λ e. omega arith);
      invented = refl;
    })
