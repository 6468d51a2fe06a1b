-- The tender's three conditions of acceptance, of any bytes offered as a plan and any buffer lent for the reply.
-- `analyse` promises to return `returned bytes (length held)` and to leave `left bytes held` in the buffer that held `held`.
-- The words of these statements: `Laid`, `Legal`, `RefusedBecause` and `Listed` of plan's specs, `Right` of model's specs/Rules, and specs/Records of
-- reply, the places in a record, and of this crate.
-- By document 02 (L3) the deadline of demands 2 and 3 is the deadline less the flow's own jitter, `limit` of model's specs/Latency; without jitter it is
-- the deadline (`no_jitter` of model's proofs/Ticks). By document 02 (L6) the method 0 of demand 2 is IBN, `house_default` there.
use Prim.Native.Nat.{ℕ, ◌+◌, ◌-◌, ◌*◌, ◌≤◌, ◌<◌}
use mathlib.Core.Path.{◌≡◌, refl, sym, ap, ◌∙◌}
use mathlib.Core.Logic.Iff
use mathlib.Core.Logic.{◌↔◌, ◌≢◌}
use mathlib.Core.List.{List, ◌++◌}
use native.Mathlib.Decide.{dec_lt}
use native.Mathlib.Omega.{arith}
use lib.ListN.{length, take, drop}
use Rattle.framing.specs.Header.{length_at, Headed}
use Rattle.framing_numbers.specs.Numbers.{Bytes}
use Rattle.std.specs.Prelude.{Result}
use Rattle.framing.specs.Returned.{number_of, refused_with, accepted_with}
use Rattle.framing.specs.declared.returned.Refusal.{Refusal}
use Rattle.framing.specs.declared.returned.Returned.{Returned}
use Rattle.plan_values.specs.declared.Platform.{Platform}
use Rattle.plan_values.specs.declared.Flow.{Flow}
use Rattle.plan.specs.declared.Plan.{Plan}
use Rattle.plan.specs.Legal.{Legal, flow}
use Rattle.plan.specs.Layout.{Laid}
use Rattle.plan.specs.Refusals.{Listed}
use Rattle.plan.specs.Reasons.{RefusedBecause}
use Rattle.plan.specs.Reading.{accepted, read_plan}
use Rattle.plan.proofs.Answered.{Lawful, accepts, refuses, answered}
use Rattle.plan.proofs.Exact.{accepted_exactly}
use Rattle.plan.proofs.Because.{refused_exactly}
use Rattle.plan.proofs.Numbered.{never}
use Rattle.plan.proofs.Enough.{decided}
use Rattle.recurrence.specs.Rounding.{up}
use Rattle.recurrence.specs.Sums.{sum_over}
use Rattle.recurrence.specs.Verdicts.{Bound, NoBound, Rounds}
use Rattle.model.specs.declared.Verdict.{Verdict}
use Rattle.model.specs.Latency.{latency, limit}
use Rattle.model.specs.Interference.{direct_for, those}
use Rattle.model.specs.Verdicts.{recurrence_of, packets_in, bound_in, rounds_in, verdict, answer_to, answers}
use Rattle.model.specs.Rules.{Unbounded, AllBounded, IsWaiting, Right}
use Rattle.model.proofs.Verdicts.{right, right_once}
use Rattle.model.proofs.FlowLines.{answers_at, verdict_line, rounds_line}
use Rattle.model.proofs.Ticks as tick
use Rattle.reply.specs.Reply.{reply_bytes}
use Rattle.reply.specs.Records.{id_at, verdict_at, named_at, bound_at, rounds_at}
use Rattle.analyser.specs.Analysed.{returned, left}
use Rattle.analyser.specs.Records.{answer_lines, Holds}
use Rattle.analyser.proofs.Replying.{Replied}
use Rattle.analyser.proofs.Telling.{tells_bounded, tells_rounds, tells_late, tells_waits, tells_names, tells_only}
use Rattle.analyser.proofs.Bytes.{same_buffer, reply_bytes_lem}
use Rattle.analyser.proofs.Deciding.{refused_returned, reason_returned, short_returned, reply_returned, right_lines, held_reply}

-- ==== demand 1: what an offer comes to, which is what is returned and what the buffer holds then
-- The bytes are a plan, and the buffer has room for its reply.
pub record Fine (bytes held : List ℕ) (p : Platform) (fs : List Flow) : Type 0 where
  pub laid : Laid bytes p fs
  pub legal : Legal p fs
  pub room : 16 * length fs + 3 ≤ length held

pub data Offered (bytes held : List ℕ) : Returned → List ℕ → Type 0 where
  -- "Every byte string offered as a plan gets an analysis": right answers. "on success only the reply's own bytes differ"
  analysed :
      {p : Platform} {fs : List Flow} → Fine bytes held p fs → (answer : Flow → Verdict) → Right p fs answer →
      Offered bytes held (accepted_with (16 * length fs + 3)) (reply_bytes (answer_lines fs answer) ++ drop (16 * length fs + 3) held)
  -- "or, only for a fault listed in document 01, a numbered refusal with its place": "On refusal the reply buffer is untouched".
  -- The first line of the table that holds of the first record in fault gives it; the number says which record and which field that is, and the place
  -- is there.
  sent_back : (number place : ℕ) → RefusedBecause bytes number place → Listed (length_at bytes 0) number place → place ≤ length bytes → Offered bytes held (refused_with number place) held
  -- "11 | the reply buffer is too short | 0"
  too_short : (p : Platform) (fs : List Flow) → Laid bytes p fs → Legal p fs → length held < 16 * length fs + 3 → Offered bytes held (refused_with 11 0) held

-- ==== demand 2: what record k of a buffer says of flow i, where `answer` are the answers to all flows of the plan
pub record Figures (p : Platform) (fs : List Flow) (answer : Flow → Verdict) (i : Flow) (is : List ℕ) (k : ℕ) : Type 0 where
  -- "For each flow, in plan order: tag 81, length 13, id (2)"
  pub headed : Headed is (16 * k) 0x81 13
  pub id : id_at is k ≡ i.id
  -- "A bounded flow gets the least whole number that solves its recurrence within its deadline" less its jitter.
  pub bounded : (r : ℕ) → ((verdict_at is k ≡ 0) × (bound_at is k ≡ r)) ↔ (AllBounded p fs answer i × Bound (recurrence_of p fs answer i) (limit i) r)
  -- "It is called late exactly if no such number exists and all its direct interferers are bounded;
  pub late : (verdict_at is k ≡ 1) ↔ (AllBounded p fs answer i × NoBound (recurrence_of p fs answer i) (limit i))
  -- it waits exactly if one of them is not."
  pub waits : (verdict_at is k ≡ 2) ↔ ((m : ℕ) × Unbounded p fs answer i m)
  -- "It names the unbounded direct flow of highest priority."
  pub names : (id : ℕ) → ((verdict_at is k ≡ 2) × (named_at is k ≡ id)) ↔ IsWaiting p fs answer i id
  -- "one of three verdicts"
  pub one_of_three : verdict_at is k ≤ 2
  -- "The named flow is FFFF unless the verdict is 2; the bound is 0 unless the verdict is 0."
  pub no_name : verdict_at is k ≢ 2 → named_at is k ≡ 0xFFFF
  pub no_bound : verdict_at is k ≢ 0 → bound_at is k ≡ 0

-- The answers are right, no others are, and each flow's record says so.
pub record Demand2 (p : Platform) (fs : List Flow) (answer : Flow → Verdict) (is : List ℕ) : Type 0 where
  pub right : Right p fs answer
  pub only : (other : Flow → Verdict) → Right p fs other → (k : ℕ) → k < length fs → other (flow fs k) ≡ answer (flow fs k)
  pub each : (k : ℕ) → k < length fs → Figures p fs answer (flow fs k) is k

-- ==== demand 3: the rounds in record k, for flow i. "Rounds are stated over the recurrence of demand 2."
pub record Demand3 (p : Platform) (fs : List Flow) (answer : Flow → Verdict) (i : Flow) (is : List ℕ) (k : ℕ) : Type 0 where
  -- "the evaluations of its recurrence, starting at its unloaded latency, until a value repeats or passes the deadline" less the jitter;
  pub exactly : AllBounded p fs answer i → (n : ℕ) → (rounds_at is k ≡ n) ↔ Rounds (recurrence_of p fs answer i) (latency p i) (limit i) n
  -- "zero for a flow that waits
  pub waiting : verdict_at is k ≡ 2 → rounds_at is k ≡ 0
  -- or whose unloaded latency is above its deadline" less its jitter.
  pub too_long : limit i < latency p i → rounds_at is k ≡ 0
  -- "at most two plus, for each direct interferer, the deadline" less the jitter "less the unloaded latency, divided by that interferer's period and rounded up"
  pub plan : rounds_at is k ≤ 2 + sum_over (those (direct_for p i) fs) (λ j. up (limit i - latency p i) j.period)
  -- "For a bounded flow it is also at most two more than the growth in interfering packets from unloaded latency to bound,
  pub bounded : verdict_at is k ≡ 0 → rounds_at is k + packets_in p fs answer i (latency p i) ≤ 2 + packets_in p fs answer i (bound_at is k)
  -- for a late one whose unloaded latency is not above its deadline" less its jitter "at most one more than that growth up to the deadline" less the jitter.
  pub late : verdict_at is k ≡ 1 → latency p i ≤ limit i → rounds_at is k + packets_in p fs answer i (latency p i) ≤ 1 + packets_in p fs answer i (limit i)

-- ==== the theorems, for every byte string and every buffer
module _ (bytes held : List ℕ) where
  -- Demand 1. "no caller has to check anything first": nothing is asked of the bytes or of the buffer.
  pub demand_1 : Offered bytes held (returned bytes (length held)) (left bytes held)
  demand_1 = go (read_plan bytes) refl (answered bytes)
    where
      settled : {r : Returned} {is : List ℕ} → Replied bytes held r is → Offered bytes held r is → Offered bytes held (returned bytes (length held)) (left bytes held)
      settled (e, f) o = rw (← e, ← f) o

      by_room : (p : Platform) (fs : List Flow) → Laid bytes p fs → Legal p fs → read_plan bytes ≡ accepted p fs → Dec (length held < 16 * length fs + 3) → Offered bytes held (returned bytes (length held)) (left bytes held)
      by_room p fs laid legal e (yes h) = settled (short_returned bytes held p fs e h) (too_short p fs laid legal h)
      by_room p fs laid legal e (no h) =
          settled
          (rw (← right_lines p fs legal (verdict p fs) (right p fs)) at (reply_returned bytes held p fs e (omega arith)))
          (analysed (record { laid = laid; legal = legal; room = omega arith }) (verdict p fs) (right p fs))

      go : (r : Result Plan Refusal) → read_plan bytes ≡ r → Lawful bytes r → Offered bytes held (returned bytes (length held)) (left bytes held)
      go r e (accepts p fs laid legal) = by_room p fs laid legal e (dec_lt (length held) (16 * length fs + 3))
      go r e (refuses fault place n h) = settled (refused_returned bytes held fault place e) (sent_back (number_of fault) place ((refused_exactly bytes fault place).0 e) n h)

  module _ {p : Platform} {fs : List Flow} (f : Fine bytes held p fs) where
    is_plan : read_plan bytes ≡ accepted p fs
    is_plan = (accepted_exactly bytes p fs).1 (f.laid, f.legal)

    replies : Replied bytes held (accepted_with (16 * length fs + 3)) (reply_bytes (answers p fs) ++ drop (16 * length fs + 3) held)
    replies = reply_returned bytes held p fs is_plan f.room

    -- "Acceptance returns number 0 and the reply's length": 16n + 3 bytes for n flows.
    pub reply_size : returned bytes (length held) ≡ accepted_with (16 * length fs + 3)
    reply_size = sym replies.0

    -- What is written is read back: the numbers in the records are the answers'. A longer buffer keeps its further bytes.
    pub read_back : Holds fs (verdict p fs) held (left bytes held)
    read_back = rw (← replies.1) (held_reply bytes p fs is_plan held f.room)

    -- Demand 2. It excludes calling all flows late, writing nothing, and copying flow one's figures down.
    pub demand_2 : Demand2 p fs (verdict p fs) (left bytes held)
    demand_2 = record {
      right = right p fs;
      only = right_once p fs f.legal;
      each = λ k l.
          let v = verdict p fs (flow fs k) in
          let a = answer_to p fs (flow fs k) in
          let t = read_back.each k l in
          let d = rw (answers_at p fs a k l) at (verdict_line bytes p fs is_plan a k l) in
          record {
            headed = t.headed;
            id = t.id;
            bounded = λ r. rw (t.verdict, t.bound) (Iff.trans (tells_bounded v r) (d.bounded r));
            late = rw t.verdict (Iff.trans (tells_late v) d.late);
            waits = rw t.verdict (Iff.trans (tells_waits v) d.waits);
            names = λ id. rw (t.verdict, t.named) (Iff.trans (tells_names v id) (d.names id));
            one_of_three = rw t.verdict (tells_only v).0;
            no_name = rw (t.verdict, t.named) (tells_only v).1;
            no_bound = rw (t.verdict, t.bound) (tells_only v).2;
          };
    }

    -- Demand 3. It excludes inventing rounds.
    pub demand_3 : (k : ℕ) → k < length fs → Demand3 p fs (verdict p fs) (flow fs k) (left bytes held) k
    demand_3 k l =
        let v = verdict p fs (flow fs k) in
        let a = answer_to p fs (flow fs k) in
        let t = read_back.each k l in
        let d = rw (answers_at p fs a k l) at (rounds_line bytes p fs is_plan a k l) in
        record {
          exactly = λ free n. rw t.rounds (d.exactly free n);
          waiting = λ e. t.rounds ∙ ap rounds_in ((tells_waits v).0 (sym t.verdict ∙ e)).1;
          too_long = λ h. t.rounds ∙ d.too_long h;
          plan = rw t.rounds d.plan;
          bounded = λ e. let (n, q) = (tells_bounded v (bound_in v)).0 (sym t.verdict ∙ e, refl) in rw (t.rounds, t.bound, ap rounds_in q) (d.bounded (bound_in v) n q);
          late = λ e h. let (n, q) = (tells_late v).0 (sym t.verdict ∙ e) in rw (t.rounds, ap rounds_in q) (d.late h n q);
        }

    -- "Deadlines run from the tick" (document 02, L3), with the jitter added and nothing taken away, so that no jitter is hidden.
    -- "up to the jitter is already gone when the packet is released": a bounded flow's bound plus its jitter is at most its deadline.
    pub deadline_met : (k : ℕ) → k < length fs → verdict_at (left bytes held) k ≡ 0 → bound_at (left bytes held) k + (flow fs k).jitter ≤ (flow fs k).deadline
    deadline_met k l e =
        let v = verdict p fs (flow fs k) in
        let a = answer_to p fs (flow fs k) in
        let t = read_back.each k l in
        let (n, q) = (tells_bounded v (bound_in v)).0 (sym t.verdict ∙ e, refl) in
        rw t.bound ((rw (answers_at p fs a k l) at (tick.deadline_met bytes p fs is_plan a k l)) (bound_in v) n q)

    -- Whatever solves a late flow's recurrence is, plus its jitter, above its deadline.
    pub deadline_missed :
        (k : ℕ) → k < length fs → verdict_at (left bytes held) k ≡ 1 → (x : ℕ) → recurrence_of p fs (verdict p fs) (flow fs k) x ≡ x →
        (flow fs k).deadline < x + (flow fs k).jitter
    deadline_missed k l e =
        let a = answer_to p fs (flow fs k) in
        let (n, q) = (tells_late (verdict p fs (flow fs k))).0 (sym (read_back.each k l).verdict ∙ e) in
        (rw (answers_at p fs a k l) at (tick.deadline_missed bytes p fs is_plan a k l)) n q

    -- "if C plus jitter is above the deadline, a flow that doesn't wait is late with zero rounds", and only then.
    pub late_at_once :
        (k : ℕ) → k < length fs → verdict_at (left bytes held) k ≢ 2 →
        ((verdict_at (left bytes held) k ≡ 1) × (rounds_at (left bytes held) k ≡ 0)) ↔ ((flow fs k).deadline < latency p (flow fs k) + (flow fs k).jitter)
    late_at_once k l goes =
        let a = answer_to p fs (flow fs k) in
        let t = read_back.each k l in
        let free : AllBounded p fs (verdict p fs) (flow fs k) = λ m u. goes ((demand_2.each k l).waits.1 (m, u)) in
        rw (t.verdict, t.rounds) (Iff.trans (tells_rounds (verdict p fs (flow fs k)) 0) ((rw (answers_at p fs a k l) at (tick.late_at_once bytes p fs is_plan a k l)) free))

    -- The numbers decide the bytes: a buffer whose records tell right answers is the one that is left.
    pub told_once : Bytes held → {is : List ℕ} → Bytes is → (answer : Flow → Verdict) → Right p fs answer → Holds fs answer held is → is ≡ left bytes held
    told_once b c answer a h =
        same_buffer c (rw (← replies.1) (reply_bytes_lem (answers p fs) (16 * length fs + 3) b))
        (record {
          each = λ k l. let q : answer (flow fs k) ≡ verdict p fs (flow fs k) = right_once p fs f.legal answer a k l in rw q at (h.each k l);
          end = h.end;
          further = h.further;
          long = h.long;
        })
        read_back

  -- "No refusal is given otherwise." It excludes refusing all plans.
  pub success_exactly : ((returned bytes (length held)).number ≡ 0) ↔ ((p : Platform) × (fs : List Flow) × Fine bytes held p fs)
  success_exactly = (go demand_1, λ (p, fs, f). ap (λ (r : Returned). r.number) (reply_size f))
    where
      go : {r : Returned} {is : List ℕ} → Offered bytes held r is → r.number ≡ 0 → (p : Platform) × (fs : List Flow) × Fine bytes held p fs
      go (analysed {p} {fs} f answer right) e = (p, fs, f)
      go (sent_back number place q n h) e = absurd (never 0 refl n e)
      go (too_short p fs laid legal h) e = absurd (omega arith)

  -- .. and of the plan itself a refusal is given exactly for the first line of the table that holds of the first record in fault; 11 is the buffer's.
  pub refusal_exactly : (number place : ℕ) → number ≢ 0 → number ≢ 11 → (returned bytes (length held) ≡ refused_with number place) ↔ RefusedBecause bytes number place
  refusal_exactly number place not_0 not_11 = (go demand_1, λ w. sym (reason_returned bytes held number place w).0)
    where
      go : {r : Returned} {is : List ℕ} → Offered bytes held r is → r ≡ refused_with number place → RefusedBecause bytes number place
      go (analysed f answer right) e = absurd (not_0 (sym (ap (λ (r : Returned). r.number) e)))
      go (sent_back n at w l h) e =
          let a : n ≡ number = ap (λ (r : Returned). r.number) e in
          let b : at ≡ place = ap (λ (r : Returned). r.value) e in
          rw (← a, ← b) w
      go (too_short p fs laid legal h) e = absurd (not_11 (sym (ap (λ (r : Returned). r.number) e)))

  -- What `analyse` promises is what an offer comes to, no less and no more.
  pub promised_exactly : (r : Returned) (is : List ℕ) → ((r ≡ returned bytes (length held)) × (is ≡ left bytes held)) ↔ Offered bytes held r is
  promised_exactly r is = ((λ (e, f). rw (e, f) demand_1), go)
    where
      go : {r : Returned} {is : List ℕ} → Offered bytes held r is → Replied bytes held r is
      go (analysed {p} {fs} f answer right) = rw (right_lines p fs f.legal answer right) (replies f)
      go (sent_back number place w n h) = reason_returned bytes held number place w
      go (too_short p fs laid legal h) = short_returned bytes held p fs ((accepted_exactly bytes p fs).1 (laid, legal)) h

  -- "two results allowed for one input coincide"
  pub once : (r q : Returned) (is us : List ℕ) → Offered bytes held r is → Offered bytes held q us → (r ≡ q) × (is ≡ us)
  once r q is us a b =
      let (e, f) = (promised_exactly r is).1 a in
      let (g, h) = (promised_exactly q us).1 b in
      (e ∙ sym g, f ∙ sym h)

  -- "Its own reply buffer holds 1,027 bytes, so it never meets 11."
  pub always_room : 1027 ≤ length held → (returned bytes (length held)).number ≢ 11
  always_room long = go demand_1
    where
      go : {r : Returned} {is : List ℕ} → Offered bytes held r is → r.number ≢ 11
      go (analysed f answer right) e = omega arith
      go (sent_back number place q n h) e = never 11 refl n e
      go (too_short p fs laid legal h) e = omega (arith, legal.few)

  -- "It reads at most 2,048 bytes of standard input, which always decides the reply"
  pub enough : (returned (take 2048 bytes) (length held) ≡ returned bytes (length held)) × (left (take 2048 bytes) held ≡ left bytes held)
  enough = rw (decided bytes) (refl, refl)
