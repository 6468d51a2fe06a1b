-- What the depot relies on, of any platform, any flows and any buffer. `write` promises to return `returned p fs (length held)`
-- and to leave `left p fs held` in the buffer that held `held`, and that reading gives back `p` and `fs` (`GivenBack`).
use Prim.Native.Nat.{ℕ, ◌≤◌, ◌<◌}
use mathlib.Core.Path.{◌≡◌, refl, sym, ap, ◌∙◌}
use mathlib.Core.Logic.{◌≢◌}
use mathlib.Core.List.{List, ◌++◌}
use native.Mathlib.Decide.{dec_lt}
use native.Mathlib.Omega.{arith}
use lib.ListN.{length, drop}
use lib.Seq.{take_at}
use Rattle.framing_numbers.specs.Numbers.{Bytes}
use Rattle.framing.specs.Returned.{number_of, refused_with, accepted_with, outcome}
use Rattle.framing.specs.declared.returned.Returned.{Returned}
use Rattle.framing.proofs.Rooms.{handed_on, too_short, room_enough}
use Rattle.plan.specs.Legal.{Legal}
use Rattle.plan.specs.Reading.{accepted, read_plan}
use Rattle.plan_values.specs.declared.Platform.{Platform}
use Rattle.plan_values.specs.declared.Flow.{Flow}
use Rattle.std.specs.Prelude.{Result, Ok, Err}
use Rattle.framing.specs.declared.returned.Refusal.{Refusal}
use Rattle.plan.specs.declared.Plan.{Plan}
use Rattle.writer_bytes.specs.PlanBytes.{plan_bytes, plan_length}
use Rattle.writer.specs.Written.{returned, left, GivenBack}
use Rattle.writer_bytes.proofs.Putting.{length_plan}
use Rattle.writer.proofs.ReadBack.{written_exactly}
use Rattle.writer.proofs.Returning.{not_accepted}
use Rattle.writer.proofs.Again.{same_bytes}

module _ (p : Platform) (fs : List Flow) (held : List ℕ) where
  abbrev bytes : List ℕ
  bytes = plan_bytes p fs

  -- What a writing comes to: a refusal by the reader, 11, or the plan in front of what the buffer held.
  data Came : Returned → List ℕ → Type 0 where
    sent_back : (number place : ℕ) → number ≢ 0 → Came (refused_with number place) held
    no_room : Came (refused_with 11 0) held
    whole : outcome (read_plan bytes) ≡ Ok tt → length bytes ≤ length held → Came (accepted_with (length bytes)) (bytes ++ drop (length bytes) held)

  in_room : outcome (read_plan bytes) ≡ Ok tt → Dec (length held < length bytes) → Came (returned p fs (length held)) (left p fs held)
  in_room e (yes h) = let (a, b) = too_short (length bytes) bytes held e h in rw (← a, ← b) no_room
  in_room e (no n) =
      let h : length bytes ≤ length held = omega arith in
      let (a, b) = room_enough (length bytes) bytes held e h in
      rw (← a, ← b) (whole e h)

  by_reading : (r : Result Plan Refusal) → read_plan bytes ≡ r → Came (returned p fs (length held)) (left p fs held)
  by_reading (Err refusal) e =
      let (a, b) = handed_on (length bytes) bytes held (ap outcome e) in
      rw (← a, ← b) (sent_back (number_of refusal.0) refusal.1 (not_accepted bytes e))
  by_reading (Ok plan) e = in_room (ap outcome e) (dec_lt (length held) (length bytes))

  came : Came (returned p fs (length held)) (left p fs held)
  came = by_reading (read_plan bytes) refl

  -- "The buffer is untouched by a refusal."
  pub refused_untouched : (returned p fs (length held)).number ≢ 0 → left p fs held ≡ held
  refused_untouched = go came
    where
      go : {r : Returned} {is : List ℕ} → Came r is → r.number ≢ 0 → is ≡ held
      go (sent_back number place h) n = refl
      go no_room n = refl
      go (whole e h) n = absurd (n refl)

  -- "writing what was read from any accepted plan gives the same bytes": all of them, so that method 0 stays 0.
  pub read_written : (s : List ℕ) → Bytes s → read_plan s ≡ accepted p fs → length s ≤ length held → (returned p fs (length held) ≡ accepted_with (length s)) × (left p fs held ≡ s ++ drop (length s) held)
  unfolding accepted
  read_written s is e h =
      let same = same_bytes is p fs e in
      let (a, b) = room_enough (length s) s held (ap outcome e) h in
      rw same (sym a, sym b)

  -- A plan is written exactly if its values are allowed and the buffer has room for it.
  pub legal_written : Legal p fs → plan_length p (length fs) ≤ length held → returned p fs (length held) ≡ accepted_with (plan_length p (length fs))
  unfolding accepted
  legal_written w h =
      let l = length_plan p fs in
      sym (room_enough (length bytes) bytes held (ap outcome ((written_exactly p fs).1 w)) (omega arith)).0 ∙ ap accepted_with l

  -- The other way by the promise of what is read back: other values could have the same bytes, if they were too large for their fields.
  pub written_legal : GivenBack p fs (returned p fs (length held)) (left p fs held) → (returned p fs (length held)).number ≡ 0 → Legal p fs × (plan_length p (length fs) ≤ length held)
  written_legal = go came
    where
      go : {r : Returned} {is : List ℕ} → Came r is → GivenBack p fs r is → r.number ≡ 0 → Legal p fs × (plan_length p (length fs) ≤ length held)
      go (sent_back number place h) b e = absurd (omega arith)
      go no_room b e = absurd (omega arith)
      go (whole o h) b e =
          let front = take_at bytes (drop (length bytes) held) (length bytes) refl in
          ((written_exactly p fs).0 (ap read_plan (sym front) ∙ b.same refl), omega (arith, length_plan p fs))
