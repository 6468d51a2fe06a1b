-- `write` returns and leaves what is defined, by what the reader said of the first 64 flows at most, and by the count.
use Prim.Native.Nat.{ℕ, suc, ◌-◌, ◌≤◌, ◌<◌, min}
use mathlib.Core.Path.{◌≡◌, refl, sym, ap, ◌∙◌}
use mathlib.Core.Logic.{◌≢◌}
use mathlib.Core.List.{List, ◌∷◌, ◌++◌, append-nil}
use native.Mathlib.Nat.{min-le_right, min-eq_left, min-eq_right}
use native.Mathlib.Decide.{dec_lt}
use native.Mathlib.Omega.{arith}
use lib.ListN.{length, take, drop, replicate}
use lib.Seq.{take_all, take_at, length-take-le, get_or-take}
use Rattle.std.specs.Prelude.{Result, Ok, Err}
use Rattle.framing.specs.Returned.{number_of, refused_with, accepted_with, outcome}
use Rattle.framing.specs.declared.returned.Refusal.{Refusal}
use Rattle.framing.specs.declared.returned.Returned.{Returned}
use Rattle.framing.proofs.Rooms.{handed_on, too_short, room_enough}
use Rattle.plan.specs.declared.Plan.{Plan}
use Rattle.plan.specs.Reading.{accepted, refused, read_plan}
use Rattle.plan.specs.Layout.{place}
use Rattle.plan_values.specs.Values.{platform_length, blank_flow}
use Rattle.plan_values.specs.declared.Flow.{Flow}
use Rattle.plan_values.specs.declared.Platform.{Platform}
use Rattle.plan.proofs.Exact.{refusal_listed}
use Rattle.plan.proofs.Numbered.{never}
use Rattle.writer_bytes.specs.PlanBytes.{plan_bytes, plan_length}
use Rattle.writer.specs.Fits.{FitsEach}
use Rattle.writer.specs.Written.{listed, returned, left, GivenBack}
use Rattle.writer_bytes.proofs.Putting.{length_plan}
use Rattle.writer.proofs.Longer.{refused_alike, sixty_fifth}
use Rattle.writer.proofs.ReadBack.{given_back}

-- What the contract says of the result and of the bytes left in the buffer.
abbrev pub Written : Platform → List Flow → List ℕ → Returned → List ℕ → Type 0
Written p fs held r is = (r ≡ returned p fs (length held)) × (is ≡ left p fs held) × GivenBack p fs r is

-- A refusal's number is not acceptance's 0.
pub not_accepted : (s : List ℕ) {refusal : Refusal} → read_plan s ≡ Err refusal → number_of refusal.0 ≢ 0
unfolding refused
not_accepted s {refusal} e = never 0 refl (refusal_listed s refusal.0 refusal.1 e).0

module _ (flows : List Flow) {count : ℕ} where
  pub listed_few : count ≤ 64 → listed flows count ≡ take count flows
  listed_few h =
      let z : count - 64 ≡ 0 = omega arith in
      ap (λ (n : ℕ). take count flows ++ replicate n blank_flow) z ∙ append-nil (take count flows)

  listed_many : length flows ≡ 64 → 64 < count → listed flows count ≡ flows ++ blank_flow ∷ replicate (count - 65) blank_flow
  listed_many l h =
      let all : take count flows ≡ flows = take_all count flows (omega arith) in
      let m : count - 64 ≡ suc (count - 65) = omega arith in
      λ i. all i ++ replicate (m i) blank_flow

-- `r` is what was read of the plan of the first `kept` flows, which has `size` bytes.
pub record Tried (p : Platform) (flows : List Flow) (count kept size : ℕ) (r : Result Plan Refusal) : Type 0 where
  pub long : length flows ≡ 64
  pub kept_is : kept ≡ min count 64
  pub size_is : length (plan_bytes p (take kept flows)) ≡ size
  pub read_is : r ≡ read_plan (plan_bytes p (take kept flows))

-- .. where that plan was put in front of the trial, and read there.
pub tried :
    {p : Platform} {flows : List Flow} {count kept size : ℕ} {r : Result Plan Refusal} {trial : List ℕ} (rest : List ℕ) →
    length flows ≡ 64 → kept ≡ min count 64 → size ≡ plan_length p kept → trial ≡ plan_bytes p (take kept flows) ++ rest → r ≡ read_plan (take size trial) →
    Tried p flows count kept size r
tried {p} {flows} {count} {kept} {size} {r} {trial} rest l k z t e =
    let n : length (take kept flows) ≡ kept = length-take-le kept flows (omega (arith, k, min-le_right count 64)) in
    let own : length (plan_bytes p (take kept flows)) ≡ size = length_plan p (take kept flows) ∙ ap (plan_length p) n ∙ sym z in
    record {
      long = l;
      kept_is = k;
      size_is = own;
      read_is = e ∙ ap (λ (x : List ℕ). read_plan (take size x)) t ∙ ap read_plan (take_at (plan_bytes p (take kept flows)) rest size own);
    }

module _ {p : Platform} {flows : List Flow} {count kept size : ℕ} {r : Result Plan Refusal} (held : List ℕ) (w : Tried p flows count kept size r) where
  abbrev bytes : List ℕ
  bytes = plan_bytes p (listed flows count)

  -- A refusal by the bytes as they would have been written.
  refused_written : {refusal : Refusal} → read_plan bytes ≡ Err refusal → Written p (listed flows count) held (refused_with (number_of refusal.0) refusal.1) held
  refused_written e =
      let (number, all) = handed_on (length bytes) bytes held (ap outcome e) in
      (number, all, record { same = λ z. absurd (not_accepted bytes e z) })

  -- Up to 64 flows are all kept.
  module _ (h : count ≤ 64) where
    kept_all : take kept flows ≡ listed flows count
    kept_all = ap (λ (n : ℕ). take n flows) (w.kept_is ∙ min-eq_left h) ∙ sym (listed_few flows h)

    all_read : r ≡ read_plan bytes
    all_read = w.read_is ∙ ap (λ (fs : List Flow). read_plan (plan_bytes p fs)) kept_all

    needed : length bytes ≡ size
    needed = ap (λ (fs : List Flow). length (plan_bytes p fs)) (sym kept_all) ∙ w.size_is

    module _ {plan : Plan} (o : r ≡ Ok plan) where
      pub written_short : length held < size → Written p (listed flows count) held (refused_with 11 0) held
      written_short l =
          let (number, all) = too_short (length bytes) bytes held (ap outcome (sym all_read ∙ o)) (omega (arith, needed)) in
          (number, all, record { same = λ e. absurd (omega arith) })

      kept_fit : FitsEach flows → FitsEach (take kept flows)
      kept_fit f i l =
          let n : length (take kept flows) ≡ kept = length-take-le kept flows (omega (arith, w.kept_is, w.long, min-le_right count 64)) in
          rw (get_or-take kept flows i blank_flow (omega arith)) (f i (omega (arith, w.kept_is, w.long, min-le_right count 64)))

      back : FitsEach flows → {is : List ℕ} → is ≡ plan_bytes p (take kept flows) ++ drop size held → read_plan (take size is) ≡ accepted p (listed flows count)
      back f put =
          ap (λ (x : List ℕ). read_plan (take size x)) put
          ∙ ap read_plan (take_at (plan_bytes p (take kept flows)) (drop size held) size w.size_is)
          ∙ given_back p (take kept flows) (kept_fit f) (ap outcome (sym w.read_is ∙ o))
          ∙ ap (accepted p) kept_all

      pub written_whole :
          FitsEach flows → size ≤ length held → {is : List ℕ} → is ≡ plan_bytes p (take kept flows) ++ drop (plan_length p (length (take kept flows))) held →
          Written p (listed flows count) held (accepted_with size) is
      written_whole f l {is} put =
          let long : plan_length p (length (take kept flows)) ≡ size = sym (length_plan p (take kept flows)) ∙ w.size_is in
          let own : is ≡ plan_bytes p (take kept flows) ++ drop size held = put ∙ ap (λ (n : ℕ). plan_bytes p (take kept flows) ++ drop n held) long in
          let (number, all) = room_enough (length bytes) bytes held (ap outcome (sym all_read ∙ o)) (omega (arith, needed)) in
          (ap accepted_with (sym needed) ∙ number, own ∙ (λ i. plan_bytes p (kept_all i) ++ drop (sym needed i) held) ∙ all, record { same = λ e. back f own })

  -- Of more, the first 64 are.
  module _ (h : 64 < count) where
    kept_64 : kept ≡ 64
    kept_64 = w.kept_is ∙ min-eq_right (let l : 64 ≤ count = omega arith in l)

    of_64 : read_plan (plan_bytes p flows) ≡ r
    of_64 =
        let first : take kept flows ≡ flows = take_all kept flows (omega (arith, kept_64, w.long)) in
        sym (w.read_is ∙ ap (λ (fs : List Flow). read_plan (plan_bytes p fs)) first)

    of_all : read_plan bytes ≡ read_plan (plan_bytes p (flows ++ blank_flow ∷ replicate (count - 65) blank_flow))
    of_all = ap (λ (fs : List Flow). read_plan (plan_bytes p fs)) (listed_many flows w.long h)

    -- The 65th would stand where the end record of the 64 does.
    pub written_longer : {plan : Plan} → r ≡ Ok plan → Written p (listed flows count) held (refused_with 6 (size - 3)) held
    written_longer o =
        let q : place (platform_length p) 64 ≡ size - 3 = omega (arith, w.size_is, length_plan p (take kept flows), length-take-le kept flows (omega (arith, kept_64, w.long)), kept_64) in
        rw q at (refused_written (of_all ∙ sixty_fifth p flows w.long blank_flow (replicate (count - 65) blank_flow) (of_64 ∙ o)))

    refused_longer : {refusal : Refusal} → r ≡ Err refusal → Written p (listed flows count) held (refused_with (number_of refusal.0) refusal.1) held
    refused_longer o = refused_written (of_all ∙ refused_alike p flows w.long blank_flow (replicate (count - 65) blank_flow) (of_64 ∙ o))

  pub written_refused : {refusal : Refusal} → r ≡ Err refusal → Written p (listed flows count) held (refused_with (number_of refusal.0) refusal.1) held
  written_refused {refusal} o = go (dec_lt 64 count)
    where
      go : Dec (64 < count) → Written p (listed flows count) held (refused_with (number_of refusal.0) refusal.1) held
      go (yes h) = refused_longer h o
      go (no n) = let h : count ≤ 64 = omega arith in refused_written (sym (all_read h) ∙ o)
