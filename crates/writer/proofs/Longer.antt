-- A list of more than 64 flows: what its first 64 are refused with, and else 6 at the place of the 65th, whatever follows them.
use Prim.Native.Nat.{ℕ, suc, ◌+◌, ◌≤◌, ◌<◌}
use mathlib.Core.Path.{◌≡◌, refl, sym, ap, ◌∙◌}
use mathlib.Core.List.{List, ◌∷◌, ◌++◌, append_assoc}
use native.Mathlib.Omega.{arith}
use lib.ListN.{length, length-append, get_or-append}
use lib.Seq.{get_or-append-add}
use Rattle.framing.specs.Each.{each}
use Rattle.framing.specs.Header.{length_at, Headed, end_record}
use Rattle.framing_numbers.specs.Numbers.{one_at}
use Rattle.framing.proofs.Each.{each_append}
use Rattle.framing.proofs.Stands.{Stands, header}
use Rattle.plan.specs.Layout.{place}
use Rattle.plan.specs.Reading.{plan_of, accepted, refused, records, read_plan}
use Rattle.plan_table.specs.Table.{six_or_seven}
use Rattle.plan_values.specs.Values.{platform_length}
use Rattle.plan_values.proofs.Seventh.{length_within}
use Rattle.plan_values.specs.declared.Platform.{Platform}
use Rattle.plan_values.specs.declared.Flow.{Flow}
use Rattle.plan.specs.declared.Plan.{Plan}
use Rattle.std.specs.Prelude.{Result, Ok, Err}
use Rattle.framing.specs.Returned.{outcome}
use Rattle.framing.specs.declared.returned.Refusal.{Refusal}
use Rattle.framing.specs.declared.returned.Fault.TheVariants.{FlowTooMany}
use Rattle.plan.proofs.Alike.{Alike, same, arrived, alike}
use Rattle.plan.proofs.Exact.{accepted_plan, size}
use Rattle.plan.proofs.Frames.{end_passes, one_too_many}
use Rattle.plan.proofs.Order.{fault_ends, end_accepts}
use Rattle.writer_bytes.specs.PlanBytes.{platform_bytes, flow_bytes, plan_bytes}
use Rattle.writer.proofs.ReadBack.{platform_headed}
use Rattle.writer_bytes.proofs.Putting.{length_platform, length_flow, length_flows}

module _ (p : Platform) (fs : List Flow) (many : length fs ≡ 64) where
  -- Where the 65th record stands, and what stands in front of it.
  abbrev pub there : ℕ
  there = place (platform_length p) 64

  abbrev front : List ℕ
  front = platform_bytes p ++ each flow_bytes fs

  front_length : length front ≡ there
  front_length = length-append (platform_bytes p) (each flow_bytes fs) ∙ omega (arith, length_platform p, length_flows fs)

  -- Bytes that begin with it, and have `next` behind it.
  module _ (s next : List ℕ) (e : s ≡ front ++ next) where
    begins : (i : ℕ) → i < there → one_at s i ≡ one_at front i
    begins i h = ap (λ (x : List ℕ). one_at x i) e ∙ get_or-append front next 0 i (omega (arith, front_length))

    goes_on : (n : ℕ) → Stands s there next n
    goes_on n = record { one = λ d h. ap (λ (x : List ℕ). one_at x (there + d)) e ∙ rw (← front_length) (get_or-append-add front next d 0) }

    long : length s ≡ there + length next
    long = ap length e ∙ length-append front next ∙ omega (arith, front_length)

  -- The plan of these flows, and one that goes on behind them.
  the_64 : plan_bytes p fs ≡ front ++ end_record
  the_64 = sym (append_assoc (platform_bytes p) (each flow_bytes fs) end_record)

  module _ (f : Flow) (more : List Flow) where
    abbrev behind : List ℕ
    behind = flow_bytes f ++ (each flow_bytes more ++ end_record)

    the_longer : plan_bytes p (fs ++ f ∷ more) ≡ front ++ behind
    unfolding each
    the_longer =
        ap (λ (x : List ℕ). platform_bytes p ++ (x ++ end_record)) (each_append flow_bytes fs (f ∷ more))
        ∙ ap (λ (x : List ℕ). platform_bytes p ++ x) (append_assoc (each flow_bytes fs) (flow_bytes f ++ each flow_bytes more) end_record ∙ ap (λ (x : List ℕ). each flow_bytes fs ++ x) (append_assoc (flow_bytes f) (each flow_bytes more) end_record))
        ∙ sym (append_assoc (platform_bytes p) (each flow_bytes fs) behind)

    room : there + 23 ≤ length (plan_bytes p (fs ++ f ∷ more))
    room = omega (arith, long (plan_bytes p (fs ++ f ∷ more)) behind the_longer, length-append (flow_bytes f) (each flow_bytes more ++ end_record), length_flow f)

    headed : Headed (plan_bytes p (fs ++ f ∷ more)) there 0x02 20
    unfolding flow_bytes
    headed = header (goes_on (plan_bytes p (fs ++ f ∷ more)) behind the_longer 3) (omega arith) refl refl

    -- Once a reading has got behind 64 flows, the one plan ends and the other goes on.
    data Parted (x y : Result Plan Refusal) : Type 0 where
      together : x ≡ y → Parted x y
      apart : (q : Platform) (gs : List Flow) → x ≡ accepted q gs → y ≡ refused FlowTooMany there → Parted x y

    parted : Parted (read_plan (plan_bytes p fs)) (read_plan (plan_bytes p (fs ++ f ∷ more)))
    parted = go (alike s u (platform_length p) 64 fits agree ls lu (omega arith))
      where
        s : List ℕ
        s = plan_bytes p fs

        u : List ℕ
        u = plan_bytes p (fs ++ f ∷ more)

        agree : (i : ℕ) → i < there → one_at s i ≡ one_at u i
        agree i h = begins s end_record the_64 i h ∙ sym (begins u behind the_longer i h)

        told : length_at s 0 ≡ platform_length p
        told = (platform_headed p fs).size_is

        fits : length_at s 0 ≡ six_or_seven (length_at s 0) → length_at s 0 ≤ platform_length p
        fits own = omega (arith, told)

        ls : there ≤ length s
        ls = omega (arith, long s end_record the_64)

        lu : there ≤ length u
        lu = omega (arith, long u behind the_longer)

        go : {x y : Result Plan Refusal} → Alike s u (platform_length p) 64 fits agree ls lu x y → Parted x y
        go (same e) = together e
        go (arrived turns q gs n few) =
            apart q gs
            (ap (λ (n : ℕ). records (suc turns) s (place n 64) q gs) told ∙ end_accepts s there q gs turns (end_passes s there (λ z. omega arith) q gs (header (goes_on s end_record the_64 3) (omega arith) refl refl) (long s end_record the_64)))
            (ap (λ (n : ℕ). records (suc turns) u (place n 64) q gs) told ∙ fault_ends u there q gs turns (one_too_many u there (λ z. omega arith) q gs headed room (omega arith)))

    too_long : {plan : Plan} → read_plan (plan_bytes p (fs ++ f ∷ more)) ≡ Ok plan → ⊥
    too_long e =
        let w = accepted_plan _ (ap outcome e) in
        omega (arith, (size _ w.0 w.1 w.2).1, room, (length_within p).0)

    pub refused_alike : {refusal : Refusal} → read_plan (plan_bytes p fs) ≡ Err refusal → read_plan (plan_bytes p (fs ++ f ∷ more)) ≡ Err refusal
    unfolding accepted
    refused_alike {refusal} e = go parted
      where
        go : Parted (read_plan (plan_bytes p fs)) (read_plan (plan_bytes p (fs ++ f ∷ more))) → read_plan (plan_bytes p (fs ++ f ∷ more)) ≡ Err refusal
        go (together t) = sym t ∙ e
        go (apart q gs a b) =
            let o : ◌≡◌ {A = Result Plan Refusal} (Ok (plan_of q gs)) (Err refusal) = sym a ∙ e in
            let z : ◌≡◌ {A = ℕ} 0 1 = cc in
            absurd (omega arith)

    pub sixty_fifth : {plan : Plan} → read_plan (plan_bytes p fs) ≡ Ok plan → read_plan (plan_bytes p (fs ++ f ∷ more)) ≡ Err (FlowTooMany, there)
    unfolding refused
    sixty_fifth {plan} e = go parted
      where
        go : Parted (read_plan (plan_bytes p fs)) (read_plan (plan_bytes p (fs ++ f ∷ more))) → read_plan (plan_bytes p (fs ++ f ∷ more)) ≡ Err (FlowTooMany, there)
        go (together t) = absurd (too_long (sym t ∙ e))
        go (apart q gs a b) = b

  -- What follows the 64 changes nothing.
  pub whatever_follows : (f g : Flow) (more others : List Flow) → read_plan (plan_bytes p (fs ++ f ∷ more)) ≡ read_plan (plan_bytes p (fs ++ g ∷ others))
  whatever_follows f g more others = go (read_plan (plan_bytes p fs)) refl
    where
      go : (r : Result Plan Refusal) → read_plan (plan_bytes p fs) ≡ r → read_plan (plan_bytes p (fs ++ f ∷ more)) ≡ read_plan (plan_bytes p (fs ++ g ∷ others))
      go (Err refusal) e = refused_alike f more e ∙ sym (refused_alike g others e)
      go (Ok plan) e = sixty_fifth f more e ∙ sym (sixty_fifth g others e)
