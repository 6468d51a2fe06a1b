-- Reading the written bytes gives back the same platform and the same flows in the same order.
use Prim.Native.Nat.{ℕ, ◌+◌, ◌*◌, ◌≤◌, ◌<◌}
use mathlib.Core.Path.{◌≡◌, refl, sym, ap, ◌∙◌}
use mathlib.Core.List.{List, [], ◌++◌}
use mathlib.Core.Logic.{◌↔◌, ⊎_elim}
use native.Mathlib.Nat.{zero-add, mul-le-mul}
use native.Mathlib.Omega.{arith}
use lib.ListN.{length, get_or-append}
use lib.Seq.{get_or-append-add, ext_get_or}
use Rattle.framing.specs.Each.{each}
use Rattle.framing.specs.First.{◌when◌else◌}
use Rattle.framing.specs.Header.{Headed, end_record}
use Rattle.framing_numbers.specs.Numbers.{one_at, two_at}
use Rattle.framing_numbers.specs.declared.Width.TheVariants.{Two, Four}
use Rattle.framing.proofs.BigEndian.{number_back}
use Rattle.framing.proofs.Each.{each_at}
use Rattle.framing.proofs.Stands.{Stands, two, four, header}
use Rattle.plan.specs.Layout.{place, Laid}
use Rattle.plan.specs.Legal.{LegalPlatform, LegalFlow, Legal, flow}
use Rattle.plan.specs.Reading.{accepted, read_plan}
use Rattle.plan_table.specs.Table.{six_or_seven, flow_fields}
use Rattle.plan_values.specs.Values.{priority_flits_at, platform_at, platform_length, flow_at, blank_flow}
use Rattle.plan_values.proofs.Seventh.{seventh, no_seventh, either_length, length_within}
use Rattle.plan_values.specs.declared.Platform.{Platform}
use Rattle.plan_values.specs.declared.Flow.{Flow}
use Rattle.std.specs.Prelude.{Ok}
use Rattle.framing.specs.Returned.{outcome}
use Rattle.plan.proofs.Exact.{accepted_exactly, accepted_plan}
use Rattle.writer_bytes.specs.PlanBytes.{flow_values, platform_bytes, flow_bytes, plan_bytes}
use Rattle.writer.specs.Fits.{Fits, FitsEach}
use Rattle.writer_bytes.proofs.Putting.{by_record, length_platform, length_flow, length_flows, length_plan}

-- A record that stands within other bytes has the same values there.
flow_stands : {s : List ℕ} {b : ℕ} {t : List ℕ} → Stands s b t 23 → flow_at s b ≡ flow_at t 0
flow_stands w i = record {
  id = two w 3 (omega arith) i;
  priority = two w 5 (omega arith) i;
  source = w.one 7 (omega arith) i;
  destination = w.one 8 (omega arith) i;
  flits = two w 9 (omega arith) i;
  period = four w 11 (omega arith) i;
  deadline = four w 15 (omega arith) i;
  jitter = four w 19 (omega arith) i;
}

-- The values of a record that was written.
flow_back : (f : Flow) → Fits flow_fields (flow_values f) → flow_at (flow_bytes f) 0 ≡ f
unfolding flow_bytes
flow_back f (id, (priority, (source, (destination, (flits, (period, (deadline, (jitter, t)))))))) = λ i. record {
  id = number_back Two f.id id [] i;
  priority = number_back Two f.priority priority [] i;
  source = f.source;
  destination = f.destination;
  flits = number_back Two f.flits flits [] i;
  period = number_back Four f.period period [] i;
  deadline = number_back Four f.deadline deadline [] i;
  jitter = number_back Four f.jitter jitter [] i;
}

-- What stands where in a platform's record, with a seventh byte and without.
module _ (p : Platform) where
  platform_header : (one_at (platform_bytes p) 0 ≡ 0x01) × (two_at (platform_bytes p) 1 ≡ platform_length p)
  platform_header = by_record p (λ n bytes. (one_at bytes 0 ≡ 0x01) × (two_at bytes 1 ≡ n)) (refl, refl) (refl, refl)

  platform_six :
      (one_at (platform_bytes p) 3 ≡ p.columns) × (one_at (platform_bytes p) 4 ≡ p.rows) × (one_at (platform_bytes p) 5 ≡ p.link)
      × (one_at (platform_bytes p) 6 ≡ p.routing) × (one_at (platform_bytes p) 7 ≡ p.buffer) × (one_at (platform_bytes p) 8 ≡ p.method)
  unfolding six_or_seven ◌when◌else◌
  platform_six =
      by_record p
      (λ n bytes. (one_at bytes 3 ≡ p.columns) × (one_at bytes 4 ≡ p.rows) × (one_at bytes 5 ≡ p.link) × (one_at bytes 6 ≡ p.routing) × (one_at bytes 7 ≡ p.buffer) × (one_at bytes 8 ≡ p.method))
      (refl, refl, refl, refl, refl, refl)
      (refl, refl, refl, refl, refl, refl)

  platform_seventh : platform_length p ≡ 7 → one_at (platform_bytes p) 9 ≡ p.priority_flits
  unfolding six_or_seven ◌when◌else◌
  platform_seventh = by_record p (λ n bytes. n ≡ 7 → one_at bytes 9 ≡ p.priority_flits) (λ e. absurd (omega arith)) (λ e. refl)

module _ (p : Platform) (fs : List Flow) where
  abbrev records : List ℕ
  records = each flow_bytes fs ++ end_record

  platform_first : Stands (plan_bytes p fs) 0 (platform_bytes p) (3 + platform_length p)
  platform_first = record { one = λ d h. rw (zero-add d) (get_or-append (platform_bytes p) records 0 d (omega (arith, length_platform p))) }

  pub platform_headed : Headed (plan_bytes p fs) 0 0x01 (platform_length p)
  platform_headed = header platform_first (omega arith) (platform_header p).0 (platform_header p).1

  flits_back : priority_flits_at (plan_bytes p fs) 0 ≡ p.priority_flits
  flits_back =
      ⊎_elim
      (λ w. no_seventh (plan_bytes p fs) 0 (λ e. omega (arith, platform_headed.size_is, w.0)) ∙ sym w.1)
      (λ w. seventh (plan_bytes p fs) 0 (platform_headed.size_is ∙ w.0) ∙ platform_first.one 9 (omega (arith, w.0)) ∙ platform_seventh p w.0)
      (either_length p)

  platform_back : platform_at (plan_bytes p fs) 0 ≡ p
  platform_back i =
      let w = platform_first in
      let six = platform_six p in
      let wide : 6 ≤ platform_length p = (length_within p).0 in
      record {
        columns = (w.one 3 (omega arith) ∙ six.0) i;
        rows = (w.one 4 (omega arith) ∙ six.1) i;
        link = (w.one 5 (omega arith) ∙ six.2) i;
        routing = (w.one 6 (omega arith) ∙ six.3) i;
        buffer = (w.one 7 (omega arith) ∙ six.4) i;
        method = (w.one 8 (omega arith) ∙ six.5) i;
        priority_flits = flits_back i;
      }

  -- What stands behind the platform's record.
  later : (n d : ℕ) → one_at (plan_bytes p fs) (3 + platform_length p + n + d) ≡ one_at records (n + d)
  later n d =
      let q : 3 + platform_length p + n + d ≡ length (platform_bytes p) + (n + d) = omega (arith, length_platform p) in
      rw q (get_or-append-add (platform_bytes p) records (n + d) 0)

  flow_k : (k : ℕ) → k < length fs → Stands (plan_bytes p fs) (place (platform_length p) k) (flow_bytes (flow fs k)) 23
  flow_k k l = record { one = λ d h. later (23 * k) d ∙ each_at flow_bytes 23 length_flow fs end_record blank_flow k l d h }

  the_end : Stands (plan_bytes p fs) (place (platform_length p) (length fs)) end_record 3
  the_end = record { one = λ d h. later (23 * length fs) d ∙ rw (← length_flows fs) (get_or-append-add (each flow_bytes fs) end_record d 0) }

  pub written_laid : FitsEach fs → Laid (plan_bytes p fs) p fs
  unfolding flow_bytes
  written_laid w = record {
    platform = (platform_headed, platform_back);
    each = λ k l. (header (flow_k k l) (omega arith) refl refl, flow_stands (flow_k k l) ∙ flow_back (flow fs k) (w k l));
    end = header the_end (omega arith) refl refl;
    nothing_else = length_plan p fs ∙ omega arith;
  }

-- What bytes are laid out as is one platform and one list of flows.
laid_once : {s : List ℕ} {p q : Platform} {fs gs : List Flow} → Laid s p fs → Laid s q gs → (p ≡ q) × (fs ≡ gs)
laid_once {s} {p} {q} {fs} {gs} a b =
    let same : p ≡ q = sym a.platform.1 ∙ b.platform.1 in
    let size : platform_length p ≡ platform_length q = ap platform_length same in
    let n : length fs ≡ length gs = omega (arith, a.nothing_else, b.nothing_else) in
    (same, ext_get_or blank_flow fs gs n (λ k l. sym (a.each k l).1 ∙ ap (λ (z : ℕ). flow_at s (place z k)) size ∙ (b.each k (omega arith)).1))

-- "Reading the written bytes gives back the same platform and flows in the same order"
pub given_back : (p : Platform) (fs : List Flow) → FitsEach fs → outcome (read_plan (plan_bytes p fs)) ≡ Ok tt → read_plan (plan_bytes p fs) ≡ accepted p fs
given_back p fs w e =
    let (q, gs, r) = accepted_plan (plan_bytes p fs) e in
    let k = laid_once ((accepted_exactly _ q gs).0 r).0 (written_laid p fs w) in
    r ∙ λ i. accepted (k.0 i) (k.1 i)

-- A mesh has 64 nodes at most.
nodes : {p : Platform} → LegalPlatform p → p.columns * p.rows ≤ 64
nodes w = mul-le-mul w.columns.1 w.rows.1

-- Legal values fit their fields, and so what is written of a legal plan is read again.
legal_fits : (p : Platform) (fs : List Flow) → Legal p fs → FitsEach fs
legal_fits p fs w = λ k l. of_flow (w.each k l)
  where
    of_flow : {f : Flow} → LegalFlow p f → Fits flow_fields (flow_values f)
    of_flow l =
        let source = l.source in
        let mesh = nodes w.platform in
        (omega (arith, l.id), (omega (arith, l.priority), (omega arith, (omega (arith, l.destination), (omega (arith, l.flits), (omega (arith, l.period), (omega (arith, l.deadline, l.period), (omega (arith, l.jitter), tt))))))))

pub written_exactly : (p : Platform) (fs : List Flow) → (read_plan (plan_bytes p fs) ≡ accepted p fs) ↔ Legal p fs
written_exactly p fs = (λ e. ((accepted_exactly _ p fs).0 e).1, λ w. (accepted_exactly _ p fs).1 (written_laid p fs (legal_fits p fs w), w))
