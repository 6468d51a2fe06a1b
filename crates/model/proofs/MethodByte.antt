-- Document 02, L6: a plan's method is its byte 8, in a platform record of six bytes as of seven. With another number from 0 to 3 there an accepted plan is
-- accepted: its platform is the same but for the method, its flows are the same.
use Prim.Native.Nat.{ℕ, ◌+◌, ◌*◌, ◌≤◌, ◌<◌}
use native.Mathlib.Omega.{arith}
use mathlib.Core.Path.{◌≡◌, ap, ap₂, ◌∙◌}
use mathlib.Core.Logic.{◌≢◌}
use mathlib.Core.List.{List}
use lib.ListN.{length, set, length-set}
use lib.Seq.{get_or-set_same, get_or-set_other}
use Rattle.framing_numbers.specs.Numbers.{one_at, two_at, four_at}
use Rattle.framing.specs.Header.{Headed}
use Rattle.plan_values.specs.Values.{priority_flits_at, platform_at, platform_length, flow_at}
use Rattle.plan_values.specs.declared.Platform.{Platform}
use Rattle.plan_values.specs.declared.Flow.{Flow}
use Rattle.plan_values.proofs.Seventh.{length_within}
use Rattle.plan.specs.Legal.{LegalFlow, Legal}
use Rattle.plan.specs.Layout.{place, Laid}
use Rattle.plan.specs.Reading.{accepted, read_plan}
use Rattle.plan.proofs.Exact.{accepted_exactly}
use Rattle.model.specs.Latency.{with_method}

module _ (s : List ℕ) (m : ℕ) where
  abbrev there : List ℕ
  there = set s 8 m

  one_kept : (i : ℕ) → i ≢ 8 → one_at there i ≡ one_at s i
  one_kept i n = get_or-set_other s 8 i m 0 n

  -- ---- what stands behind the method
  two_kept : (i : ℕ) → 9 ≤ i → two_at there i ≡ two_at s i
  two_kept i h = ap₂ (λ a b. 256 * a + b) (one_kept i (λ e. omega arith)) (one_kept (i + 1) (λ e. omega arith))

  four_kept : (i : ℕ) → 9 ≤ i → four_at there i ≡ four_at s i
  four_kept i h = ap₂ (λ a b. 65536 * a + b) (two_kept i h) (two_kept (i + 2) (omega arith))

  headed_kept : {at tag size : ℕ} → 9 ≤ at → Headed s at tag size → Headed there at tag size
  headed_kept {at} h w = record { tag_is = one_kept at (λ e. omega arith) ∙ w.tag_is; size_is = two_kept (at + 1) (omega arith) ∙ w.size_is }

  flow_kept : (at : ℕ) → 9 ≤ at → flow_at there at ≡ flow_at s at
  flow_kept at h x =
      record {
        id = two_kept (at + 3) (omega arith) x;
        priority = two_kept (at + 5) (omega arith) x;
        source = one_kept (at + 7) (λ e. omega arith) x;
        destination = one_kept (at + 8) (λ e. omega arith) x;
        flits = two_kept (at + 9) (omega arith) x;
        period = four_kept (at + 11) (omega arith) x;
        deadline = four_kept (at + 15) (omega arith) x;
        jitter = four_kept (at + 19) (omega arith) x;
      }

  -- ---- the platform record
  told_kept : two_at there 1 ≡ two_at s 1
  told_kept = ap₂ (λ a b. 256 * a + b) (one_kept 1 (λ e. omega arith)) (one_kept 2 (λ e. omega arith))

  first_kept : {tag size : ℕ} → Headed s 0 tag size → Headed there 0 tag size
  first_kept w = record {
    tag_is = one_kept 0 (λ e. omega arith) ∙ w.tag_is;
    size_is = told_kept ∙ w.size_is;
  }

  flits_kept : priority_flits_at there 0 ≡ priority_flits_at s 0
  unfolding priority_flits_at
  flits_kept = rw (told_kept, one_kept 9 (λ e. omega arith))

  platform_there : 8 < length s → platform_at there 0 ≡ with_method m (platform_at s 0)
  platform_there h x =
      record {
        columns = one_kept 3 (λ e. omega arith) x;
        rows = one_kept 4 (λ e. omega arith) x;
        link = one_kept 5 (λ e. omega arith) x;
        routing = one_kept 6 (λ e. omega arith) x;
        buffer = one_kept 7 (λ e. omega arith) x;
        method = get_or-set_same s 8 m 0 h x;
        priority_flits = flits_kept x;
      }

  module _ (p : Platform) (fs : List Flow) where
    laid_there : Laid s p fs → Laid there (with_method m p) fs
    unfolding platform_length
    laid_there w =
        let behind = length_within p in
        record {
          platform = (first_kept w.platform.0, platform_there (omega (arith, w.nothing_else, behind)) ∙ ap (with_method m) w.platform.1);
          each = λ k l.
              let h : 9 ≤ place (platform_length p) k = omega (arith, behind) in
              (headed_kept h (w.each k l).0, flow_kept (place (platform_length p) k) h ∙ (w.each k l).1);
          end = headed_kept (omega (arith, behind)) w.end;
          nothing_else = length-set s 8 m ∙ w.nothing_else;
        }

    legal_there : m ≤ 3 → Legal p fs → Legal (with_method m p) fs
    legal_there h w =
        let a = w.platform in
        record {
          platform = record { columns = a.columns; rows = a.rows; link = a.link; routing = a.routing; buffer = a.buffer; method = (omega arith, h); priority_flits = a.priority_flits };
          few = w.few;
          each = λ k l. flow_there (w.each k l);
          ids = w.ids;
          priorities = w.priorities;
        }
      where
        flow_there : {f : Flow} → LegalFlow p f → LegalFlow (with_method m p) f
        flow_there a = record {
          id = a.id;
          priority = a.priority;
          source = a.source;
          destination = a.destination;
          flits = a.flits;
          period = a.period;
          deadline = a.deadline;
          jitter = a.jitter;
          moves = a.moves;
        }

    pub method_there : m ≤ 3 → read_plan s ≡ accepted p fs → read_plan there ≡ accepted (with_method m p) fs
    method_there h e =
        let (laid, legal) = (accepted_exactly s p fs).0 e in
        (accepted_exactly there (with_method m p) fs).1 (laid_there laid, legal_there h legal)
