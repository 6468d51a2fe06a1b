-- How long a plan's records are: flow i's record starts at place i, behind the platform's, which has `start` bytes.
use Prim.Native.Nat.{ℕ, ◌+◌, ◌*◌}
use mathlib.Core.Path.{◌≡◌, refl, ap, ◌∙◌}
use mathlib.Core.List.{List, [], ◌∷◌, ◌++◌, append_assoc}
use mathlib.Core.Logic.{⊎_elim}
use native.Mathlib.Omega.{arith}
use lib.ListN.{length, take, drop, length-append}
use Rattle.framing.specs.Each.{each}
use Rattle.framing.specs.First.{◌when◌else◌}
use Rattle.framing.specs.Header.{end_record}
use Rattle.framing.proofs.Each.{length_each}
use Rattle.framing.specs.Put.{put}
use Rattle.framing.proofs.Puts.{put_first, put_next, put_part}
use Rattle.framing.proofs.Writing.{lent}
use Rattle.plan_table.specs.Table.{six_or_seven}
use Rattle.plan_values.specs.Values.{platform_length}
use Rattle.plan_values.specs.declared.Platform.{Platform}
use Rattle.plan_values.specs.declared.Flow.{Flow}
use Rattle.plan_values.proofs.Seventh.{either_length}
use Rattle.writer_bytes.specs.PlanBytes.{platform_values, record_bytes, platform_bytes, flow_bytes, plan_bytes, plan_length}
use Rattle.plan_table.specs.declared.Kind.TheVariants.{PlatformRecord}

-- What holds of the two records of a platform holds of the one that is written.
pub by_record : (p : Platform) (P : ℕ → List ℕ → Type 0) → P 6 (record_bytes PlatformRecord 6 (platform_values p)) → P 7 (record_bytes PlatformRecord 7 (platform_values p)) → P (platform_length p) (platform_bytes p)
unfolding platform_bytes
by_record p P six seven = ⊎_elim (λ w. rw w.0 six) (λ w. rw w.0 seven) (either_length p)

-- The bytes as the code has them, the last for a seventh byte.
pub first_bytes : (p : Platform) {long : ℕ} → long ≡ platform_length p → take (3 + platform_length p) (0x01 ∷ 0 ∷ long ∷ p.columns ∷ p.rows ∷ p.link ∷ p.routing ∷ p.buffer ∷ p.method ∷ p.priority_flits ∷ []) ≡ platform_bytes p
unfolding six_or_seven ◌when◌else◌
first_bytes p e = rw e (by_record p (λ n bytes. take (3 + n) (0x01 ∷ 0 ∷ n ∷ p.columns ∷ p.rows ∷ p.link ∷ p.routing ∷ p.buffer ∷ p.method ∷ p.priority_flits ∷ []) ≡ bytes) refl refl)

pub length_platform : (p : Platform) → length (platform_bytes p) ≡ 3 + platform_length p
unfolding six_or_seven ◌when◌else◌
length_platform p = by_record p (λ n bytes. length bytes ≡ 3 + n) refl refl

pub length_flow : (f : Flow) → length (flow_bytes f) ≡ 23
unfolding flow_bytes
length_flow f = refl

pub length_flows : (fs : List Flow) → length (each flow_bytes fs) ≡ 23 * length fs
length_flows = length_each flow_bytes 23 length_flow

pub length_plan : (p : Platform) (fs : List Flow) → length (plan_bytes p fs) ≡ plan_length p (length fs)
length_plan p fs =
    length-append (platform_bytes p) (each flow_bytes fs ++ end_record)
    ∙ omega (arith, length_platform p, length-append (each flow_bytes fs) end_record, length_flows fs)

-- The platform's record, the flows' records behind it and the end record behind them, written over what a buffer held.
put_all : (p : Platform) (fs : List Flow) (held : List ℕ) → put (put (put held 0 (platform_bytes p)) (length (platform_bytes p)) (each flow_bytes fs)) (length (platform_bytes p ++ each flow_bytes fs)) end_record ≡ plan_bytes p fs ++ drop (plan_length p (length fs)) held
put_all p fs held =
    let front : List ℕ = platform_bytes p ++ each flow_bytes fs in
    let all : front ++ end_record ≡ plan_bytes p fs = append_assoc (platform_bytes p) (each flow_bytes fs) end_record in
    ap (λ (x : List ℕ). put x (length front) end_record) (put_next held (platform_bytes p) (each flow_bytes fs))
    ∙ put_next held front end_record
    ∙ put_first held (front ++ end_record)
    ∙ λ j. all j ++ drop ((ap length all ∙ length_plan p fs) j) held

-- The same in the steps of the code: `a` and `b` are what the buffer holds behind the first and the second of them.
pub plan_put :
    (p : Platform) (fs : List Flow) (held : List ℕ) {first a b e : List ℕ} {start end : ℕ} → first ≡ platform_bytes p → start ≡ 0 + length first → a ≡ put held 0 first →
    end ≡ start + 23 * length fs → b ≡ put a start (each flow_bytes fs) → e ≡ end_record → lent b end (end + 3) e ≡ plan_bytes p fs ++ drop (plan_length p (length fs)) held
plan_put p fs held {b} {e} {start} {end} first_is start_is a_is end_is b_is e_is =
    let behind : start ≡ length (platform_bytes p) = omega (arith, start_is, ap length first_is) in
    let last : end ≡ length (platform_bytes p ++ each flow_bytes fs) = omega (arith, end_is, behind, length-append (platform_bytes p) (each flow_bytes fs), length_flows fs) in
    put_part b e end 3 (ap length e_is) ∙ (λ j. put ((b_is ∙ λ k. put ((a_is ∙ ap (put held 0) first_is) k) (behind k) (each flow_bytes fs)) j) (last j) (e_is j)) ∙ put_all p fs held
