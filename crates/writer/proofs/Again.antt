-- Writing what was read from an accepted plan gives the same bytes.
use Prim.Native.Nat.{ℕ, zero, suc, ◌+◌, ◌*◌, ◌≤◌, ◌<◌}
use mathlib.Core.Path.{◌≡◌, refl, sym, ap, ap₂, ◌∙◌}
use mathlib.Core.List.{List, [], ◌∷◌, ◌++◌}
use mathlib.Core.Logic.{⊎_elim}
use native.Mathlib.Nat.{zero-add, add_assoc}
use native.Mathlib.Numerals.{add-one}
use native.Mathlib.Omega.{arith}
use lib.ListN.{length, take}
use lib.Seq.{take_all}
use Rattle.framing.specs.BigEndian.{number_bytes}
use Rattle.framing.specs.Each.{each}
use Rattle.framing.specs.First.{◌when◌else◌}
use Rattle.framing.specs.Header.{Headed, end_record}
use Rattle.framing_numbers.specs.Numbers.{bytes_of, number_at, Bytes}
use Rattle.framing_numbers.specs.declared.Width.TheVariants.{Two}
use Rattle.framing.proofs.BigEndian.{bytes_back}
use Rattle.framing.proofs.Each.{each_more}
use Rattle.framing.proofs.Parts.{part, part_one, part_join}
use Rattle.plan.specs.Layout.{place, Laid}
use Rattle.plan.specs.Legal.{flow}
use Rattle.plan.specs.Reading.{accepted, read_plan}
use Rattle.plan_table.specs.Table.{tag_byte, six_or_seven, body_length, fields_of, width}
use Rattle.plan_values.specs.Values.{platform_length, blank_flow}
use Rattle.plan_values.specs.declared.Platform.{Platform}
use Rattle.plan_values.specs.declared.Flow.{Flow}
use Rattle.plan_table.specs.declared.Field.{Field}
use Rattle.plan_table.specs.declared.Kind.{Kind}
use Rattle.plan_table.specs.declared.Kind.TheVariants.{PlatformRecord, FlowRecord, EndRecord}
use Rattle.plan.proofs.Exact.{accepted_exactly}
use Rattle.plan.proofs.Platforms.{own_length}
use Rattle.plan_table.proofs.Lengths.{size_of, filled}
use Rattle.plan_values.proofs.Seventh.{seventh, either_length}
use Rattle.writer_bytes.specs.PlanBytes.{platform_values, body_bytes, record_bytes, platform_bytes, flow_bytes, plan_bytes}

-- The values of some fields, from the one at this offset of a record on.
abbrev values_from : List ℕ → ℕ → ℕ → List Field → List ℕ
values_from s at offset [] = []
values_from s at offset (f ∷ fields) = number_at s (width f) (at + offset) ∷ values_from s at (offset + bytes_of (width f)) fields

module _ {s : List ℕ} (is : Bytes s) where
  body_again : (at offset : ℕ) (fields : List Field) → at + offset + size_of fields ≤ length s → body_bytes fields (values_from s at offset fields) ≡ part s (at + offset) (size_of fields)
  body_again at offset [] h = refl
  body_again at offset (f ∷ fields) h =
      ap₂ ◌++◌ (bytes_back is (width f) (at + offset) (omega arith)) (body_again at (offset + bytes_of (width f)) fields (omega arith))
      ∙ ap (λ (n : ℕ). part s (at + offset) (bytes_of (width f)) ++ part s n (size_of fields)) (sym (add_assoc at offset (bytes_of (width f))))
      ∙ part_join s (at + offset) (bytes_of (width f)) (size_of fields)

  record_again : (at : ℕ) (kind : Kind) (size : ℕ) → size ≡ body_length kind size → Headed s at (tag_byte kind) size → at + 3 + size ≤ length s → record_bytes kind size (values_from s at 3 (fields_of kind size)) ≡ part s at (3 + size)
  record_again at kind size own h w =
      let full : size_of (fields_of kind size) ≡ size = filled kind size ∙ sym own in
      let tag : tag_byte kind ∷ [] ≡ part s at 1 = ap (λ (n : ℕ). n ∷ []) (sym h.tag_is) ∙ sym (part_one s at (omega arith)) in
      let long : number_bytes Two size ≡ part s (at + 1) 2 = ap (number_bytes Two) (sym h.size_is) ∙ bytes_back is Two (at + 1) (omega arith) in
      let body = body_again at 3 (fields_of kind size) (omega arith) in
      let all : 1 + (2 + size_of (fields_of kind size)) ≡ 3 + size = omega arith in
      (λ i. tag i ++ (long i ++ body i))
      ∙ ap (λ (n : ℕ). part s at 1 ++ (part s (at + 1) 2 ++ part s n (size_of (fields_of kind size)))) (sym (add_assoc at 1 2))
      ∙ ap (λ (x : List ℕ). part s at 1 ++ x) (part_join s (at + 1) 2 (size_of (fields_of kind size)))
      ∙ part_join s at 1 (2 + size_of (fields_of kind size))
      ∙ ap (part s at) all

  module _ {p : Platform} {fs : List Flow} (laid : Laid s p fs) where
    abbrev size : ℕ
    size = platform_length p

    -- What was read of the platform is what its fields hold, be they six or seven.
    values_again : record_bytes PlatformRecord size (platform_values p) ≡ record_bytes PlatformRecord size (values_from s 0 3 (fields_of PlatformRecord size))
    unfolding six_or_seven ◌when◌else◌
    values_again =
        ap (λ (q : Platform). record_bytes PlatformRecord size (platform_values q)) (sym laid.platform.1)
        ∙ ⊎_elim
        (λ w. rw w.0 refl)
        (λ w. let e = seventh s 0 (laid.platform.0.size_is ∙ w.0) in rw (w.0, e) refl)
        (either_length p)

    platform_again : platform_bytes p ≡ part s 0 (3 + size)
    unfolding platform_bytes
    platform_again = values_again ∙ record_again 0 PlatformRecord size (own_length p) laid.platform.0 (omega (arith, laid.nothing_else))

    flow_again : (k : ℕ) → k < length fs → flow_bytes (flow fs k) ≡ part s (place size k) 23
    unfolding flow_bytes
    flow_again k l = ap flow_bytes (sym (laid.each k l).1) ∙ record_again (place size k) FlowRecord 20 refl (laid.each k l).0 (omega (arith, laid.nothing_else))

    flows_again : (k : ℕ) → k ≤ length fs → each flow_bytes (take k fs) ≡ part s (3 + size) (23 * k)
    unfolding each
    flows_again zero h = refl
    flows_again (suc k) h =
        let q : 23 * k + 23 ≡ 23 * suc k = omega arith in
        ap (λ (n : ℕ). each flow_bytes (take n fs)) (sym (add-one k))
        ∙ each_more flow_bytes fs k blank_flow (omega arith)
        ∙ ap₂ ◌++◌ (flows_again k (omega arith)) (flow_again k (omega arith))
        ∙ part_join s (3 + size) (23 * k) 23
        ∙ ap (part s (3 + size)) q

    end_again : end_record ≡ part s (place size (length fs)) 3
    end_again = record_again (place size (length fs)) EndRecord 0 refl laid.end (omega (arith, laid.nothing_else))

    laid_again : plan_bytes p fs ≡ s
    laid_again =
        let n = 23 * length fs in
        let all : each flow_bytes fs ≡ part s (3 + size) n = ap (each flow_bytes) (sym (take_all (length fs) fs (omega arith))) ∙ flows_again (length fs) (omega arith) in
        (λ i. platform_again i ++ (all i ++ end_again i))
        ∙ ap (λ (x : List ℕ). part s 0 (3 + size) ++ x) (part_join s (3 + size) n 3)
        ∙ ap (λ (k : ℕ). part s 0 (3 + size) ++ part s k (n + 3)) (sym (zero-add (3 + size)))
        ∙ part_join s 0 (3 + size) (n + 3)
        ∙ take_all (3 + size + (n + 3)) s (omega (arith, laid.nothing_else))

  -- "writing what was read from any accepted plan gives the same bytes"
  pub same_bytes : (p : Platform) (fs : List Flow) → read_plan s ≡ accepted p fs → plan_bytes p fs ≡ s
  same_bytes p fs e = laid_again ((accepted_exactly s p fs).0 e).0
