-- A record's fields, and what stands behind them, are refused for the first line of the table that holds.
use Rattle.framing.specs.declared.returned.Fault.TheVariants.{BufferFlits, ByteAfterEnd, Columns, DeadlineAbovePeriod, DeadlineZero, Destination, EndsEqual, Flits, Id, IdTaken, Jitter, LinkCycles, Method, Period, Priority, PriorityFlits, PriorityTaken, RoutingCycles, Rows, Source}
use Prim.Native.Nat.{ℕ, suc, ◌+◌, ◌-◌, ◌*◌, ◌<◌}
use native.Mathlib.Omega.{arith}
use native.Mathlib.Decide.{ℕ_discrete}
use mathlib.Core.Path.{◌≡◌, refl, sym, ap, subst, ◌∙◌}
use mathlib.Core.Bool.{true, false}
use mathlib.Core.List.{List, [], ◌∷◌, ◌++◌, map}
use lib.ListN.{length, take, drop}
use lib.Dec.{ltb, eqb}
use borrow.Author.Tests.{ltb-true, ltb-false, eqb-true, eqb-false}
use Rattle.framing.specs.Header.{length_at}
use Rattle.framing_numbers.specs.Numbers.{one_at, two_at, four_at}
use Rattle.plan_table.specs.Table.{tag_byte, platform_fields, fields_of}
use Rattle.plan_values.specs.Values.{flow_at}
use Rattle.plan_checks.specs.Checks.{limits_at, clash_at, tail_at, taken, rest_at}
use Rattle.plan.specs.Records.{fields_from, ids_of, priorities_of, ◌then◌}
use Rattle.plan.specs.Layout.{place}
use Rattle.plan.specs.Legal.{flow}
use Rattle.plan.specs.Reasons.{start, tag, IsPlatform, IsFlow, nodes, columns_outside, rows_outside, link_outside, routing_outside, buffer_outside, method_outside, priority_flits_outside, id_outside, priority_outside, source_outside, destination_outside, flits_outside, period_outside, deadline_zero, deadline_above, jitter_outside, source_equals_destination, id_equals_earlier, priority_equals_earlier, byte_after_end, EqualsEarlier}
use Rattle.plan_values.specs.declared.Platform.{Platform}
use Rattle.plan_values.specs.declared.Flow.{Flow}
use Rattle.std.specs.Prelude.{Result, Ok, Err}
use Rattle.framing.specs.declared.returned.Refusal.{Refusal}
use Rattle.plan_table.specs.declared.Kind.{Kind}
use Rattle.plan_table.specs.declared.Kind.TheVariants.{PlatformRecord, FlowRecord, EndRecord}
use Rattle.plan_table.proofs.Lengths.{six, seven}
use Rattle.plan_table.specs.declared.Field.{Field}
use Rattle.plan.proofs.Growth.{none_found}
use Rattle.plan.proofs.Ranks.{flow_rests, flow_lines, platform_lines}
use Rattle.plan.proofs.Ruled.{Ruled, passes, ends, step, field, node, both, either, by_bool}

-- what a search that found something says
found_some : (value : Flow → ℕ) (v : ℕ) (fs : List Flow) → taken (map value fs) v ≡ true → (k : ℕ) × (k < length fs) × (value (flow fs k) ≡ v)
found_some value v [] e = absurd (let z : ◌≡◌ {A = ℕ} 0 1 = cc in omega arith)
found_some value v (f ∷ fs) e =
    by_bool (eqb (value f) v)
    (λ t. (0, omega arith, eqb-true (value f) v t))
    (λ n. let (k, h, q) = found_some value v fs (either _ _ e n) in (suc k, omega arith, q))

-- what is known in front of record n: the platform, and the flows before it
pub record Seen (s : List ℕ) (n : ℕ) (p : Platform) (fs : List Flow) : Type 0 where
  pub platform : 0 < n → p.columns * p.rows ≡ nodes s
  pub count : length fs ≡ n - 1
  pub each : (j : ℕ) → j < length fs → flow fs j ≡ flow_at s (place (two_at s 1) j)

module _ (s : List ℕ) (n : ℕ) where
  -- ---- lines of other records are passed over
  module _ (not_flow : IsFlow s n → ⊥) where
    no_flow : {c : Result Kind Refusal} → Ruled s n c (byte_after_end ∷ []) → Ruled s n c flow_lines
    no_flow w =
        passes id_outside (λ h. not_flow h.0)
        (passes priority_outside (λ h. not_flow h.0)
        (passes source_outside (λ h. not_flow h.0)
        (passes destination_outside (λ h. not_flow h.0)
        (passes flits_outside (λ h. not_flow h.0)
        (passes period_outside (λ h. not_flow h.0)
        (passes deadline_zero (λ h. not_flow h.0)
        (passes deadline_above (λ h. not_flow h.0)
        (passes jitter_outside (λ h. not_flow h.0)
        (passes source_equals_destination (λ h. not_flow h.0)
        (passes id_equals_earlier (λ h. not_flow h.0)
        (passes priority_equals_earlier (λ h. not_flow h.0) w)))))))))))

  no_platform : (IsPlatform s n → ⊥) → {c : Result Kind Refusal} → Ruled s n c flow_lines → Ruled s n c platform_lines
  no_platform not_platform w =
      passes columns_outside (λ h. not_platform h.0)
      (passes rows_outside (λ h. not_platform h.0)
      (passes link_outside (λ h. not_platform h.0)
      (passes routing_outside (λ h. not_platform h.0)
      (passes buffer_outside (λ h. not_platform h.0)
      (passes method_outside (λ h. not_platform h.0)
      (passes priority_flits_outside (λ h. not_platform h.0) w))))))

  module _ (p : Platform) (fs : List Flow) (seen : Seen s n p fs) where
    -- an earlier flow has the value
    module _ (offset : ℕ) (value : Flow → ℕ) (reads : (m : ℕ) → value (flow_at s (start s m)) ≡ two_at s (start s m + offset)) where
      again : taken (map value fs) (two_at s (start s n + offset)) ≡ true → EqualsEarlier s n offset
      again e =
          let (j, h, q) = found_some value (two_at s (start s n + offset)) fs e in
          (j, omega (arith, seen.count), sym (reads (suc j)) ∙ ap value (sym (seen.each j h)) ∙ q)

      not_again : taken (map value fs) (two_at s (start s n + offset)) ≡ false → EqualsEarlier s n offset → ⊥
      not_again e (j, h, q) =
          let l : j < length fs = omega (arith, seen.count) in
          eqb-false (value (flow fs j)) (two_at s (start s n + offset)) (none_found value (two_at s (start s n + offset)) fs e j l) (ap value (seen.each j l) ∙ reads (suc j) ∙ q)

    module _ (is_flow : IsFlow s n) where
      clashes : Ruled s n (clash_at (start s n) (flow_at s (start s n)) (ids_of fs) (priorities_of fs)) flow_rests
      unfolding clash_at
      clashes =
          step (λ c. c) (λ refusal. refl) source_equals_destination EndsEqual (eqb (one_at s (start s n + 7)) (one_at s (start s n + 8)))
          (λ t. (is_flow, eqb-true (one_at s (start s n + 7)) (one_at s (start s n + 8)) t))
          (λ f h. eqb-false (one_at s (start s n + 7)) (one_at s (start s n + 8)) f h.1) refl refl
          λ z. step (λ c. c) (λ refusal. refl) id_equals_earlier IdTaken (taken (ids_of fs) (two_at s (start s n + 3)))
          (λ t. (is_flow, again 3 (λ f. f.id) (λ m. refl) t))
          (λ f h. not_again 3 (λ f. f.id) (λ m. refl) f h.1) refl refl
          λ z. step (λ c. c) (λ refusal. refl) priority_equals_earlier PriorityTaken (taken (priorities_of fs) (two_at s (start s n + 5)))
          (λ t. (is_flow, again 5 (λ f. f.priority) (λ m. refl) t))
          (λ f h. not_again 5 (λ f. f.priority) (λ m. refl) f h.1) refl refl
          λ z. passes byte_after_end (λ h. omega (arith, h.0)) (ends FlowRecord is_flow)

    module _ (platform_is : IsPlatform s n) where
      abbrev whole : Result Kind Refusal → Result Kind Refusal
      whole c = c then Ok PlatformRecord

      abbrev fields : ℕ → List Field → Result Kind Refusal
      fields offset fs = fields_from s (start s n) PlatformRecord (limits_at s (start s n) PlatformRecord p) offset fs

      keeps : (refusal : Refusal) → whole (Err refusal) ≡ Err refusal
      unfolding ◌then◌
      keeps refusal = refl

      behind : Ruled s n (Ok PlatformRecord) flow_lines
      behind = no_flow (λ h. omega arith) (passes byte_after_end (λ h. omega (arith, h.0)) (ends PlatformRecord platform_is))

      -- the six fields that every record has, in front of the others
      six_lines : (last : List Field) → Ruled s n (whole (fields 9 last)) (priority_flits_outside ∷ flow_lines) → Ruled s n (whole (fields 3 (take 6 platform_fields ++ last))) platform_lines
      unfolding fields_from ◌then◌
      six_lines last w =
          field whole keeps columns_outside Columns 1 8 (one_at s (start s n + 3)) (λ o. (platform_is, o)) (λ h. h.1) refl refl
          (field whole keeps rows_outside Rows 1 8 (one_at s (start s n + 4)) (λ o. (platform_is, o)) (λ h. h.1) refl refl
          (field whole keeps link_outside LinkCycles 1 16 (one_at s (start s n + 5)) (λ o. (platform_is, o)) (λ h. h.1) refl refl
          (field whole keeps routing_outside RoutingCycles 0 16 (one_at s (start s n + 6)) (λ o. (platform_is, o)) (λ h. h.1) refl refl
          (field whole keeps buffer_outside BufferFlits 1 64 (one_at s (start s n + 7)) (λ o. (platform_is, o)) (λ h. h.1) refl refl
          (field whole keeps method_outside Method 0 3 (one_at s (start s n + 8)) (λ o. (platform_is, o)) (λ h. h.1) refl refl w)))))

      with_seventh_lem : length_at s (start s n) ≡ 7 → Ruled s n (whole (fields 3 platform_fields)) platform_lines
      unfolding fields_from ◌then◌
      with_seventh_lem e = six_lines (drop 6 platform_fields) (field whole keeps priority_flits_outside PriorityFlits 1 8 (one_at s (start s n + 9)) (λ o. (platform_is, e, o)) (λ h. h.2) refl refl behind)

      without : (length_at s (start s n) ≡ 7 → ⊥) → Ruled s n (whole (fields 3 (take 6 platform_fields))) platform_lines
      unfolding fields_from ◌then◌
      without d = six_lines [] (passes priority_flits_outside (λ h. d h.1) behind)

      of_platform_lines : Ruled s n (whole (fields 3 (fields_of PlatformRecord (length_at s (start s n))))) platform_lines
      of_platform_lines = go (ℕ_discrete (length_at s (start s n)) 7)
        where
          go : Dec (length_at s (start s n) ≡ 7) → Ruled s n (whole (fields 3 (fields_of PlatformRecord (length_at s (start s n))))) platform_lines
          go (yes e) = subst (λ (k : ℕ). Ruled s n (whole (fields 3 (take k platform_fields))) platform_lines) (sym (seven e)) (with_seventh_lem e)
          go (no d) = subst (λ (k : ℕ). Ruled s n (whole (fields 3 (take k platform_fields))) platform_lines) (sym (six d)) (without d)

    -- ---- the fields, and what stands behind them
    pub body : (kind : Kind) → tag s n ≡ tag_byte kind → (kind ≡ FlowRecord → 0 < n) → Ruled s n (fields_from s (start s n) kind (limits_at s (start s n) kind p) 3 (fields_of kind (length_at s (start s n))) then rest_at s (start s n) kind (ids_of fs) (priorities_of fs)) platform_lines
    unfolding fields_from rest_at tail_at ◌then◌
    body PlatformRecord e later = of_platform_lines e
    body FlowRecord e later =
        let whole : Result Kind Refusal → Result Kind Refusal = λ c. c then clash_at (start s n) (flow_at s (start s n)) (ids_of fs) (priorities_of fs) in
        let keeps : (refusal : Refusal) → whole (Err refusal) ≡ Err refusal = λ refusal. refl in
        let many = seen.platform (later refl) in
        let deadline = four_at s (start s n + 15) in
        let period = four_at s (start s n + 11) in
        no_platform (λ h. omega arith)
        (field whole keeps id_outside Id 0 65534 (two_at s (start s n + 3)) (λ o. (e, o)) (λ h. h.1) refl refl
        (field whole keeps priority_outside Priority 1 65535 (two_at s (start s n + 5)) (λ o. (e, o)) (λ h. h.1) refl refl
        (node whole keeps source_outside Source (p.columns * p.rows) (one_at s (start s n + 7)) (λ o. (e, omega (arith, many))) (λ h. omega (arith, many, h.1)) refl refl
        (node whole keeps destination_outside Destination (p.columns * p.rows) (one_at s (start s n + 8)) (λ o. (e, omega (arith, many))) (λ h. omega (arith, many, h.1)) refl refl
        (field whole keeps flits_outside Flits 1 65535 (two_at s (start s n + 9)) (λ o. (e, o)) (λ h. h.1) refl refl
        (field whole keeps period_outside Period 1 1_000_000_000 period (λ o. (e, o)) (λ h. h.1) refl refl
        (both whole keeps deadline_zero deadline_above DeadlineZero DeadlineAbovePeriod (ltb deadline 1) (ltb period deadline)
        (λ t. (e, omega (arith, ltb-true deadline 1 t)))
        (λ f h. omega (arith, ltb-false deadline 1 f, h.1))
        (λ t. (e, ltb-true period deadline t))
        (λ f h. omega (arith, ltb-false period deadline f, h.1)) refl refl refl refl
        (field whole keeps jitter_outside Jitter 0 1_000_000_000 (four_at s (start s n + 19)) (λ o. (e, o)) (λ h. h.1) refl refl
        (clashes e)))))))))
    body EndRecord e later =
        no_platform (λ h. omega arith)
        (no_flow (λ h. omega arith)
        (step (λ c. c) (λ refusal. refl) byte_after_end ByteAfterEnd (ltb (start s n + 3) (length s)) (λ t. (e, ltb-true (start s n + 3) (length s) t)) (λ f h. omega (arith, ltb-false (start s n + 3) (length s) f, h.1)) refl refl
        (λ z. ends EndRecord e)))
