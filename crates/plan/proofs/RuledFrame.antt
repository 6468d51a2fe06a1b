-- A record's check gives the first line of the table that holds of it, in document 01's order.
use Rattle.framing.specs.declared.returned.Fault.TheVariants.{Cut, FlowTooMany, Misplaced, WrongLength}
use Prim.Native.Nat.{ℕ, zero, suc, ◌+◌, ◌-◌, ◌≤◌, ◌<◌}
use native.Mathlib.Omega.{arith}
use mathlib.Core.Path.{◌≡◌, refl, sym, ap, ◌∙◌}
use mathlib.Core.Bool.{Bool, true, false, not, false≢true}
use mathlib.Core.List.{List, ◌∷◌}
use mathlib.Core.Logic.{inl, inr}
use lib.ListN.{length}
use lib.Dec.{eqb}
use borrow.Author.Tests.{ltb-true, ltb-false, leb-true, leb-false, eqb-true, eqb-false, not-true, not-false}
use Rattle.framing.specs.First.{◌when◌else◌}
use Rattle.framing.specs.Header.{length_at, is_header_cut, is_body_cut}
use Rattle.plan_table.specs.Table.{tag_of, tag_byte, body_length}
use Rattle.plan_checks.specs.Checks.{is_platform, misplaced as out_of_place, no_room, header_at, tagged_at, frame_at}
use Rattle.plan.specs.Records.{body_at, record_at}
use Rattle.plan.specs.Reasons.{start, tag, header_cut, unknown_tag, misplaced, wrong_length, body_cut, flow_65, Holds}
use Rattle.plan_values.specs.declared.Platform.{Platform}
use Rattle.plan_values.specs.declared.Flow.{Flow}
use Rattle.std.specs.Prelude.{Result, Ok, Err, Some, None, Option}
use Rattle.framing.specs.declared.returned.Refusal.{Refusal}
use Rattle.plan_table.specs.declared.Kind.{Kind}
use Rattle.plan_table.specs.declared.Kind.TheVariants.{PlatformRecord, FlowRecord, EndRecord}
use Rattle.plan_table.proofs.Tags.{tag_known, tag_byte_lem}
use Rattle.plan_table.proofs.Lengths.{six, seven, six_at_least, at_most_seven}
use Rattle.plan.proofs.Order.{first_only}
use Rattle.plan.proofs.Ranks.{platform_lines, of_header, order}
use Rattle.plan.proofs.Ruled.{Ruled, stops, passes, step}
use Rattle.plan.proofs.RuledBody.{Seen, body}

first_wrong : (first : Bool) (kind : Kind) → out_of_place first kind ≡ true → first ≡ not (is_platform kind)
first_wrong true PlatformRecord e = sym e
first_wrong true FlowRecord e = refl
first_wrong true EndRecord e = refl
first_wrong false PlatformRecord e = refl
first_wrong false FlowRecord e = e
first_wrong false EndRecord e = e

start_zero : (s : List ℕ) (n : ℕ) → start s n ≡ 0 → n ≡ 0
start_zero s zero e = refl
start_zero s (suc n) e = absurd (omega arith)

later_than : (s : List ℕ) (n : ℕ) → (start s n ≡ 0 → ⊥) → 0 < n
later_than s zero d = absurd (d refl)
later_than s (suc n) d = omega arith

module _ (s : List ℕ) (n : ℕ) (p : Platform) (fs : List Flow) (seen : Seen s n p fs) where
  -- ---- the frame
  module _ (there : start s n + 3 ≤ length s) where
    abbrev whole : Result Kind Refusal → Result Kind Refusal
    whole c = body_at s (start s n) c p fs

    keeps : (refusal : Refusal) → whole (Err refusal) ≡ Err refusal
    unfolding body_at
    keeps refusal = refl

    -- the body's bytes, a 65th flow, and the body
    from_body : (kind : Kind) → tag s n ≡ tag_byte kind → (kind ≡ FlowRecord → 0 < n) → Ruled s n (whole (Err (Cut, start s n) when is_body_cut s (start s n) else Err (FlowTooMany, start s n) when no_room kind (length fs) else Ok kind)) (body_cut ∷ flow_65 ∷ platform_lines)
    unfolding body_at
    from_body kind e later =
        step whole keeps body_cut Cut (is_body_cut s (start s n))
        (λ t. omega (arith, ltb-true (length s - (start s n + 3)) (length_at s (start s n)) t))
        (λ f h. omega (arith, ltb-false (length s - (start s n + 3)) (length_at s (start s n)) f, h)) refl (omega arith)
        (λ z. step whole keeps flow_65 FlowTooMany (no_room kind (length fs)) (room kind e) (no_room_lem kind e) refl (omega arith) (λ z. body s n p fs seen kind e later))
      where
        room : (kind : Kind) → tag s n ≡ tag_byte kind → no_room kind (length fs) ≡ true → Holds s n flow_65
        room PlatformRecord e t = absurd (false≢true t)
        room FlowRecord e t = (e, omega (arith, leb-true 64 (length fs) t, seen.count))
        room EndRecord e t = absurd (false≢true t)

        no_room_lem : (kind : Kind) → tag s n ≡ tag_byte kind → no_room kind (length fs) ≡ false → Holds s n flow_65 → ⊥
        no_room_lem PlatformRecord e t h = omega (arith, h.0)
        no_room_lem FlowRecord e t h = omega (arith, leb-false 64 (length fs) t, h.1, seen.count)
        no_room_lem EndRecord e t h = omega (arith, h.0)

    wrong : (kind : Kind) → tag s n ≡ tag_byte kind → not (eqb (length_at s (start s n)) (body_length kind (length_at s (start s n)))) ≡ true → Holds s n wrong_length
    wrong kind e t = go kind e (eqb-false (length_at s (start s n)) (body_length kind (length_at s (start s n))) (not-true _ t))
      where
        go : (kind : Kind) → tag s n ≡ tag_byte kind → (length_at s (start s n) ≡ body_length kind (length_at s (start s n)) → ⊥) → Holds s n wrong_length
        go PlatformRecord e d = inl (e, λ z. d (z ∙ sym (six (λ w. omega arith))), λ z. d (z ∙ sym (seven z)))
        go FlowRecord e d = inr (inl (e, d))
        go EndRecord e d = inr (inr (e, d))

    right : (kind : Kind) → tag s n ≡ tag_byte kind → not (eqb (length_at s (start s n)) (body_length kind (length_at s (start s n)))) ≡ false → Holds s n wrong_length → ⊥
    right kind e f = go kind e (eqb-true (length_at s (start s n)) (body_length kind (length_at s (start s n))) (not-false _ f))
      where
        go : (kind : Kind) → tag s n ≡ tag_byte kind → length_at s (start s n) ≡ body_length kind (length_at s (start s n)) → Holds s n wrong_length → ⊥
        go PlatformRecord e d (inl (t, a, b)) = omega (arith, d, at_most_seven (length_at s (start s n)), six_at_least (length_at s (start s n)), a, b)
        go PlatformRecord e d (inr (inl (t, w))) = omega arith
        go PlatformRecord e d (inr (inr (t, w))) = omega arith
        go FlowRecord e d (inl (t, a, b)) = omega arith
        go FlowRecord e d (inr (inl (t, w))) = w d
        go FlowRecord e d (inr (inr (t, w))) = omega arith
        go EndRecord e d (inl (t, a, b)) = omega arith
        go EndRecord e d (inr (inl (t, w))) = omega arith
        go EndRecord e d (inr (inr (t, w))) = w d

    out : (kind : Kind) → tag s n ≡ tag_byte kind → out_of_place (eqb (start s n) 0) kind ≡ true → Holds s n misplaced
    out kind e t = go kind e (first_wrong (eqb (start s n) 0) kind t)
      where
        go : (kind : Kind) → tag s n ≡ tag_byte kind → eqb (start s n) 0 ≡ not (is_platform kind) → Holds s n misplaced
        go PlatformRecord e b = inr (later_than s n (eqb-false (start s n) 0 b), e)
        go FlowRecord e b = inl (start_zero s n (eqb-true (start s n) 0 b), λ h. omega arith)
        go EndRecord e b = inl (start_zero s n (eqb-true (start s n) 0 b), λ h. omega arith)

    module _ (kind : Kind) (e : tag s n ≡ tag_byte kind) (f : out_of_place (eqb (start s n) 0) kind ≡ false) where
      in_place : Holds s n misplaced → ⊥
      in_place = go kind e (first_only (eqb (start s n) 0) kind f)
        where
          go : (kind : Kind) → tag s n ≡ tag_byte kind → eqb (start s n) 0 ≡ is_platform kind → Holds s n misplaced → ⊥
          go PlatformRecord e b (inl (z, w)) = w e
          go PlatformRecord e b (inr (z, w)) = omega (arith, start_zero s n (eqb-true (start s n) 0 b))
          go FlowRecord e b (inl (z, w)) = eqb-false (start s n) 0 b (ap (start s) z)
          go FlowRecord e b (inr (z, w)) = omega arith
          go EndRecord e b (inl (z, w)) = eqb-false (start s n) 0 b (ap (start s) z)
          go EndRecord e b (inr (z, w)) = omega arith

      flow_later : kind ≡ FlowRecord → 0 < n
      flow_later k = later_than s n (eqb-false (start s n) 0 (first_only (eqb (start s n) 0) kind f ∙ ap is_platform k))

    header : (kind : Kind) → tag s n ≡ tag_byte kind → Ruled s n (whole (header_at s (start s n) kind (length fs))) of_header
    unfolding header_at
    header kind e =
        step whole keeps misplaced Misplaced (out_of_place (eqb (start s n) 0) kind) (out kind e) (in_place kind e) refl (omega arith)
        λ f. step whole keeps wrong_length WrongLength (not (eqb (length_at s (start s n)) (body_length kind (length_at s (start s n))))) (wrong kind e) (right kind e) refl refl
        λ z. from_body kind e (flow_later kind e f)

    known : (kind : Kind) → tag s n ≡ tag_byte kind → Holds s n unknown_tag → ⊥
    known PlatformRecord e (a, b, c) = a e
    known FlowRecord e (a, b, c) = b e
    known EndRecord e (a, b, c) = c e

    unknown : (kind : Kind) → tag_of (tag s n) ≡ None → tag s n ≡ tag_byte kind → ⊥
    unknown kind u e = let k = tag_known kind in let a = ap tag_of e in let z : ◌≡◌ {A = ℕ} 0 1 = cc in omega arith

    tagged : (t : Option Kind) → tag_of (tag s n) ≡ t → Ruled s n (whole (tagged_at s (start s n) t (length fs))) (unknown_tag ∷ of_header)
    unfolding tagged_at body_at
    tagged (Some kind) e = let b = tag_byte_lem (tag s n) e in passes unknown_tag (known kind b) (header kind b)
    tagged None e = let z : start s n ≡ start s n + 0 = omega arith in stops unknown_tag (unknown PlatformRecord e, unknown FlowRecord e, unknown EndRecord e) refl z

  pub ruled : Ruled s n (record_at s (start s n) p fs) order
  unfolding record_at frame_at body_at
  ruled =
      step (λ c. body_at s (start s n) c p fs) (λ refusal. refl) header_cut Cut (is_header_cut s (start s n))
      (λ t. omega (arith, ltb-true (length s - start s n) 3 t))
      (λ f h. omega (arith, ltb-false (length s - start s n) 3 f, h)) refl (omega arith)
      λ f. tagged (omega (arith, ltb-false (length s - start s n) 3 f)) (tag_of (tag s n)) refl
