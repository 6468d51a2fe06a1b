-- The table's order: each line has its own rank, so that a plan has one reason at most. Only specs/Reasons is used.
use Prim.Native.Nat.{ℕ, zero, suc, ◌+◌, ◌≤◌, ◌<◌}
use native.Mathlib.Omega.{arith}
use native.Mathlib.Decide.{ℕ_discrete, dec_lt}
use mathlib.Core.Path.{◌≡◌, refl, sym, ap, subst, ◌∙◌}
use mathlib.Core.List.{List, [], ◌∷◌}
use mathlib.Core.Logic.{inr}
use lib.ListN.{length, get_or}
use Rattle.plan.specs.Reasons.{start, Line, header_cut, unknown_tag, misplaced, wrong_length, body_cut, flow_65, columns_outside, rows_outside, link_outside, routing_outside, buffer_outside, method_outside, priority_flits_outside, id_outside, priority_outside, source_outside, destination_outside, flits_outside, period_outside, deadline_zero, deadline_above, jitter_outside, source_equals_destination, id_equals_earlier, priority_equals_earlier, byte_after_end, rank, number_of, offset_of, Holds, RefusedBecause, AcceptedBecause}

-- ---- the lines in their order
abbrev pub flow_rests : List Line
flow_rests = source_equals_destination ∷ id_equals_earlier ∷ priority_equals_earlier ∷ byte_after_end ∷ []

abbrev pub flow_lines : List Line
flow_lines = id_outside ∷ priority_outside ∷ source_outside ∷ destination_outside ∷ flits_outside ∷ period_outside ∷ deadline_zero ∷ deadline_above ∷ jitter_outside ∷ flow_rests

abbrev pub platform_lines : List Line
platform_lines = columns_outside ∷ rows_outside ∷ link_outside ∷ routing_outside ∷ buffer_outside ∷ method_outside ∷ priority_flits_outside ∷ flow_lines

abbrev pub of_header : List Line
of_header = misplaced ∷ wrong_length ∷ body_cut ∷ flow_65 ∷ platform_lines

abbrev pub order : List Line
order = header_cut ∷ unknown_tag ∷ of_header

-- the line of a rank
abbrev pub ranked : ℕ → Line
ranked r = get_or order r header_cut

pub ranked_is : (l : Line) → ranked (rank l) ≡ l
ranked_is header_cut = refl
ranked_is unknown_tag = refl
ranked_is misplaced = refl
ranked_is wrong_length = refl
ranked_is body_cut = refl
ranked_is flow_65 = refl
ranked_is columns_outside = refl
ranked_is rows_outside = refl
ranked_is link_outside = refl
ranked_is routing_outside = refl
ranked_is buffer_outside = refl
ranked_is method_outside = refl
ranked_is priority_flits_outside = refl
ranked_is id_outside = refl
ranked_is priority_outside = refl
ranked_is source_outside = refl
ranked_is destination_outside = refl
ranked_is flits_outside = refl
ranked_is period_outside = refl
ranked_is deadline_zero = refl
ranked_is deadline_above = refl
ranked_is jitter_outside = refl
ranked_is source_equals_destination = refl
ranked_is id_equals_earlier = refl
ranked_is priority_equals_earlier = refl
ranked_is byte_after_end = refl

-- ---- a line by its rank
past : (ls : List Line) (i : ℕ) → length ls ≤ i → get_or ls i header_cut ≡ header_cut
past [] i h = refl
past (l ∷ ls) zero h = absurd (omega arith)
past (l ∷ ls) (suc i) h = past ls i (omega arith)

pub same_rank : (l m : Line) → rank l ≡ rank m → l ≡ m
same_rank l m e = sym (ranked_is l) ∙ ap ranked e ∙ ranked_is m

pub rank_small : (l : Line) → 26 ≤ rank l → ⊥
rank_small l h =
    let z : rank l ≡ 0 = ap rank (sym (ranked_is l) ∙ past order (rank l) h) in
    omega arith

-- the lines from this rank on
abbrev pub From : ℕ → List Line → Type 0
From r [] = r ≡ 26
From r (l ∷ ls) = (rank l ≡ r) × From (suc r) ls

pub all_ranks : From 0 order
all_ranks = (refl, (refl, (refl, (refl, (refl, (refl, (refl, (refl, (refl, (refl, (refl, (refl, (refl, (refl, (refl, (refl, (refl, (refl, (refl, (refl, (refl, (refl, (refl, (refl, (refl, (refl, refl))))))))))))))))))))))))))

-- ---- one reason at most
module _ (s : List ℕ) where
  module _ {a b c d : ℕ} (w : RefusedBecause s a b) (v : RefusedBecause s c d) where
    not_earlier : w.n < v.n → ⊥
    not_earlier l = (v.before w.n l).faultless w.line w.holds

    not_sooner : w.n ≡ v.n → rank w.line < rank v.line → ⊥
    not_sooner e l = v.first w.line l (subst (λ (m : ℕ). Holds s m w.line) e w.holds)

  pub one_reason : {a b c d : ℕ} → RefusedBecause s a b → RefusedBecause s c d → (a ≡ c) × (b ≡ d)
  one_reason w v =
      let e : w.n ≡ v.n = omega (arith, not_earlier w v, not_earlier v w) in
      let r : rank w.line ≡ rank v.line = omega (arith, not_sooner w v e, not_sooner v w (sym e)) in
      let l = same_rank w.line v.line r in
      (w.number_is ∙ ap number_of l ∙ sym v.number_is, w.place_is ∙ (λ i. start s (e i) + offset_of (l i)) ∙ sym v.place_is)

  -- "then 0 to 64 flows": a record in fault has the platform and at most 64 flows before it
  pub few_before : {a b : ℕ} (w : RefusedBecause s a b) → w.n ≤ 65
  few_before w = go (dec_lt 65 w.n)
    where
      go : Dec (65 < w.n) → w.n ≤ 65
      go (yes h) = let l = w.before 65 h in absurd (l.faultless unknown_tag (λ p. l.faultless misplaced (inr (omega arith, p)), λ f. l.faultless flow_65 (f, omega arith), l.no_end))
      go (no d) = omega arith

  pub not_both : {a b : ℕ} → RefusedBecause s a b → AcceptedBecause s → ⊥
  not_both w v = go (ℕ_discrete w.n v.n) (dec_lt w.n v.n)
    where
      go : Dec (w.n ≡ v.n) → Dec (w.n < v.n) → ⊥
      go (yes e) l = v.faultless w.line (subst (λ (m : ℕ). Holds s m w.line) e w.holds)
      go (no d) (yes l) = (v.before w.n l).faultless w.line w.holds
      go (no d) (no l) = (w.before v.n (omega arith)).no_end v.end
