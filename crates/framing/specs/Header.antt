-- Document 01, "The plan's bytes": "Every record is a one-byte tag, a two-byte body length and a body."
-- `at` is the place of a record's tag.
use Rattle.std.specs.Prelude.{ℕ, ◌+◌, ◌-◌, ◌≡◌, Bool, List, [], ◌∷◌, length, ltb}
use Rattle.framing_numbers.specs.Numbers.{one_at, two_at}

abbrev pub tag_at : List ℕ → ℕ → ℕ
tag_at s at = one_at s at

abbrev pub length_at : List ℕ → ℕ → ℕ
length_at s at = two_at s (at + 1)

-- Refusal 1: "under 3 bytes remain where a record must start ..
abbrev pub is_header_cut : List ℕ → ℕ → Bool
is_header_cut s at = ltb (length s - at) 3

-- .. or its body is cut".
abbrev pub is_body_cut : List ℕ → ℕ → Bool
is_body_cut s at = ltb (length s - (at + 3)) (length_at s at)

-- The record at `at` has this tag and this length.
pub record Headed (s : List ℕ) (at tag size : ℕ) : Type 0 where
  pub tag_is : tag_at s at ≡ tag
  pub size_is : length_at s at ≡ size

-- "7F end", "7F 0000": the end record of a plan, and of a reply.
abbrev pub end_record : List ℕ
end_record = 0x7F ∷ 0 ∷ 0 ∷ []
