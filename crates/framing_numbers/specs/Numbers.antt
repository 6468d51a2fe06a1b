-- Document 01, "The plan's bytes": "Numbers are unsigned, most significant byte first."
-- `s` is a list of bytes and `at` a place in it, counted from 0.
use Rattle.std.specs.Prelude.{ℕ, ◌+◌, ◌*◌, ◌<◌, List, get_or}
use Rattle.framing_numbers.specs.declared.Width.{Width}
use Rattle.framing_numbers.specs.declared.Width.TheVariants.{One, Two, Four}

-- The numbers of one, two and four bytes.
abbrev pub one_at : List ℕ → ℕ → ℕ
one_at s at = get_or s at 0

abbrev pub two_at : List ℕ → ℕ → ℕ
two_at s at = 256 * one_at s at + one_at s (at + 1)

abbrev pub four_at : List ℕ → ℕ → ℕ
four_at s at = 65536 * two_at s at + two_at s (at + 2)

-- How many bytes a number has: the figure in parentheses behind a field's name.
abbrev pub bytes_of : Width → ℕ
bytes_of One = 1
bytes_of Two = 2
bytes_of Four = 4

-- The number of a width.
abbrev pub number_at : List ℕ → Width → ℕ → ℕ
number_at s One at = one_at s at
number_at s Two at = two_at s at
number_at s Four at = four_at s at

-- Bytes: each is below 256.
pub record Bytes (s : List ℕ) : Type 0 where
  pub each : (at : ℕ) → one_at s at < 256
