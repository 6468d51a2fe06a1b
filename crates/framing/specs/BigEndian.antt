-- Document 01, "The plan's bytes": "Numbers are unsigned, most significant byte first." The bytes of a number, as they are written.
use Rattle.std.specs.Prelude.{ℕ, ◌/◌, ◌%◌, List, [], ◌∷◌}
use Rattle.framing_numbers.specs.declared.Width.{Width}
use Rattle.framing_numbers.specs.declared.Width.TheVariants.{One, Two, Four}

-- The byte of a number that counts so many times.
abbrev pub byte_of : ℕ → ℕ → ℕ
byte_of weight x = x / weight % 256

-- A number in two and in four bytes.
abbrev pub two_bytes : ℕ → List ℕ
two_bytes x = byte_of 256 x ∷ byte_of 1 x ∷ []

abbrev pub four_bytes : ℕ → List ℕ
four_bytes x = byte_of 16777216 x ∷ byte_of 65536 x ∷ byte_of 256 x ∷ byte_of 1 x ∷ []

-- A number in the bytes of its width.
abbrev pub number_bytes : Width → ℕ → List ℕ
number_bytes One x = x ∷ []
number_bytes Two x = two_bytes x
number_bytes Four x = four_bytes x
