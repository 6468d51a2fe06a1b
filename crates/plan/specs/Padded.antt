-- Document 01, "The plan's bytes": "0 to 64 flows". What is kept of each flow stands in an array of 64, with blanks behind it.
use Rattle.std.specs.Prelude.{◌-◌, List, ◌++◌, length, replicate}

abbrev pub padded : {A : Type 0} → A → List A → List A
padded blank xs = xs ++ replicate (64 - length xs) blank
