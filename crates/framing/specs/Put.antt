-- Bytes written over others.
use Rattle.std.specs.Prelude.{ℕ, ◌+◌, List, ◌++◌, length, take, drop}

-- `old` with `new` written over it from place `at` on; in front of it and behind it all is as it was.
abbrev pub put : List ℕ → ℕ → List ℕ → List ℕ
put old at new = (take at old ++ new) ++ drop (at + length new) old
