-- Document 01, "The plan's bytes": "In the reader, the reading place travels together with the bytes being read."
use Rattle.std.specs.Prelude.{ℕ, ◌+◌, List}
use Rattle.std.specs.Borrow.{Bor}
use Rattle.framing_reader.specs.declared.Reader.{Reader}

-- These bytes, read from this place on.
abbrev pub reader_at : Bor (List ℕ) → ℕ → Reader
reader_at bytes place = record { plan = bytes; at = place }

-- The same bytes, with the place moved on.
abbrev pub moved_past : Reader → ℕ → Reader
moved_past r count = reader_at r.plan (r.at + count)
