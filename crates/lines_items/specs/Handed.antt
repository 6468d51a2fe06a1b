-- A text as it lies in memory.
use Rattle.std.specs.Prelude.{ℕ, ◌-◌, List, ◌++◌, length, replicate}
use Rattle.lines_items.specs.declared.Text.TheInside.{Inside}

-- A text as it is handed over: its bytes, zeros behind them, and how many they are.
abbrev pub handed : (room : ℕ) → List ℕ → Inside room
handed room text = record { bytes = text ++ replicate (room - length text) 0; length = length text }
