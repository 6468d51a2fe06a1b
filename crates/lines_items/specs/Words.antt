-- Document 01, "The program `bounds`": "The fixed words of these lines are compared byte for byte." Each as its bytes, with the spaces beside it.
use Rattle.std.specs.Prelude.{ℕ, List, [], ◌∷◌}

-- "mesh "
abbrev pub mesh_word : List ℕ
mesh_word = 109 ∷ 101 ∷ 115 ∷ 104 ∷ 32 ∷ []

-- "x"
abbrev pub by_word : List ℕ
by_word = 120 ∷ []

-- " link "
abbrev pub link_word : List ℕ
link_word = 32 ∷ 108 ∷ 105 ∷ 110 ∷ 107 ∷ 32 ∷ []

-- " route "
abbrev pub route_word : List ℕ
route_word = 32 ∷ 114 ∷ 111 ∷ 117 ∷ 116 ∷ 101 ∷ 32 ∷ []

-- " buffer "
abbrev pub buffer_word : List ℕ
buffer_word = 32 ∷ 98 ∷ 117 ∷ 102 ∷ 102 ∷ 101 ∷ 114 ∷ 32 ∷ []

-- " method "
abbrev pub method_word : List ℕ
method_word = 32 ∷ 109 ∷ 101 ∷ 116 ∷ 104 ∷ 111 ∷ 100 ∷ 32 ∷ []

-- " bounded "
abbrev pub bounded_word : List ℕ
bounded_word = 32 ∷ 98 ∷ 111 ∷ 117 ∷ 110 ∷ 100 ∷ 101 ∷ 100 ∷ 32 ∷ []

-- " late"
abbrev pub late_word : List ℕ
late_word = 32 ∷ 108 ∷ 97 ∷ 116 ∷ 101 ∷ []

-- " waits "
abbrev pub waits_word : List ℕ
waits_word = 32 ∷ 119 ∷ 97 ∷ 105 ∷ 116 ∷ 115 ∷ 32 ∷ []

-- " rounds "
abbrev pub rounds_word : List ℕ
rounds_word = 32 ∷ 114 ∷ 111 ∷ 117 ∷ 110 ∷ 100 ∷ 115 ∷ 32 ∷ []

-- "refused "
abbrev pub refused_word : List ℕ
refused_word = 114 ∷ 101 ∷ 102 ∷ 117 ∷ 115 ∷ 101 ∷ 100 ∷ 32 ∷ []

-- " at "
abbrev pub at_word : List ℕ
at_word = 32 ∷ 97 ∷ 116 ∷ 32 ∷ []

-- "lines ended by LF"
abbrev pub line_end : List ℕ
line_end = 10 ∷ []
