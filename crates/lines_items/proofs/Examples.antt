-- The words and numbers of the lines, computed: parts of the lines that document 01 prints, and what a part written into a buffer leaves there.
use mathlib.Core.Path.{◌≡◌, refl, ap}
use mathlib.Core.List.{[], ◌∷◌, ◌++◌, map}
use native.Mathlib.Omega.{arith}
use lib.ListN.{length, take, get_or}
use Rattle.lines_items.specs.Words.{mesh_word, by_word, link_word, route_word, buffer_word, method_word, bounded_word, late_word, waits_word, rounds_word, refused_word, at_word, line_end}
use Rattle.lines_items.specs.Decimal.{digits_below, decimal}
use Rattle.lines_items.specs.Items.{item}
use Rattle.lines_items.specs.Written.{Written}
use Rattle.lines_items.specs.Handed.{handed}

-- "Numbers are decimal": 0, 9, 10, 100, 4207 and 65534.
decimals :
    map decimal (0 ∷ 9 ∷ 10 ∷ 100 ∷ 4207 ∷ 65534 ∷ [])
    ≡ (48 ∷ []) ∷ (57 ∷ []) ∷ (49 ∷ 48 ∷ []) ∷ (49 ∷ 48 ∷ 48 ∷ []) ∷ (52 ∷ 50 ∷ 48 ∷ 55 ∷ []) ∷ (54 ∷ 53 ∷ 53 ∷ 51 ∷ 52 ∷ []) ∷ []
unfolding digits_below decimal
decimals = refl

-- mesh 6x1 link 1 route 0 buffer 10 method 3
mesh_line_lem :
    item mesh_word 6 ++ item by_word 1 ++ item link_word 1 ++ item route_word 0 ++ item buffer_word 10 ++ item method_word 3 ++ line_end
    ≡ 109 ∷ 101 ∷ 115 ∷ 104 ∷ 32 ∷ 54 ∷ 120 ∷ 49 ∷ 32 ∷ 108 ∷ 105 ∷ 110 ∷ 107 ∷ 32 ∷ 49 ∷ 32 ∷ 114 ∷ 111 ∷ 117 ∷ 116 ∷ 101 ∷ 32 ∷ 48 ∷ 32 ∷ 98 ∷ 117 ∷ 102 ∷ 102 ∷ 101 ∷ 114 ∷ 32 ∷ 49 ∷ 48 ∷ 32 ∷ 109 ∷ 101 ∷ 116 ∷ 104 ∷ 111 ∷ 100 ∷ 32 ∷ 51 ∷ 10 ∷ []
unfolding digits_below decimal item
mesh_line_lem = refl

-- " bounded 396 rounds 2", " late rounds 1", " waits 7", "refused 1 at 78", each with its LF
other_lines :
    (item bounded_word 396 ++ item rounds_word 2 ++ line_end ≡ 32 ∷ 98 ∷ 111 ∷ 117 ∷ 110 ∷ 100 ∷ 101 ∷ 100 ∷ 32 ∷ 51 ∷ 57 ∷ 54 ∷ 32 ∷ 114 ∷ 111 ∷ 117 ∷ 110 ∷ 100 ∷ 115 ∷ 32 ∷ 50 ∷ 10 ∷ [])
    × (late_word ++ item rounds_word 1 ++ line_end ≡ 32 ∷ 108 ∷ 97 ∷ 116 ∷ 101 ∷ 32 ∷ 114 ∷ 111 ∷ 117 ∷ 110 ∷ 100 ∷ 115 ∷ 32 ∷ 49 ∷ 10 ∷ [])
    × (item waits_word 7 ++ line_end ≡ 32 ∷ 119 ∷ 97 ∷ 105 ∷ 116 ∷ 115 ∷ 32 ∷ 55 ∷ 10 ∷ [])
    × (item refused_word 1 ++ item at_word 78 ++ line_end ≡ 114 ∷ 101 ∷ 102 ∷ 117 ∷ 115 ∷ 101 ∷ 100 ∷ 32 ∷ 49 ∷ 32 ∷ 97 ∷ 116 ∷ 32 ∷ 55 ∷ 56 ∷ 10 ∷ [])
unfolding digits_below decimal item
other_lines = (refl, refl, refl, refl)

-- Two bytes written at place 1, up to the buffer's end.
written : Written (1 ∷ 2 ∷ 3 ∷ []) 1 (8 ∷ 9 ∷ []) (1 ∷ 8 ∷ 9 ∷ []) 3
written = record { next_is = refl; held_is = refl; inside = omega arith }

not_written :
    (Written (1 ∷ 2 ∷ 3 ∷ []) 1 (8 ∷ 9 ∷ []) (1 ∷ 8 ∷ 9 ∷ []) 2 → ⊥)
    × (Written (1 ∷ 2 ∷ []) 1 (8 ∷ 9 ∷ []) (1 ∷ 8 ∷ 9 ∷ []) 3 → ⊥)
    × (Written (1 ∷ 2 ∷ 3 ∷ []) 1 (8 ∷ 9 ∷ []) (8 ∷ 9 ∷ 3 ∷ []) 3 → ⊥)
not_written = (
  λ w. omega (arith, w.next_is),
  λ w. omega (arith, w.inside),
  λ w. omega (arith, ap (λ held. get_or held 0 0) w.held_is),
)

-- A text as it is handed over: two bytes, zeros up to 3,200, and how many they are.
handing : (take 4 (handed 3200 (7 ∷ 8 ∷ [])).bytes ≡ 7 ∷ 8 ∷ 0 ∷ 0 ∷ []) × (length (handed 3200 (7 ∷ 8 ∷ [])).bytes ≡ 3200) × ((handed 3200 (7 ∷ 8 ∷ [])).length ≡ 2)
handing = (refl, refl, refl)
