-- What is returned and left: a refusal is handed on; a buffer that is too short is refused; both leave it, and one with room takes the bytes.
use Prim.Native.Nat.{ℕ, ◌≤◌, ◌<◌}
use mathlib.Core.Path.{◌≡◌, refl}
use mathlib.Core.List.{List, ◌++◌}
use borrow.Author.Tests.{lt-ltb, le-ltb}
use lib.ListN.{length, drop}
use Rattle.framing.specs.First.{◌when◌else◌}
use Rattle.std.specs.Prelude.{Result, Ok, Err}
use Rattle.framing.specs.Returned.{number_of, refused_with, accepted_with, room_for, put_into, returned_by, left_by, value_by}
use Rattle.framing.specs.declared.returned.Fault.TheVariants.{IdTaken}
use Rattle.framing.specs.declared.returned.Refusal.{Refusal}
use Rattle.framing.specs.declared.returned.Returned.{Returned}

-- What a call that came to this outcome returns and leaves.
abbrev pub Left : Result (Unit {0}) Refusal → ℕ → List ℕ → List ℕ → Returned → List ℕ → Type 0
Left o needed bytes held r is = (r ≡ returned_by o needed (length held)) × (is ≡ left_by o needed bytes held)

module _ (needed : ℕ) (bytes held : List ℕ) {o : Result (Unit {0}) Refusal} where
  pub handed_on : {refusal : Refusal} → o ≡ Err refusal → Left o needed bytes held (refused_with (number_of refusal.0) refusal.1) held
  unfolding returned_by left_by
  handed_on e = rw e (refl, refl)

  module _ (e : o ≡ Ok tt) where
    pub too_short : length held < needed → Left o needed bytes held (refused_with 11 0) held
    unfolding returned_by left_by room_for put_into ◌when◌else◌
    too_short h = rw (e, lt-ltb (length held) needed h) (refl, refl)

    pub room_enough : needed ≤ length held → Left o needed bytes held (accepted_with needed) (bytes ++ drop needed held)
    unfolding returned_by left_by room_for put_into ◌when◌else◌
    room_enough h = rw (e, le-ltb (length held) needed h) (refl, refl)

-- A call without a reply, of given numbers: no two are equal, so that each has its place.
values : (value_by (Err (IdTaken, 9)) 5 ≡ refused_with 7 9) × (value_by (Ok tt) 5 ≡ accepted_with 5)
unfolding value_by
values = (refl, refl)
