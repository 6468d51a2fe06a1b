-- Tests made in an order: the first that is true decides.
use Rattle.std.specs.Prelude.{Bool, true, false}

infixr 20 ◌when◌else◌
-- This answer when the test is true, else what follows.
unfoldable pub ◌when◌else◌ : {A : Type 0} → A → Bool → A → A
answer when true else next = answer
answer when false else next = next
