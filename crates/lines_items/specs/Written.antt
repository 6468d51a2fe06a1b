-- What a writer of a part of the text does to the fields of a text: `Pushing.written`.
use Rattle.std.specs.Prelude.{ℕ, ◌+◌, ◌≤◌, ◌≡◌, List, length}
use Rattle.framing.specs.Put.{put}

-- `part` was written at `at` over what stood there, and `next` is the place behind it; all else that is `held` is `old`'s.
pub record Written (old : List ℕ) (at : ℕ) (part held : List ℕ) (next : ℕ) : Type 0 where
  pub next_is : next ≡ at + length part
  pub held_is : held ≡ put old at part
  pub inside : next ≤ length old
