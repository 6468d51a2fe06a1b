-- The tag that was read picks the rest of the frame's check.
use Prim.Native.Nat.{ℕ}
use mathlib.Core.Path.{◌≡◌}
use mathlib.Core.List.{List}
use Rattle.framing.specs.Header.{tag_at}
use Rattle.plan_table.specs.Table.{tag_of}
use Rattle.plan_table.specs.declared.Kind.{Kind}
use Rattle.std.specs.Prelude.{Option, Some, None, Result, Err}
use Rattle.framing.specs.declared.returned.Refusal.{Refusal}
use Rattle.framing.specs.declared.returned.Fault.TheVariants.{UnknownTag}
use Rattle.plan_checks.specs.Checks.{header_at, tagged_at}

module _ (s : List ℕ) (at count : ℕ) {tag : Option Kind} {byte : ℕ} (e : tag ≡ tag_of byte) (b : byte ≡ tag_at s at) where
  pub frame_known : {kind : Kind} {r : Result Kind Refusal} → tag ≡ Some kind → r ≡ header_at s at kind count → r ≡ tagged_at s at (tag_of (tag_at s at)) count
  unfolding tagged_at
  frame_known k p = rw (← b, ← e, k) p

  pub frame_unknown : tag ≡ None → Err (UnknownTag, at) ≡ tagged_at s at (tag_of (tag_at s at)) count
  unfolding tagged_at
  frame_unknown u = rw (← b, ← e, u)

pub ruleset frames = (frame_known, frame_unknown)
