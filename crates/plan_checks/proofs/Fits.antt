-- A header that is not cut lies in the bytes, and a product of two bytes in four.
use Prim.Native.Nat.{ℕ, ◌+◌, ◌-◌, ◌*◌, ◌^◌, ◌≤◌, ◌<◌}
use native.Mathlib.Omega.{arith}
use native.Mathlib.Nat.{mul-le-mul, le_of_lt, lt_of_le_of_lt}
use mathlib.Core.Path.{◌≡◌, sym, subst, ◌∙◌}
use mathlib.Core.Bool.{Bool, false}
use mathlib.Core.List.{List}
use lib.ListN.{length}
use lib.Dec.{lit<}
use borrow.Author.Tests.{ltb-false}
use Rattle.framing.specs.Header.{length_at, is_header_cut}
use Rattle.plan_table.specs.Table.{body_length}
use Rattle.plan_table.specs.declared.Kind.{Kind}
use Rattle.plan_table.specs.declared.Kind.TheVariants.{FlowRecord}

-- a header that is not cut is there
pub header_whole : (s : List ℕ) (at : ℕ) {r : Bool} → r ≡ is_header_cut s at → r ≡ false → at + 3 ≤ length s
header_whole s at e f = omega (arith, ltb-false (length s - at) 3 (sym e ∙ f))

-- a flow record's body is there, and its period in it
module _ (s : List ℕ) (at : ℕ) {kind : Kind} where
  pub flow_whole : kind ≡ FlowRecord → at + 3 + body_length kind (length_at s at) ≤ length s → at + 23 ≤ length s
  flow_whole e h = let w : at + 3 + body_length FlowRecord (length_at s at) ≤ length s = subst (λ k. at + 3 + body_length k (length_at s at) ≤ length s) e h in omega arith

  pub period_whole : kind ≡ FlowRecord → at + 3 + body_length kind (length_at s at) ≤ length s → at + 11 + 4 ≤ length s
  period_whole e h = let w : at + 23 ≤ length s = flow_whole e h in omega arith

-- a product of two bytes
pub bytes_product : {a b : ℕ} → a < 256 → b < 256 → a * b < 2 ^ 32
bytes_product ha hb = lt_of_le_of_lt (mul-le-mul (le_of_lt ha) (le_of_lt hb)) (lit< tt)
