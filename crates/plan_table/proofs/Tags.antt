-- A tag's byte and the record that it names.
use Prim.Native.Nat.{ℕ}
use mathlib.Core.Path.{◌≡◌, refl, ap, ◌∙◌}
use native.Mathlib.Omega.{arith}
use native.Mathlib.Decide.{ℕ_discrete}
use borrow.Author.Tests.{ne_eqb}
use Rattle.framing.specs.First.{◌when◌else◌}
use Rattle.plan_table.specs.Table.{tag_of, tag_byte}
use Rattle.plan_table.specs.declared.Kind.{Kind}
use Rattle.plan_table.specs.declared.Kind.TheVariants.{PlatformRecord, FlowRecord, EndRecord}
use Rattle.std.specs.Prelude.{Some, None}

pub tag_known : (kind : Kind) → tag_of (tag_byte kind) ≡ Some kind
unfolding tag_of ◌when◌else◌
tag_known PlatformRecord = refl
tag_known FlowRecord = refl
tag_known EndRecord = refl

pub tag_unknown : {byte : ℕ} → (byte ≡ 0x01 → ⊥) → (byte ≡ 0x02 → ⊥) → (byte ≡ 0x7F → ⊥) → tag_of byte ≡ None
unfolding tag_of ◌when◌else◌
tag_unknown {byte} p f e = simp (ne_eqb byte 0x01 p, ne_eqb byte 0x02 f, ne_eqb byte 0x7F e)

pub tag_byte_lem : (byte : ℕ) {kind : Kind} → tag_of byte ≡ Some kind → byte ≡ tag_byte kind
tag_byte_lem byte {kind} e = go (ℕ_discrete byte 0x01) (ℕ_discrete byte 0x02) (ℕ_discrete byte 0x7F)
  where
    this : (found : Kind) → byte ≡ tag_byte found → byte ≡ tag_byte kind
    this found b = let k : found ≡ kind = cc (ap tag_of b, tag_known found) in b ∙ ap tag_byte k

    go : Dec (byte ≡ 0x01) → Dec (byte ≡ 0x02) → Dec (byte ≡ 0x7F) → byte ≡ tag_byte kind
    go (yes b) f n = this PlatformRecord b
    go (no a) (yes b) n = this FlowRecord b
    go (no a) (no b) (yes c) = this EndRecord c
    go (no a) (no b) (no c) = absurd (let z : ◌≡◌ {A = ℕ} 0 1 = cc (tag_unknown a b c) in omega arith)
