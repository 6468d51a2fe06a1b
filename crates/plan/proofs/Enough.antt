-- "It reads at most 2,048 bytes of standard input, which always decides the reply": 1,505 bytes decide.
use Rattle.framing.specs.declared.returned.Refusal.{Refusal}
use Rattle.plan.specs.declared.Plan.{Plan}
use Rattle.std.specs.Prelude.{Result}
use Prim.Native.Nat.{ℕ, ◌≤◌, ◌<◌}
use native.Mathlib.Omega.{arith}
use native.Mathlib.Decide.{dec_lt}
use mathlib.Core.Path.{◌≡◌, ap}
use mathlib.Core.List.{List}
use lib.ListN.{length, take}
use lib.Seq.{take_all, get_or-take, length-take-le}
use Rattle.framing.specs.Header.{length_at}
use Rattle.framing_numbers.specs.Numbers.{one_at}
use Rattle.plan_table.specs.Table.{six_or_seven}
use Rattle.plan_table.proofs.Lengths.{at_most_seven}
use Rattle.plan.specs.Reading.{read_plan}
use Rattle.plan.proofs.Alike.{Alike, same, arrived, alike}

-- no reading gets behind 65 flows
enough : (s u : List ℕ) → ((i : ℕ) → i < 1505 → one_at s i ≡ one_at u i) → 1505 ≤ length s → 1505 ≤ length u → read_plan s ≡ read_plan u
enough s u agree ls lu = go (alike s u 7 65 fits agree ls lu (omega arith))
  where
    fits : length_at s 0 ≡ six_or_seven (length_at s 0) → length_at s 0 ≤ 7
    fits own = omega (arith, own, at_most_seven (length_at s 0))

    go : {x y : Result Plan Refusal} → Alike s u 7 65 fits agree ls lu x y → x ≡ y
    go (same e) = e
    go (arrived turns p fs many few) = absurd (omega arith)

pub decided : (s : List ℕ) → read_plan (take 2048 s) ≡ read_plan s
decided s = go (dec_lt 2048 (length s))
  where
    go : Dec (2048 < length s) → read_plan (take 2048 s) ≡ read_plan s
    go (yes l) = enough (take 2048 s) s (λ i h. get_or-take 2048 s i 0 (omega arith)) (omega (arith, length-take-le 2048 s (omega arith))) (omega arith)
    go (no n) = ap read_plan (take_all 2048 s (omega arith))
