-- A record of each verdict, computed; the bytes of each number differ, so that every number has its place, most significant byte first.
use Prim.Native.Nat.{ℕ}
use native.Mathlib.Omega.{arith}
use mathlib.Core.Path.{◌≡◌, refl}
use mathlib.Core.List.{List, [], ◌∷◌, map}
use lib.ListN.{set}
use Rattle.framing.specs.First.{◌when◌else◌}
use Rattle.framing.specs.Each.{each}
use Rattle.model.specs.declared.Answer.{Answer}
use Rattle.model.specs.declared.Verdict.{Verdict}
use Rattle.model.specs.declared.Verdict.TheVariants.{Bounded, Late, Waits}
use Rattle.reply.specs.Reply.{record_of, reply_bytes}
use Rattle.reply.specs.Records.{id_at, verdict_at, named_at, bound_at, rounds_at, Tells, verdict_by, answer_at}

abbrev answer : ℕ → Verdict → Answer
answer id verdict = record { id = id; verdict = verdict }

abbrev told : List Answer
told = answer 0x0304 (Bounded 0x1A1B1C1D 0x2A2B2C2D) ∷ answer 0x0506 (Late 0x3A3B3C3D) ∷ answer 0x0708 (Waits 0x090A) ∷ []

abbrev bytes : List ℕ
bytes =
    0x81 ∷ 0 ∷ 13 ∷ 0x03 ∷ 0x04 ∷ 0 ∷ 0xFF ∷ 0xFF ∷ 0x1A ∷ 0x1B ∷ 0x1C ∷ 0x1D ∷ 0x2A ∷ 0x2B ∷ 0x2C ∷ 0x2D
    ∷ 0x81 ∷ 0 ∷ 13 ∷ 0x05 ∷ 0x06 ∷ 1 ∷ 0xFF ∷ 0xFF ∷ 0 ∷ 0 ∷ 0 ∷ 0 ∷ 0x3A ∷ 0x3B ∷ 0x3C ∷ 0x3D
    ∷ 0x81 ∷ 0 ∷ 13 ∷ 0x07 ∷ 0x08 ∷ 2 ∷ 0x09 ∷ 0x0A ∷ 0 ∷ 0 ∷ 0 ∷ 0 ∷ 0 ∷ 0 ∷ 0 ∷ 0
    ∷ 0x7F ∷ 0 ∷ 0 ∷ []

-- "tag 81, length 13, id (2), verdict (1), named flow (2), bound (4), rounds (4). The named flow is FFFF unless the verdict is 2; the bound is 0 unless the verdict is 0. Then 7F 0000."
replied : reply_bytes told ≡ bytes
unfolding record_of each
replied = refl

-- The same numbers where they stand in records 0, 1 and 2, and the answers that they tell.
abbrev numbers : ℕ → List ℕ
numbers k = id_at bytes k ∷ verdict_at bytes k ∷ named_at bytes k ∷ bound_at bytes k ∷ rounds_at bytes k ∷ []

read :
    map numbers (0 ∷ 1 ∷ 2 ∷ [])
    ≡ (0x0304 ∷ 0 ∷ 0xFFFF ∷ 0x1A1B1C1D ∷ 0x2A2B2C2D ∷ []) ∷ (0x0506 ∷ 1 ∷ 0xFFFF ∷ 0 ∷ 0x3A3B3C3D ∷ []) ∷ (0x0708 ∷ 2 ∷ 0x090A ∷ 0 ∷ 0 ∷ []) ∷ []
read = refl

answered : map (answer_at bytes) (0 ∷ 1 ∷ 2 ∷ []) ≡ told
unfolding verdict_by ◌when◌else◌
answered = refl

-- "Bounded (0)", "Late (1)", "Waits (2)"
verdicts : map (λ number. verdict_by number 5 6 7) (0 ∷ 1 ∷ 2 ∷ []) ≡ Bounded 6 7 ∷ Late 7 ∷ Waits 5 ∷ []
unfolding verdict_by ◌when◌else◌
verdicts = refl

-- Record 1 tells its answer; with another tag, length, id, verdict, named flow, bound or rounds it does not.
tells : Tells bytes 1 (answer 0x0506 (Late 0x3A3B3C3D))
tells = record { headed = record { tag_is = refl; size_is = refl }; id = refl; verdict = refl; named = refl; bound = refl; rounds = refl }

abbrev told_with : ℕ → ℕ → Type 0
told_with at byte = Tells (set bytes at byte) 1 (answer 0x0506 (Late 0x3A3B3C3D))

tells_not : (told_with 16 0x80 → ⊥) × (told_with 18 12 → ⊥) × (told_with 20 0 → ⊥) × (told_with 21 0 → ⊥) × (told_with 23 0 → ⊥) × (told_with 27 1 → ⊥) × (told_with 31 0 → ⊥)
tells_not = (
  λ w. omega (arith, w.headed.tag_is),
  λ w. omega (arith, w.headed.size_is),
  λ w. omega (arith, w.id),
  λ w. omega (arith, w.verdict),
  λ w. omega (arith, w.named),
  λ w. omega (arith, w.bound),
  λ w. omega (arith, w.rounds),
)
