-- A platform record and a flow record at place 2 of some bytes, no byte twice: each value is read where it stands, and most significant byte first.
use mathlib.Core.Path.{◌≡◌, refl}
use mathlib.Core.List.{[], ◌∷◌, map}
use lib.ListN.{replicate}
use Prim.Native.Nat.{ℕ}
use Rattle.framing.specs.First.{◌when◌else◌}
use Rattle.plan_values.specs.Values.{six_at, priority_flits_at, platform_at, platform_length, flow_at, blank_platform, blank_flow}

-- "A six-byte record means zero", whatever stands behind it; a seven-byte record has its seventh.
platform_read :
    (platform_at (0xEE ∷ 0xEF ∷ 0x01 ∷ 0x00 ∷ 0x06 ∷ 5 ∷ 3 ∷ 2 ∷ 4 ∷ 7 ∷ 1 ∷ 0xFE ∷ []) 2
    ≡ record { columns = 5; rows = 3; link = 2; routing = 4; buffer = 7; method = 1; priority_flits = 0 })
    × (platform_at (0xEE ∷ 0xEF ∷ 0x01 ∷ 0x00 ∷ 0x07 ∷ 5 ∷ 3 ∷ 2 ∷ 4 ∷ 7 ∷ 1 ∷ 6 ∷ 0xFE ∷ []) 2
    ≡ record { columns = 5; rows = 3; link = 2; routing = 4; buffer = 7; method = 1; priority_flits = 6 })
unfolding priority_flits_at ◌when◌else◌
platform_read = (refl, refl)

-- "A six-byte record means zero, and the writer uses it then".
platform_lengths : map (λ (n : ℕ). platform_length (six_at [] 0 n)) (0 ∷ 1 ∷ 7 ∷ 8 ∷ 255 ∷ []) ≡ 6 ∷ 7 ∷ 7 ∷ 7 ∷ 7 ∷ []
unfolding platform_length ◌when◌else◌
platform_lengths = refl

flow_read :
    flow_at
    (0xEE ∷ 0xEF ∷ 0x02 ∷ 0x00 ∷ 0x14
    ∷ 0x01 ∷ 0x03
    ∷ 0x04 ∷ 0x05
    ∷ 0x06
    ∷ 0x07
    ∷ 0x08 ∷ 0x09
    ∷ 0x1A ∷ 0x1B ∷ 0x1C ∷ 0x1D
    ∷ 0x0A ∷ 0x0B ∷ 0x0C ∷ 0x0D
    ∷ 0x2A ∷ 0x2B ∷ 0x2C ∷ 0x2D
    ∷ 0xFE ∷ [])
    2
    ≡ record { id = 0x0103; priority = 0x0405; source = 6; destination = 7; flits = 0x0809; period = 0x1A1B1C1D; deadline = 0x0A0B0C0D; jitter = 0x2A2B2C2D }
flow_read = refl

-- Blanks are what zeros are read as.
blanks : (platform_at (replicate 9 0) 0 ≡ blank_platform) × (flow_at (replicate 23 0) 0 ≡ blank_flow)
unfolding priority_flits_at ◌when◌else◌
blanks = (refl, refl)
