-- Document 01, "The plan's bytes", with document 02, L7: the values of the record at place `at` of the bytes `s`, its fields in order behind tag and length.
use Rattle.std.specs.Prelude.{ℕ, ◌+◌, List, eqb}
use Rattle.framing_numbers.specs.Numbers.{one_at, two_at, four_at}
use Rattle.framing.specs.First.{◌when◌else◌}
use Rattle.framing.specs.Header.{length_at}
use Rattle.plan_values.specs.declared.Platform.{Platform}
use Rattle.plan_values.specs.declared.Flow.{Flow}

-- "columns (1) .. rows (1) .. link cycles (1) .. routing cycles (1) .. buffer flits (1) .. method (1)", and so many priority flits.
abbrev pub six_at : List ℕ → ℕ → ℕ → Platform
six_at s at flits =
    record {
      columns = one_at s (at + 3);
      rows = one_at s (at + 4);
      link = one_at s (at + 5);
      routing = one_at s (at + 6);
      buffer = one_at s (at + 7);
      method = one_at s (at + 8);
      priority_flits = flits;
    }

-- "The platform record gains a seventh byte, priority flits .. A six-byte record means zero"
unfoldable pub priority_flits_at : List ℕ → ℕ → ℕ
priority_flits_at s at = one_at s (at + 9) when eqb (length_at s at) 7 else 0

abbrev pub platform_at : List ℕ → ℕ → Platform
platform_at s at = six_at s at (priority_flits_at s at)

-- "A six-byte record means zero, and the writer uses it then": the length of the record that holds a platform.
unfoldable pub platform_length : Platform → ℕ
platform_length p = 6 when eqb p.priority_flits 0 else 7

-- "id (2) .. priority (2) .. source (1) and destination (1) .. flits (2) .. period (4) .. deadline (4) .. jitter (4)"
abbrev pub flow_at : List ℕ → ℕ → Flow
flow_at s at =
    record {
      id = two_at s (at + 3);
      priority = two_at s (at + 5);
      source = one_at s (at + 7);
      destination = one_at s (at + 8);
      flits = two_at s (at + 9);
      period = four_at s (at + 11);
      deadline = four_at s (at + 15);
      jitter = four_at s (at + 19);
    }

-- What stands in a refused plan, and in a plan's array behind its flows: zeros, and no flow has priority 0.
abbrev pub blank_platform : Platform
blank_platform = record { columns = 0; rows = 0; link = 0; routing = 0; buffer = 0; method = 0; priority_flits = 0 }

abbrev pub blank_flow : Flow
blank_flow = record { id = 0; priority = 0; source = 0; destination = 0; flits = 0; period = 0; deadline = 0; jitter = 0 }
