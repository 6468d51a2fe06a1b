-- Document 01, "What sends a plan back", with document 02's L2 and L7, said without a reader: each line's "Given when" as what holds of the bytes, and the order as ranks.
-- Nothing here is taken from Checks, Records or Reading; proofs/Because shows that `read_plan` refuses for these reasons and for no others.
use Rattle.std.specs.Prelude.{ℕ, zero, suc, ◌+◌, ◌*◌, ◌≤◌, ◌<◌, ◌≡◌, List, ◌≢◌, ◌⊎◌, length}
use Rattle.framing_numbers.specs.Numbers.{one_at, two_at, four_at}
use Rattle.plan.specs.Legal.{Within}
use Rattle.plan.specs.Layout.{place}

-- Record 0 is the first; record k + 1 stands behind the platform record, whose length stands behind its tag, and k flow records.
abbrev pub start : List ℕ → ℕ → ℕ
start s zero = 0
start s (suc k) = place (two_at s 1) k

-- "a one-byte tag, a two-byte body length and a body": of record n, and the numbers in it, counted from its tag.
abbrev pub tag : List ℕ → ℕ → ℕ
tag s n = one_at s (start s n)

abbrev pub size : List ℕ → ℕ → ℕ
size s n = two_at s (start s n + 1)

abbrev pub one : List ℕ → ℕ → ℕ → ℕ
one s n offset = one_at s (start s n + offset)

abbrev pub two : List ℕ → ℕ → ℕ → ℕ
two s n offset = two_at s (start s n + offset)

abbrev pub four : List ℕ → ℕ → ℕ → ℕ
four s n offset = four_at s (start s n + offset)

-- "columns x rows" of the platform record, which is the first
abbrev pub nodes : List ℕ → ℕ
nodes s = one_at s 3 * one_at s 4

-- Column "Tag": "01 platform", "02 flow", "7F end".
abbrev pub IsPlatform : List ℕ → ℕ → Type 0
IsPlatform s n = tag s n ≡ 0x01

abbrev pub IsFlow : List ℕ → ℕ → Type 0
IsFlow s n = tag s n ≡ 0x02

abbrev pub IsEnd : List ℕ → ℕ → Type 0
IsEnd s n = tag s n ≡ 0x7F

-- The lines of the table: 1 has two conditions, and 5 is said field by field with document 02's numbers.
pub data Line : Type 0 where
  header_cut unknown_tag misplaced wrong_length body_cut flow_65 : Line
  columns_outside rows_outside link_outside routing_outside buffer_outside method_outside priority_flits_outside : Line
  id_outside priority_outside source_outside destination_outside flits_outside period_outside deadline_zero deadline_above jitter_outside : Line
  source_equals_destination id_equals_earlier priority_equals_earlier byte_after_end : Line

-- A line's rank ("Within a record the order is: header complete (1), 2, 4, 3, body complete (1), 6, then 5 field by field, 9, 7, 8 .. Then 10"),
-- its number, and its place, counted from the tag.
abbrev pub entry : Line → ℕ × ℕ × ℕ
entry header_cut = (0, 1, 0)  -- "that record's start"
entry unknown_tag = (1, 2, 0)  -- "the tag"
entry misplaced = (2, 4, 0)  -- "the tag"
entry wrong_length = (3, 3, 1)  -- "the length"
entry body_cut = (4, 1, 0)  -- "that record's start"
entry flow_65 = (5, 6, 0)  -- "its tag"
entry columns_outside = (6, 20, 3)  -- "that field", here and in what follows
entry rows_outside = (7, 21, 4)
entry link_outside = (8, 22, 5)
entry routing_outside = (9, 23, 6)
entry buffer_outside = (10, 24, 7)
entry method_outside = (11, 25, 8)
entry priority_flits_outside = (12, 26, 9)  -- "26 at its place, after 25"
entry id_outside = (13, 30, 3)
entry priority_outside = (14, 31, 5)
entry source_outside = (15, 32, 7)
entry destination_outside = (16, 33, 8)
entry flits_outside = (17, 34, 9)
entry period_outside = (18, 35, 11)
entry deadline_zero = (19, 36, 15)
entry deadline_above = (20, 38, 15)
entry jitter_outside = (21, 37, 19)
entry source_equals_destination = (22, 9, 8)  -- "the destination"
entry id_equals_earlier = (23, 7, 3)  -- "the id"
entry priority_equals_earlier = (24, 8, 5)  -- "the priority"
entry byte_after_end = (25, 10, 3)  -- "that byte"

abbrev pub rank : Line → ℕ
rank l = (entry l).0

abbrev pub number_of : Line → ℕ
number_of l = (entry l).1

abbrev pub offset_of : Line → ℕ
offset_of l = (entry l).2

-- "a field outside its values"
abbrev pub Outside : ℕ → ℕ → ℕ → Type 0
Outside lowest highest value = Within lowest highest value → ⊥

-- Some flow before record n has the same number at this offset.
abbrev pub EqualsEarlier : List ℕ → ℕ → ℕ → Type 0
EqualsEarlier s n offset = (j : ℕ) × (suc j < n) × (two s (suc j) offset ≡ two s n offset)

-- Column "Given when", of record n.
abbrev pub Holds : List ℕ → ℕ → Line → Type 0
-- "under 3 bytes remain where a record must start"
Holds s n header_cut = length s < start s n + 3
-- "unknown tag"
Holds s n unknown_tag = (IsPlatform s n → ⊥) × (IsFlow s n → ⊥) × (IsEnd s n → ⊥)
-- "first record isn't a platform, or a platform comes later"
Holds s n misplaced = ((n ≡ 0) × (IsPlatform s n → ⊥)) ⊎ ((0 < n) × IsPlatform s n)
-- "length is not the tag's": column "Length" has 20 and 0, and "length 6 or 7 is now legal for tag 01"
Holds s n wrong_length = (IsPlatform s n × (size s n ≢ 6) × (size s n ≢ 7)) ⊎ ((IsFlow s n × (size s n ≢ 20)) ⊎ (IsEnd s n × (size s n ≢ 0)))
-- "or its body is cut"
Holds s n body_cut = length s < start s n + 3 + size s n
-- "a 65th flow": behind the platform and 64 flows
Holds s n flow_65 = IsFlow s n × (65 ≤ n)
-- "columns (1): 1..8; rows (1): 1..8; link cycles (1): 1..16; routing cycles (1): 0..16; buffer flits (1): 1..64; method (1): 0..3"
Holds s n columns_outside = IsPlatform s n × Outside 1 8 (one s n 3)
Holds s n rows_outside = IsPlatform s n × Outside 1 8 (one s n 4)
Holds s n link_outside = IsPlatform s n × Outside 1 16 (one s n 5)
Holds s n routing_outside = IsPlatform s n × Outside 0 16 (one s n 6)
Holds s n buffer_outside = IsPlatform s n × Outside 1 64 (one s n 7)
Holds s n method_outside = IsPlatform s n × Outside 0 3 (one s n 8)
-- "a seventh byte of zero or above 8"
Holds s n priority_flits_outside = IsPlatform s n × (size s n ≡ 7) × Outside 1 8 (one s n 9)
-- "id (2): 0..65534; priority (2): 1..65535; source (1) and destination (1): below columns x rows; flits (2): 1..65535; period (4): 1..1,000,000,000"
Holds s n id_outside = IsFlow s n × Outside 0 65534 (two s n 3)
Holds s n priority_outside = IsFlow s n × Outside 1 65535 (two s n 5)
Holds s n source_outside = IsFlow s n × (nodes s ≤ one s n 7)
Holds s n destination_outside = IsFlow s n × (nodes s ≤ one s n 8)
Holds s n flits_outside = IsFlow s n × Outside 1 65535 (two s n 9)
Holds s n period_outside = IsFlow s n × Outside 1 1_000_000_000 (four s n 11)
-- "deadline (4): 1..period": "36 is deadline zero, 38 is deadline above period"
Holds s n deadline_zero = IsFlow s n × (four s n 15 ≡ 0)
Holds s n deadline_above = IsFlow s n × (four s n 11 < four s n 15)
-- "jitter (4): 0..1,000,000,000"
Holds s n jitter_outside = IsFlow s n × Outside 0 1_000_000_000 (four s n 19)
-- "source equals destination"
Holds s n source_equals_destination = IsFlow s n × (one s n 7 ≡ one s n 8)
-- "id equal to an earlier flow's"
Holds s n id_equals_earlier = IsFlow s n × EqualsEarlier s n 3
-- "priority equal to an earlier flow's"
Holds s n priority_equals_earlier = IsFlow s n × EqualsEarlier s n 5
-- "a byte after the end record"
Holds s n byte_after_end = IsEnd s n × (start s n + 3 < length s)

-- "No refusal is given otherwise": no line holds of record n.
abbrev pub Faultless : List ℕ → ℕ → Type 0
Faultless s n = (l : Line) → Holds s n l → ⊥

-- .. and it is not the end record, so that a record must follow it.
pub record Leads (s : List ℕ) (n : ℕ) : Type 0 where
  pub faultless : Faultless s n
  pub no_end : IsEnd s n → ⊥

-- "The first record in fault decides", and within it the first line in the order.
pub record RefusedBecause (s : List ℕ) (number pl : ℕ) : Type 0 where
  pub n : ℕ  -- the record in fault
  pub before : (m : ℕ) → m < n → Leads s m
  pub line : Line
  pub holds : Holds s n line
  pub first : (l : Line) → rank l < rank line → Holds s n l → ⊥
  pub number_is : number ≡ number_of line
  pub place_is : pl ≡ start s n + offset_of line

-- .. and where no record is in fault, the last is the end record.
pub record AcceptedBecause (s : List ℕ) : Type 0 where
  pub n : ℕ
  pub before : (m : ℕ) → m < n → Leads s m
  pub faultless : Faultless s n
  pub end : IsEnd s n
