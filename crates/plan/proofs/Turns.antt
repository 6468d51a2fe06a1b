-- The turns of the record loop: what has been read so far, and what each way out of a turn makes of it.
use Rattle.framing.specs.declared.returned.Fault.{Fault}
use Prim.Native.Nat.{ℕ, suc, ◌+◌, ◌-◌, ◌≤◌, ◌<◌}
use native.Mathlib.Omega.{arith}
use mathlib.Core.Path.{◌≡◌, sym, ap, ap₂, subst, ◌∙◌}
use mathlib.Core.Bool.{Bool, true, false}
use mathlib.Core.List.{List, [], ◌∷◌, ◌++◌, map}
use lib.ListN.{length, get_or, take, set, replicate, length-set}
use lib.Seq.{length-take-le}
use Rattle.framing.specs.Header.{length_at}
use Rattle.framing_numbers.specs.Numbers.{bytes_of, number_at}
use Rattle.plan_table.specs.Table.{body_length, fields_of, width, refusal_of}
use Rattle.plan_values.specs.Values.{platform_at, flow_at, blank_platform, blank_flow}
use Rattle.plan_checks.specs.Checks.{limits_at, frame_at, outside, rest_at}
use Rattle.plan.specs.Records.{ids_of, priorities_of, record_at}
use Rattle.plan.specs.Reading.{accepted, refused, records, read_plan}
use Rattle.plan.specs.Padded.{padded}
use Rattle.plan_values.specs.declared.Platform.{Platform}
use Rattle.plan_values.specs.declared.Flow.{Flow}
use Rattle.std.specs.Prelude.{Result, Ok, Err}
use Rattle.framing.specs.declared.returned.Refusal.{Refusal}
use Rattle.plan_table.specs.declared.Field.{Field}
use Rattle.plan_checks.specs.declared.Limits.{Limits}
use Rattle.plan_table.specs.declared.Kind.{Kind}
use Rattle.plan_table.specs.declared.Kind.TheVariants.{PlatformRecord, FlowRecord, EndRecord}
use Rattle.plan_table.proofs.Lengths.{six_at_least}
use Rattle.plan.proofs.Order.{framed, flow_room, rest_kind, record_frame, record_field, record_rest, fault_ends, platform_leads, flow_leads, end_accepts}
use Rattle.plan.proofs.Scan.{Scanning, scanning_none, field_stops, scanning_more, scanned, scanned_place}
use Rattle.plan.proofs.Padding.{taken_more, padded_more}
use Rattle.plan.proofs.Columns.{Column, names_of, column_none, column_map, column_more}
use Rattle.plan_checks.specs.declared.Names.{Names}

-- what has been read before the record at `at`: its platform, its first `count` flows, and that the rest decides
pub record Sofar (s : List ℕ) (at : ℕ) (p : Platform) (flows : List Flow) (names : List Names) (count : ℕ) : Type 0 where
  pub left : ℕ
  pub enough : length s ≤ at + left
  pub few : count ≤ 64
  pub long : length flows ≡ 64
  pub blank : flows ≡ padded blank_flow (take count flows)
  pub named : Column names_of names flows count
  pub rest : read_plan s ≡ records (suc left) s at p (take count flows)

pub sofar_none : (s : List ℕ) (p : Platform) (flows : List Flow) (none : Names) → p ≡ blank_platform → flows ≡ replicate 64 blank_flow → Sofar s 0 p flows (replicate 64 none) 0
unfolding read_plan
sofar_none s p flows none ep ef = record { left = length s; enough = omega arith; few = omega arith; long = rw ef; blank = rw ef; named = column_none _ _ flows; rest = rw ep }

module _ {s : List ℕ} {at : ℕ} {p : Platform} {flows : List Flow} {names : List Names} {count : ℕ} (w : Sofar s at p flows names count) where
  same_count : length (take count flows) ≡ count
  same_count = length-take-le count flows (omega (arith, w.few, w.long))

  pub frame_refuses : {refusal : Refusal} → frame_at s at count ≡ Err refusal → Err refusal ≡ read_plan s
  unfolding refused
  frame_refuses e = sym (w.rest ∙ fault_ends s at p _ _ (record_frame s at p _ (rw same_count e)))

-- what is known inside a record whose frame is without fault, in front of its field k
pub record Inside (s : List ℕ) (at : ℕ) (p : Platform) (flows : List Flow) (names : List Names) (count : ℕ) (kind : Kind) (l : Limits) (k offset : ℕ) : Type 0 where
  pub sofar : Sofar s at p flows names count
  pub frame : frame_at s at count ≡ Ok kind
  pub scan : Scanning s at kind p l k offset

pub inside_none : {s : List ℕ} {at : ℕ} {p : Platform} {flows : List Flow} {names : List Names} {count : ℕ} {kind : Kind} {l : Limits} → Sofar s at p flows names count → frame_at s at count ≡ Ok kind → l ≡ limits_at s at kind p → Inside s at p flows names count kind l 0 3
inside_none {s} {at} {p} {count} {kind} w fe e = record { sofar = w; frame = fe; scan = scanning_none s at kind p (framed s at count fe).whole e }

module _ {s : List ℕ} {at : ℕ} {p : Platform} {flows : List Flow} {names : List Names} {count : ℕ} {kind : Kind} {l : Limits} {k offset : ℕ} (w : Inside s at p flows names count kind l k offset) {fields : List Field} (of : fields ≡ fields_of kind (length_at s at)) where
  -- the record lies in the bytes
  module _ {known : Kind} (e : kind ≡ known) where
    own_size : length_at s at ≡ body_length known (length_at s at)
    own_size = (framed s at count w.frame).size ∙ ap (λ (k : Kind). body_length k (length_at s at)) e

    own_whole : at + 3 + body_length known (length_at s at) ≤ length s
    own_whole = subst (λ (k : Kind). at + 3 + body_length k (length_at s at) ≤ length s) e w.scan.whole

  pub platform_inside : kind ≡ PlatformRecord → (at + 9 ≤ length s) × (at + 3 + length_at s at ≤ length s)
  platform_inside e = (omega (arith, own_whole e, six_at_least (length_at s at)), omega (arith, own_whole e, own_size e))

  pub flow_inside : kind ≡ FlowRecord → at + 23 ≤ length s
  flow_inside e = omega (arith, own_whole e)

  frame_fine : frame_at s at (length (take count flows)) ≡ Ok kind
  frame_fine = rw (same_count w.sofar) w.frame

  -- a field, its value and what the check of it said
  module _ {f : Field} (none : Field) {v : ℕ} {b : Bool} (h : k < length fields) (e : f ≡ get_or fields k none) (q : v ≡ number_at s (width f) (at + offset)) (o : b ≡ outside l f v) where
    pub field_refuses : {fault : Fault} → b ≡ true → fault ≡ refusal_of f v → Err (fault, at + offset) ≡ read_plan s
    unfolding refused
    field_refuses t n = ap (λ (x : Fault). Err (x, at + offset)) n ∙ sym (w.sofar.rest ∙ fault_ends s at p _ _ (record_field s at p _ frame_fine (field_stops w.scan of none h e q (sym o ∙ t))))

    pub inside_more : {n : ℕ} → b ≡ false → n ≡ bytes_of (width f) → Inside s at p flows names count kind l (k + 1) (offset + n)
    inside_more t g = rw g (record { sofar = w.sofar; frame = w.frame; scan = scanning_more w.scan of none h e q (sym o ∙ t) })

  -- behind the last field, and what the checks there said
  module _ {r : Result Kind Refusal} (h : length fields ≤ k) (re : r ≡ rest_at s at kind (map (λ (n : Names). n.id) (take count names)) (map (λ (n : Names). n.priority) (take count names))) where
    to_rest : record_at s at p (take count flows) ≡ r
    to_rest =
        record_rest s at p _ frame_fine (scanned w.scan of h)
        ∙ ap₂ (rest_at s at kind) (column_map w.sofar.named (λ (n : Names). n.id)) (column_map w.sofar.named (λ (n : Names). n.priority))
        ∙ sym re

    pub rest_refuses : {refusal : Refusal} → r ≡ Err refusal → Err refusal ≡ read_plan s
    unfolding refused
    rest_refuses e = sym (w.sofar.rest ∙ fault_ends s at p _ _ (to_rest ∙ e))

    module _ {found : Kind} (pe : r ≡ Ok found) where
      fine : {known : Kind} → kind ≡ known → record_at s at p (take count flows) ≡ Ok known
      fine e = to_rest ∙ pe ∙ ap Ok (rest_kind s at kind _ _ (sym re ∙ pe) ∙ e)

      pub end_accepted : kind ≡ EndRecord → accepted p (take count flows) ≡ read_plan s
      end_accepted e = sym (w.sofar.rest ∙ end_accepts s at p _ _ (fine e))

      -- a turn is spent, and the place moves on by the record
      spent : {known : Kind} → kind ≡ known → (w.sofar.left ≡ suc (w.sofar.left - 1)) × (length s ≤ (at + offset) + (w.sofar.left - 1)) × (at + offset ≡ at + (3 + body_length known (length_at s at)))
      spent e =
          let x = scanned_place w.scan of h in
          let y = ap (λ (k : Kind). body_length k (length_at s at)) e in
          (omega (arith, w.sofar.enough, w.scan.whole), omega (arith, w.sofar.enough, w.scan.whole), omega arith)

      pub platform_taken : {q : Platform} → kind ≡ PlatformRecord → q ≡ platform_at s at → Sofar s (at + offset) q flows names count
      platform_taken {q} e g =
          let t = spent e in
          let z : at + 3 + length_at s at ≡ at + offset = omega (arith, t.2, own_size e) in
          record {
            left = w.sofar.left - 1;
            enough = t.1;
            few = w.sofar.few;
            long = w.sofar.long;
            blank = w.sofar.blank;
            named = w.sofar.named;
            rest = w.sofar.rest ∙ platform_leads s at p _ _ (fine e) ∙ λ i. records (t.0 i) s (z i) (sym g i) (take count flows);
          }

      pub flow_taken : {f : Flow} → kind ≡ FlowRecord → f ≡ flow_at s at → Sofar s (at + offset) p (set flows count f) (set names count (names_of f)) (count + 1)
      flow_taken {f} e g =
          let t = spent e in
          let room = flow_room (framed s at count w.frame) e in
          let same : take count flows ++ flow_at s at ∷ [] ≡ take (count + 1) (set flows count f) = ap (λ (x : Flow). take count flows ++ x ∷ []) (sym g) ∙ sym (taken_more flows count f w.sofar.long room) in
          record {
            left = w.sofar.left - 1;
            enough = t.1;
            few = omega arith;
            long = rw length-set w.sofar.long;
            blank = padded_more flows count f w.sofar.long room blank_flow w.sofar.blank;
            named = column_more w.sofar.named f w.sofar.long room;
            rest = w.sofar.rest ∙ flow_leads s at p _ _ (fine e) ∙ λ i. records (t.0 i) s (sym t.2 i) p (same i);
          }
