-- `text_of` hands over the text that is defined: what it wrote by what was returned, and by the reply, is that text.
use Prim.Native.Nat.{ℕ, ◌+◌, ◌*◌, ◌≤◌, ◌<◌}
use native.Mathlib.Omega.{arith}
use mathlib.Core.Path.{◌≡◌, sym, ◌∙◌}
use mathlib.Core.List.{List, [], ◌++◌}
use lib.ListN.{length, replicate, length-replicate}
use Rattle.framing.specs.declared.returned.Returned.{Returned}
use Rattle.plan_values.specs.Values.{platform_at}
use Rattle.plan_values.specs.declared.Platform.{Platform}
use Rattle.analyser.specs.Analysed.{returned, left}
use Rattle.lines_mesh.specs.Mesh.{mesh_line}
use Rattle.lines_flow.specs.Flows.{refusal_line}
use Rattle.lines.specs.Lines.{text_of}
use Rattle.lines.specs.Replied.{record_lines}
use Rattle.lines.proofs.Theorems.{Lines, SameAsReply, same_as_the_reply}

-- The reply's buffer, as it is lent.
abbrev blank : List ℕ
blank = replicate 1027 0

module _ (bytes : List ℕ) where
  -- What `analyse` promises.
  module _ {is : List ℕ} {r : Returned} (e : (r ≡ returned bytes (length blank)) × (is ≡ left bytes blank)) where
    said : SameAsReply bytes r is (text_of bytes)
    said = rw (e.0, e.1) (same_as_the_reply bytes blank (omega (arith, length-replicate {A = ℕ} 1027 0)))

    pub printed_refused : 0 < r.number → {start text : List ℕ} → start ≡ [] → text ≡ start ++ refusal_line r.number r.value → text ≡ text_of bytes
    printed_refused h s w = rw s at w ∙ sym (said.refusal (λ z. omega arith))

    module _ (h : r.number ≤ 0) where
      pub all_lines : (n : ℕ) × Lines bytes is (text_of bytes) r.value n
      all_lines = said.reply (omega arith)

      pub printed_lines : {p : Platform} {start mesh text : List ℕ} (count : ℕ) → p ≡ platform_at bytes 0 → 16 * count + 3 ≡ r.value → start ≡ [] → mesh ≡ start ++ mesh_line p → text ≡ mesh ++ record_lines is count → text ≡ text_of bytes
      printed_lines count e size s v w =
          let (n, l) = all_lines in
          let q : n ≡ count = omega (arith, l.size) in
          rw (v, s, e) at w ∙ sym (rw q at l.lines)
