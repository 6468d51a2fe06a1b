-- The loop of `put_flows`: the lines of the first k records are written.
use Prim.Native.Nat.{ℕ, ◌+◌, ◌*◌, ◌≤◌}
use native.Mathlib.Omega.{arith}
use native.Mathlib.Numerals.{add-one}
use mathlib.Core.Path.{◌≡◌, sym, ap, ◌∙◌}
use mathlib.Core.List.{List, ◌++◌, append-nil}
use lib.ListN.{length}
use Rattle.model.specs.declared.Answer.{Answer}
use Rattle.reply.specs.Records.{answer_at}
use Rattle.lines_flow.specs.Flows.{flow_line}
use Rattle.lines_items.proofs.Chain.{chain}
use Rattle.lines.specs.Replied.{record_line, record_lines}
use Rattle.lines.proofs.Replied.{line_read}

pub record Listing (was reply text : List ℕ) (k : ℕ) : Type 0 where
  pub written : text ≡ was ++ record_lines reply k
  pub small : length text ≤ length was + 48 * k

pub listing_none : (was reply : List ℕ) → Listing was reply was 0
unfolding record_lines
listing_none was reply = record { written = sym (append-nil was); small = omega arith }

lines_more : (reply : List ℕ) (k : ℕ) → record_lines reply (k + 1) ≡ record_lines reply k ++ record_line reply k
unfolding record_lines
lines_more reply k = rw add-one

pub listing_more : {was reply text : List ℕ} {k : ℕ} → Listing was reply text k → {a : Answer} → a ≡ answer_at reply k → {more : List ℕ} → more ≡ text ++ flow_line a → length more ≤ length text + 48 → Listing was reply more (k + 1)
listing_more {was} {reply} {text} {k} w {a} e v s = record {
  written = rw lines_more (chain was (record_lines reply k) (record_line reply k) w.written (v ∙ ap (λ x. text ++ x) (ap flow_line e ∙ line_read reply k)));
  small = omega (arith, w.small);
}
