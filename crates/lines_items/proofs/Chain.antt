-- One part of the text written behind another.
use Rattle.std.proofs.Common.{◌≡◌, ℕ, ◌+◌, List, ◌++◌, length, ap, ◌∙◌, append_assoc, length-append}
use Rattle.lines_items.specs.Decimal.{decimal}
use Rattle.lines_items.specs.Items.{item}

-- The text is longer by the part.
pub longer : (was part : List ℕ) {now : List ℕ} → now ≡ was ++ part → length now ≡ length was + length part
longer was part e = ap length e ∙ length-append was part

module _ (was : List ℕ) {mid now : List ℕ} where
  pub chain : (s t : List ℕ) → mid ≡ was ++ s → now ≡ mid ++ t → now ≡ was ++ (s ++ t)
  chain s t v w = w ∙ ap (λ x. x ++ t) v ∙ append_assoc was s t

  pub item_behind : (word : List ℕ) (n : ℕ) → mid ≡ was ++ word → now ≡ mid ++ decimal n → now ≡ was ++ item word n
  unfolding item
  item_behind word n = chain word (decimal n)
