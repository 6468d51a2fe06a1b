-- `lines_items::Text::push_word` meets its contract.
use Rattle.std.proofs.Common.{List, ℕ, ◌++◌, ap, ◌∙◌, rules}
use Rattle.lines_items.proofs.Pushing.{pushed, pushed_handed}
use Rattle.lines_items.proofs.Text.push_word.Goals as goal

pub invariant_of-self : goal.invariant_of-self
invariant_of-self g c = (search rules, rw c.copy_from_slice.ensures.after (pushed_handed _ _ c.self.invariant.1 c.args.word.now))

pub returns : goal.returns
returns g c = rw c.copy_from_slice.ensures.after (pushed _ _ c.self.invariant.1 c.args.word.now ∙ ap (λ (t : List ℕ). t ++ c.args.word.now) c.self.view_is)
