-- `engine_rows::search::next_flow` meets its contract.
use Prim.Native.Nat.{ℕ}
use denote.Ref.{Bor}
use mathlib.Core.Path.{refl, ◌≡◌, ap, ◌∙◌}
use lib.Dec.{ltb}
use borrow.Author.Rules.{rules}
use borrow.Author.Tests.{tests}
use Rattle.std.specs.Option.{option_map}
use Rattle.std.specs.Prelude.{Option, None, Some}
use Rattle.std.proofs.lemmas.Iterator.{YieldsList-from_slice}
use Rattle.std.proofs.lemmas.Iterator.Consumers.{YieldsList-from_filter, YieldsList-from_enumerate, YieldsList-at}
use Rattle.plan_values.specs.declared.Flow.{Flow}
use Rattle.plan_values.specs.Values.{blank_flow}
use Rattle.engine_rows.proofs.Searching.{least_is, chosen_place}
use Rattle.engine_rows.proofs.search.next_flow.Goals as goal

pub returns : goal.returns
returns c =
    let flows = c.args.flows.now in
    let e = least_is (λ p. (p.0, p.1.now)) _ (λ (p : ℕ × Flow). p.1.priority) _ (λ x b q k. search (rules, tests)) c.filter.result c.min_by_key.result c.min_by_key.ensures.ran
    (YieldsList-from_filter _ (λ (p : ℕ × Flow). ltb c.args.last p.1.priority) (YieldsList-at c.filter.ensures.source (YieldsList-from_enumerate (YieldsList-at c.enumerate.ensures.source (YieldsList-from_slice flows cc)) cc)) c.filter.ensures.closure (λ x b q k. search (rules, tests))) in
    let m : c.map.result ≡ option_map (λ p. p.0) c.min_by_key.result = search rules in
    chosen_place (λ (f : Flow). ltb c.args.last f.priority) (λ f. f.priority) flows blank_flow c.map.result (m ∙ viewed c.min_by_key.result ∙ ap (option_map (λ (p : ℕ × Flow). p.0)) e)
  where
    viewed : {A : Type 0} (r : Option (ℕ × Bor A)) → option_map (λ (p : ℕ × Bor A). p.0) r ≡ option_map (λ (p : ℕ × A). p.0) (option_map (λ (p : ℕ × Bor A). (p.0, p.1.now)) r)
    viewed None = refl
    viewed (Some p) = refl
