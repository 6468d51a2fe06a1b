-- `engine_rows::search::waits_on` meets its contract.
use Prim.Native.Nat.{ℕ, ◌<◌}
use mathlib.Core.Path.{◌≡◌, ap, ◌∙◌}
use mathlib.Core.List.{List}
use Rattle.std.specs.Prelude.{is_none}
use Rattle.std.specs.Option.{option_map}
use Rattle.std.specs.List.{filter}
use borrow.Author.Rules.{rules}
use borrow.Author.Tests.{tests}
use Rattle.std.proofs.lemmas.Iterator.{YieldsList-from_slice}
use Rattle.std.proofs.lemmas.Iterator.Consumers.{YieldsList-from_filter, YieldsList-at}
use Rattle.std.proofs.lemmas.List.Elements.{All-filter}
use Rattle.plan.specs.Legal.{flow}
use Rattle.engine_terms.specs.Kept.{bound_at}
use Rattle.engine_rows.proofs.Searching.{least, least_may, least_is, chosen_named}
use Rattle.engine_rows.proofs.search.waits_on.Goals as goal

pub min_by_key-requires-clause-callable : goal.min_by_key-requires-clause-callable
min_by_key-requires-clause-callable c =
    let test = λ (j : ℕ). is_none (bound_at c.args.kept.now j) in
    least_may (λ y. y.now) _ (λ j. (flow c.args.flows.now j).priority) _ (λ x b q k. search (rules, tests)) (λ j. j < 64) _ c.filter.result
    (YieldsList-from_filter _ test (YieldsList-at c.filter.ensures.source (YieldsList-from_slice c.direct.result.now cc)) c.filter.ensures.closure (λ x b q k. search (rules, tests)))
    (All-filter test (λ j. j < 64) c.direct.result.now c.direct.ensures.inside)
    (λ x h. search rules)

pub returns : goal.returns
returns c =
    let test = λ (j : ℕ). is_none (bound_at c.args.kept.now j) in
    let key = λ (j : ℕ). (flow c.args.flows.now j).priority in
    let e = least_is (λ y. y.now) _ key _ (λ x b q k. search (rules, tests)) c.filter.result c.min_by_key.result c.min_by_key.ensures.ran
    (YieldsList-from_filter _ test (YieldsList-at c.filter.ensures.source (YieldsList-from_slice c.direct.result.now cc)) c.filter.ensures.closure (λ x b q k. search (rules, tests))) in
    let m : c.map.result ≡ option_map (λ y. y.now) c.min_by_key.result = search rules in
    chosen_named test key c.args.row.now.direct c.args.row.now.many c.map.result (search rules) (m ∙ e ∙ ap (λ (l : List ℕ). least key (filter test l)) c.direct.ensures.named)
