-- `engine::analyse_table` meets its contract: a line for each goal, by the lemmas of Answering.
use mathlib.Core.Path.{refl}
use Rattle.engine.proofs.Answering.{answering_none, inside, sooner, turned, answering_more, answering_all}
use borrow.Author.Rules.{rules}
use Rattle.engine.proofs.analyse_table.Goals as goal

pub loop-i-init : goal.loop-i-init
loop-i-init c = answering_none c.requires.0 c.requires.1 (search rules) refl

pub turn_of-turn-requires : goal.turn_of-turn-requires
turn_of-turn-requires c = let w = c.loop-i.invariant in record { scene = w.scene; inside = inside w c.next_flow.ensures c.in-Some.is; pairs = w.pairs }

pub verdict_of-verdict-requires : goal.verdict_of-verdict-requires
verdict_of-verdict-requires c = record { way = c.of-way.ensures; turn = turned c.loop-i.invariant c.next_flow.ensures c.in-Some.is c.turn_of-turn.ensures }

pub kept_of-requires : goal.kept_of-requires
kept_of-requires c = record { way = c.of-way.ensures; turn = turned c.loop-i.invariant c.next_flow.ensures c.in-Some.is c.turn_of-turn.ensures; verdict = c.verdict_of-verdict.ensures }

pub loop-i-smaller : goal.loop-i-smaller
loop-i-smaller c = sooner c.loop-i.invariant c.next_flow.ensures c.in-Some.is

pub loop-i-preserved : goal.loop-i-preserved
loop-i-preserved c = answering_more c.loop-i.invariant c.next_flow.ensures c.in-Some.is c.turn_of-turn.ensures.place c.kept_of.ensures c.verdict_of-verdict.ensures

pub returns : goal.returns
returns c = answering_all c.loop-i.invariant c.next_flow.ensures c.in_default.is
