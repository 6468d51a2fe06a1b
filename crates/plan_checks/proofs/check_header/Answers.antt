-- `plan_checks::check_header` meets its contract: each `return` is the first check of the chain that came out true.
use Rattle.framing.proofs.First.{checks}
use Rattle.plan_checks.specs.Checks.{header_at}
use Rattle.plan_checks.proofs.check_header.Goals as goal

pub returns-then-is_misplaced : goal.returns-then-is_misplaced
unfolding header_at
returns-then-is_misplaced c = search checks depth 12

pub returns-then-wrong_length : goal.returns-then-wrong_length
unfolding header_at
returns-then-wrong_length c = search checks depth 12

pub returns-then-body_cut : goal.returns-then-body_cut
unfolding header_at
returns-then-body_cut c = search checks depth 12

pub returns-then-no_room : goal.returns-then-no_room
unfolding header_at
returns-then-no_room c = search checks depth 12

pub returns : goal.returns
unfolding header_at
returns c = search checks depth 12
