-- `plan_checks::check_frame` meets its contract: the header is there or not, and its tag known or not.
use Rattle.framing.proofs.First.{here, past}
use Rattle.plan_checks.specs.Checks.{frame_at}
use Rattle.plan_checks.proofs.Framing.{frames}
use Rattle.plan_checks.proofs.check_frame.Goals as goal

pub returns-then-header_cut : goal.returns-then-header_cut
unfolding frame_at
returns-then-header_cut c = search here

pub returns-in-Some : goal.returns-in-Some
unfolding frame_at
returns-in-Some c = search (past, frames)

pub returns-in-None : goal.returns-in-None
unfolding frame_at
returns-in-None c = search (past, frames)
