-- `converter::convert` meets its contract.
use borrow.Author.Rules.{rules}
use mathlib.Core.Path.{◌≡◌, sym}
use Rattle.std.specs.Prelude.{Err}
use Rattle.framing.specs.Returned.{value_by}
use Rattle.converter.proofs.Converting.{refused_kept}
use Rattle.converter.proofs.convert.Goals as goal

pub returns-in_err-read : goal.returns-in_err-read
unfolding value_by
returns-in_err-read c = rw (let e : c.from_residual.result ≡ Err c.in_err-read.field-0.0 = search rules in e) (refused_kept _ (sym c.in_err-read.ensures))
