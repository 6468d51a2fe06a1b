-- `engine_rows::hits::hit_row` meets its contract.
use Prim.Native.Nat.{◌+◌}
use lib.ListN.{length}
use Rattle.recurrence.specs.Rounding.{up}
use Rattle.engine_terms.specs.Kept.{arrivals_at}
use Rattle.engine_rows.proofs.Places.{Dealing}
use Rattle.engine_rows.proofs.hits.hit_row.Given as goal

abbrev pub invariant-loop-k : goal.invariant-loop-k
invariant-loop-k l = Dealing (λ k. up (l.bound + (arrivals_at l.kept k).shift) (arrivals_at l.kept k).period) l.named (length l.named) l.hits l.k-index
