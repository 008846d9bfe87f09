-- `neighbour_lists::passing::note_rule` meets its contract: both rows get the slot's bit, and the lower rank stays.
use borrow.Author.Rules.{rules}
use borrow.Author.Tests.{lt-ltb, le-ltb}
use Rattle.neighbour_lists.specs.Pass.{lowered}
use Rattle.neighbour_lists.proofs.passing.note_rule.Goals as goal

pub returns-then-rank-low : goal.returns-then-rank-low
unfolding lowered
returns-then-rank-low c = record { full_after = search rules; free_after = search rules; low_after = rw (lt-ltb _ _ c.if-rank-low.true) }

pub returns-else-rank-low : goal.returns-else-rank-low
unfolding lowered
returns-else-rank-low c = record { full_after = search rules; free_after = search rules; low_after = rw (le-ltb _ _ c.if-rank-low.false) }
