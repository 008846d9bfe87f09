-- `slots::slot_ranked` meets its contract.
-- The mask is asked where the rank is above all priorities.
use mathlib.Core.Path.{sym, ◌∙◌}
use native.Mathlib.Omega.{arith}
use borrow.Author.Tests.{le-leb, ne_eqb}
use Rattle.records.proofs.Laws.{rank_low, rank_exact, rank_past}
use Rattle.slots.proofs.slot_ranked.Goals as goal

pub returns-then-rank-le-MOST_PRIORITY : goal.returns-then-rank-le-MOST_PRIORITY
returns-then-rank-le-MOST_PRIORITY c =
    let low = c.if-rank-le-MOST_PRIORITY.true in
    le-leb _ 65535 low ∙ sym (rank_low _ _ _ (omega (arith, c.slot_rank-rank.ensures, low)))

pub returns-then-rank-eq-EXACT_RANK : goal.returns-then-rank-eq-EXACT_RANK
returns-then-rank-eq-EXACT_RANK c = c.mask_full.ensures ∙ sym (rank_exact _ _ _ (sym c.slot_rank-rank.ensures ∙ c.if-rank-eq-EXACT_RANK.true))

pub returns-else-rank-eq-EXACT_RANK : goal.returns-else-rank-eq-EXACT_RANK
returns-else-rank-eq-EXACT_RANK c =
    let e = c.slot_rank-rank.ensures in
    ne_eqb _ 65536 c.if-rank-eq-EXACT_RANK.false
    ∙ sym (rank_past _ _ _ (omega (arith, e, c.if-rank-le-MOST_PRIORITY.false)) (λ f. c.if-rank-eq-EXACT_RANK.false (e ∙ f)))
