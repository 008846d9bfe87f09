-- `table_checks::may_match` meets its contract.
-- The words read are the slot's.
use mathlib.Core.Path.{◌≡◌, ap, ap₂, ◌∙◌}
use mathlib.Core.Bool.{not, ◌&&◌}
use Prim.Native.Nat.{ℕ}
use lib.Dec.{eqb}
use Rattle.search.specs.SearchLaws.{and_more, and_stop}
use Rattle.ternary.specs.Word.{agree}
use Rattle.records.specs.Record.{slot_words, value, mask}
use Rattle.table_checks.specs.Screen.{may_match}
use Rattle.table_checks.proofs.may_match.Goals.{Joined-word_matches, then-word_matches, else-word_matches}
use Rattle.table_checks.proofs.may_match.Goals as goal

-- what the first two tests come to
words_agree : (c : Joined-word_matches)
    → c.if-word_matches.value
    ≡ agree c.args.first (value (slot_words c.args.width c.args.table.now c.args.slot) 0) (mask c.args.width (slot_words c.args.width c.args.table.now c.args.slot) 0)
    && agree c.args.second (value (slot_words c.args.width c.args.table.now c.args.slot) 1) (mask c.args.width (slot_words c.args.width c.args.table.now c.args.slot) 1)
words_agree c =
    let first = c.word_matches.ensures ∙ ap₂ (agree c.args.first) c.value_word.ensures c.mask_word.ensures in
    elim c.if-word_matches.branch [
      | then-word_matches w ↦
          w.value-is
          ∙ and_more first w.if-word_matches.true
          (w.word_matches-then-word_matches.ensures ∙ ap₂ (agree c.args.second) w.value_word-then-word_matches.ensures w.mask_word-then-word_matches.ensures)
      | else-word_matches w ↦ w.value-is ∙ (w.if-word_matches.false ∙ and_stop _ first w.if-word_matches.false)
    ]

pub returns-then-word_matches-2 : goal.returns-then-word_matches-2
unfolding may_match
returns-then-word_matches-2 c =
    and_more (words_agree (goal.at.returns-then-word_matches-2 c).Joined-word_matches) c.if-word_matches-2.true
    (ap (λ (named : ℕ). not (eqb named 0)) c.named_word.ensures)

pub returns-else-word_matches-2 : goal.returns-else-word_matches-2
unfolding may_match
returns-else-word_matches-2 c =
    let no = c.if-word_matches-2.false in
    no ∙ and_stop _ (words_agree (goal.at.returns-else-word_matches-2 c).Joined-word_matches) no
