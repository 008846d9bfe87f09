-- `slots::rules::rule_sound` meets its contract.
-- A rule is sound where its record, lent as a rule, is.
use mathlib.Core.Path.{ap, ◌∙◌}
use mathlib.Core.List.{List}
use Prim.Native.Nat.{ℕ}
use native.Mathlib.Omega.{arith}
use Rattle.records.specs.Record.{word, sound_lent}
use Rattle.records.proofs.RulesLaws.{record_length, record_lent}
use Rattle.records.proofs.WidthsLaws.{two, lent_words}
use Rattle.slots.proofs.rules.rule_sound.Goals as goal

pub slot_given-requires : goal.slot_given-requires
slot_given-requires c = (two, rw (c.record_of-record.ensures, record_length) (omega arith))

pub returns : goal.returns
returns c =
    let rule = c.args.rule in
    let words = c.record_of-record.result in
    c.slot_given.ensures
    ∙ (ap (sound_lent 2) (lent_words 2 words)
    ∙ (ap (λ (l : List ℕ). sound_lent 2 (word l)) c.record_of-record.ensures ∙ record_lent 2 rule (omega arith)))
