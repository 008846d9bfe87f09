-- Document 01's sound rule in words, with document 02's rank: of a table's record, and of a rule that a call is given.
use Rattle.std.specs.Prelude.{◌≡◌, ◌⊎◌, ℕ, ◌≤◌}
use Rattle.ternary.specs.Pattern.{Words, Within, FullMask}
use Rattle.records.specs.Record.{word, value, mask, ident, rank}
use Rattle.records.specs.declared.Rule.{Rule}

-- a record's rank: at most 65,535, or 65,536 where every mask bit is set
abbrev pub RankFits : ℕ → ℕ → Words → Type 0
RankFits w rank masks = (rank ≤ 65535) ⊎ ((rank ≡ 65536) × FullMask w masks)

-- id not 0, priority or rank in its range, each value bit outside the mask 0
abbrev pub SoundParts : ℕ → ℕ → Type 0 → Words → Words → Type 0
SoundParts w id Ranged values masks = (id ≡ 0 → ⊥) × Ranged × Within w values masks

abbrev pub SoundRecord : ℕ → Words → Type 0
SoundRecord w x = SoundParts w (ident w x) (RankFits w (rank w x) (mask w x)) (value x) (mask w x)

abbrev pub SoundRule : ℕ → Rule → Type 0
SoundRule w rule = SoundParts w rule.id (rule.priority ≤ 65535) (word rule.value) (word rule.mask)
