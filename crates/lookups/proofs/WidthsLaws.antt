-- Laws on the call of a lookup at a width that there is.
use Rattle.std.specs.Prelude.{◌≡◌, List, ℕ, length}
use Rattle.std.proofs.Common.{ap}
use Rattle.records.specs.Record.{word}
use Rattle.records.specs.Checks.{unless}
use Rattle.records.specs.Widths.{Width}
use Rattle.records.proofs.WidthsLaws.{key_law}
use Rattle.records.specs.Verdict.{Check}
use Rattle.lookups.specs.Lookup.{lookup_answer, lookup_call}

-- with a key of as many words, the call has the lookup's answer
pub lookup_at : (w : ℕ) (t key : List ℕ) → Width w → length key ≡ w → lookup_call w t key ≡ lookup_answer w t (word key)
unfolding lookup_call
lookup_at w t key width size = ap (λ (check : Check). unless check (lookup_answer w t (word key))) ((key_law w (length key)).1 (width, size))
