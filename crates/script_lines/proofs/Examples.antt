-- Worked examples: the lines of a\nb, a\n, \n, and of no input at all, by computation.
use Rattle.std.specs.Prelude.{◌≡◌, refl, [], ◌∷◌}
use Rattle.script_text.specs.Parts.{parts}
use Rattle.script_lines.specs.Lines.{last_kept, lines_of}

two_lines : lines_of (97 ∷ 10 ∷ 98 ∷ []) ≡ (97 ∷ []) ∷ (98 ∷ []) ∷ []
unfolding lines_of last_kept parts
two_lines = refl

one_line : lines_of (97 ∷ 10 ∷ []) ≡ (97 ∷ []) ∷ []
unfolding lines_of last_kept parts
one_line = refl

blank_line : lines_of (10 ∷ []) ≡ [] ∷ []
unfolding lines_of last_kept parts
blank_line = refl

no_line : lines_of [] ≡ []
unfolding lines_of last_kept parts
no_line = refl
