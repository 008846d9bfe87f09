-- End theorems on lines: the first line, and the lines of the rest.
use Rattle.std.specs.Prelude.{◌≡◌, cond, List, [], ◌∷◌, ℕ, suc, ◌≤◌, ◌<◌, eqb, length, drop}
use Rattle.std.proofs.Common.{sym, ap, ◌∙◌}
use Rattle.script_text.specs.Parts.{first_part}
use Rattle.script_text.proofs.PartsLaws.{parts_last, parts_more, parts_some}
use Rattle.script_lines.specs.Lines.{lines_of, last_kept}

-- the first line is what stands before the first newline, and then come the lines of the rest; without a newline the input is one line, or none
pub lines_more : (x : List ℕ) → length (first_part 10 x) < length x → lines_of x ≡ first_part 10 x ∷ lines_of (drop (suc (length (first_part 10 x))) x)
unfolding lines_of last_kept
lines_more x h =
    let rest = drop (suc (length (first_part 10 x))) x in
    let some = parts_some 10 rest in
    ap last_kept (parts_more 10 x h ∙ ap (λ (ps : List (List ℕ)). first_part 10 x ∷ ps) some.2)
    ∙ ap (λ (ps : List (List ℕ)). first_part 10 x ∷ last_kept ps) (sym some.2)

pub lines_last : (x : List ℕ) → length x ≤ length (first_part 10 x) → lines_of x ≡ cond (eqb (length x) 0) [] (x ∷ [])
unfolding lines_of last_kept
lines_last x h = ap last_kept (parts_last 10 x h)
