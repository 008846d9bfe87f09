-- Laws on what the code holds of a line: a piece put behind the bytes held, and the line that stands when it ends.
use Rattle.std.specs.Prelude.{Bool, true, false, ◌≡◌, ℕ, ◌+◌, ◌-◌, ◌≤◌, ◌<◌, take, drop}
use Rattle.std.proofs.Common.{sym, ◌∙◌, drop_of_length-le, lt-ltb, le-ltb}
use Rattle.std.proofs.Math.Path.{ap}
use mathlib.Core.List.{List, []}
use native.Mathlib.Omega.{arith}
use Rattle.std.proofs.Math.ListN.{length, length-drop}
use Rattle.std.proofs.Math.Seq.{paste, paste-zero}
use Rattle.script_text.specs.Parts.{first_part}
use Rattle.script_text.proofs.PartsLaws.{first_le, first_take}
use Rattle.script_lines.specs.declared.Taken.{Taken}
use Rattle.script_lines.specs.Held.{room, taken_of, held_line}

-- The ways in which taking bytes ends: nothing there, a newline, the block's end.
taken_by : (held next : ℕ) (complete : Bool) → Taken
taken_by h n c = record { held = h; next = n; complete = c }

pub taken_nothing : (size held : ℕ) (block : List ℕ) (from : ℕ) → length block ≤ from
    → record { held = held; next = from; complete = false } ≡ taken_of size held (drop from block) from
unfolding taken_of first_part taken_by
taken_nothing size held block from h =
    let none = drop_of_length-le block {i = from} h in
    let same : held ≡ held + room size held 0 = omega arith in
    let here : from ≡ from + 0 = omega arith in
    rw none (λ i. taken_by (same i) (here i) false)

pub held_nothing : (line : List ℕ) (held : ℕ) (block : List ℕ) (from : ℕ) → length block ≤ from
    → line ≡ held_line line held (first_part 10 (drop from block))
unfolding held_line first_part
held_nothing line held block from h =
    rw (drop_of_length-le block {i = from} h)
    (paste-zero line held [] ∙ ap (paste line held []) (let e : 0 ≡ room (length line) held 0 = omega arith in e))

module _ (block : List ℕ) (from end : ℕ) (at-end : end ≡ from + length (first_part 10 (drop from block))) where
  pub part_within : from < length block → end ≤ length block
  part_within h = omega (arith, first_le 10 (drop from block), length-drop from block)

  pub part_taken : take (end - from) (drop from block) ≡ first_part 10 (drop from block)
  part_taken = let e : end - from ≡ length (first_part 10 (drop from block)) = omega arith in rw e (sym (first_take 10 (drop from block)))

  pub taken_line : (size held count : ℕ) → count ≡ held + room size held (length (take (end - from) (drop from block))) → end < length block
      → record { held = count; next = end + 1; complete = true } ≡ taken_of size held (drop from block) from
  unfolding taken_of taken_by
  taken_line size held count e h =
      let less : length (first_part 10 (drop from block)) < length (drop from block) = omega (arith, length-drop from block) in
      let next : end + 1 ≡ from + length (first_part 10 (drop from block)) + 1 = omega arith in
      rw (lt-ltb _ _ less) (λ i. taken_by ((e ∙ ap (λ (x : List ℕ). held + room size held (length x)) part_taken) i) (next i) true)

  pub taken_rest : (size held count : ℕ) → count ≡ held + room size held (length (take (end - from) (drop from block))) → length block ≤ end
      → record { held = count; next = end; complete = false } ≡ taken_of size held (drop from block) from
  unfolding taken_of taken_by
  taken_rest size held count e h =
      let less : length (drop from block) ≤ length (first_part 10 (drop from block)) = omega (arith, length-drop from block) in
      rw (le-ltb _ _ less) (λ i. taken_by ((e ∙ ap (λ (x : List ℕ). held + room size held (length x)) part_taken) i) (at-end i) false)
