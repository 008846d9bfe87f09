-- End theorems on reading in blocks: however the input is cut, the lines handed out, with their numbers, are those of the whole input.
-- So what the program prints and the last table are those of the whole input.
use Rattle.std.specs.Prelude.{◌≡◌, true, eqb, take, drop}
use Rattle.std.proofs.Math.Path.{refl, sym, ap}
use Rattle.std.proofs.Common.{ap₂, ◌∙◌, subst, arith, length-drop, drop_of_length-le, take_all, drop-drop, take-take}
use Rattle.std.proofs.Math.Bool.{cond}
use mathlib.Core.List.{List, [], ◌∷◌, ◌++◌, append_assoc, append-nil}
use Prim.Native.Nat.{ℕ, zero, suc, ◌+◌, ◌-◌, ◌≤◌, ◌<◌, min}
use Rattle.std.proofs.Math.Decide.{ℕ_discrete, dec_lt, dec_le}
use Rattle.std.proofs.Math.ListN.{length, length-append}
use Rattle.std.proofs.Math.Seq.{length-paste, take-paste, drop-append-add, append_snoc}
use Rattle.std.proofs.lemmas.List.{drop-append-le}
use borrow.Author.Tests.{lt-ltb, le-ltb, eq-eqb, ne_eqb}
use Rattle.script_text.specs.Parts.{first_part, unparted}
use Rattle.script_text.proofs.PartsLaws.{first_append, first_in, first_all, first_unparted, unparted_first, unparted_append}
use Rattle.script_lines.specs.Lines.{lines_of, next_number}
use Rattle.script_lines.specs.Held.{room, held_line, taken_of}
use Rattle.script_lines.proofs.LinesLaws.{lines_more, lines_last}
use Rattle.script_lines.specs.Blocks.{Outcome, finished, handed_out, turns, answered, taking, blocks_read, Handed, listing, Reading, whole}
use Rattle.script_lines.specs.Blocks.{numbered, started, outcome}

-- take of a text in two parts
take_both : (m : ℕ) (x y : List ℕ) → take m (x ++ y) ≡ take m x ++ take (m - length x) y
take_both zero [] y = refl
take_both zero (b ∷ x) y = let e : 0 - suc (length x) ≡ 0 = omega arith in rw e
take_both (suc m) [] y = let e : suc m - 0 ≡ suc m = omega arith in rw e
take_both (suc m) (b ∷ x) y = let e : suc m - suc (length x) ≡ m - length x = omega arith in rw e (ap (λ (l : List ℕ). b ∷ l) (take_both m x y))

take_min : (m : ℕ) (x : List ℕ) → take (min m (length x)) x ≡ take m x
take_min m x = by (dec_le m (length x))
  where
    by : Dec (m ≤ length x) → take (min m (length x)) x ≡ take m x
    by (yes h) = let e : min m (length x) ≡ m = omega arith in rw e
    by (no h) = take_all (min m (length x)) x (omega arith) ∙ sym (take_all m x (omega arith))

-- The handler may not tell a line from its first 257 bytes: a longer one is malformed, whatever follows.
module _ {S : Type 0} (run : S → ℕ → List ℕ → Outcome S) (short : (table : S) (number : ℕ) (line : List ℕ) → run table number (take 257 line) ≡ run table number line) where
  -- the reading has begun a line with these bytes
  record Begun (begun : List ℕ) (r : Reading S) : Type 0 where
    size : length r.line ≡ 257
    count : r.held ≡ min (length begun) 257
    bytes : take r.held r.line ≡ take 257 begun
    unended : unparted 10 begun ≡ true

  -- what it comes to when these lines are still to be handed out
  abbrev ahead : Reading S → List (List ℕ) → Outcome S
  ahead r lines =
      let rest = answered run r.table r.number lines in
      record { table = rest.table; printed = r.printed ++ rest.printed }

  -- the line begun is handed out
  hand : (r : Reading S) (line : List ℕ) (lines : List (List ℕ)) → Begun line r → ahead r (line ∷ lines) ≡ ahead (handed_out run r) lines
  unfolding answered
  hand r line lines b =
      let told = run r.table r.number line in
      let e : run r.table r.number (take r.held r.line) ≡ told = ap (run r.table r.number) b.bytes ∙ short r.table r.number line in
      let after : Outcome S → Outcome S = λ a. answered run a.table (next_number r.number) lines in
      let regroup = sym (append_assoc r.printed told.printed (after told).printed) in
      ap (λ (printed : List ℕ). record { table = (after told).table; printed = printed }) regroup
      ∙ ap (λ (a : Outcome S). record { table = (after a).table; printed = (r.printed ++ a.printed) ++ (after a).printed }) (sym e)

  begun_none : (r : Reading S) → length r.line ≡ 257 → r.held ≡ 0 → Begun [] r
  unfolding unparted
  begun_none r h e = record { size = h; count = omega arith; bytes = rw e; unended = refl }

  -- bytes without a newline go behind those begun
  begun_more : (r : Reading S) (block : List ℕ) (at : ℕ) (begun : List ℕ) → Begun begun r → Begun (begun ++ first_part 10 (drop at block)) (taking run r block at)
  unfolding held_line taken_of
  begun_more r block at begun b = record {
    size = length-paste r.line r.held piece fit (omega arith) (omega arith) ∙ b.size;
    count = simp length-append (omega arith);
    bytes = take-paste r.line r.held piece fit (omega arith) (omega arith) ∙ (ap₂ ◌++◌ b.bytes rest ∙ sym (take_both 257 begun piece));
    unended = unparted_append 10 begun piece b.unended (first_unparted 10 (drop at block));
  }
    where
      piece : List ℕ
      piece = first_part 10 (drop at block)

      fit : ℕ
      fit = room (length r.line) r.held (length piece)

      rest : take fit piece ≡ take (257 - length begun) piece
      rest = let e : fit ≡ min (257 - length begun) (length piece) = omega (arith, b.size, b.count) in rw e (take_min (257 - length begun) piece)

  -- from one reading to another, this text having been read: the same lines are still to be handed out
  record Goes (r after : Reading S) (text : List ℕ) : Type 0 where
    left : List ℕ
    begun : Begun left after
    same : (more : List ℕ) → ahead r (lines_of (text ++ more)) ≡ ahead after (lines_of (left ++ more))

  stays : (r : Reading S) (block : List ℕ) (at : ℕ) (begun : List ℕ) → length block ≤ at → Begun begun r → Goes r r (begun ++ drop at block)
  stays r block at begun h b = record {
    left = begun;
    begun = b;
    same = λ more. rw (drop_of_length-le block {i = at} h, append-nil begun) refl;
  }

  -- the first line of a text that goes on with a newline
  line_first : (begun rest more : List ℕ) → unparted 10 begun ≡ true → length (first_part 10 rest) < length rest
      → lines_of ((begun ++ rest) ++ more) ≡ (begun ++ first_part 10 rest) ∷ lines_of (drop (suc (length (first_part 10 rest))) rest ++ more)
  line_first begun rest more u h =
      let first : first_part 10 ((begun ++ rest) ++ more) ≡ begun ++ first_part 10 rest =
      ap (first_part 10) (append_assoc begun rest more) ∙ (first_append 10 begun (rest ++ more) u ∙ ap (λ (x : List ℕ). begun ++ x) (first_in 10 rest more h)) in
      let size : length (first_part 10 ((begun ++ rest) ++ more)) ≡ length begun + length (first_part 10 rest) = ap length first ∙ length-append begun (first_part 10 rest) in
      let whole : length ((begun ++ rest) ++ more) ≡ length begun + length rest + length more = simp length-append in
      let count : suc (length begun + length (first_part 10 rest)) ≡ length begun + suc (length (first_part 10 rest)) = omega arith in
      let after : drop (suc (length (first_part 10 ((begun ++ rest) ++ more)))) ((begun ++ rest) ++ more) ≡ drop (suc (length (first_part 10 rest))) rest ++ more =
      ap₂ drop (ap suc size ∙ count) (append_assoc begun rest more)
      ∙ (drop-append-add begun (rest ++ more) (suc (length (first_part 10 rest))) ∙ drop-append-le (suc (length (first_part 10 rest))) rest more h) in
      lines_more ((begun ++ rest) ++ more) (omega arith) ∙ ap₂ (λ (l : List ℕ) (x : List ℕ). l ∷ lines_of x) first after

  -- the turns of a block
  turns_line : (k : ℕ) (r : Reading S) (block : List ℕ) (at : ℕ) → at < length block → length (first_part 10 (drop at block)) < length (drop at block)
      → turns run (suc k) r block at ≡ turns run k (handed_out run (taking run r block at)) block (at + length (first_part 10 (drop at block)) + 1)
  unfolding turns taken_of
  turns_line k r block at h g = rw (lt-ltb at (length block) h, lt-ltb _ _ g)

  turns_rest : (k : ℕ) (r : Reading S) (block : List ℕ) (at : ℕ) → at < length block → length (drop at block) ≤ length (first_part 10 (drop at block))
      → turns run (suc k) r block at ≡ turns run k (taking run r block at) block (at + length (first_part 10 (drop at block)))
  unfolding turns taken_of
  turns_rest k r block at h g = rw (lt-ltb at (length block) h, le-ltb _ _ g)

  turns_none : (k : ℕ) (r : Reading S) (block : List ℕ) (at : ℕ) → length block ≤ at → turns run k r block at ≡ r
  unfolding turns
  turns_none zero r block at h = refl
  turns_none (suc k) r block at h = rw (le-ltb at (length block) h)

  turns_law : (k : ℕ) (r : Reading S) (block : List ℕ) (at : ℕ) (begun : List ℕ) → length block ≤ at + k → Begun begun r
      → Goes r (turns run k r block at) (begun ++ drop at block)
  turns_law zero r block at begun h b =
      subst (λ (x : Reading S). Goes r x (begun ++ drop at block)) (sym (turns_none zero r block at (omega arith))) (stays r block at begun (omega arith) b)
  turns_law (suc k) r block at begun h b = by (dec_lt at (length block)) (dec_lt (length piece) (length (drop at block))) (turns_law k)
    where
      piece : List ℕ
      piece = first_part 10 (drop at block)

      after : Reading S
      after = taking run r block at

      held : Begun (begun ++ piece) after
      held = begun_more r block at begun b

      by : Dec (at < length block) → Dec (length piece < length (drop at block))
          → ((x : Reading S) (block : List ℕ) (at : ℕ) (begun : List ℕ) → length block ≤ at + k → Begun begun x → Goes x (turns run k x block at) (begun ++ drop at block))
          → Goes r (turns run (suc k) r block at) (begun ++ drop at block)
      by (no l) d next =
          subst (λ (x : Reading S). Goes r x (begun ++ drop at block)) (sym (turns_none (suc k) r block at (omega arith))) (stays r block at begun (omega arith) b)
      by (yes l) (yes g) next =
          let there = next (handed_out run after) block (at + length piece + 1) [] (omega arith) (begun_none (handed_out run after) held.size refl) in
          let rest : drop (suc (length piece)) (drop at block) ≡ drop (at + length piece + 1) block =
          drop-drop (suc (length piece)) at block ∙ ap (λ (n : ℕ). drop n block) (let e : at + suc (length piece) ≡ at + length piece + 1 = omega arith in e) in
          subst (λ (x : Reading S). Goes r x (begun ++ drop at block)) (sym (turns_line k r block at l g))
          (record {
            left = there.left;
            begun = there.begun;
            same = λ more.
                ap (ahead r) (line_first begun (drop at block) more b.unended g)
                ∙ (hand after (begun ++ piece) (lines_of (drop (suc (length piece)) (drop at block) ++ more)) held
                ∙ (ap (λ (x : List ℕ). ahead (handed_out run after) (lines_of (x ++ more))) rest ∙ there.same more));
          })
      by (yes l) (no g) next =
          let all : piece ≡ drop at block = first_all 10 (drop at block) (omega arith) in
          subst (λ (x : Reading S). Goes r x (begun ++ drop at block)) (sym (turns_rest k r block at l (omega arith)))
          (subst (λ (x : Reading S). Goes r x (begun ++ drop at block)) (sym (turns_none k after block (at + length piece) (omega (arith, ap length all, length-drop at block))))
          (record {
            left = begun ++ drop at block;
            begun = subst (λ (x : List ℕ). Begun (begun ++ x) after) all held;
            same = λ more. refl;
          }))

  blocks_law : (blocks : List (List ℕ)) (r : Reading S) (begun : List ℕ) → Begun begun r → Goes r (blocks_read run r blocks) (begun ++ whole blocks)
  unfolding blocks_read whole
  blocks_law [] r begun b = record { left = begun; begun = b; same = λ more. rw (append-nil begun) refl }
  blocks_law (block ∷ blocks) r begun b =
      let first = turns_law (length block) r block 0 begun (omega arith) b in
      let rest = blocks_law blocks (turns run (length block) r block 0) first.left first.begun in
      record {
        left = rest.left;
        begun = rest.begun;
        same = λ more.
            ap (λ (x : List ℕ). ahead r (lines_of x)) (ap (λ (x : List ℕ). x ++ more) (sym (append_assoc begun block (whole blocks))) ∙ append_assoc (begun ++ block) (whole blocks) more)
            ∙ (first.same (whole blocks ++ more)
            ∙ (ap (λ (x : List ℕ). ahead (turns run (length block) r block 0) (lines_of x)) (sym (append_assoc first.left (whole blocks) more)) ∙ rest.same more));
      }

  finished_law : (r : Reading S) (begun : List ℕ) → Begun begun r → ahead r (lines_of begun) ≡ outcome run (finished run r)
  unfolding answered
  finished_law r begun b = by (ℕ_discrete (length begun) 0)
    where
      lines : lines_of begun ≡ cond (eqb (length begun) 0) [] (begun ∷ [])
      lines = lines_last begun (let e = unparted_first 10 begun b.unended in omega (arith, ap length e))

      ends : (x : Reading S) → ahead x [] ≡ outcome run x
      ends x = ap (λ (printed : List ℕ). record { table = x.table; printed = printed }) (append-nil x.printed)

      by : Dec (length begun ≡ 0) → ahead r (lines_of begun) ≡ outcome run (finished run r)
      by (yes e) = rw (lines, eq-eqb _ _ e, le-ltb 0 r.held (omega (arith, b.count))) (ends r)
      by (no e) = rw (lines, ne_eqb _ _ e, lt-ltb 0 r.held (omega (arith, b.count))) (hand r begun [] b ∙ ends (handed_out run r))

  -- However the input is cut into blocks: the last table and all that is printed are those of the lines of the whole input, numbered from 1.
  pub blocks_as_whole : (table : S) (line : List ℕ) (blocks : List (List ℕ)) → length line ≡ 257
      → outcome run (finished run (blocks_read run (started run table line) blocks)) ≡ answered run table 1 (lines_of (whole blocks))
  blocks_as_whole table line blocks h =
      let first = started run table line in
      let there = blocks_law blocks first [] (begun_none first h refl) in
      sym
      (ap (λ (x : List ℕ). ahead first (lines_of x)) (sym (append-nil (whole blocks)))
      ∙ (there.same []
      ∙ (ap (λ (x : List ℕ). ahead (blocks_read run first blocks) (lines_of x)) (append-nil there.left) ∙ finished_law (blocks_read run first blocks) there.left there.begun)))

listing_law : (handed : List Handed) (number : ℕ) (lines : List (List ℕ)) → (answered listing handed number lines).table ≡ handed ++ numbered number lines
unfolding answered numbered
listing_law handed number [] = sym (append-nil handed)
listing_law handed number (line ∷ lines) =
    listing_law (handed ++ record { number = number; bytes = take 257 line } ∷ []) (next_number number) lines
    ∙ append_snoc handed (record { number = number; bytes = take 257 line }) (numbered (next_number number) lines)

-- however the input is cut, they are the lines of the whole input, numbered from 1
pub blocks_hand_out : (line : List ℕ) (blocks : List (List ℕ)) → length line ≡ 257
    → (finished listing (blocks_read listing (started listing [] line) blocks)).table ≡ numbered 1 (lines_of (whole blocks))
blocks_hand_out line blocks h =
    ap (λ (o : Outcome (List Handed)). o.table) (blocks_as_whole listing cut [] line blocks h) ∙ listing_law [] 1 (lines_of (whole blocks))
  where
    cut : (handed : List Handed) (number : ℕ) (line : List ℕ) → listing handed number (take 257 line) ≡ listing handed number line
    cut handed number line =
        ap (λ (b : List ℕ). record { table = handed ++ record { number = number; bytes = b } ∷ []; printed = [] }) (take-take 257 257 line (omega arith))
