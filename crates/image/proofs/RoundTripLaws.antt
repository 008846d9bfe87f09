-- End theorems on saving and loading: a saved image loads to the table it was saved from, and an image that loads is saved again to the same bytes.
-- So sound tables and the images that load correspond one to one.
use Rattle.std.specs.Prelude.{◌≡◌, refl, Bool, false, ◌↔◌, List, [], ◌∷◌, ◌++◌, ℕ, ◌*◌, ◌≤◌, ◌<◌, eqb, length, take, drop}
use Rattle.std.proofs.Common.{sym, ap₂, subst, ◌∙◌, true≢false, arith, take_at}
use Rattle.std.proofs.Math.Path.{ap}
use Rattle.std.proofs.Math.Decide.{dec_lt}
use Rattle.records.specs.Record.{record_words}
use Rattle.records.specs.Order.{slots}
use Rattle.records.specs.Checks.{Told, success, unless, or_else, check_shape, check_records, check_twice, check_order, slot_checks, table_checks}
use Rattle.records.proofs.Laws.{cause_not_zero, or_else_pass, shape_same, checks_loosened}
use Rattle.records.specs.declared.Cause.TheVariants.{Short}
use Rattle.records.specs.Verdict.{Check}
use Rattle.records.specs.Verdict.{Pass, Fail}
use Rattle.records.proofs.EntriesLaws.{shaped_slots}
use Rattle.records.specs.Widths.{Width, check_width, leaves}
use Rattle.records.proofs.WidthsLaws.{width_law}
use Rattle.buffers.specs.Buffers.{check_room, buffer_answer, buffer_after}
use Rattle.buffers.proofs.BuffersLaws.{buffer_accepted, buffer_short, buffer_written}
use Rattle.image.specs.Format.{image_bytes, rule_count, image_of, slots_in}
use Rattle.image.specs.Checks.{image_checks, meant, load_checks, Sound}
use Rattle.image.specs.Answers.{save_answer, save_buffer, load_answer, load_table, save_call, save_call_buffer, load_call, load_call_table}
use Rattle.image.proofs.SaveLaws.{save_answer_lem}
use Rattle.image.proofs.LoadLaws.{load_written}
use Rattle.image.proofs.Meaning.{meant_length}
use Rattle.image.specs.Reading.{Words64, Numbered}
use Rattle.image.specs.Bytes.{Bytes}
use Rattle.image.proofs.ChecksLaws.{image_law}
use Rattle.image.proofs.ReadingLaws.{slots_read}
use Rattle.image.proofs.ReloadingLaws.{saved_size, image_loads}
use Rattle.image.proofs.ResavingLaws.{image_back, meant_records, meant_words}
use Rattle.image.specs.RoundTrip.{Loads}

-- which answers are successes: the number alone tells
unless_zero : (check : Check) (answer : Told) → 0 ≡ (unless check answer).number → check ≡ Pass
unless_zero Pass answer e = refl
unless_zero (Fail cause spot) answer e = absurd (true≢false (ap (λ (n : ℕ). eqb n 0) e ∙ cause_not_zero cause))

-- a save succeeds exactly on a sound table with room for its image, and then tells the image's bytes
pub save_succeeds : (w : ℕ) (u : Bool) (t image : List ℕ) (bytes : ℕ)
    → (save_answer w u t (length image) ≡ success (bytes ∷ []))
    ↔ ((table_checks w u t ≡ Pass) × (length (image_of w t) ≤ length image) × (bytes ≡ length (image_of w t)))
save_succeeds w u t image bytes = (
  λ e. let told = save_answer_lem w u t (length image) ∙ e in
      let done = buffer_accepted (table_checks w u t) (image_of w t) image bytes told in
      (done.0, room done.0 told (dec_lt (length image) (length (image_of w t))), done.1),
  λ f. sym (save_answer_lem w u t (length image))
      ∙ (sym (buffer_written (image_of w t) image refl f.0 f.1).0 ∙ ap (λ (k : ℕ). success (k ∷ [])) (sym f.2)),
)
  where
    room : table_checks w u t ≡ Pass → buffer_answer (table_checks w u t) (length (image_of w t)) (length image) ≡ success (bytes ∷ [])
        → Dec (length image < length (image_of w t)) → length (image_of w t) ≤ length image
    room p told (yes h) =
        absurd (true≢false (sym (ap (λ (x : Told). eqb x.number 0) ((buffer_short (image_of w t) image refl p h).0 ∙ told)) ∙ cause_not_zero Short))
    room p told (no h) = omega arith

-- the number that a save tells is enough
pub save_number : (w : ℕ) (u : Bool) (t : List ℕ) (room : ℕ) → 0 ≡ (save_answer w u t room).number → save_answer w u t room ≡ success (image_bytes w (rule_count w t) ∷ [])
unfolding buffer_answer
save_number w u t room e =
    let needed = image_bytes w (rule_count w t) in
    ap (λ (check : Check). unless check (success (needed ∷ []))) (unless_zero (or_else (table_checks w u t) (check_room needed room)) (success (needed ∷ [])) e)

-- a load succeeds exactly where the lent table's shape is good, every field of the image is right, and the table meant passes 3 and 4
pub load_succeeds : (w : ℕ) (u : Bool) (b lent : List ℕ)
    → (load_answer w u b lent ≡ success [])
    ↔ ((check_shape w lent ≡ Pass) × Sound w b (slots w lent)
    × (check_twice w (meant w b (length lent)) ≡ Pass) × (check_order w u (meant w b (length lent)) ≡ Pass))
unfolding load_answer load_checks
load_succeeds w u b lent =
    let shape = check_shape w lent in
    let image = image_checks w b (slots w lent) in
    let twice = check_twice w (meant w b (length lent)) in
    let order = check_order w u (meant w b (length lent)) in (
      λ told. let halves = (or_else_pass (or_else shape image) (or_else twice order)).0 (unless_zero (load_checks w u b lent) (success []) (sym (ap (λ (x : Told). x.number) told))) in
          let fields = (or_else_pass shape image).0 halves.0 in
          let pairs = (or_else_pass twice order).0 halves.1 in
          (fields.0, (image_law w b (slots w lent)).0 fields.1, pairs.0, pairs.1),
      λ f. sym (load_written w u b lent ((or_else_pass shape image).1 (f.0, (image_law w b (slots w lent)).1 f.1))
          (sym ((or_else_pass twice order).1 (f.2, f.3))) refl).0,
    )

-- the widths that there are are narrow enough: an image has at most 51,204 bytes at two words a value, and 100,356 at five
pub width_numbered : {w : ℕ} → Width w → Numbered w
width_numbered h = omega arith

-- Demand 2: a saved image loads, into any lent table of as many slots, to the table it was saved from.
pub saved_loads : (w : ℕ) (u : Bool) (t image : List ℕ) (bytes : ℕ) → Numbered w → Words64 t → save_answer w u t (length image) ≡ success (bytes ∷ [])
    → (lent : List ℕ) → length lent ≡ length t
    → (load_answer w u (take bytes (save_buffer w u t image)) lent ≡ success []) × (load_table w u (take bytes (save_buffer w u t image)) lent ≡ t)
saved_loads w u t image bytes narrow sixty-four e lent size =
    let done = (save_succeeds w u t image bytes).0 e in
    let written = (buffer_written (image_of w t) image refl done.0 done.1).1 in
    let same : take bytes (save_buffer w u t image) ≡ image_of w t =
    ap₂ take done.2 (sym written) ∙ take_at (image_of w t) (drop (length (image_of w t)) image) (length (image_of w t)) refl in
    let loads = image_loads w u t narrow sixty-four done.0 lent size in
    (ap (λ (b : List ℕ). load_answer w u b lent) same ∙ loads.0, ap (λ (b : List ℕ). load_table w u b lent) same ∙ loads.1)

pub load_leaves : (w : ℕ) (u : Bool) (b lent : List ℕ) → Bytes b → load_answer w u b lent ≡ success [] → Loads w u b lent
unfolding table_checks slot_checks
load_leaves w u b lent bytes told = record {
  sound = ap (table_checks w u) table ∙ (or_else_pass (slot_checks w m) (or_else (check_twice w m) (check_order w u m))).1 (
    (or_else_pass (check_shape w m) (check_records w m)).1 (shape_same w lent m (meant_length w b n s ∙ sym size) ∙ right.0, meant_records w b n s),
    (or_else_pass (check_twice w m) (check_order w u m)).1 (ap (check_twice w) (sym meant_same) ∙ right.2, ap (check_order w u) (sym meant_same) ∙ right.3),
  );
  words = subst Words64 (sym table) (meant_words w b n s bytes);
  size = ap length table ∙ (meant_length w b n s ∙ sym size);
  image = ap (image_of w) table ∙ image_back w b n s bytes;
}
  where
    n : ℕ
    n = slots w lent

    m : List ℕ
    m = meant w b (n * record_words w)

    right : (check_shape w lent ≡ Pass) × Sound w b n × (check_twice w (meant w b (length lent)) ≡ Pass) × (check_order w u (meant w b (length lent)) ≡ Pass)
    right = (load_succeeds w u b lent).0 told

    size : length lent ≡ n * record_words w
    size = (shaped_slots w lent right.0).2

    s : Sound w b n
    s = right.1

    meant_same : meant w b (length lent) ≡ m
    meant_same = ap (meant w b) size

    table : load_table w u b lent ≡ m
    table =
        sym (load_written w u b lent ((or_else_pass (check_shape w lent) (image_checks w b n)).1 (right.0, (image_law w b n).1 s))
        (sym ((or_else_pass (check_twice w _) (check_order w u _)).1 (right.2, right.3))) refl).1
        ∙ meant_same

-- Document 01: an image that loads is saved again to the same bytes; what stands past it stays.
pub loaded_saves : (w : ℕ) (u : Bool) (b lent : List ℕ) → Bytes b → load_answer w u b lent ≡ success [] → (image : List ℕ) → length b ≤ length image
    → (save_answer w u (load_table w u b lent) (length image) ≡ success (length b ∷ []))
    × (save_buffer w u (load_table w u b lent) image ≡ b ++ drop (length b) image)
loaded_saves w u b lent bytes told image room =
    let left = load_leaves w u b lent bytes told in
    let t = load_table w u b lent in
    let size : length (image_of w t) ≡ length b = ap length left.image in
    let done = buffer_written (image_of w t) image refl left.sound (omega arith) in (
      sym (save_answer_lem w u t (length image)) ∙ (sym done.0 ∙ ap (λ (k : ℕ). success (k ∷ [])) size),
      sym done.1 ∙ ap (λ (bytes : List ℕ). bytes ++ drop (length bytes) image) left.image,
    )

-- So sound tables and the images that load correspond one to one: different tables have different images,
pub one_image : (w : ℕ) (u : Bool) (t v : List ℕ) → Numbered w → Words64 t → Words64 v → table_checks w u t ≡ Pass → table_checks w u v ≡ Pass → image_of w t ≡ image_of w v → t ≡ v
one_image w u t v narrow left right p q same =
    let slots_same : slots w t ≡ slots w v =
    sym (slots_read w u t narrow left p) ∙ (ap slots_in same ∙ slots_read w u v narrow right q) in
    let a = saved_size w u t narrow left p in
    let c = saved_size w u v narrow right q in
    let long : length t ≡ length v = a ∙ (ap (λ (n : ℕ). n * record_words w) slots_same ∙ sym c) in
    sym (image_loads w u t narrow left p t refl).1 ∙ (ap (λ (b : List ℕ). load_table w u b t) same ∙ (image_loads w u v narrow right q t long).1)

-- and different images load to different tables.
pub one_table : (w : ℕ) (u : Bool) (b c lent other : List ℕ) → Bytes b → Bytes c → load_answer w u b lent ≡ success [] → load_answer w u c other ≡ success []
    → load_table w u b lent ≡ load_table w u c other → b ≡ c
one_table w u b c lent other left right p q same =
    sym (load_leaves w u b lent left p).image ∙ (ap (image_of w) same ∙ (load_leaves w u c other right q).image)

-- Document 02's calls, at any width. One that succeeds is made at a width that there is, and answers and leaves as stated above.
module _ (w : ℕ) (u : Bool) where
  call_passes : (answer : Told) → 0 ≡ (unless (check_width w) answer).number → check_width w ≡ Pass
  call_passes answer e = unless_zero (check_width w) answer e

  call_answer_lem : check_width w ≡ Pass → (answer : Told) → unless (check_width w) answer ≡ answer
  call_answer_lem p answer = ap (λ (check : Check). unless check answer) p

  call_leaves : check_width w ≡ Pass → (after before : List ℕ) → leaves (check_width w) after before ≡ after
  call_leaves p after before = ap (λ (check : Check). leaves check after before) p

  -- the number that a save tells is enough
  pub save_call_number : (t : List ℕ) (room : ℕ) → 0 ≡ (save_call w u t room).number → save_call w u t room ≡ success (image_bytes w (rule_count w t) ∷ [])
  save_call_number t room e =
      let p = call_passes (save_answer w u t room) e in
      let same = call_answer_lem p (save_answer w u t room) in
      same ∙ save_number w u t room (e ∙ ap (λ (x : Told). x.number) same)

  -- a table that is saved is sound
  saved_sound : (t : List ℕ) (room : ℕ) → 0 ≡ (save_call w u t room).number → table_checks w u t ≡ Pass
  unfolding buffer_answer
  saved_sound t room e =
      let needed = image_bytes w (rule_count w t) in
      let same = call_answer_lem (call_passes (save_answer w u t room) e) (save_answer w u t room) in
      ((or_else_pass (table_checks w u t) (check_room needed room)).0
      (unless_zero (or_else (table_checks w u t) (check_room needed room)) (success (needed ∷ [])) (e ∙ ap (λ (x : Told). x.number) same))).0

  -- Demand 2: what a successful save left loads, into any lent table of as many slots, to the table that was saved.
  pub saved_loads_call : (t image : List ℕ) (bytes : ℕ) → Words64 t → save_call w u t (length image) ≡ success (bytes ∷ [])
      → (lent : List ℕ) → length lent ≡ length t
      → (load_call w u (take bytes (save_call_buffer w u t image)) lent ≡ success []) × (load_call_table w u (take bytes (save_call_buffer w u t image)) lent ≡ t)
  saved_loads_call t image bytes sixty-four e lent size =
      let p = call_passes (save_answer w u t (length image)) (sym (ap (λ (x : Told). x.number) e)) in
      let told = sym (call_answer_lem p (save_answer w u t (length image))) ∙ e in
      let loads = saved_loads w u t image bytes (width_numbered ((width_law w).0 p)) sixty-four told lent size in
      let saved = take bytes (save_call_buffer w u t image) in
      let same : saved ≡ take bytes (save_buffer w u t image) = ap (take bytes) (call_leaves p (save_buffer w u t image) image) in (
        call_answer_lem p (load_answer w u saved lent) ∙ (ap (λ (b : List ℕ). load_answer w u b lent) same ∙ loads.0),
        call_leaves p (load_table w u saved lent) lent ∙ (ap (λ (b : List ℕ). load_table w u b lent) same ∙ loads.1),
      )

  -- an image that loads is saved again to the same bytes
  pub loaded_saves_call : (b lent : List ℕ) → Bytes b → load_call w u b lent ≡ success [] → (image : List ℕ) → length b ≤ length image
      → (save_call w u (load_call_table w u b lent) (length image) ≡ success (length b ∷ []))
      × (save_call_buffer w u (load_call_table w u b lent) image ≡ b ++ drop (length b) image)
  loaded_saves_call b lent bytes e image room =
      let p = call_passes (load_answer w u b lent) (sym (ap (λ (x : Told). x.number) e)) in
      let told = sym (call_answer_lem p (load_answer w u b lent)) ∙ e in
      let saves = loaded_saves w u b lent bytes told image room in
      let t = load_call_table w u b lent in
      let same : t ≡ load_table w u b lent = call_leaves p (load_table w u b lent) lent in (
        call_answer_lem p (save_answer w u t (length image)) ∙ (ap (λ (v : List ℕ). save_answer w u v (length image)) same ∙ saves.0),
        call_leaves p (save_buffer w u t image) image ∙ (ap (λ (v : List ℕ). save_buffer w u v image) same ∙ saves.1),
      )

-- document 02, 2026-11: a save that succeeds on a table named as counted answers and leaves what it would on the same table named as uncounted
pub saved_loosened : (w : ℕ) (u : Bool) (t image : List ℕ) → 0 ≡ (save_call w false t (length image)).number
    → (save_call w false t (length image) ≡ save_call w u t (length image)) × (save_call_buffer w false t image ≡ save_call_buffer w u t image)
saved_loosened w u t image e =
    let sound = saved_sound w false t (length image) e in
    let same : table_checks w false t ≡ table_checks w u t = sound ∙ sym (checks_loosened w u t sound) in (
      ap (λ (check : Check). unless (check_width w) (buffer_answer check (image_bytes w (rule_count w t)) (length image))) same,
      ap (λ (check : Check). leaves (check_width w) (buffer_after check (image_of w t) image) image) same,
    )
