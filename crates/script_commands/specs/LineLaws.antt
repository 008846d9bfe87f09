-- Laws on lines, one field more: for the functions that take a line apart, field by field.
use Rattle.std.specs.Prelude.{◌≡◌, refl, Bool, true, false, cond, ◌&&◌, ◌⊎◌, None, Some, List, [], ◌∷◌, ℕ, suc, ◌+◌, ◌-◌, ◌≤◌, ◌<◌, eqb, ltb, length, get_or, take, drop}
use Rattle.std.proofs.Common.{⊎_elim, inl, inr, lt-ltb, le-ltb, sym, ap, ap₂, ◌∙◌, arith, length-drop, take_all, le-leb, ltb-true}
use Rattle.std.proofs.lemmas.Bool.{lt-leb}
use Rattle.search.specs.SearchLaws.{decided, and_left, and_right}
use Rattle.script_text.specs.Parts.{first_part, parts}
use Rattle.script_text.proofs.PartsLaws.{first_take, parts_last, parts_more, parts_some}
use Rattle.script_fields.specs.Fields.{is_number, number_in, number_option, is_pattern, is_key, symbol_words, value_bit, mask_bit}
use Rattle.script_fields.specs.declared.TwoWords.{TwoWords}
use Rattle.script_fields.proofs.FieldsLaws.{number_told, number_test, option_some, option_none}
use Rattle.script_commands.specs.Commands.{after_letter, insert_command, lookup_command, short_command, long_command, letter_of, letter_option, command_of}
use Rattle.script_commands.specs.declared.Command.TheVariants.{Insert, Lookup, Malformed}

-- what stands after the space at a place
abbrev pub tail : List ℕ → ℕ → List ℕ
tail x end = take (length x - (end + 1)) (drop (end + 1) x)

tail_drop : (x : List ℕ) (end : ℕ) → tail x end ≡ drop (end + 1) x
tail_drop x end = take_all (length x - (end + 1)) (drop (end + 1) x) (omega (arith, length-drop (end + 1) x))

-- the first space, or the end, of what starts at a place
abbrev pub EndOf : List ℕ → ℕ → ℕ → Type 0
EndOf x from end = end ≡ from + length (first_part 32 (drop from x))

module _ (x : List ℕ) (end : ℕ) (at-end : EndOf x 0 end) where
  pub one_field : length x ≤ end → parts 32 x ≡ x ∷ []
  one_field h = parts_last 32 x (omega arith)

  pub more_fields : end < length x → parts 32 x ≡ take end x ∷ parts 32 (tail x end)
  more_fields h =
      let size : length (first_part 32 x) ≡ end = omega arith in
      let count : suc (length (first_part 32 x)) ≡ end + 1 = omega arith in
      parts_more 32 x (omega arith)
      ∙ ap₂ (λ (p : List ℕ) (y : List ℕ). p ∷ parts 32 y) (first_take 32 x ∙ ap (λ (n : ℕ). take n x) size) (ap (λ (n : ℕ). drop n x) count ∙ sym (tail_drop x end))

  -- the last field, and one that is followed by another
  pub last_field : (last : ℕ) → EndOf x (end + 1) last → end < length x → length x ≤ last → parts 32 x ≡ take end x ∷ tail x end ∷ []
  last_field last e h g =
      more_fields h
      ∙ ap (λ (ps : List (List ℕ)). take end x ∷ ps)
      (parts_last 32 (tail x end) (rw (tail_drop x end) (omega (arith, length-drop (end + 1) x))))

  pub field_more : (last : ℕ) → EndOf x (end + 1) last → end < length x → last < length x
      → (p : List ℕ) × (q : List ℕ) × (ps : List (List ℕ)) × (parts 32 x ≡ take end x ∷ p ∷ q ∷ ps)
  field_more last e h g =
      let y = drop (end + 1) x in
      let rest = parts_more 32 y (omega (arith, length-drop (end + 1) x)) in
      let some = parts_some 32 (drop (suc (length (first_part 32 y))) y) in (
        first_part 32 y,
        some.0,
        some.1,
        more_fields h ∙ ap (λ (ps : List (List ℕ)). take end x ∷ ps) (ap (parts 32) (tail_drop x end) ∙ (rest ∙ ap (λ (ps : List (List ℕ)). first_part 32 y ∷ ps) some.2)),
      )

-- the code tests the fields of an insert in another order
pub regrouped : (i p q a : Bool) → q && ((i && p) && a) ≡ i && (p && (q && a))
regrouped true true true a = refl
regrouped true true false a = refl
regrouped true false true a = refl
regrouped true false false a = refl
regrouped false p true a = refl
regrouped false p false a = refl

-- a line, as it is cut at its first space
pub line_long : (line : List ℕ) → 256 < length line → Malformed ≡ command_of line
unfolding command_of
line_long line h = rw (lt-leb (length line) 256 h)

pub line_one : (line : List ℕ) (end : ℕ) → EndOf line 0 end → length line ≤ 256 → length line ≤ end → Malformed ≡ command_of line
unfolding command_of
line_one line end e h g = rw (le-leb (length line) 256 h, one_field line end e g)

pub line_more : (line : List ℕ) (end letter : ℕ) → EndOf line 0 end → length line ≤ 256 → end < length line → letter ≡ letter_of (take end line)
    → after_letter letter (parts 32 (tail line end)) ≡ command_of line
unfolding command_of
line_more line end letter e h g l =
    rw (le-leb (length line) 256 h, more_fields line end e g) (ap (λ (c : ℕ). after_letter c (parts 32 (tail line end))) l)

pub line_letter : (line : List ℕ) (end letter : ℕ) → EndOf line 0 end → length line ≤ 256 → end < length line → Some letter ≡ letter_option (take end line)
    → after_letter letter (parts 32 (tail line end)) ≡ command_of line
unfolding letter_of
line_letter line end letter e h g l = line_more line end letter e h g (by (decided (eqb (length (take end line)) 1)))
  where
    by : (eqb (length (take end line)) 1 ≡ true) ⊎ (eqb (length (take end line)) 1 ≡ false) → letter ≡ cond (eqb (length (take end line)) 1) (get_or (take end line) 0 0) 0
    by (inl t) = let told : Some letter ≡ Some (get_or (take end line) 0 0) = rw t at l in rw t cc
    by (inr f) = let told : Some letter ≡ None = rw f at l in cc

-- no letter is that of no command
letterless : (fields : List (List ℕ)) → after_letter 0 fields ≡ Malformed
unfolding short_command long_command
letterless [] = refl
letterless (a ∷ []) = refl
letterless (a ∷ b ∷ []) = refl
letterless (a ∷ b ∷ c ∷ []) = refl
letterless (a ∷ b ∷ c ∷ d ∷ []) = refl
letterless (a ∷ b ∷ c ∷ d ∷ e ∷ more) = refl

pub line_letterless : (line : List ℕ) (end : ℕ) → EndOf line 0 end → length line ≤ 256 → end < length line → None ≡ letter_option (take end line)
    → Malformed ≡ command_of line
unfolding letter_of
line_letterless line end e h g l = sym (letterless (parts 32 (tail line end))) ∙ line_more line end 0 e h g (by (decided (eqb (length (take end line)) 1)))
  where
    by : (eqb (length (take end line)) 1 ≡ true) ⊎ (eqb (length (take end line)) 1 ≡ false) → 0 ≡ cond (eqb (length (take end line)) 1) (get_or (take end line) 0 0) 0
    by (inl t) = let told : None ≡ Some (get_or (take end line) 0 0) = rw t at l in cc
    by (inr f) = rw f

-- The fields of an insert, as the code has them: three numbers, and whether the pattern is one.
module _ (id priority pattern action : List ℕ) (i p a : ℕ) (good : Bool)
    (e : i ≡ number_in id) (f : p ≡ number_in priority) (g : a ≡ number_in action) (h : good ≡ is_pattern pattern) where
  abbrev pub tested : Bool
  tested = good && ((ltb i 4294967296 && ltb p 4294967296) && ltb a 4294967296)

  tested_is : tested ≡ is_number id && (is_number priority && (is_pattern pattern && is_number action))
  tested_is = rw (h, number_test id i e, number_test priority p f, number_test action a g) (regrouped (is_number id) (is_number priority) (is_pattern pattern) (is_number action))

  pub insert_fits : tested ≡ true → (i < 4294967296) × (p < 4294967296) × (a < 4294967296)
  insert_fits t =
      let numbers = and_right good ((ltb i 4294967296 && ltb p 4294967296) && ltb a 4294967296) t in
      let two = and_left (ltb i 4294967296 && ltb p 4294967296) (ltb a 4294967296) numbers in (
        ltb-true i 4294967296 (and_left (ltb i 4294967296) (ltb p 4294967296) two),
        ltb-true p 4294967296 (and_right (ltb i 4294967296) (ltb p 4294967296) two),
        ltb-true a 4294967296 (and_right (ltb i 4294967296 && ltb p 4294967296) (ltb a 4294967296) numbers),
      )

  pub insert_good : (value mask : TwoWords) → value ≡ symbol_words value_bit pattern → mask ≡ symbol_words mask_bit pattern → tested ≡ true
      → Insert (record { id = i; priority = p; value = value; mask = mask; action = a }) ≡ insert_command id priority pattern action
  unfolding insert_command
  insert_good value mask v m t =
      let fits = insert_fits t in
      let x = (number_told id i e fits.0).1 in
      let y = (number_told priority p f fits.1).1 in
      let z = (number_told action a g fits.2).1 in
      rw (sym tested_is ∙ t) (λ k. Insert (record { id = x k; priority = y k; value = v k; mask = m k; action = z k }))

  pub insert_bad : tested ≡ false → Malformed ≡ insert_command id priority pattern action
  unfolding insert_command
  insert_bad t = rw (sym tested_is ∙ t)

-- a test of four that fails at one
failed : (good i p a : Bool) → (good ≡ false) ⊎ ((i ≡ false) ⊎ ((p ≡ false) ⊎ (a ≡ false))) → good && ((i && p) && a) ≡ false
failed false i p a h = refl
failed true false p a h = refl
failed true true false a h = refl
failed true true true false h = refl
failed true true true true h = ⊎_elim (λ e. e) (⊎_elim (λ e. e) (⊎_elim (λ e. e) (λ e. e))) h

-- The fields of an insert as they are told, one after the other: a number that is none, a pattern that is none, or all four.
module _ (id priority pattern action : List ℕ) where
  untold : (is_pattern pattern ≡ false) ⊎ ((ltb (number_in id) 4294967296 ≡ false) ⊎ ((ltb (number_in priority) 4294967296 ≡ false) ⊎ (ltb (number_in action) 4294967296 ≡ false)))
      → Malformed ≡ insert_command id priority pattern action
  untold h = insert_bad id priority pattern action (number_in id) (number_in priority) (number_in action) (is_pattern pattern) refl refl refl refl (failed _ _ _ _ h)

  pub id_none : None ≡ number_option id → Malformed ≡ insert_command id priority pattern action
  id_none e = untold (inr (inl (le-ltb (number_in id) 4294967296 (option_none id e))))

  pub priority_none : None ≡ number_option priority → Malformed ≡ insert_command id priority pattern action
  priority_none e = untold (inr (inr (inl (le-ltb (number_in priority) 4294967296 (option_none priority e)))))

  pub action_none : None ≡ number_option action → Malformed ≡ insert_command id priority pattern action
  action_none e = untold (inr (inr (inr (le-ltb (number_in action) 4294967296 (option_none action e)))))

  pub pattern_bad : is_pattern pattern ≡ false → Malformed ≡ insert_command id priority pattern action
  pattern_bad e = untold (inl e)

  pub insert_told : (i p a : ℕ) (value mask : TwoWords) → Some i ≡ number_option id → Some p ≡ number_option priority → Some a ≡ number_option action
      → is_pattern pattern ≡ true → value ≡ symbol_words value_bit pattern → mask ≡ symbol_words mask_bit pattern
      → Insert (record { id = i; priority = p; value = value; mask = mask; action = a }) ≡ insert_command id priority pattern action
  insert_told i p a value mask e f g good v m =
      let x = option_some id i e in
      let y = option_some priority p f in
      let z = option_some action a g in
      insert_good id priority pattern action i p a true x.0 y.0 z.0 (sym good) value mask v m
      (rw (lt-ltb i 4294967296 x.1, lt-ltb p 4294967296 y.1, lt-ltb a 4294967296 z.1))

-- The key of a lookup, as the code has it.
pub lookup_good : (key : List ℕ) (good : Bool) (words : TwoWords) → good ≡ is_key key → words ≡ symbol_words value_bit key → good ≡ true
    → Lookup (record { key = words }) ≡ lookup_command key
unfolding lookup_command
lookup_good key good words h e t = rw (sym h ∙ t) (λ k. Lookup (record { key = e k }))

pub lookup_bad : (key : List ℕ) (good : Bool) → good ≡ is_key key → good ≡ false → Malformed ≡ lookup_command key
unfolding lookup_command
lookup_bad key good h t = rw (sym h ∙ t)
