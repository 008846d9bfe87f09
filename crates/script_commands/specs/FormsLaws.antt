-- End theorems on malformed lines: a line is malformed exactly when it has none of the four forms.
use Rattle.std.specs.Prelude.{◌≡◌, refl, Bool, true, false, cond, ◌&&◌, ◌||◌, ◌↔◌, ◌⊎◌, List, [], ◌∷◌, ℕ, suc, ◌≤◌, ◌<◌, eqb, ltb, leb, length, get_or}
use Rattle.std.proofs.Common.{sym, ap, ◌∙◌, true≢false, inl, inr, ⊎_elim, arith, eqb-true, ne_eqb, leb-true, le-leb, ltb-true, lt-ltb}
use Rattle.std.proofs.Math.Decide.{dec_le}
use Rattle.std.proofs.lemmas.Bool.{eqb-false, lt-leb}
use Rattle.search.specs.SearchLaws.{decided, and_law}
use Rattle.script_text.specs.Decimal.{digit, decimal, every}
use Rattle.script_text.specs.Parts.{parts}
use Rattle.script_fields.specs.Fields.{symbol, sized, is_number, is_pattern, is_key}
use Rattle.script_fields.proofs.FieldsLaws.{every_at}
use Rattle.script_commands.specs.declared.Command.{Command}
use Rattle.script_commands.specs.declared.Command.TheVariants.{Table, Insert, Delete, Lookup, Malformed}
use Rattle.script_commands.specs.Commands.{letter_of, table_command, insert_command, delete_command, lookup_command, short_command, long_command, of_fields, command_of}
use Rattle.script_commands.specs.Forms.{FieldOf, NumberField, KeyField, PatternField, letter_field, TableForm, InsertForm, DeleteForm, LookupForm, Form, WellFormed}

-- a field that has a letter is that letter alone
letter_field_lem : (field : List ℕ) (letter : ℕ) → eqb letter 0 ≡ false → eqb (letter_of field) letter ≡ true → field ≡ letter_field letter
unfolding letter_of
letter_field_lem [] letter other e = absurd (true≢false (sym (ap (λ (n : ℕ). eqb n 0) (sym (eqb-true 0 letter e))) ∙ other))
letter_field_lem (a ∷ []) letter other e = ap letter_field (eqb-true a letter e)
letter_field_lem (a ∷ b ∷ more) letter other e =
    let long : eqb (length (a ∷ b ∷ more)) 1 ≡ false = ne_eqb (length (a ∷ b ∷ more)) 1 (λ z. omega arith) in
    let none : eqb 0 letter ≡ true = sym (ap (λ (one : Bool). eqb (cond one a 0) letter) long) ∙ e in
    absurd (true≢false (sym (ap (λ (n : ℕ). eqb n 0) (sym (eqb-true 0 letter none))) ∙ other))

-- every byte of a field
every_law : (p : ℕ → Bool) (x : List ℕ) → ((k : ℕ) → k < length x → p (get_or x k 0) ≡ true) → every p x ≡ true
unfolding every
every_law p [] each = refl
every_law p (a ∷ x) each = (and_law (p a) (every p x)).1 (each 0 (omega arith), every_law p x (λ k h. each (suc k) (omega arith)))

-- a field of 1 to so many bytes, each of which passes a test
field_law : (most : ℕ) (p : ℕ → Bool) (Byte : ℕ → Type 0) (field : List ℕ) → ((b : ℕ) → (p b ≡ true) ↔ Byte b)
    → (sized most field && every p field ≡ true) ↔ FieldOf most Byte field
field_law most p Byte field law =
    let both = and_law (sized most field) (every p field) in
    let size = and_law (leb 1 (length field)) (leb (length field) most) in (
      λ e. let a = both.0 e in
          let s = size.0 a.0 in
          (leb-true _ _ s.0, leb-true _ _ s.1, λ k h. (law (get_or field k 0)).0 (every_at p field a.1 k h)),
      λ f. both.1 (size.1 (le-leb _ _ f.0, le-leb _ _ f.1), every_law p field (λ k h. (law (get_or field k 0)).1 (f.2 k h))),
    )

between_law : (low high b : ℕ) → (leb low b && leb b high ≡ true) ↔ ((low ≤ b) × (b ≤ high))
between_law low high b =
    let both = and_law (leb low b) (leb b high) in
    (λ e. let a = both.0 e in (leb-true _ _ a.0, leb-true _ _ a.1), λ f. both.1 (le-leb _ _ f.0, le-leb _ _ f.1))

number_law : (field : List ℕ) → (is_number field ≡ true) ↔ NumberField field
unfolding is_number
number_law field =
    let field_is = field_law 10 digit (λ byte. (48 ≤ byte) × (byte ≤ 57)) field (λ b. between_law 48 57 b) in
    let whole = and_law (sized 10 field) (every digit field && ltb (decimal field) 4294967296) in
    let rest = and_law (every digit field) (ltb (decimal field) 4294967296) in
    let both = and_law (sized 10 field) (every digit field) in (
      λ e. let a = whole.0 e in let b = rest.0 a.1 in (field_is.0 (both.1 (a.0, b.0)), ltb-true _ _ b.1),
      λ f. let c = both.0 (field_is.1 f.0) in whole.1 (c.0, rest.1 (c.1, lt-ltb _ _ f.1)),
    )

bits_law : (b : ℕ) → (leb 48 b && leb b 49 ≡ true) ↔ ((b ≡ 48) ⊎ (b ≡ 49))
bits_law b = let l = between_law 48 49 b in (λ e. pick (l.0 e) (dec_le b 48), λ f. l.1 (⊎_elim (λ z. (omega arith, omega arith)) (λ z. (omega arith, omega arith)) f))
  where
    pick : (48 ≤ b) × (b ≤ 49) → Dec (b ≤ 48) → (b ≡ 48) ⊎ (b ≡ 49)
    pick p (yes h) = inl (omega (arith, p.0))
    pick p (no h) = inr (omega (arith, p.1))

key_law : (field : List ℕ) → (is_key field ≡ true) ↔ KeyField field
key_law field = field_law 128 (symbol 49 false) _ field bits_law

pattern_law : (field : List ℕ) → (is_pattern field ≡ true) ↔ PatternField field
pattern_law field = field_law 128 (symbol 49 true) _ field (λ b. star (eqb b 42) b refl)
  where
    star : (is : Bool) (b : ℕ) → eqb b 42 ≡ is → (symbol 49 true b ≡ true) ↔ ((b ≡ 42) ⊎ ((b ≡ 48) ⊎ (b ≡ 49)))
    star true b e = (λ f. inl (eqb-true b 42 e), λ f. ap (λ (s : Bool). s || (leb 48 b && leb b 49)) e)
    star false b e =
        let plain : symbol 49 true b ≡ leb 48 b && leb b 49 = ap (λ (s : Bool). s || (leb 48 b && leb b 49)) e in (
          λ f. inr ((bits_law b).0 (sym plain ∙ f)),
          λ f. plain ∙ (bits_law b).1 (⊎_elim (λ z. absurd (eqb-false b 42 e z)) (λ g. g) f),
        )

-- a command that a line says
abbrev pub says : Command → Bool
says (Table new) = true
says (Insert insertion) = true
says (Delete deletion) = true
says (Lookup query) = true
says Malformed = false

-- a choice between a command and a malformed line, where the test holds
taken : (test : Bool) (command : Command) → cond test command Malformed ≡ Malformed → test ≡ true → says command ≡ true → ⊥
taken test command e holds said = true≢false (sym said ∙ ap says (sym (ap (λ (b : Bool). cond b command Malformed) holds) ∙ e))

-- a form is no malformed line
table_said : (fields : List (List ℕ)) → TableForm fields → of_fields fields ≡ Malformed → ⊥
unfolding short_command table_command letter_of
table_said fields f e = taken (is_number f.0) _ (sym (ap of_fields f.1) ∙ e) ((number_law f.0).1 f.2) refl

insert_said : (fields : List (List ℕ)) → InsertForm fields → of_fields fields ≡ Malformed → ⊥
unfolding long_command insert_command letter_of
insert_said fields f e =
    taken (is_number f.0 && (is_number f.1 && (is_pattern f.2 && is_number f.3))) _ (sym (ap of_fields f.4) ∙ e)
    ((and_law _ _).1 ((number_law f.0).1 f.5, (and_law _ _).1 ((number_law f.1).1 f.6, (and_law _ _).1 ((pattern_law f.2).1 f.7, (number_law f.3).1 f.8)))) refl

delete_said : (fields : List (List ℕ)) → DeleteForm fields → of_fields fields ≡ Malformed → ⊥
unfolding short_command delete_command letter_of
delete_said fields f e = taken (is_number f.0) _ (sym (ap of_fields f.1) ∙ e) ((number_law f.0).1 f.2) refl

lookup_said : (fields : List (List ℕ)) → LookupForm fields → of_fields fields ≡ Malformed → ⊥
unfolding short_command lookup_command letter_of
lookup_said fields f e = taken (is_key f.0) _ (sym (ap of_fields f.1) ∙ e) ((key_law f.0).1 f.2) refl

-- and where it cannot hold
not_taken : (test : Bool) (command : Command) → (test ≡ true → ⊥) → cond test command Malformed ≡ Malformed
not_taken true command never = absurd (never refl)
not_taken false command never = refl

-- fields of no form say nothing
short_none : (letter field : List ℕ) → (Form (letter ∷ field ∷ []) → ⊥) → short_command (letter_of letter) field ≡ Malformed
unfolding short_command table_command delete_command lookup_command
short_none letter field none =
    pick (decided (eqb (letter_of letter) 84)) (decided (eqb (letter_of letter) 68)) (decided (eqb (letter_of letter) 76))
  where
    fields : (code : ℕ) → eqb code 0 ≡ false → eqb (letter_of letter) code ≡ true → letter ∷ field ∷ [] ≡ letter_field code ∷ field ∷ []
    fields code other e = ap (λ (l : List ℕ). l ∷ field ∷ []) (letter_field_lem letter code other e)

    pick : (eqb (letter_of letter) 84 ≡ true) ⊎ (eqb (letter_of letter) 84 ≡ false) → (eqb (letter_of letter) 68 ≡ true) ⊎ (eqb (letter_of letter) 68 ≡ false)
        → (eqb (letter_of letter) 76 ≡ true) ⊎ (eqb (letter_of letter) 76 ≡ false) → short_command (letter_of letter) field ≡ Malformed
    pick (inl t) d l = rw t (not_taken (is_number field) _ (λ good. none (inl (inl (field, fields 84 refl t, (number_law field).0 good)))))
    pick (inr t) (inl d) l = rw (t, d) (not_taken (is_number field) _ (λ good. none (inr (inl (field, fields 68 refl d, (number_law field).0 good)))))
    pick (inr t) (inr d) (inl l) = rw (t, d, l) (not_taken (is_key field) _ (λ good. none (inr (inr (field, fields 76 refl l, (key_law field).0 good)))))
    pick (inr t) (inr d) (inr l) = rw (t, d, l)

long_none : (letter id priority pattern action : List ℕ) → (Form (letter ∷ id ∷ priority ∷ pattern ∷ action ∷ []) → ⊥)
    → long_command (letter_of letter) id priority pattern action ≡ Malformed
unfolding long_command insert_command
long_none letter id priority pattern action none = pick (decided (eqb (letter_of letter) 73))
  where
    pick : (eqb (letter_of letter) 73 ≡ true) ⊎ (eqb (letter_of letter) 73 ≡ false) → long_command (letter_of letter) id priority pattern action ≡ Malformed
    pick (inl i) =
        rw i (not_taken _ _ (λ good.
        let a = (and_law _ _).0 good in
        let b = (and_law _ _).0 a.1 in
        let c = (and_law _ _).0 b.1 in
        none (inl (inr (
          id,
          priority,
          pattern,
          action,
          ap (λ (l : List ℕ). l ∷ id ∷ priority ∷ pattern ∷ action ∷ []) (letter_field_lem letter 73 refl i),
          (number_law id).0 a.0,
          (number_law priority).0 b.0,
          (pattern_law pattern).0 c.0,
          (number_law action).0 c.1,
        )))))
    pick (inr i) = rw i

fields_none : (fields : List (List ℕ)) → (Form fields → ⊥) → of_fields fields ≡ Malformed
fields_none [] none = refl
fields_none (letter ∷ []) none = refl
fields_none (letter ∷ field ∷ []) none = short_none letter field none
fields_none (letter ∷ a ∷ b ∷ []) none = refl
fields_none (letter ∷ a ∷ b ∷ c ∷ []) none = refl
fields_none (letter ∷ id ∷ priority ∷ pattern ∷ action ∷ []) none = long_none letter id priority pattern action none
fields_none (letter ∷ a ∷ b ∷ c ∷ d ∷ e ∷ more) none = refl

-- document 01, 13: a line is malformed exactly when it has none of the four forms in at most 256 bytes
pub malformed_law : (line : List ℕ) → (command_of line ≡ Malformed) ↔ (WellFormed line → ⊥)
unfolding command_of
malformed_law line = (
  λ e form. let said : of_fields (parts 32 line) ≡ Malformed = sym (ap (λ (b : Bool). cond b (of_fields (parts 32 line)) Malformed) (le-leb _ _ form.0)) ∙ e in
      ⊎_elim (⊎_elim (λ f. table_said _ f said) (λ f. insert_said _ f said)) (⊎_elim (λ f. delete_said _ f said) (λ f. lookup_said _ f said)) form.1,
  λ none. pick none (dec_le (length line) 256),
)
  where
    pick : (WellFormed line → ⊥) → Dec (length line ≤ 256) → cond (leb (length line) 256) (of_fields (parts 32 line)) Malformed ≡ Malformed
    pick none (yes h) = rw (le-leb (length line) 256 h) (fields_none (parts 32 line) (λ f. none (h, f)))
    pick none (no h) = let long : leb (length line) 256 ≡ false = lt-leb (length line) 256 (omega arith) in rw long

-- so a line that says a command has one of them
pub said_formed : (line : List ℕ) → says (command_of line) ≡ true → (WellFormed line → ⊥) → ⊥
said_formed line said none = true≢false (sym said ∙ ap says ((malformed_law line).1 none))
