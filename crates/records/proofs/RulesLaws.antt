-- End theorems on a rule and its slot record: each field of the record is the rule's, and there and back nothing is lost where the priority has 32 bits.
-- So the record, which a table holds, and the rule, which a call takes, say the same.
use Rattle.std.specs.Prelude.{◌≡◌, refl, Bool, not, ◌&&◌, ◌||◌, List, [], ◌∷◌, ◌++◌, eqb, leb, length, get_or, set, replicate}
use Rattle.std.proofs.Common.{sym, ap₂, ◌∙◌, zero-add, suc-add, div-add-mod', mod-lt, le-leb, length-append, get_or-append-add, ext_get_or}
use Rattle.std.proofs.Math.Path.{ap}
use Prim.Native.Nat.{ℕ, zero, suc, ◌+◌, ◌-◌, ◌*◌, ◌/◌, ◌%◌, ◌≤◌, ◌<◌, min}
use Rattle.std.proofs.Math.Decide.{ℕ_discrete, dec_lt, dec_le}
use native.Mathlib.Omega.{arith}
use Rattle.std.proofs.Math.Arith.{digits_div, digits_mod}
use Rattle.std.proofs.lemmas.Bool.{lt-leb}
use Rattle.std.proofs.Math.ListN.{get_or-append}
use Rattle.std.proofs.lemmas.List.{get_or_at}
use Rattle.ternary.specs.Pattern.{Words, full_mask}
use Rattle.ternary.proofs.PatternLaws.{within_cong, full_cong}
use Rattle.records.specs.Record.{word, listed, record_words, value, mask, ident, action, rank, rank_fits, sound, sound_parts, sound_ranked, sound_rule}
use Rattle.records.specs.Record.{sound_lent, record_of, rule_of}
use Rattle.records.specs.declared.Rule.{Rule}
use Rattle.records.specs.Rules.{Fields}

-- a word of zeros is zero
pub zero_word : (n k : ℕ) → get_or {A = ℕ} (replicate n 0) k 0 ≡ 0
zero_word zero k = refl
zero_word (suc n) zero = refl
zero_word (suc n) (suc k) = zero_word n k

pub length_listed : (n : ℕ) (f : Words) → length (listed n f) ≡ n
unfolding listed
length_listed zero f = refl
length_listed (suc n) f = length-append (listed n f) (f n ∷ []) ∙ (let e = length_listed n f in omega arith)

pub word_listed : (n : ℕ) (f : Words) (j : ℕ) → j < n → get_or (listed n f) j 0 ≡ f j
unfolding listed
word_listed zero f j h = absurd (omega arith)
word_listed (suc n) f j h = pick (ℕ_discrete j n) (word_listed n f j)
  where
    pick : Dec (j ≡ n) → (j < n → get_or (listed n f) j 0 ≡ f j) → get_or (listed n f ++ (f n ∷ [])) j 0 ≡ f j
    pick (yes e) g = get_or_at (listed n f) (f n) [] 0 j (length_listed n f ∙ sym e) ∙ ap f (sym e)
    pick (no e) g = get_or-append (listed n f) (f n ∷ []) 0 j (let l = length_listed n f in omega arith) ∙ g (omega arith)

-- a list of n words is the list of its words
pub listed_words : (n : ℕ) (l : List ℕ) → length l ≡ n → listed n (word l) ≡ l
listed_words n l e =
    ext_get_or 0 (listed n (word l)) l (length_listed n (word l) ∙ sym e) (λ i h. word_listed n (word l) i (let k = length_listed n (word l) in omega arith))

pub listed_cong : (n : ℕ) {f g : Words} → ((j : ℕ) → j < n → f j ≡ g j) → listed n f ≡ listed n g
unfolding listed
listed_cong zero h = refl
listed_cong (suc n) {f} {g} h = rw (listed_cong n (λ j l. h j (omega arith)), h n (omega arith))

sound_cong : (w id : ℕ) (ranged : Bool) {v v' m m' : Words} → ((j : ℕ) → j < w → v j ≡ v' j) → ((j : ℕ) → j < w → m j ≡ m' j)
    → sound_parts w id ranged v m ≡ sound_parts w id ranged v' m'
unfolding sound_parts
sound_cong w id ranged hv hm = ap (λ (b : Bool). not (eqb id 0) && ranged && b) (within_cong w hv hm)

-- a rank's range reads the mask's words alone
pub fits_cong : (w : ℕ) {rank rank' : ℕ} {m m' : Words} → rank ≡ rank' → ((j : ℕ) → j < w → m j ≡ m' j) → rank_fits w rank m ≡ rank_fits w rank' m'
unfolding rank_fits
fits_cong w {rank = rank} {m' = m'} e hm =
    ap (λ (b : Bool). leb rank 65535 || (eqb rank 65536 && b)) (full_cong w hm)
    ∙ ap (λ (r : ℕ). leb r 65535 || (eqb r 65536 && full_mask w m')) e

-- a word stored past a list's front is stored in its rest
pub set_behind : (xs ys : List ℕ) (n a : ℕ) → set (xs ++ ys) (length xs + n) a ≡ xs ++ set ys n a
set_behind [] ys n a = ap (λ (k : ℕ). set ys k a) (zero-add n)
set_behind (x ∷ xs) ys n a = ap (λ (k : ℕ). set (x ∷ (xs ++ ys)) k a) (suc-add (length xs) n) ∙ ap (λ (l : List ℕ). x ∷ l) (set_behind xs ys n a)

-- the words of a record that is put together from its parts
module _ (w : ℕ) (values masks : Words) (both priority : ℕ) where
  abbrev parts : List ℕ
  parts = listed w values ++ listed w masks ++ both ∷ priority ∷ []

  front : length (listed w values ++ listed w masks) ≡ 2 * w
  front = length-append (listed w values) (listed w masks) ∙ (let a = length_listed w values in let b = length_listed w masks in omega arith)

  parts_length : length parts ≡ record_words w
  parts_length = length-append (listed w values ++ listed w masks) (both ∷ priority ∷ []) ∙ (let e = front in omega arith)

  parts_value : (j : ℕ) → j < w → get_or parts j 0 ≡ values j
  parts_value j h =
      let a = length_listed w values in
      let e = front in
      get_or-append (listed w values ++ listed w masks) (both ∷ priority ∷ []) 0 j (omega arith)
      ∙ (get_or-append (listed w values) (listed w masks) 0 j (omega arith) ∙ word_listed w values j h)

  parts_mask : (j : ℕ) → j < w → get_or parts (w + j) 0 ≡ masks j
  parts_mask j h =
      let e = front in
      get_or-append (listed w values ++ listed w masks) (both ∷ priority ∷ []) 0 (w + j) (omega arith)
      ∙ (ap (λ (k : ℕ). get_or (listed w values ++ listed w masks) (k + j) 0) (sym (length_listed w values))
      ∙ (get_or-append-add (listed w values) (listed w masks) j 0 ∙ word_listed w masks j h))

  parts_both : get_or parts (2 * w) 0 ≡ both
  parts_both = get_or_at (listed w values ++ listed w masks) both (priority ∷ []) 0 (2 * w) front

  parts_rank : get_or parts (2 * w + 1) 0 ≡ priority
  parts_rank =
      ap (λ (k : ℕ). get_or parts (k + 1) 0) (sym front)
      ∙ get_or-append-add (listed w values ++ listed w masks) (both ∷ priority ∷ []) 1 0

kept : {x : ℕ} → x < 4294967296 → min x 4294967295 ≡ x
kept h = omega arith

-- the record's parts are the rule's
module _ (w : ℕ) (r : Rule) where
  pub record_length : length (record_of w r) ≡ record_words w
  unfolding record_of
  record_length = parts_length w (word r.value) (word r.mask) (r.id * 4294967296 + r.action) r.priority

  pub record_value : (j : ℕ) → j < w → value (word (record_of w r)) j ≡ word r.value j
  unfolding record_of
  record_value j h = parts_value w (word r.value) (word r.mask) (r.id * 4294967296 + r.action) r.priority j h

  pub record_mask : (j : ℕ) → j < w → mask w (word (record_of w r)) j ≡ word r.mask j
  unfolding record_of
  record_mask j h = parts_mask w (word r.value) (word r.mask) (r.id * 4294967296 + r.action) r.priority j h

  record_both : word (record_of w r) (2 * w) ≡ r.id * 4294967296 + r.action
  unfolding record_of
  record_both = parts_both w (word r.value) (word r.mask) (r.id * 4294967296 + r.action) r.priority

  pub record_rank : rank w (word (record_of w r)) ≡ r.priority
  unfolding record_of
  record_rank = parts_rank w (word r.value) (word r.mask) (r.id * 4294967296 + r.action) r.priority

  pub record_ident : r.action < 4294967296 → ident w (word (record_of w r)) ≡ r.id
  record_ident h = ap (λ (x : ℕ). x / 4294967296) record_both ∙ digits_div r.id h

  pub record_action : r.action < 4294967296 → action w (word (record_of w r)) ≡ r.action
  record_action h = ap (λ (x : ℕ). x % 4294967296) record_both ∙ digits_mod r.id h

  -- a rule with its rank is sound exactly when its record is
  pub record_sound : r.action < 4294967296 → sound w (word (record_of w r)) ≡ sound_ranked w r
  record_sound h =
      ap₂ (λ (i : ℕ) (b : Bool). sound_parts w i b (value (word (record_of w r))) (mask w (word (record_of w r)))) (record_ident h) (fits_cong w record_rank record_mask)
      ∙ sound_cong w r.id (rank_fits w r.priority (word r.mask)) record_value record_mask

  -- as a rule that is given it is sound exactly when its record, lent as a rule, is
  pub record_lent : r.action < 4294967296 → sound_lent w (word (record_of w r)) ≡ sound_rule w r
  record_lent h =
      ap₂ (λ (i p : ℕ). sound_parts w i (leb p 65535) (value (word (record_of w r))) (mask w (word (record_of w r)))) (record_ident h) record_rank
      ∙ sound_cong w r.id (leb r.priority 65535) record_value record_mask

  -- there and back: the rule
  pub rule_of_record : Fields w r → rule_of w (word (record_of w r)) ≡ r
  unfolding rule_of
  rule_of_record h =
      let v = listed_cong w record_value ∙ listed_words w r.value h.values in
      let m = listed_cong w record_mask ∙ listed_words w r.mask h.masks in
      let i = record_ident h.action32 in
      let a = record_action h.action32 in
      let p = ap (λ (x : ℕ). min x 4294967295) record_rank ∙ kept h.priority32 in
      λ k. record { id = i k; priority = p k; value = v k; mask = m k; action = a k }

-- back and there: the record
module _ (w : ℕ) (x : Words) (small : rank w x < 4294967296) where
  word_of_rule : (j : ℕ) → j < record_words w → word (record_of w (rule_of w x)) j ≡ x j
  unfolding rule_of
  word_of_rule j h = pick (dec_lt j w) (dec_lt j (2 * w)) (ℕ_discrete j (2 * w))
    where
      pick : Dec (j < w) → Dec (j < 2 * w) → Dec (j ≡ 2 * w) → word (record_of w (rule_of w x)) j ≡ x j
      pick (yes l) d f = record_value w (rule_of w x) j l ∙ word_listed w (value x) j l
      pick (no l) (yes d) f =
          let back : w + (j - w) ≡ j = omega arith in
          let inner : j - w < w = omega arith in
          ap (λ (k : ℕ). word (record_of w (rule_of w x)) k) (sym back)
          ∙ (record_mask w (rule_of w x) (j - w) inner ∙ (word_listed w (mask w x) (j - w) inner ∙ ap x back))
      pick (no l) (no d) (yes f) =
          ap (λ (k : ℕ). word (record_of w (rule_of w x)) k) f ∙ (record_both w (rule_of w x) ∙ (div-add-mod' (x (2 * w)) 4294967296 ∙ ap x (sym f)))
      pick (no l) (no d) (no f) =
          let last : j ≡ 2 * w + 1 = omega arith in
          ap (λ (k : ℕ). word (record_of w (rule_of w x)) k) last ∙ (record_rank w (rule_of w x) ∙ (kept small ∙ ap x (sym last)))

  pub record_of_rule : record_of w (rule_of w x) ≡ listed (record_words w) x
  record_of_rule =
      ext_get_or 0 (record_of w (rule_of w x)) (listed (record_words w) x)
      (record_length w (rule_of w x) ∙ sym (length_listed (record_words w) x))
      (λ j l. let h : j < record_words w = (let e = record_length w (rule_of w x) in omega arith) in word_of_rule j h ∙ sym (word_listed (record_words w) x j h))

-- a record that is lent as a rule and the rule are sound alike, whatever its words
pub rule_sound : (w : ℕ) (x : Words) → sound_rule w (rule_of w x) ≡ sound_lent w x
unfolding rule_of
rule_sound w x =
    ap (λ (b : Bool). sound_parts w (ident w x) b (word (listed w (value x))) (word (listed w (mask w x)))) (limit (rank w x))
    ∙ sound_cong w (ident w x) (leb (rank w x) 65535) (word_listed w (value x)) (word_listed w (mask w x))
  where
    limit : (r : ℕ) → leb (min r 4294967295) 65535 ≡ leb r 65535
    limit r = pick (dec_le r 65535)
      where
        pick : Dec (r ≤ 65535) → leb (min r 4294967295) 65535 ≡ leb r 65535
        pick (yes h) = le-leb (min r 4294967295) 65535 (omega arith) ∙ sym (le-leb r 65535 h)
        pick (no h) = lt-leb (min r 4294967295) 65535 (omega arith) ∙ sym (lt-leb r 65535 (omega arith))

-- a record whose last word has 32 bits is the record of its rule
pub given_record : (w : ℕ) (l : List ℕ) → length l ≡ record_words w → rank w (word l) < 4294967296 → record_of w (rule_of w (word l)) ≡ l
given_record w l size small = record_of_rule w (word l) small ∙ listed_words (record_words w) l size

-- an action has 32 bits
pub rule_action : (w : ℕ) (x : Words) → (rule_of w x).action < 4294967296
unfolding rule_of
rule_action w x = mod-lt (x (2 * w)) (omega arith)
