-- End theorems on plan words: no word is lost in its write and no write in its word.
-- With them what the code's decoder and encoder are proved by, and the words of lists of writes.
use Rattle.std.specs.Prelude.{List, [], ◌∷◌, map, ℕ, ◌<◌, suc, ◌≤◌, length, get_or, ◌≡◌, refl, ◌≢◌}
use Rattle.std.proofs.Common.{sym, ap, ap₂, ◌∙◌, div-add-mod', arith}
use Rattle.std.proofs.Math.Decide.{ℕ_discrete}
use Rattle.std.proofs.Math.Arith.{digits_div, digits_mod}
use borrow.Author.Tests.{ne_eqb}
use Rattle.layout.specs.Write.{Write, copy, put, clear}
use Rattle.plan_words.specs.declared.PlanWrite.{PlanWrite}
use Rattle.plan_words.specs.PlanWords.{put_in, emptying, word_of, from_of, to_of, write_word, write_of, write_meant, SlotsBelow}

-- the slots of every write are below n
abbrev pub WritesBelow : ℕ → List Write → Type 0
WritesBelow n xs = (k : ℕ) → k < length xs → SlotsBelow n (get_or xs k (clear 0))

pub slots_below_more : {n m : ℕ} → n ≤ m → (x : Write) → SlotsBelow n x → SlotsBelow m x
slots_below_more l (copy from to) h = (omega arith, omega arith)
slots_below_more l (put to) h = omega arith
slots_below_more l (clear to) h = omega arith

-- the three kinds of word
module _ (n : ℕ) where
  pub word_puts : from_of n ≡ put_in → put (to_of n) ≡ write_of n
  unfolding write_of
  word_puts e = rw e

  pub word_clears : from_of n ≡ emptying → clear (to_of n) ≡ write_of n
  unfolding write_of
  word_clears e = rw e

  pub word_copies : from_of n ≢ put_in → from_of n ≢ emptying → copy (from_of n) (to_of n) ≡ write_of n
  unfolding write_of
  word_copies p c = rw (ne_eqb (from_of n) put_in p, ne_eqb (from_of n) emptying c)

  -- no word is lost in its write
  pub word_of_write : write_word (write_of n) ≡ n
  word_of_write = pick (ℕ_discrete (from_of n) put_in) (ℕ_discrete (from_of n) emptying)
    where
      split : word_of (from_of n) (to_of n) ≡ n
      split = div-add-mod' n 65536

      pick : Dec (from_of n ≡ put_in) → Dec (from_of n ≡ emptying) → write_word (write_of n) ≡ n
      pick (yes e) d = ap write_word (sym (word_puts e)) ∙ (ap (λ (q : ℕ). word_of q (to_of n)) (sym e) ∙ split)
      pick (no p) (yes e) = ap write_word (sym (word_clears e)) ∙ (ap (λ (q : ℕ). word_of q (to_of n)) (sym e) ∙ split)
      pick (no p) (no c) = ap write_word (sym (word_copies p c)) ∙ split

-- and no write in its word, where its slots are below 65,534
pub write_of_word : (x : Write) → SlotsBelow emptying x → write_of (write_word x) ≡ x
write_of_word (copy from to) h =
    let low : to < 65536 = omega arith in
    let q : from_of (word_of from to) ≡ from = digits_div from low in
    sym (word_copies (word_of from to) (λ e. omega arith) (λ e. omega arith)) ∙ ap₂ copy q (digits_mod from low)
write_of_word (put to) h =
    let low : to < 65536 = omega arith in
    sym (word_puts (word_of put_in to) (digits_div put_in low)) ∙ ap put (digits_mod put_in low)
write_of_word (clear to) h =
    let low : to < 65536 = omega arith in
    sym (word_clears (word_of emptying to) (digits_div emptying low)) ∙ ap clear (digits_mod emptying low)

-- so different words are different writes
pub word_once : (n m : ℕ) → write_of n ≡ write_of m → n ≡ m
word_once n m e = sym (word_of_write n) ∙ (ap write_word e ∙ word_of_write m)

-- the words of a list of writes give the writes back
pub writes_of_words : (xs : List Write) → WritesBelow emptying xs → map write_of (map write_word xs) ≡ xs
writes_of_words [] h = refl
writes_of_words (x ∷ xs) h = ap₂ ◌∷◌ (write_of_word x (h 0 (omega arith))) (writes_of_words xs (λ k l. h (suc k) (omega arith)))

-- the decoder's answer, taken apart by its case
pub write_taken : {r x : PlanWrite} {y : Write} → write_meant r ≡ y → r ≡ x → write_meant x ≡ y
write_taken e given = ap write_meant (sym given) ∙ e
