-- End theorems on editions: which rank a rule gets, that a sound rule gets a sound record, and that under 1.0 one without wildcards stands above all that
-- have them.
use Rattle.std.specs.Prelude.{◌≡◌, refl, Bool, true, false, cond, ◌&&◌, ◌↔◌, ◌⊎◌, List, [], ◌∷◌, ◌++◌, ℕ, ◌+◌, ◌*◌, ◌/◌, ◌<◌, min, eqb, length, set}
use Rattle.std.proofs.Common.{sym, ap, ap₂, ◌∙◌, subst, ⊎_elim, arith, length-append, eqb-true, ne_eqb, leb-true}
use Rattle.std.proofs.Math.Bool.{and-false}
use Rattle.std.proofs.Math.Logic.◌⊎◌.{inl, inr}
use Rattle.std.proofs.Math.Nat.{div_self}
use Rattle.search.specs.SearchLaws.{decided, and_law}
use Rattle.ternary.specs.Pattern.{Words, FullMask, full_mask}
use Rattle.ternary.proofs.PatternLaws.{full_law, full_cong}
use Rattle.records.specs.Record.{word, listed, record_words, slot_words, mask, rank, sound, sound_rule, sound_ranked, sound_lent, record_of, rule_of}
use Rattle.records.specs.Sound.{SoundRecord}
use Rattle.records.specs.Order.{slots}
use Rattle.records.specs.Checks.{check_records}
use Rattle.records.proofs.Laws.{one_of_two, pass_law, or_else_pass, sound_law, rank_law, sound_rule_law, records_law}
use Rattle.records.proofs.WidthsLaws.{lent_words}
use Rattle.records.proofs.RulesLaws.{set_behind, length_listed, word_listed, listed_words, rule_action, record_length, record_sound, rule_sound, given_record}
use Rattle.records.specs.declared.Rule.{Rule}
use Rattle.records.specs.declared.Cause.TheVariants.{Rule as RuleCause, Edition as EditionCause}
use Rattle.records.specs.Verdict.{Pass}
use Rattle.records.specs.Editions.{Given, lent_rule, under13, rank_of, ranked, lent_rank, ranked_record, known_edition, Edition, check_sound, check_edition, check_given}

-- an edition that there is
edition_known : (e : ℕ) → (known_edition e ≡ true) ↔ Edition e
unfolding known_edition
edition_known e = one_of_two 10 13 e

pub edition_law : (e : ℕ) → (check_edition e ≡ Pass) ↔ Edition e
unfolding check_edition
edition_law e =
    let a = pass_law EditionCause 0 (known_edition e) in
    let b = edition_known e in
    (λ f. b.0 (a.0 f), λ k. a.1 (b.1 k))

-- 5 and 18 pass exactly for a sound rule and an edition that there is
pub given_law : (w : ℕ) (g : Given) → (check_given w g ≡ Pass) ↔ ((sound_rule w g.rule ≡ true) × Edition g.edition)
unfolding check_given check_sound
given_law w g =
    let a = or_else_pass (check_sound w g.rule) (check_edition g.edition) in
    let b = pass_law RuleCause 0 (sound_rule w g.rule) in
    let c = edition_law g.edition in
    (λ f. let p = a.0 f in (b.0 p.0, c.0 p.1), λ s. a.1 (b.1 s.0, c.1 s.1))

-- the rank reads the mask's words alone
rank_cong : (w e priority : ℕ) {m m' : Words} → ((j : ℕ) → j < w → m j ≡ m' j) → rank_of w e priority m ≡ rank_of w e priority m'
unfolding rank_of
rank_cong w e priority hm = ap (λ (b : Bool). cond (eqb e 10 && b) 65536 priority) (full_cong w hm)

-- document 02: under 1.0 a rule with every mask bit set gets rank 65,536 ..
pub rank_full : (w priority : ℕ) (mask : Words) → FullMask w mask → rank_of w 10 priority mask ≡ 65536
unfolding rank_of
rank_full w priority mask bits = ap (λ (b : Bool). cond b 65536 priority) ((full_law w mask).1 bits)

-- the rank, either way
pub rank_cases : (w e priority : ℕ) (mask : Words)
    → ((e ≡ 10) × FullMask w mask × (rank_of w e priority mask ≡ 65536)) ⊎ (rank_of w e priority mask ≡ priority)
unfolding rank_of
rank_cases w e priority mask = pick (decided (eqb e 10 && full_mask w mask))
  where
    pick : (eqb e 10 && full_mask w mask ≡ true) ⊎ (eqb e 10 && full_mask w mask ≡ false)
        → ((e ≡ 10) × FullMask w mask × (cond (eqb e 10 && full_mask w mask) 65536 priority ≡ 65536)) ⊎ (cond (eqb e 10 && full_mask w mask) 65536 priority ≡ priority)
    pick (inl s) =
        let p = (and_law (eqb e 10) (full_mask w mask)).0 s in
        inl (eqb-true e 10 p.0, (full_law w mask).0 p.1, ap (λ (b : Bool). cond b 65536 priority) s)
    pick (inr s) = inr (ap (λ (b : Bool). cond b 65536 priority) s)

-- .. any other rule's rank is its priority
pub rank_kept : (w e priority : ℕ) (mask : Words) → (e ≡ 10 → FullMask w mask → ⊥) → rank_of w e priority mask ≡ priority
rank_kept w e priority mask other = ⊎_elim (λ high. absurd (other high.0 high.1)) (λ same. same) (rank_cases w e priority mask)

-- .. as it is asked: another edition, or a mask that is not full
pub rank_plain : (w e priority : ℕ) (mask : Words) → (e ≡ 10 → ⊥) ⊎ (full_mask w mask ≡ false) → rank_of w e priority mask ≡ priority
unfolding rank_of
rank_plain w e priority mask (inl other) = rw (ne_eqb e 10 other)
rank_plain w e priority mask (inr some) = rw (some, and-false (eqb e 10))

-- under 1.3 a rule is as it is given
pub ranked_13 : (w : ℕ) (rule : Rule) → ranked w (under13 rule) ≡ rule
unfolding ranked rank_of
ranked_13 w rule = refl

-- every field but the priority is the given rule's: so is the action
pub ranked_action : (w : ℕ) (g : Given) → (ranked w g).action ≡ g.rule.action
unfolding ranked
ranked_action w g = refl

-- a sound rule, given with any edition, gets the record of a sound rule
pub rank_sound : (w : ℕ) (g : Given) → sound_rule w g.rule ≡ true → sound_ranked w (ranked w g) ≡ true
unfolding ranked
rank_sound w g e =
    let s = (sound_rule_law w g.rule).0 e in
    let fits = rank_law w (rank_of w g.edition g.rule.priority (word g.rule.mask)) (word g.rule.mask) in
    (sound_law w _ _ _ _).1 (
      s.0,
      fits.1 (⊎_elim (λ high. inr (high.2, high.1)) (λ same. inl (omega (arith, same, s.1))) (rank_cases w g.edition g.rule.priority (word g.rule.mask))),
      s.2,
    )

-- document 02: in 1.0 an entry without wildcards stands above all that have them, whatever the priorities, and whichever edition those were given with
pub exact_above : (w : ℕ) (exact : Rule) (x : Words) → FullMask w (word exact.mask) → SoundRecord w x → (FullMask w (mask w x) → ⊥)
    → rank w x < (ranked w (record { rule = exact; edition = 10 })).priority
unfolding ranked
exact_above w exact x bits good some =
    let a = rank_full w exact.priority (word exact.mask) bits in
    ⊎_elim (λ low. omega (arith, low, a)) (λ high. absurd (some high.1)) good.1

-- a rule's record with another last word
last_word : (w : ℕ) (r : Rule) (p : ℕ) → set (record_of w r) (2 * w + 1) p
    ≡ record_of w (record { id = r.id; priority = p; value = r.value; mask = r.mask; action = r.action })
unfolding record_of
last_word w r p =
    let front = listed w (word r.value) ++ listed w (word r.mask) in
    let both = r.id * 4294967296 + r.action in
    let size : length front ≡ 2 * w =
    length-append (listed w (word r.value)) (listed w (word r.mask))
    ∙ (let a = length_listed w (word r.value) in let b = length_listed w (word r.mask) in omega arith) in
    ap (λ (k : ℕ). set (front ++ both ∷ r.priority ∷ []) (k + 1) p) (sym size) ∙ set_behind front (both ∷ r.priority ∷ []) 1 p

-- a rule that is lent is sound where the one slot of its record, lent as a rule, is
pub lent_sound : (w : ℕ) (lent : List ℕ) → sound_rule w (rule_of w (word lent)) ≡ sound_lent w (slot_words w lent 0)
lent_sound w lent = rule_sound w (word lent) ∙ ap (sound_lent w) (sym (lent_words w lent))

-- and that slot, as a list, is the record
pub lent_entry : (w : ℕ) (lent : List ℕ) → length lent ≡ record_words w → listed (record_words w) (slot_words w lent 0) ≡ lent
lent_entry w lent size = ap (listed (record_words w)) (lent_words w lent) ∙ listed_words (record_words w) lent size

-- the record of a lent rule with its rank is that of the ranked rule
pub ranked_record_lem : (w e : ℕ) (lent : List ℕ) → length lent ≡ record_words w → sound_rule w (rule_of w (word lent)) ≡ true
    → ranked_record w e lent ≡ record_of w (ranked w (lent_rule w e lent))
unfolding ranked rule_of
ranked_record_lem w e lent size good =
    let x = word lent in
    let low = leb-true (rank w x) 65535 ((sound_law w _ _ _ _).0 (sym (rule_sound w x) ∙ good)).1 in
    let small : rank w x < 4294967296 = omega arith in
    let kept : min (rank w x) 4294967295 ≡ rank w x = omega arith in
    let same : lent_rank w e lent ≡ rank_of w e (min (rank w x) 4294967295) (word (listed w (mask w x))) =
    ap (λ (y : Words). rank_of w e (rank w y) (mask w y)) (lent_words w lent)
    ∙ (ap (λ (p : ℕ). rank_of w e p (mask w x)) (sym kept) ∙ rank_cong w e (min (rank w x) 4294967295) (λ j h. sym (word_listed w (mask w x) j h))) in
    ap₂ (λ (l : List ℕ) (r : ℕ). set l (2 * w + 1) r) (sym (given_record w lent size small)) same
    ∙ last_word w (rule_of w x) (rank_of w e (min (rank w x) 4294967295) (word (listed w (mask w x))))

-- a slot's record that is lent again as a rule holds its rank: 65,536 is no priority
pub rank_not_given : (w : ℕ) (x : Words) → rank w x ≡ 65536 → sound_lent w x ≡ false
rank_not_given w x e = pick (decided (sound_lent w x))
  where
    pick : (sound_lent w x ≡ true) ⊎ (sound_lent w x ≡ false) → sound_lent w x ≡ false
    pick (inl s) = absurd (omega (arith, e, leb-true (rank w x) 65535 ((sound_law w _ _ _ _).0 s).1))
    pick (inr s) = s

-- such a record, as a table of one slot, passes check 2
pub ranked_passes : (w e : ℕ) (lent : List ℕ) → length lent ≡ record_words w → check_given w (lent_rule w e lent) ≡ Pass
    → check_records w (ranked_record w e lent) ≡ Pass
ranked_passes w e lent size pass = subst (λ (l : List ℕ). check_records w l ≡ Pass) (sym is) ((records_law w own).1 (λ i h. inr (sound_at i h)))
  where
    given : Given
    given = lent_rule w e lent

    good : sound_rule w given.rule ≡ true
    good = ((given_law w given).0 pass).0

    own : List ℕ
    own = record_of w (ranked w given)

    is : ranked_record w e lent ≡ own
    is = ranked_record_lem w e lent size good

    small : (ranked w given).action < 4294967296
    small = omega (arith, rule_action w (word lent), ranked_action w given)

    sound_at : (i : ℕ) → i < slots w own → sound w (slot_words w own i) ≡ true
    sound_at i h =
        let one : slots w own ≡ 1 = ap (λ (n : ℕ). n / record_words w) (record_length w (ranked w given)) ∙ div_self (omega arith) in
        let first : i ≡ 0 = omega arith in
        ap (λ (k : ℕ). sound w (slot_words w own k)) first
        ∙ (ap (sound w) (lent_words w own) ∙ (record_sound w (ranked w given) small ∙ rank_sound w given good))
