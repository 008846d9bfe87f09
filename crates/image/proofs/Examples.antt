-- Worked examples: the definitions computed on a table of three slots: its image byte by byte, the image loaded, and fields of it made wrong one by one;
-- on one whose rule cares for every bit, and on one of five words a value.
-- Each is checked by computation alone.
use Rattle.std.specs.Prelude.{◌≡◌, refl, false, List, [], ◌∷◌, ◌++◌, ℕ, set, replicate}
use Rattle.search.specs.Search.{all, any, least}
use Rattle.ternary.specs.Word.{agree, inside, both}
use Rattle.ternary.specs.Pattern.{within, full_mask, overlaps}
use Rattle.records.specs.Record.{listed, empty, rank_fits, sound_parts, put_slot}
use Rattle.records.specs.Order.{distinct, same_id, misordered}
use Rattle.records.specs.Checks.{Told, success, refusal, lowest, shaped, check_shape, twice_at, check_twice, disorder_at, check_order}
use Rattle.records.specs.Widths.{known, check_width}
use Rattle.records.specs.declared.Cause.TheVariants.{Shape, Order, Image}
use Rattle.image.specs.Bytes.{bytes_of, number_at, pieces}
use Rattle.image.specs.Indices.{indices}
use Rattle.image.specs.Format.{entry_of, body_of, entry_bytes, rule_bytes, image_of, record_at}
use Rattle.image.specs.Checks.{in_turn, check_header, check_entry, check_body, check_contents, check_bodies, image_checks, rules_put, meant, load_checks}
use Rattle.image.specs.Answers.{load_answer, load_table, load_call}

-- slot 0: rule 258, action 3, rank 30, that cares for the lowest bit; slot 2: rule 7, action 9, rank 20, that cares for none
abbrev table : List ℕ
table = 0 ∷ 1 ∷ 0 ∷ 1 ∷ 1108101562371 ∷ 30 ∷ 0 ∷ 0 ∷ 0 ∷ 0 ∷ 0 ∷ 0 ∷ 0 ∷ 0 ∷ 0 ∷ 0 ∷ 30064771081 ∷ 20 ∷ []

abbrev image : List ℕ
image = 0 ∷ 3 ∷ 0 ∷ 2 ∷ 0 ∷ 0 ∷ 1 ∷ 2 ∷ 0 ∷ 0 ∷ 0 ∷ 0 ∷ 0 ∷ 24 ∷ 0 ∷ 0 ∷ 0 ∷ 7 ∷ 0 ∷ 2 ∷ 0 ∷ 0 ∷ 0 ∷ 64 ∷ 0 ∷ 0 ∷ 0 ∷ 0 ∷ 0 ∷ 0 ∷ 0 ∷ 0 ∷ 0 ∷ 0 ∷ 0 ∷ 0 ∷ 0 ∷ 0 ∷ 0 ∷ 1 ∷ 0 ∷ 0 ∷ 0 ∷ 0 ∷ 0 ∷ 0 ∷ 0 ∷ 0 ∷ 0 ∷ 0 ∷ 0 ∷ 0 ∷ 0 ∷ 0 ∷ 0 ∷ 1 ∷ 0 ∷ 0 ∷ 0 ∷ 30 ∷ 0 ∷ 0 ∷ 0 ∷ 3 ∷ 0 ∷ 0 ∷ 0 ∷ 0 ∷ 0 ∷ 0 ∷ 0 ∷ 0 ∷ 0 ∷ 0 ∷ 0 ∷ 0 ∷ 0 ∷ 0 ∷ 0 ∷ 0 ∷ 0 ∷ 0 ∷ 0 ∷ 0 ∷ 0 ∷ 0 ∷ 0 ∷ 0 ∷ 0 ∷ 0 ∷ 0 ∷ 0 ∷ 0 ∷ 0 ∷ 0 ∷ 0 ∷ 0 ∷ 0 ∷ 0 ∷ 20 ∷ 0 ∷ 0 ∷ 0 ∷ 9 ∷ []

saved : image_of 2 table ≡ image
unfolding image_of indices empty all entry_bytes rule_bytes entry_of body_of pieces bytes_of
saved = refl

loaded : load_table 2 false image (replicate 18 5) ≡ table
unfolding load_answer load_table load_checks check_shape shaped image_checks check_header check_contents check_bodies in_turn check_entry check_body number_at record_at listed rank_fits full_mask sound_parts within all inside meant rules_put put_slot check_twice twice_at lowest least any same_id empty check_order disorder_at misordered overlaps distinct agree both
loaded = refl

-- what a lent table of three slots is answered with byte i of the image changed to n
answer : ℕ → ℕ → Told
answer i n = load_answer 2 false (set image i n) (replicate 18 5)

right : answer 3 2 ≡ success []
unfolding answer load_answer load_table load_checks check_shape shaped image_checks check_header check_contents check_bodies in_turn check_entry check_body number_at record_at listed rank_fits full_mask sound_parts within all inside meant rules_put put_slot check_twice twice_at lowest least any same_id empty check_order disorder_at misordered overlaps distinct agree both
right = refl

-- another number of slots
other_slots : answer 1 4 ≡ refusal Image 0
unfolding answer load_answer load_table load_checks check_shape shaped image_checks check_header check_contents check_bodies in_turn check_entry check_body number_at record_at listed rank_fits full_mask sound_parts within all inside meant rules_put put_slot check_twice twice_at lowest least any same_id empty check_order disorder_at misordered overlaps distinct agree both
other_slots = refl

-- too many bytes for one rule
too_long : answer 3 1 ≡ refusal Image 2
unfolding answer load_answer load_table load_checks check_shape shaped image_checks check_header check_contents check_bodies in_turn check_entry check_body number_at record_at listed rank_fits full_mask sound_parts within all inside meant rules_put put_slot check_twice twice_at lowest least any same_id empty check_order disorder_at misordered overlaps distinct agree both
too_long = refl

-- id 0, of the second entry
no_id : answer 17 0 ≡ refusal Image 14
unfolding answer load_answer load_table load_checks check_shape shaped image_checks check_header check_contents check_bodies in_turn check_entry check_body number_at record_at listed rank_fits full_mask sound_parts within all inside meant rules_put put_slot check_twice twice_at lowest least any same_id empty check_order disorder_at misordered overlaps distinct agree both
no_id = refl

-- a slot not above the entry before
slot_falls : answer 19 0 ≡ refusal Image 18
unfolding answer load_answer load_table load_checks check_shape shaped image_checks check_header check_contents check_bodies in_turn check_entry check_body number_at record_at listed rank_fits full_mask sound_parts within all inside meant rules_put put_slot check_twice twice_at lowest least any same_id empty check_order disorder_at misordered overlaps distinct agree both
slot_falls = refl

-- an offset that is not exact
offset_off : answer 13 25 ≡ refusal Image 10
unfolding answer load_answer load_table load_checks check_shape shaped image_checks check_header check_contents check_bodies in_turn check_entry check_body number_at record_at listed rank_fits full_mask sound_parts within all inside meant rules_put put_slot check_twice twice_at lowest least any same_id empty check_order disorder_at misordered overlaps distinct agree both
offset_off = refl

-- a value bit outside the mask
value_outside : answer 31 1 ≡ refusal Image 24
unfolding answer load_answer load_table load_checks check_shape shaped image_checks check_header check_contents check_bodies in_turn check_entry check_body number_at record_at listed rank_fits full_mask sound_parts within all inside meant rules_put put_slot check_twice twice_at lowest least any same_id empty check_order disorder_at misordered overlaps distinct agree both
value_outside = refl

-- rank 65,556 of a rule with wildcards
wild_high : answer 97 1 ≡ refusal Image 64
unfolding answer load_answer load_table load_checks check_shape shaped image_checks check_header check_contents check_bodies in_turn check_entry check_body number_at record_at listed rank_fits full_mask sound_parts within all inside meant rules_put put_slot check_twice twice_at lowest least any same_id empty check_order disorder_at misordered overlaps distinct agree both
wild_high = refl

-- the later rule no lower
out_of_order : answer 99 30 ≡ refusal Order 2
unfolding answer load_answer load_table load_checks check_shape shaped image_checks check_header check_contents check_bodies in_turn check_entry check_body number_at record_at listed rank_fits full_mask sound_parts within all inside meant rules_put put_slot check_twice twice_at lowest least any same_id empty check_order disorder_at misordered overlaps distinct agree both
out_of_order = refl

-- two fields wrong, the first in the order of checks: byte j is changed to m too
both_wrong : ℕ → ℕ → ℕ → ℕ → Told
both_wrong i n j m = load_answer 2 false (set (set image i n) j m) (replicate 18 5)

-- the slots and the rules
slots_before_rules : both_wrong 1 4 3 1 ≡ refusal Image 0
unfolding both_wrong load_answer load_table load_checks check_shape shaped image_checks check_header check_contents check_bodies in_turn check_entry check_body number_at record_at listed rank_fits full_mask sound_parts within all inside meant rules_put put_slot check_twice twice_at lowest least any same_id empty check_order disorder_at misordered overlaps distinct agree both
slots_before_rules = refl

-- the slot of the second entry and its offset
slot_before_offset : both_wrong 19 0 23 65 ≡ refusal Image 18
unfolding both_wrong load_answer load_table load_checks check_shape shaped image_checks check_header check_contents check_bodies in_turn check_entry check_body number_at record_at listed rank_fits full_mask sound_parts within all inside meant rules_put put_slot check_twice twice_at lowest least any same_id empty check_order disorder_at misordered overlaps distinct agree both
slot_before_offset = refl

-- the id of the second entry and the first body's value
entries_before_bodies : both_wrong 17 0 31 1 ≡ refusal Image 14
unfolding both_wrong load_answer load_table load_checks check_shape shaped image_checks check_header check_contents check_bodies in_turn check_entry check_body number_at record_at listed rank_fits full_mask sound_parts within all inside meant rules_put put_slot check_twice twice_at lowest least any same_id empty check_order disorder_at misordered overlaps distinct agree both
entries_before_bodies = refl

-- document 02: rule 7, action 9, rank 65,536, that cares for every bit
abbrev exact_table : List ℕ
exact_table = 0 ∷ 0 ∷ 18446744073709551615 ∷ 18446744073709551615 ∷ 30064771081 ∷ 65536 ∷ []

abbrev exact_image : List ℕ
exact_image = 0 ∷ 1 ∷ 0 ∷ 1 ∷ 0 ∷ 0 ∷ 0 ∷ 7 ∷ 0 ∷ 0 ∷ 0 ∷ 0 ∷ 0 ∷ 14 ∷ [] ++ replicate 16 0 ++ replicate 16 255 ++ 0 ∷ 1 ∷ 0 ∷ 0 ∷ 0 ∷ 0 ∷ 0 ∷ 9 ∷ []

exact_saved : image_of 2 exact_table ≡ exact_image
unfolding image_of indices empty all entry_bytes rule_bytes entry_of body_of pieces bytes_of
exact_saved = refl

exact_loaded : load_table 2 false exact_image (replicate 6 5) ≡ exact_table
unfolding load_answer load_table load_checks check_shape shaped image_checks check_header check_contents check_bodies in_turn check_entry check_body number_at record_at listed rank_fits full_mask sound_parts within all inside meant rules_put put_slot check_twice twice_at lowest least any same_id empty check_order disorder_at misordered overlaps distinct agree both
exact_loaded = refl

-- a mask bit less
bit_missing : load_answer 2 false (set exact_image 45 254) (replicate 6 5) ≡ refusal Image 14
unfolding load_answer load_table load_checks check_shape shaped image_checks check_header check_contents check_bodies in_turn check_entry check_body number_at record_at listed rank_fits full_mask sound_parts within all inside meant rules_put put_slot check_twice twice_at lowest least any same_id empty check_order disorder_at misordered overlaps distinct agree both
bit_missing = refl

-- rank 65,537
rank_high : load_answer 2 false (set exact_image 49 1) (replicate 6 5) ≡ refusal Image 14
unfolding load_answer load_table load_checks check_shape shaped image_checks check_header check_contents check_bodies in_turn check_entry check_body number_at record_at listed rank_fits full_mask sound_parts within all inside meant rules_put put_slot check_twice twice_at lowest least any same_id empty check_order disorder_at misordered overlaps distinct agree both
rank_high = refl

-- five words: rule 7, action 9, rank 20, that cares for the lowest bit, which stands in the fifth word
abbrev wide_table : List ℕ
wide_table = 0 ∷ 0 ∷ 0 ∷ 0 ∷ 1 ∷ 0 ∷ 0 ∷ 0 ∷ 0 ∷ 1 ∷ 30064771081 ∷ 20 ∷ []

abbrev wide_image : List ℕ
wide_image = 0 ∷ 1 ∷ 0 ∷ 1 ∷ 0 ∷ 0 ∷ 0 ∷ 7 ∷ 0 ∷ 0 ∷ 0 ∷ 0 ∷ 0 ∷ 14 ∷ 0 ∷ 0 ∷ 0 ∷ 0 ∷ 0 ∷ 0 ∷ 0 ∷ 0 ∷ 0 ∷ 0 ∷ 0 ∷ 0 ∷ 0 ∷ 0 ∷ 0 ∷ 0 ∷ 0 ∷ 0 ∷ 0 ∷ 0 ∷ 0 ∷ 0 ∷ 0 ∷ 0 ∷ 0 ∷ 0 ∷ 0 ∷ 0 ∷ 0 ∷ 0 ∷ 0 ∷ 0 ∷ 0 ∷ 0 ∷ 0 ∷ 0 ∷ 0 ∷ 0 ∷ 0 ∷ 1 ∷ 0 ∷ 0 ∷ 0 ∷ 0 ∷ 0 ∷ 0 ∷ 0 ∷ 0 ∷ 0 ∷ 0 ∷ 0 ∷ 0 ∷ 0 ∷ 0 ∷ 0 ∷ 0 ∷ 0 ∷ 0 ∷ 0 ∷ 0 ∷ 0 ∷ 0 ∷ 0 ∷ 0 ∷ 0 ∷ 0 ∷ 0 ∷ 0 ∷ 0 ∷ 0 ∷ 0 ∷ 0 ∷ 0 ∷ 0 ∷ 0 ∷ 0 ∷ 0 ∷ 0 ∷ 0 ∷ 1 ∷ 0 ∷ 0 ∷ 0 ∷ 20 ∷ 0 ∷ 0 ∷ 0 ∷ 9 ∷ []

wide_saved : image_of 5 wide_table ≡ wide_image
unfolding image_of indices empty all entry_bytes rule_bytes entry_of body_of pieces bytes_of
wide_saved = refl

wide_loaded : load_table 5 false wide_image (replicate 12 5) ≡ wide_table
unfolding load_answer load_table load_checks check_shape shaped image_checks check_header check_contents check_bodies in_turn check_entry check_body number_at record_at listed rank_fits full_mask sound_parts within all inside meant rules_put put_slot check_twice twice_at lowest least any same_id empty check_order disorder_at misordered overlaps distinct agree both
wide_loaded = refl

-- an image of the other width has the wrong length for its rules
other_width : load_answer 2 false wide_image (replicate 6 5) ≡ refusal Image 2
unfolding load_answer load_table load_checks check_shape shaped image_checks check_header check_contents check_bodies in_turn check_entry check_body number_at record_at listed rank_fits full_mask sound_parts within all inside meant rules_put put_slot check_twice twice_at lowest least any same_id empty check_order disorder_at misordered overlaps distinct agree both
other_width = refl

-- a width that there is not
no_width : load_call 3 false wide_image (replicate 8 5) ≡ refusal Shape 0
unfolding check_width known
no_width = refl
