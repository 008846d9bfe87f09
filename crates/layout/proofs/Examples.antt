-- Worked examples of small layouts: the definitions compute, and give document 01's plans.
-- The last two show what is not claimed: mixed directions may do with fewer writes, and a crossed rule may have a sequence in the class.
use Rattle.std.specs.Prelude.{◌≡◌, refl, Bool, true, false, not, ◌&&◌, ◌||◌, List, [], ◌∷◌, ℕ, eqb, ltb, get_or}
use Rattle.std.proofs.Common.{sym, ap, ◌∙◌, arith, eqb-true, eq-eqb}
use Rattle.std.proofs.Math.Bool.{and-false}
use Rattle.std.proofs.lemmas.Bool.{not-true}
use Rattle.search.specs.Search.{all, any, least, after_last}
use Rattle.search.specs.SearchLaws.{all_law, and_both, and_left, and_right}
use Rattle.layout.specs.Order.{Laws, in_order}
use Rattle.layout.specs.Held.{free}
use Rattle.layout.specs.Minimum.{minimum, lowest_at, highest_at}
use Rattle.layout.specs.Cost.{window_end, costs, next_slot}
use Rattle.layout.specs.Chain.{steps}
use Rattle.layout.specs.Write.{Write, copy, put, moves}
use Rattle.layout.specs.Class.{Sequence}
use Rattle.layout.specs.ClassTest.{copy_fits, last_fits, sequence}
use Rattle.layout.specs.Plan.{down_cost, up_cost, down_chain, up_chain, best_down, best_up, slot_down, slot_up, choose, after_preceding, first_dependant}
use Rattle.layout.specs.Plan.{insert_choice, writes}
use Rattle.layout.specs.Insert.{LeastPlan}
use Rattle.layout.proofs.OrderLaws.{in_order_law}
use Rattle.layout.proofs.HeldLaws.{unique_earlier}
use Rattle.layout.proofs.ClassTestLaws.{tested_sequence}
use Rattle.layout.proofs.InsertLaws.{insert_plan_lem}

-- Entries are numbers, 0 for an empty slot. A list of pairs says which rule depends on which.
pub record Pair : Type 0 where
  pub dependant : ℕ
  pub preceding : ℕ

abbrev on : ℕ → ℕ → Pair
on a b = record { dependant = a; preceding = b }

abbrev occupied : ℕ → Bool
occupied e = not (eqb e 0)

abbrev same : ℕ → ℕ → Bool
same a b = occupied a && eqb a b

unfoldable pub listed_slots : List Pair → ℕ → ℕ → Bool
listed_slots [] a b = false
listed_slots (p ∷ ps) a b = (eqb a p.dependant && eqb b p.preceding) || listed_slots ps a b

abbrev misordered : List Pair → ℕ → ℕ → Bool
misordered ps a b = (occupied a && occupied b) && (not (eqb a b) && listed_slots ps a b)

same_equal : (a b : ℕ) → same a b ≡ true → a ≡ b
same_equal a b s = eqb-true a b (and_right (occupied a) (eqb a b) s)

laws : (ps : List Pair) → Laws 0 occupied same (misordered ps)
laws ps = record {
  vacant = refl;
  misordered_left = λ a b o. rw o;
  misordered_right = λ a b o. rw (o, and-false (occupied a));
  misordered_same = λ a b s. rw (and_right (occupied a) (eqb a b) s) (and-false (occupied a && occupied b));
  same_occupied = λ a b s. and_left (occupied a) (eqb a b) s;
  same_self = λ a o. and_both (occupied a) (eqb a a) o (eq-eqb a a refl);
  same_symmetric = λ a b s. ap (same b) (same_equal a b s) ∙ (ap (λ (x : ℕ). same x b) (sym (same_equal a b s)) ∙ s);
  same_transitive = λ a b c s r. ap (same a) (sym (same_equal b c r)) ∙ s;
}

plan : List Pair → List ℕ → ℕ → List Write
unfolding all any least after_last minimum lowest_at highest_at window_end costs next_slot steps moves down_cost up_cost down_chain up_chain best_down best_up slot_down slot_up choose after_preceding first_dependant insert_choice listed_slots
plan ps t new = writes (insert_choice 0 occupied (misordered ps) t new)

-- one empty slot: one write, to 0
one_slot : plan [] (0 ∷ []) 1 ≡ put 0 ∷ []
unfolding plan
one_slot = refl

-- slots 0 a, 1 other, 2 c, 3 d, 4 empty; c depends on a, d on c; the new rule, 5, before a: 1→4, 0→1, new→0
five : List ℕ
five = 1 ∷ 2 ∷ 3 ∷ 4 ∷ 0 ∷ []

five_pairs : List Pair
five_pairs = on 3 1 ∷ on 4 3 ∷ on 1 5 ∷ []

five_plan : plan five_pairs five 5 ≡ copy 1 4 ∷ copy 0 1 ∷ put 0 ∷ []
unfolding plan five five_pairs
five_plan = refl

-- it is in the class, and by the theorem no sequence of the class is shorter; the premises are evaluated
five_member : sequence 0 occupied same (misordered five_pairs) ltb 5 five (copy 1 4 ∷ copy 0 1 ∷ put 0 ∷ []) ≡ true
unfolding plan five five_pairs sequence copy_fits last_fits in_order free
five_member = refl

five_least : LeastPlan 0 occupied same (misordered five_pairs) five 5 (insert_choice 0 occupied (misordered five_pairs) five 5)
unfolding plan five five_pairs in_order
five_least =
    insert_plan_lem (laws five_pairs) five (unique_earlier (laws five_pairs) five ((in_order_law 0 same five).0 refl)) 5
    ((in_order_law 0 (misordered five_pairs) five).0 refl)
    (λ k h. not-true (same (get_or five k 0) 5) ((all_law (λ k. not (same (get_or five k 0) 5)) 5).0 refl k h)) refl 4 (omega arith) refl (omega arith)

-- the third insert of document 01's script
third_plan : plan (on 2 1 ∷ on 3 1 ∷ on 2 3 ∷ []) (1 ∷ 2 ∷ 0 ∷ 0 ∷ 0 ∷ 0 ∷ []) 3 ≡ copy 1 2 ∷ put 1 ∷ []
unfolding plan
third_plan = refl

-- 0 empty, 1 a, 2 b, b depends on a; new between: 1→0, new→1; with slot 3 empty too: 2→3, new→2
up_plan : plan (on 2 1 ∷ on 3 1 ∷ on 2 3 ∷ []) (0 ∷ 1 ∷ 2 ∷ []) 3 ≡ copy 1 0 ∷ put 1 ∷ []
unfolding plan
up_plan = refl

down_plan : plan (on 2 1 ∷ on 3 1 ∷ on 2 3 ∷ []) (0 ∷ 1 ∷ 2 ∷ 0 ∷ []) 3 ≡ copy 2 3 ∷ put 2 ∷ []
unfolding plan
down_plan = refl

-- of slots of equal cost a down plan takes the lowest_at, an up plan the highest_at
lowest_plan : plan [] (1 ∷ 0 ∷ 0 ∷ []) 2 ≡ put 1 ∷ []
unfolding plan
lowest_plan = refl

highest_plan : plan (on 4 1 ∷ on 3 4 ∷ on 3 2 ∷ []) (0 ∷ 0 ∷ 1 ∷ 2 ∷ 3 ∷ []) 4 ≡ copy 3 1 ∷ put 3 ∷ []
unfolding plan
highest_plan = refl

-- Rules 1 to 5 in slots 0 to 4, slot 5 empty; 4 depends on 3, 5 on 4; 2 precedes the new rule, 6, and 3 depends on it: four writes one way, ..
six : List ℕ
six = 1 ∷ 2 ∷ 3 ∷ 4 ∷ 5 ∷ 0 ∷ []

six_pairs : List Pair
six_pairs = on 4 3 ∷ on 5 4 ∷ on 6 2 ∷ on 3 6 ∷ []

six_plan : plan six_pairs six 6 ≡ copy 4 5 ∷ copy 3 4 ∷ copy 2 3 ∷ put 2 ∷ []
unfolding plan six six_pairs
six_plan = refl

-- .. and three where copies may go either way, all else being as the class has it
six_mixed : Sequence 0 occupied same (misordered six_pairs) (λ i j. not (eqb i j) ≡ true) 6 six (copy 0 5 ∷ copy 1 0 ∷ put 1 ∷ [])
unfolding plan six six_pairs sequence copy_fits last_fits in_order free
six_mixed = tested_sequence 0 occupied same (misordered six_pairs) (λ i j. not (eqb i j)) 6 six (copy 0 5 ∷ copy 1 0 ∷ put 1 ∷ []) refl

-- A crossed rule, 4: 3 precedes it and stands after 2, which depends on it. The class has a sequence for it none the less.
crossed : List ℕ
crossed = 1 ∷ 2 ∷ 3 ∷ 0 ∷ 0 ∷ []

crossed_pairs : List Pair
crossed_pairs = on 4 3 ∷ on 2 4 ∷ []

crossed_neighbours : (after_preceding 0 (misordered crossed_pairs) crossed 4 ≡ 3) × (first_dependant 0 (misordered crossed_pairs) crossed 4 ≡ 1)
unfolding plan crossed crossed_pairs
crossed_neighbours = (refl, refl)

crossed_sequence : Sequence 0 occupied same (misordered crossed_pairs) (λ i j. ltb i j ≡ true) 4 crossed (copy 1 4 ∷ copy 0 1 ∷ put 3 ∷ [])
unfolding plan crossed crossed_pairs sequence copy_fits last_fits in_order free
crossed_sequence = tested_sequence 0 occupied same (misordered crossed_pairs) ltb 4 crossed (copy 1 4 ∷ copy 0 1 ∷ put 3 ∷ []) refl
