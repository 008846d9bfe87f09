-- End theorems on a lent list: it is the table's list exactly where it is not told to be stale, and the two numbers of each slot are its numbers.
use Rattle.std.specs.Prelude.{◌≡◌, refl, Bool, true, false, not, ◌&&◌, ◌||◌, ◌↔◌, ◌⊎◌, List, ℕ, ◌+◌, ◌*◌, ◌/◌, ◌%◌, ◌≤◌, ◌<◌, eqb, length, get_or, take, set}
use Rattle.std.proofs.Common.{sym, ap, ◌∙◌, subst, true≢false, arith, length-set, ext_get_or, length-take-le, get_or-take, get_or-set_same, get_or-set_other, eq-eqb, ne_eqb, eqb-true}
use Rattle.std.proofs.Math.Logic.◌⊎◌.{inl, inr}
use Rattle.std.proofs.Math.Decide.{dec_lt, ℕ_discrete}
use Rattle.search.specs.Search.{all}
use Rattle.search.specs.SearchLaws.{all_law, all_next, all_cong}
use Rattle.records.specs.Order.{slots}
use Rattle.records.specs.Widths.{Width}
use Rattle.records.proofs.RulesLaws.{length_listed, word_listed}
use Rattle.neighbour_lists.specs.Lists.{Listed, next_dependant, last_preceding, list_numbers, list_number_at, list_of, differing, stale_list}

-- a slot has more words than a list has numbers for it, so that twice the slots of a lent table fit a number
pub numbers_few : (w : ℕ) (t : List ℕ) → Width w → list_numbers w t ≤ length t
numbers_few w t width = by width.2
  where
    by : (w ≡ 2) ⊎ (w ≡ 5) → 2 * slots w t ≤ length t
    by (inl e) = subst (λ (v : ℕ). 2 * slots v t ≤ length t) (sym e) (omega arith)
    by (inr e) = subst (λ (v : ℕ). 2 * slots v t ≤ length t) (sym e) (omega arith)

-- the numbers of the list, and their places
pub list_length : (w : ℕ) (u : Bool) (t : List ℕ) → length (list_of w u t) ≡ list_numbers w t
unfolding list_of
list_length w u t = length_listed (list_numbers w t) (list_number_at w u t)

pub list_number : (w : ℕ) (u : Bool) (t : List ℕ) (k : ℕ) → k < list_numbers w t → get_or (list_of w u t) k 0 ≡ list_number_at w u t k
unfolding list_of
list_number w u t k h = word_listed (list_numbers w t) (list_number_at w u t) k h

pub number_even : (w : ℕ) (u : Bool) (t : List ℕ) (i : ℕ) → list_number_at w u t (2 * i) ≡ next_dependant w u t i
number_even w u t i =
    let half : 2 * i / 2 ≡ i = omega arith in
    rw (eq-eqb (2 * i % 2) 0 (omega arith), half)

pub number_odd : (w : ℕ) (u : Bool) (t : List ℕ) (i : ℕ) → list_number_at w u t (2 * i + 1) ≡ last_preceding w u t i
number_odd w u t i =
    let half : (2 * i + 1) / 2 ≡ i = omega arith in
    rw (ne_eqb ((2 * i + 1) % 2) 0 (λ e. omega arith), half)

-- the list of a table begins with its numbers, and a list that does is this one as far as it goes
pub list_listed : (w : ℕ) (u : Bool) (t : List ℕ) → Listed w u t (list_of w u t)
list_listed w u t i h = (
  list_number w u t (2 * i) (omega arith) ∙ number_even w u t i,
  list_number w u t (2 * i + 1) (omega arith) ∙ number_odd w u t i,
)

pub listed_number : (w : ℕ) (u : Bool) (t near : List ℕ) → Listed w u t near → (k : ℕ) → k < list_numbers w t → get_or near k 0 ≡ get_or (list_of w u t) k 0
listed_number w u t near f k h = at (dec_lt (k % 2) 1)
  where
    at : Dec (k % 2 < 1) → get_or near k 0 ≡ get_or (list_of w u t) k 0
    at (yes e) =
        let whole : k ≡ 2 * (k / 2) = omega arith in
        ap (λ (j : ℕ). get_or near j 0) whole
        ∙ ((f (k / 2) (omega arith)).0 ∙ (sym (list_listed w u t (k / 2) (omega arith)).0 ∙ ap (λ (j : ℕ). get_or (list_of w u t) j 0) (sym whole)))
    at (no e) =
        let whole : k ≡ 2 * (k / 2) + 1 = omega arith in
        ap (λ (j : ℕ). get_or near j 0) whole
        ∙ ((f (k / 2) (omega arith)).1 ∙ (sym (list_listed w u t (k / 2) (omega arith)).1 ∙ ap (λ (j : ℕ). get_or (list_of w u t) j 0) (sym whole)))

pub listed_front : (w : ℕ) (u : Bool) (t near : List ℕ) → Listed w u t near → list_numbers w t ≤ length near → take (list_numbers w t) near ≡ list_of w u t
listed_front w u t near f room =
    let size = length-take-le (list_numbers w t) near room in
    ext_get_or 0 (take (list_numbers w t) near) (list_of w u t) (size ∙ sym (list_length w u t))
    (λ k h. get_or-take (list_numbers w t) near k 0 (omega arith) ∙ listed_number w u t near f k (omega arith))

-- a list of the table's length that begins with its numbers is its list
pub listed_whole : (w : ℕ) (u : Bool) (t list : List ℕ) → Listed w u t list → length list ≡ list_numbers w t → list ≡ list_of w u t
listed_whole w u t list f size =
    ext_get_or 0 list (list_of w u t) (size ∙ sym (list_length w u t)) (λ k h. listed_number w u t list f k (omega arith))

-- one number more of a list that is stored from the front: those below are the new ones, those from there on the old
pub record Stored (near old : List ℕ) (i : ℕ) (list : List ℕ) : Type 0 where
  pub size : length list ≡ length old
  pub first : (k : ℕ) → k < i → get_or list k 0 ≡ get_or near k 0
  pub rest : (k : ℕ) → i ≤ k → get_or list k 0 ≡ get_or old k 0

pub stored_next : (near old list : List ℕ) (i : ℕ) → Stored near old i list → i < length old → Stored near old (i + 1) (set list i (get_or near i 0))
stored_next near old list i s h = record {
  size = length-set list i (get_or near i 0) ∙ s.size;
  first = λ k l. at k l (ℕ_discrete k i);
  rest = λ k l. get_or-set_other list i k (get_or near i 0) 0 (λ e. omega arith) ∙ s.rest k (omega arith);
}
  where
    at : (k : ℕ) → k < i + 1 → Dec (k ≡ i) → get_or (set list i (get_or near i 0)) k 0 ≡ get_or near k 0
    at k l (yes e) =
        ap (λ (j : ℕ). get_or (set list i (get_or near i 0)) j 0) e
        ∙ (get_or-set_same list i (get_or near i 0) 0 (let n = s.size in omega arith) ∙ ap (λ (j : ℕ). get_or near j 0) (sym e))
    at k l (no e) = get_or-set_other list i k (get_or near i 0) 0 e ∙ s.first k (omega arith)

pub stored_all : (near old list : List ℕ) (i : ℕ) → Stored near old i list → length old ≤ i → length old ≤ length near → list ≡ take (length old) near
stored_all near old list i s h room =
    let n = s.size in
    let m = length-take-le (length old) near room in
    ext_get_or 0 list (take (length old) near) (n ∙ sym m) (λ k l. s.first k (omega arith) ∙ sym (get_or-take (length old) near k 0 (omega arith)))

-- whether a number differs, one number further
pub differing_next : (near list : List ℕ) (n : ℕ) → differing near list (n + 1) ≡ (not (eqb (get_or list n 0) (get_or near n 0)) || differing near list n)
unfolding differing
differing_next near list n =
    ap not (all_next (λ (k : ℕ). eqb (get_or list k 0) (get_or near k 0)) n)
    ∙ both (all (λ (k : ℕ). eqb (get_or list k 0) (get_or near k 0)) n) (eqb (get_or list n 0) (get_or near n 0))
  where
    both : (a b : Bool) → not (a && b) ≡ (not b || not a)
    both true true = refl
    both true false = refl
    both false true = refl
    both false false = refl

-- a list whose front is the table's tells it as well as the table's own
pub differing_stale : (w : ℕ) (u : Bool) (t near list : List ℕ) → Listed w u t near → differing near list (list_numbers w t) ≡ stale_list w u t list
unfolding stale_list differing
differing_stale w u t near list f =
    ap not (all_cong (list_numbers w t) (λ k h. ap (eqb (get_or list k 0)) (listed_number w u t near f k h)))

-- document 02: a lent list agrees with the table, or does not
pub stale_law : (w : ℕ) (u : Bool) (t list : List ℕ) → length list ≡ list_numbers w t → (stale_list w u t list ≡ false) ↔ (list ≡ list_of w u t)
unfolding stale_list differing
stale_law w u t list size = (forth, back)
  where
    holds : (b : Bool) → not b ≡ false → b ≡ true
    holds true e = refl
    holds false e = absurd (true≢false e)

    forth : not (all (λ (k : ℕ). eqb (get_or list k 0) (get_or (list_of w u t) k 0)) (list_numbers w t)) ≡ false → list ≡ list_of w u t
    forth e =
        ext_get_or 0 list (list_of w u t) (size ∙ sym (list_length w u t))
        (λ k h. eqb-true (get_or list k 0) (get_or (list_of w u t) k 0) ((all_law _ (list_numbers w t)).0 (holds _ e) k (omega arith)))

    back : list ≡ list_of w u t → not (all (λ (k : ℕ). eqb (get_or list k 0) (get_or (list_of w u t) k 0)) (list_numbers w t)) ≡ false
    back e = ap not ((all_law _ (list_numbers w t)).1 (λ k h. eq-eqb (get_or list k 0) (get_or (list_of w u t) k 0) (ap (λ (l : List ℕ). get_or l k 0) e)))
