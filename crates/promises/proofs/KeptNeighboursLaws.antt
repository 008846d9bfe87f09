-- End theorems: document 02's request 2026-10, of the list of any table and of the two calls that are lent one.
use Rattle.std.specs.Prelude.{◌≡◌, refl, true, false, cond, ◌&&◌, ◌↔◌, ◌⊎◌, List, ltb, length, get_or}
use Rattle.std.proofs.Common.{sym, ap, ◌∙◌, subst, true≢false, ⊎_elim, arith, ne_eqb, lt-ltb, le-ltb}
use Rattle.std.proofs.Math.Bool.{Bool}
use Rattle.std.proofs.lemmas.Bool.{false≢true}
use Rattle.std.proofs.Math.Logic.◌⊎◌.{inl, inr}
use Prim.Native.Nat.{ℕ, suc, ◌+◌, ◌-◌, ◌*◌, ◌≤◌, ◌<◌}
use Rattle.std.proofs.Math.Decide.{dec_lt, ℕ_discrete}
use Rattle.search.specs.Search.{after_last}
use Rattle.search.specs.SearchLaws.{decided, after_last_law, first_either}
use Rattle.records.specs.Record.{slot_words, occupied}
use Rattle.records.specs.Order.{slots}
use Rattle.records.specs.Checks.{Told, unless, passes}
use Rattle.records.proofs.Laws.{precedes_law}
use Rattle.records.specs.Widths.{check_words, check_rule}
use Rattle.records.proofs.WidthsLaws.{words_law}
use Rattle.records.specs.Editions.{lent_rule}
use Rattle.records.specs.Verdict.{Check}
use Rattle.records.specs.Verdict.{Pass, Fail}
use Rattle.buffers.specs.Buffers.{flag_number}
use Rattle.neighbour_lists.specs.Lists.{Listed, precedes_slot, last_below, next_dependant, last_preceding, list_numbers, list_of, stale_list}
use Rattle.neighbour_lists.proofs.LentLaws.{list_length, list_listed, listed_whole, stale_law}
use Rattle.insert_plans.specs.Inserts.{insert_call_reply}
use Rattle.insert_plans.specs.ListedInserts.{listed_insert_reply}
use Rattle.insert_plans.proofs.ListedLaws.{next_nearest, next_none, before_nearest, before_none}
use Rattle.insert_plans.specs.Tables.{replied_of, line, value_from, mask_from}
use Rattle.listed_steps.specs.ListedSteps.{listed_step_writes, listed_step_table}
use Rattle.marshalling.specs.Carried.{carry_result}
use Rattle.refusals.specs.Calls.{OneId, Precedes}
use Rattle.refusals.proofs.CallsLaws.{listed_insert_call_rows_lem, listed_step_call_rows_lem}
use Rattle.tcam.specs.declared.carry.Progress.{Progress}
use Rattle.tcam.specs.Carried.{CarryLeft}
use Rattle.tcam.specs.ListedCarried.{ListedCarryLeft}
use Rattle.tcam.proofs.ListedCarriedLaws.{listed_carry, other_list}
use Rattle.tcam.specs.Cells.{InsertLeft, CoverLeft, ListedInsertLeft, ListDeclined}
use Rattle.tcam.proofs.CellsLaws.{listed_as_insert, listed_success, listed_declined}
use Rattle.promises.specs.Calls.{wrote_result}
use Rattle.promises.specs.FirstDemand.{IsRefusal}
use Rattle.promises.proofs.FirstDemandLaws.{told_declines, cell_kept, lent_accepted, lent_case, call_case, carries_by, never_wrote, step_writes_lem, first_demand}
use Rattle.promises.specs.KeptNeighbours.{DependantAt, NoDependant, PrecedingAt, NonePreceding, NeighbourList, SaysFresh, InsertListed, CarryListed}
use Rattle.promises.specs.KeptNeighbours.{LeftFor, planned, wrote, KeptNeighbours, WorkedLists, listed_tables}

-- the numbers of a slot, in words
module _ (w : ℕ) (u : Bool) (t : List ℕ) (few : slots w t ≤ 1024) where
  abbrev At : ℕ → ℕ → Type 0
  At i j = Precedes w u (slot_words w t i) (slot_words w t j)

  law : (i j : ℕ) → (precedes_slot w u t i j ≡ true) ↔ At i j
  law i j = precedes_law w u (slot_words w t i) (slot_words w t j)

  not_so : (i j : ℕ) → precedes_slot w u t i j ≡ false → At i j → ⊥
  not_so i j e p = true≢false (sym ((law i j).1 p) ∙ e)

  so_not : (i j : ℕ) → (At i j → ⊥) → precedes_slot w u t i j ≡ false
  so_not i j f = ⊎_elim (λ e. absurd (f ((law i j).0 e))) (λ e. e) (decided (precedes_slot w u t i j))

  enough : slots w t ≤ 65535
  enough = omega (arith, few)

  -- of one slot, whatever list has its numbers
  module _ (list : List ℕ) (i : ℕ) (h : i < slots w t) (own : get_or list (2 * i) 0 ≡ next_dependant w u t i)
      (other : get_or list (2 * i + 1) 0 ≡ last_preceding w u t i) where
    after_is : (j : ℕ) → ((j < slots w t) × (get_or list (2 * i) 0 ≡ j)) ↔ DependantAt w u t i j
    after_is j = (
      λ x. let n = (next_nearest w u t enough i h j x.0).0 (sym own ∙ x.1) in record {
        inside = x.0;
        after = n.after;
        depends = (law i j).0 n.bounding;
        nearest = λ k a b. not_so i k (n.none_nearer k (omega (arith, b, x.0)) a b);
      },
      λ d. (
        d.inside,
        own ∙ (next_nearest w u t enough i h j d.inside).1 (record {
          within = d.inside;
          after = d.after;
          bounding = (law i j).1 d.depends;
          none_nearer = λ k l a b. so_not i k (d.nearest k a b);
        }),
      ),
    )

    after_none : (get_or list (2 * i) 0 ≡ 65535) ↔ NoDependant w u t i
    after_none =
        let n = next_none w u t enough i h in
        (λ e k a b. not_so i k (n.0 (sym own ∙ e) k a b), λ f. own ∙ n.1 (λ k a b. so_not i k (f k a b)))

    before_is : (j : ℕ) → ((j < slots w t) × (get_or list (2 * i + 1) 0 ≡ j)) ↔ PrecedingAt w u t i j
    before_is j = (
      λ x. let n = (before_nearest w u t enough i h j x.0).0 (sym other ∙ x.1) in record {
        before = n.after;
        precedes = (law j i).0 n.bounding;
        nearest = λ k a b. not_so k i (n.none_nearer k (omega (arith, b, h)) b a);
      },
      λ d. let inside : j < slots w t = omega (arith, d.before, h) in (
        inside,
        other ∙ (before_nearest w u t enough i h j inside).1 (record {
          within = inside;
          after = d.before;
          bounding = (law j i).1 d.precedes;
          none_nearer = λ k l a b. so_not k i (d.nearest k b a);
        }),
      ),
    )

    none_before : (get_or list (2 * i + 1) 0 ≡ 65535) ↔ NonePreceding w u t i
    none_before =
        let n = before_none w u t enough i h in
        (λ e k a. not_so k i (n.0 (sym other ∙ e) k a), λ f. other ∙ n.1 (λ k a. so_not k i (f k a)))

  -- a list that begins with the table's numbers says so; and no other does
  says : (list : List ℕ) → length list ≡ list_numbers w t → Listed w u t list → NeighbourList w u t list
  says list size listed = record {
    size = size;
    dependant = λ i j h. after_is list i h (listed i h).0 (listed i h).1 j;
    no_dependant = λ i h. after_none list i h (listed i h).0 (listed i h).1;
    preceding = λ i j h. before_is list i h (listed i h).0 (listed i h).1 j;
    none_preceding = λ i h. none_before list i h (listed i h).0 (listed i h).1;
  }

  own_list : NeighbourList w u t (list_of w u t)
  own_list = says (list_of w u t) (list_length w u t) (list_listed w u t)

  after_either : (i : ℕ) → i < slots w t → (next_dependant w u t i < slots w t) ⊎ (next_dependant w u t i ≡ 65535)
  unfolding next_dependant
  after_either i h = first_either (precedes_slot w u t i) (suc i) (slots w t) h enough

  before_either : (i : ℕ) → i < slots w t → (last_preceding w u t i < slots w t) ⊎ (last_preceding w u t i ≡ 65535)
  unfolding last_preceding last_below
  before_either i h =
      let p : ℕ → Bool = λ k. precedes_slot w u t k i in
      by (after_last p i) (after_last_law p i).high (dec_lt 0 (after_last p i))
    where
      by : (a : ℕ) → a ≤ i → Dec (0 < a) → (cond (ltb 0 a) (a - 1) 65535 < slots w t) ⊎ (cond (ltb 0 a) (a - 1) 65535 ≡ 65535)
      by a high (yes l) = inl (rw (lt-ltb 0 a l) (omega (arith, l, h, high)))
      by a high (no l) = inr (rw (le-ltb 0 a (omega (arith, l))))

  no_other : (list : List ℕ) → NeighbourList w u t list → list ≡ list_of w u t
  no_other list s = listed_whole w u t list (λ i h. (after i h, before i h)) s.size
    where
      after : (i : ℕ) → i < slots w t → get_or list (2 * i) 0 ≡ next_dependant w u t i
      after i h =
          let e = (list_listed w u t i h).0 in
          ⊎_elim (λ l. ((s.dependant i _ h).1 ((own_list.dependant i _ h).0 (l, e))).1)
          (λ none. (s.no_dependant i h).1 ((own_list.no_dependant i h).0 (e ∙ none)) ∙ sym none) (after_either i h)

      before : (i : ℕ) → i < slots w t → get_or list (2 * i + 1) 0 ≡ last_preceding w u t i
      before i h =
          let e = (list_listed w u t i h).1 in
          ⊎_elim (λ l. ((s.preceding i _ h).1 ((own_list.preceding i _ h).0 (l, e))).1)
          (λ none. (s.none_preceding i h).1 ((own_list.none_preceding i h).0 (e ∙ none)) ∙ sym none) (before_either i h)

  list_says : (list : List ℕ) → (list ≡ list_of w u t) ↔ NeighbourList w u t list
  list_says list = (λ e. subst (NeighbourList w u t) (sym e) own_list, no_other list)

  empty_slot : (i : ℕ) → i < slots w t → occupied w (slot_words w t i) ≡ false
      → (get_or (list_of w u t) (2 * i) 0 ≡ 65535) × (get_or (list_of w u t) (2 * i + 1) 0 ≡ 65535)
  empty_slot i h e = (
    (own_list.no_dependant i h).1 (λ k a b p. true≢false (sym p.0.0 ∙ e)),
    (own_list.none_preceding i h).1 (λ k a p. true≢false (sym p.0.1 ∙ e)),
  )

  own_copies : (i j : ℕ) → i < slots w t → j < slots w t → OneId w (slot_words w t i) (slot_words w t j)
      → (get_or (list_of w u t) (2 * i) 0 ≡ j → ⊥) × (get_or (list_of w u t) (2 * i + 1) 0 ≡ j → ⊥)
  own_copies i j h l same = (
    λ e. ((own_list.dependant i j h).0 (l, e)).depends.0.2 same.2,
    λ e. ((own_list.preceding i j h).0 (l, e)).precedes.0.2 (sym same.2),
  )

-- a cell that has the flag says whether the list was not the table's
says_fresh : (w : ℕ) (u : Bool) (t list : List ℕ) (cell : ℕ) → length list ≡ list_numbers w t → cell ≡ flag_number (stale_list w u t list) → SaysFresh w u t list cell
says_fresh w u t list cell size e = by (stale_list w u t list) e (stale_law w u t list size)
  where
    by : (stale : Bool) → cell ≡ flag_number stale → (stale ≡ false) ↔ (list ≡ list_of w u t) → SaysFresh w u t list cell
    by true e law = ((λ o p. true≢false (law.1 p), λ n. e), (λ z. absurd (omega (arith, e, z)), λ p. absurd (true≢false (law.1 p))))
    by false e law = ((λ o. absurd (omega (arith, e, o)), λ n. absurd (n (law.0 refl))), (λ z. law.0 refl, λ p. e))

-- planning
module _ (w : ℕ) (u : Bool) (e : ℕ) (t rule list list' : List ℕ) (result : ℕ) (plan after : List ℕ) (count count' covered covered' refreshed refreshed' spot spot' : ℕ)
    (left : ListedInsertLeft w u e t rule list list' result plan after count count' covered covered' refreshed refreshed' spot spot') where
  abbrev reply : Told
  reply = listed_insert_reply w u e t rule list (length plan)

  insert_listed : InsertListed w u e t rule list list' result plan after count count' covered covered' refreshed refreshed' spot spot'
  insert_listed = record {
    same = as_insert;
    other = as_declined;
    listed = λ none.
        let done = listed_success w u e t rule list list' result plan after count count' covered covered' refreshed refreshed' spot spot' left none in
        let size = (words_law (length list) (list_numbers w t)).0
        (lent_accepted (check_words (length list) (list_numbers w t)) (insert_call_reply w u e t rule (length plan)) (sym left.left.number ∙ none)) in
        (done.0, says_fresh w u t list refreshed' size done.1);
    kept = λ refused.
        let declines : IsRefusal reply.number = λ z. refused (left.left.number ∙ z) in (
          left.listed ∙ ap (λ (b : Bool). cond b (list_of w u t) list) (ne_eqb reply.number 0 declines),
          left.refreshed_told ∙ cell_kept reply 2 refreshed declines,
          plan_kept refused (ℕ_discrete (length list) (list_numbers w t)),
          left.left.counted ∙ cell_kept reply 0 count declines,
          left.covered_told ∙ cell_kept reply 1 covered declines,
        );
    declines = told_declines _ reply result spot spot' (listed_insert_call_rows_lem w u e t rule list (length plan)) left.left.number left.left.spotted;
  }
    where
      as_insert : length list ≡ list_numbers w t
          → InsertLeft w u e t rule result plan after count count' spot spot' × CoverLeft w u e t rule (length plan) covered covered'
      as_insert = listed_as_insert w u e t rule list list' result plan after count count' covered covered' refreshed refreshed' spot spot' left

      as_declined : (length list ≡ list_numbers w t → ⊥) → ListDeclined list list' result plan after count count' covered covered' refreshed refreshed' spot'
      as_declined = listed_declined w u e t rule list list' result plan after count count' covered covered' refreshed refreshed' spot spot' left

      plan_kept : IsRefusal result → Dec (length list ≡ list_numbers w t) → after ≡ plan
      plan_kept refused (yes size) = ((first_demand.insert w u e t rule result plan after count count' spot spot' (as_insert size).0).1 refused).0
      plan_kept refused (no size) = (as_declined size).planned

-- the result of a write is returned exactly where one is made, behind a check too
lent_writes : (check : Check) (told : Told) (makes : Bool) → (carry_result told ≡ 0) ↔ (makes ≡ true) → (carry_result (unless check told) ≡ 0) ↔ (passes check && makes ≡ true)
lent_writes Pass told makes law = law
lent_writes (Fail cause spot) told makes law = (λ e. absurd (never_wrote cause spot e), λ e. absurd (false≢true e))

-- carrying out
module _ (w : ℕ) (u : Bool) (e : ℕ) (t plan rule list : List ℕ) (progress : Progress) (cell result : ℕ) (after list' : List ℕ) (progress' : Progress) (cell' : ℕ)
    (left : ListedCarryLeft w u e t plan rule list progress cell result after list' progress' cell') where
  abbrev writes : Bool
  writes = listed_step_writes w e t plan rule (length list) progress.done progress.total

  wrote_law : (result ≡ wrote_result) ↔ (writes ≡ true)
  wrote_law =
      let law = lent_writes (check_words (length list) (list_numbers w t)) _ _
      (lent_writes (check_rule w (length rule)) _ _ (step_writes_lem w t plan (lent_rule w e rule) progress.done progress.total)) in
      (λ z. law.0 (sym left.told ∙ z), λ makes. left.told ∙ law.1 makes)

  carry_listed : CarryListed w u e t plan rule list progress cell result after list' progress' cell'
  carry_listed = record {
    same = as_carry;
    other = as_other;
    listed = λ z. let makes = wrote_law.0 z in (
      left.listed
          ∙ (ap (λ (b : Bool). cond b (list_of w u (listed_step_table w e t plan rule (length list) progress.done progress.total)) list) makes
          ∙ ap (list_of w u) (sym left.table)),
      says_fresh w u t list cell' (and_size z (ℕ_discrete (length list) (list_numbers w t)))
          (left.refreshed ∙ ap (λ (b : Bool). cond b (flag_number (stale_list w u t list)) cell) makes),
    );
    kept = λ not_wrote.
        let still : writes ≡ false = ⊎_elim (λ makes. absurd (not_wrote (wrote_law.1 makes))) (λ f. f) (decided writes) in
        let rest = all_kept not_wrote (ℕ_discrete (length list) (list_numbers w t)) in (
          left.listed ∙ ap (λ (b : Bool). cond b (list_of w u (listed_step_table w e t plan rule (length list) progress.done progress.total)) list) still,
          left.refreshed ∙ ap (λ (b : Bool). cond b (flag_number (stale_list w u t list)) cell) still,
          rest.0,
          rest.1,
          rest.2,
        );
    declines = carries_by _ progress _ result (listed_step_call_rows_lem w e t plan rule (length list) progress.done progress.total)
        (lent_case (check_words (length list) (list_numbers w t)) progress _ (call_case w e t plan rule progress)) left.told;
  }
    where
      as_carry : length list ≡ list_numbers w t → CarryLeft w e t plan rule progress result after progress'
      as_carry = listed_carry w u e t plan rule list progress cell result after list' progress' cell' left

      as_other : (length list ≡ list_numbers w t → ⊥)
          → (result ≡ 1) × (after ≡ t) × (list' ≡ list) × (progress'.done ≡ progress.done) × (progress'.total ≡ progress.total) × (cell' ≡ cell)
      as_other = other_list w u e t plan rule list progress cell result after list' progress' cell' left

      -- a list of another length is not written with
      and_size : result ≡ wrote_result → Dec (length list ≡ list_numbers w t) → length list ≡ list_numbers w t
      and_size z (yes size) = size
      and_size z (no size) = absurd (omega (arith, z, (as_other size).0))

      all_kept : (result ≡ wrote_result → ⊥) → Dec (length list ≡ list_numbers w t)
          → (after ≡ t) × (progress'.done ≡ progress.done) × (progress'.total ≡ progress.total)
      all_kept not_wrote (yes size) = (first_demand.carry w e t plan rule progress result after progress' (as_carry size)).1 not_wrote
      all_kept not_wrote (no size) = let o = as_other size in (o.1, o.3, o.4)

-- a list as a call left it
left_listed : {w : ℕ} {u : Bool} {t list : List ℕ} → LeftFor w u t list → list ≡ list_of w u t
left_listed {w} {u} (planned e t rule list list' plan after count count' covered covered' refreshed refreshed' spot spot' left) =
    ((insert_listed w u e t rule list list' 0 plan after count count' covered covered' refreshed refreshed' spot spot' left).listed refl).0
left_listed {w} {u} (wrote e t plan rule list progress cell after list' progress' cell' left) =
    ((carry_listed w u e t plan rule list progress cell wrote_result after list' progress' cell' left).listed refl).0

-- document 02's request 2026-10
pub kept_neighbours : (w : ℕ) (u : Bool) → KeptNeighbours w u
kept_neighbours w u = record {
  numbers = λ t list few. list_says w u t few list;
  vacant = empty_slot w u;
  copies = own_copies w u;
  insert = insert_listed w u;
  carry = carry_listed w u;
  left_own = λ t list is. left_listed is;
  next_insert = λ t list is e rule list' plan after count count' covered covered' refreshed refreshed' spot spot' left.
      ((insert_listed w u e t rule list list' 0 plan after count count' covered covered' refreshed refreshed' spot spot' left).listed refl).1.1.1 (left_listed is);
  next_carry = λ t list is e plan rule progress cell after list' progress' cell' left.
      ((carry_listed w u e t plan rule list progress cell wrote_result after list' progress' cell' left).listed refl).1.1.1 (left_listed is);
}

-- the lists of the tables, by computation, at both widths
pub worked_lists : WorkedLists 2 × WorkedLists 5
unfolding replied_of last_below next_dependant last_preceding list_of listed_tables line value_from mask_from
worked_lists = (refl, refl)
