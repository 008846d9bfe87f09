-- End theorems: document 01's demand 2, of what the exported calls return and leave.
use Rattle.std.specs.Prelude.{◌≡◌, refl, true, cond, Bool, false, ◌↔◌, ◌⊎◌, List, [], ◌∷◌, ℕ, suc, ◌*◌, ◌≤◌, ◌<◌, length, get_or, drop}
use Rattle.std.proofs.Common.{sym, ap, ◌∙◌, subst, true≢false, ⊎_elim, div-add-mod', arith, eq-eqb}
use Rattle.std.proofs.Math.Logic.◌⊎◌.{inl, inr}
use Rattle.std.proofs.Math.Option.{Option, none, some}
use Rattle.std.proofs.Math.Decide.{dec_lt}
use Rattle.ternary.specs.Pattern.{Words}
use Rattle.ternary.proofs.PatternLaws.{matches_law}
use Rattle.layout.specs.Held.{Held}
use Rattle.records.specs.Record.{word, record_words, value, mask, ident, action, pattern_matches, slot_matches, record_of, rule_of}
use Rattle.records.specs.Order.{slots}
use Rattle.records.proofs.Laws.{slot_matches_law}
use Rattle.records.specs.Entries.{vacant, entries, entry_occupied}
use Rattle.records.proofs.EntriesLaws.{entries_length, entry_same_lem, ident_cong, action_cong, matches_at_lem}
use Rattle.records.specs.Checks.{Told}
use Rattle.records.specs.Widths.{Width, check_width, check_rule, leaves}
use Rattle.records.proofs.WidthsLaws.{rule_law}
use Rattle.records.proofs.RulesLaws.{word_listed, rule_action, record_ident, record_action}
use Rattle.lookups.specs.Lookup.{lookup_answer, lookup_call, NoMatch}
use Rattle.lookups.proofs.WidthsLaws.{lookup_at}
use Rattle.records.specs.Editions.{Given, lent_rule, rank_of, ranked}
use Rattle.records.proofs.EditionsLaws.{rank_full, rank_kept}
use Rattle.records.specs.declared.Rule.{Rule}
use Rattle.records.specs.Verdict.{Check}
use Rattle.neighbours.specs.Neighbours.{insert_checks}
use Rattle.delete_plans.specs.Deletes.{delete_checks, delete_plan, delete_words}
use Rattle.insert_plans.specs.Inserts.{planned_words, insert_plan}
use Rattle.carrying.specs.Calls.{after_calls, Lent}
use Rattle.carrying.proofs.CallsLaws.{lent_whole}
use Rattle.histories.specs.RuleSet.{Change, without, Member, rule_matches, highest_match, rule_reply, set_reply, IsHighest}
use Rattle.histories.specs.Inserted.{rules_inserted}
use Rattle.histories.proofs.RuleSetLaws.{highest_law}
use Rattle.histories.proofs.TableRulesLaws.{table_holding}
use Rattle.histories.specs.Holding.{Holding, Replies}
use Rattle.histories.proofs.HoldingLaws.{record_matches, holding_reply, holding_lookup, holding_untied}
use Rattle.histories.specs.Histories.{Reached}
use Rattle.histories.proofs.HistoriesLaws.{reached_holding}
use Rattle.histories.specs.Demand2.{Demand2}
use Rattle.histories.proofs.Demand2Laws.{demand_2_insert, demand_2_delete, demand_2_room}
use Rattle.marshalling.specs.Cells.{data_cell}
use Rattle.refusals.proofs.TableLaws.{table_rows_lem}
use Rattle.tcam.specs.declared.carry.Progress.{Progress}
use Rattle.tcam.specs.Cells.{LookupLeft, HitCells, InsertLeft, DeleteLeft}
use Rattle.tcam.proofs.CellsLaws.{lookup_cells}
use Rattle.tcam.proofs.ImagesLaws.{save_load_call}
use Rattle.promises.specs.Calls.{Carrying, CameTo}
use Rattle.promises.proofs.CallsLaws.{At, made_so_far, carrying_at, carried_at, goes_on_at}
use Rattle.promises.proofs.FirstDemandLaws.{lent_accepted, counted_answer}
use Rattle.promises.specs.SecondDemand.{KeyMatches, Highest, NoneMatches, KeyReplied, HighestRanked, ActionReplied, Replied, AllReplied, RulesOf, DuringPlan}
use Rattle.promises.specs.SecondDemand.{Gives, Ranks, SecondDemand}

-- a list without its first number
past : (l : List ℕ) (k : ℕ) → get_or l (suc k) 0 ≡ get_or (drop 1 l) k 0
past [] k = refl
past (a ∷ l) k = refl

-- what the cells for id and action hold after a lookup that is answered with this reply
cell_of : (told : Told) (values : List ℕ) (k before : ℕ) → told.number ≡ 0 → drop 1 told.values ≡ values → data_cell told (suc k) before ≡ get_or values k 0
cell_of told values k before zero_number e =
    ap (λ (b : Bool). cond b (get_or told.values (suc k) 0) before) (eq-eqb told.number 0 zero_number)
    ∙ (past told.values k ∙ ap (λ (l : List ℕ). get_or l k 0) e)

-- the rules that a table holds, and a key
module _ (w : ℕ) (u : Bool) (rules : List Rule) (v : List ℕ) (h : Holding w u rules v) (key : List ℕ) where
  matched : (rule : Rule) → KeyMatches w key rule → rule_matches w (word key) rule ≡ true
  matched rule m = (matches_law w (word key) (word rule.value) (word rule.mask)).1 m

  missed : IsHighest w (word key) rules none → NoneMatches w rules key
  missed is rule member m = true≢false (sym (matched rule m) ∙ is rule member)

  -- the match that is chosen has the highest rank
  ranked_highest : (rule : Rule) → IsHighest w (word key) rules (some rule) → HighestRanked w rules key rule
  ranked_highest rule is =
      (is.0, (matches_law w (word key) (word rule.value) (word rule.mask)).0 is.1, λ other member m. is.2 other member (matched other m))

  -- two matches of the highest rank have one record, or, in an uncounted table, one action
  ranked_alike : (rule other : Rule) → HighestRanked w rules key rule → HighestRanked w rules key other
      → (record_of w other ≡ record_of w rule) ⊎ ((u ≡ true) × (other.action ≡ rule.action))
  ranked_alike rule other first second =
      let same : other.priority ≡ rule.priority = omega (arith, first.2 other second.0 second.1, second.2 rule first.0 first.1) in
      holding_untied w u rules v h (word key) other rule second.0 first.0 (matched other second.1) (matched rule first.1) same

-- in a counted table the highest match is one rule
highest : (w : ℕ) (rules : List Rule) (v : List ℕ) → Holding w false rules v → (key : List ℕ) (rule : Rule) → HighestRanked w rules key rule
    → Highest w rules key rule
highest w rules v h key rule is = (is.0, is.1, lower)
  where
    lower : (other : Rule) → Member other rules → KeyMatches w key other → (record_of w other ≡ record_of w rule) ⊎ (other.priority < rule.priority)
    lower other member m = pick (dec_lt other.priority rule.priority)
      where
        pick : Dec (other.priority < rule.priority) → (record_of w other ≡ record_of w rule) ⊎ (other.priority < rule.priority)
        pick (yes l) = inr l
        pick (no l) =
            let level : rule.priority ≤ other.priority = omega arith in
            let top : HighestRanked w rules key other = (member, m, λ third there n. le_trans (is.2 third there n) level) in
            ⊎_elim inl (λ named. absurd (true≢false (sym named.0))) (ranked_alike w false rules v h key rule other is top)
          where
            le_trans : {a b c : ℕ} → a ≤ b → b ≤ c → a ≤ c
            le_trans p q = omega arith

-- In table s stands what table v holds, these rules: what a lookup of s finds is one of them, and where it finds none, none of them matches.
module _ (w : ℕ) (u : Bool) (rules : List Rule) (s v : List ℕ) (h : Holding w u rules v)
    (stand : (x : List ℕ) → Held (vacant w) (entry_occupied w) (entries w s) x ↔ Held (vacant w) (entry_occupied w) (entries w v) x) (key : List ℕ) where
  found_rule : (i id action' : ℕ) → HitCells w s key i id action'
      → (rule : Rule) × Member rule rules × KeyMatches w key rule × (id ≡ rule.id) × (action' ≡ rule.action)
  found_rule i id action' cells =
      let at = cells.first in
      let x = get_or (entries w s) i (vacant w) in
      let hit = (slot_matches_law w (word key) (word x)).0 (matches_at_lem w s (word key) i at.0 ∙ at.1) in
      let rule = (h.held x).0 ((stand x).0 (hit.0, (i, omega (arith, at.0, entries_length w s), refl))) in
      let r = rule.0 in
      let small = h.actions r rule.1 in
      let same = entry_same_lem w s i at.0 in (
        r,
        rule.1,
        (matches_law w (word key) (word r.value) (word r.mask)).0
            (sym (record_matches w (word key) r) ∙ (ap (λ (y : List ℕ). pattern_matches w (word key) (word y)) rule.2
            ∙ (matches_law w (word key) (value (word x)) (mask w (word x))).1 hit.1)),
        cells.named ∙ (sym (ident_cong w same) ∙ (ap (λ (y : List ℕ). ident w (word y)) (sym rule.2) ∙ record_ident w r small)),
        cells.acted ∙ (sym (action_cong w same) ∙ (ap (λ (y : List ℕ). action w (word y)) (sym rule.2) ∙ record_action w r small)),
      )

  none_found : NoMatch w s (word key) → NoneMatches w rules key
  none_found free rule member m =
      let held = (stand (record_of w rule)).1 ((h.held (record_of w rule)).1 (rule, member, refl)) in
      let at = held.1 in
      let inside : at.0 < slots w s = omega (arith, at.1, entries_length w s) in
      let pattern = record_matches w (word key) rule ∙ (matches_law w (word key) (word rule.value) (word rule.mask)).1 m in
      let own = (slot_matches_law w (word key) (word (record_of w rule))).1
      (held.0, (matches_law w (word key) (value (word (record_of w rule))) (mask w (word (record_of w rule)))).0 pattern) in
      true≢false (sym own ∙ (ap (λ (y : List ℕ). slot_matches w (word key) (word y)) (sym at.2) ∙ (matches_at_lem w s (word key) at.0 inside ∙ free at.0 inside)))

-- a lookup of such a table, at a width that there is: counted, and uncounted
module _ (w : ℕ) (known : Width w) (rules : List Rule) (s v : List ℕ)
    (stand : (x : List ℕ) → Held (vacant w) (entry_occupied w) (entries w s) x ↔ Held (vacant w) (entry_occupied w) (entries w v) x)
    (key : List ℕ) (size : length key ≡ w) (result slot slot' id id' action' action'' spot spot' : ℕ)
    (left : LookupLeft w s key result slot slot' id id' action' action'' spot spot') where
  told : lookup_call w s key ≡ lookup_answer w s (word key)
  told = lookup_at w s key known size

  id_told : (lookup_answer w s (word key)).number ≡ 0 → id' ≡ get_or (drop 1 (lookup_answer w s (word key)).values) 0 0
  id_told zero_number = left.named ∙ (ap (λ (x : Told). data_cell x 1 id) told ∙ cell_of (lookup_answer w s (word key)) _ 0 id zero_number refl)

  action_told : (lookup_answer w s (word key)).number ≡ 0 → action'' ≡ get_or (drop 1 (lookup_answer w s (word key)).values) 1 0
  action_told zero_number = left.acted ∙ (ap (λ (x : Told). data_cell x 2 action') told ∙ cell_of (lookup_answer w s (word key)) _ 1 action' zero_number refl)

  accepted : (lookup_answer w s (word key)).number ≡ 0 → result ≡ 0
  accepted zero_number = left.number ∙ (ap (λ (x : Told). x.number) told ∙ zero_number)

  replied_counted : Holding w false rules v → Replies w false s (word key) (set_reply w rules (word key)) → KeyReplied w rules key result id' action''
  replied_counted h (zero_number, values) = (
    accepted zero_number,
    pick (highest_match w (word key) rules) (highest_law w (word key) rules)
        (id_told zero_number ∙ ap (λ (l : List ℕ). get_or l 0 0) values) (action_told zero_number ∙ ap (λ (l : List ℕ). get_or l 1 0) values),
  )
    where
      pick : (best : Option Rule) → IsHighest w (word key) rules best → id' ≡ get_or (rule_reply best) 0 0 → action'' ≡ get_or (rule_reply best) 1 0
          → ((rule : Rule) × Highest w rules key rule × (id' ≡ rule.id) × (action'' ≡ rule.action)) ⊎ (NoneMatches w rules key × (id' ≡ 0) × (action'' ≡ 0))
      pick none is a b = inr (missed w false rules v h key is, a, b)
      pick (some rule) is a b = inl (rule, highest w rules v h key rule (ranked_highest w false rules v h key rule is), a, b)

  replied_uncounted : Holding w true rules v → Replies w true s (word key) (set_reply w rules (word key)) → ActionReplied w rules key result id' action''
  replied_uncounted h (zero_number, values) = (
    accepted zero_number,
    ⊎_elim
        (λ cells. inl (pick (found_rule w true rules s v h stand key _ _ _ cells)))
        (λ cells. inr (none_found w true rules s v h stand key cells.none, left.named ∙ cells.id_zero, left.acted ∙ cells.did_zero))
        (lookup_cells w s key slot id action' (ap (λ (x : Told). x.number) told ∙ zero_number)),
  )
    where
      -- the action told is that of the match which the rules choose
      acted : (best : Rule) → highest_match w (word key) rules ≡ some best → action'' ≡ best.action
      acted best e =
          action_told zero_number
          ∙ (past (drop 1 (lookup_answer w s (word key)).values) 0
          ∙ (ap (λ (l : List ℕ). get_or l 0 0) values ∙ ap (λ (o : Option Rule). get_or (drop 1 (rule_reply o)) 0 0) e))

      alike : (best : Rule) → highest_match w (word key) rules ≡ some best → IsHighest w (word key) rules (some best)
          → (rule : Rule) → HighestRanked w rules key rule → action'' ≡ rule.action
      alike best e is rule top =
          acted best e
          ∙ ⊎_elim
          (λ same. sym (record_action w best (h.actions best is.0))
          ∙ (ap (λ (y : List ℕ). action w (word y)) (sym same) ∙ record_action w rule (h.actions rule top.0)))
          (λ named. sym named.1)
          (ranked_alike w true rules v h key best rule (ranked_highest w true rules v h key best is) top)

      pick : (rule : Rule) × Member rule rules × KeyMatches w key rule
          × (data_cell (lookup_call w s key) 1 id ≡ rule.id) × (data_cell (lookup_call w s key) 2 action' ≡ rule.action)
          → ((rule : Rule) × HighestRanked w rules key rule) × ((rule : Rule) → HighestRanked w rules key rule → action'' ≡ rule.action)
          × ((rule : Rule) × Member rule rules × KeyMatches w key rule × (id' ≡ rule.id) × (action'' ≡ rule.action))
      pick (rule, member, m, a, b) = choose (highest_match w (word key) rules) refl (highest_law w (word key) rules)
        where
          choose : (best : Option Rule) → highest_match w (word key) rules ≡ best → IsHighest w (word key) rules best
              → ((rule : Rule) × HighestRanked w rules key rule) × ((rule : Rule) → HighestRanked w rules key rule → action'' ≡ rule.action)
              × ((rule : Rule) × Member rule rules × KeyMatches w key rule × (id' ≡ rule.id) × (action'' ≡ rule.action))
          choose none e is = absurd (missed w true rules v h key is rule member m)
          choose (some best) e is = (
            (best, ranked_highest w true rules v h key best is),
            alike best e is,
            (rule, member, m, left.named ∙ a, left.acted ∙ b),
          )

-- what follows is at a width that there is
module _ (w : ℕ) (u : Bool) (known : Width w) where
  -- a table in which there stands what another holds, and whose lookups reply as its rules
  answers : (rules : List Rule) (s v : List ℕ) → Holding w u rules v
      → ((x : List ℕ) → Held (vacant w) (entry_occupied w) (entries w s) x ↔ Held (vacant w) (entry_occupied w) (entries w v) x)
      → ((key : Words) → Replies w u s key (set_reply w rules key)) → AllReplied w u s rules
  answers rules s v h stand replies key size result slot slot' id id' action' action'' spot spot' left = by u h (replies (word key))
    where
      by : (named : Bool) → Holding w named rules v → Replies w named s (word key) (set_reply w rules (word key)) → Replied w rules key named result id' action''
      by false = replied_counted w known rules s v stand key size result slot slot' id id' action' action'' spot spot' left
      by true = replied_uncounted w known rules s v stand key size result slot slot' id id' action' action'' spot spot' left

  -- a plan drawn and carried out
  module _ (e : ℕ) (t plan rule : List ℕ) (size : length rule ≡ record_words w) (words : List ℕ) (count : ℕ) (change : List Rule → List Rule)
      (d : Demand2 w u t plan (lent_rule w e rule) words count change) where
    state_at : (v : List ℕ) (progress : Progress) → Carrying w e t plan rule count v progress → (k : ℕ) × At w t plan (lent_rule w e rule) count v progress k
    state_at v progress under = carrying_at w u e t plan rule known size words count change d v progress under

    during : (rules : List Rule) → Holding w u rules t → DuringPlan w u e t plan rule count rules (change rules)
    during rules h = record {
      made = λ s progress under. made_so_far w e t plan rule count s progress under;
      kept = λ s progress under less.
          let state = state_at s progress under in
          let k = state.0 in
          let at = state.1 in
          answers rules s t h
          (λ x. subst (λ (v : List ℕ). Held (vacant w) (entry_occupied w) (entries w v) x ↔ Held (vacant w) (entry_occupied w) (entries w t) x) (sym at.table)
          (d.stand k (omega (arith, at.done)) x))
          (λ key. let old = d.kept k (omega (arith, at.done)) key in
          subst (λ (v : List ℕ). Replies w u v key (set_reply w rules key)) (sym at.table) (old.0, old.1 ∙ holding_reply w u rules t h key));
      changed = λ s progress under all.
          let state = state_at s progress under in
          let k = state.0 in
          let at = state.1 in
          let last = sym (at.table ∙ ap (λ (m : ℕ). (after_calls w t plan (lent_rule w e rule) count m).table) (sym at.done ∙ all)) in
          let holds = subst (Holding w u (change rules)) last (d.holds rules h) in
          answers (change rules) s s holds (λ x. (λ m. m, λ m. m)) (holding_lookup w u (change rules) s holds);
      few = λ s progress under. let state = state_at s progress under in omega (arith, state.1.done, state.1.few);
      goes_on = λ s progress under n result long room after progress' left.
          goes_on_at w u e t plan rule known size words count change d s progress under n result long after progress' left;
    }

  -- a planning call that returned 0
  pub inserting : (e : ℕ) (t rule plan after : List ℕ) (count count' spot spot' : ℕ) → InsertLeft w u e t rule 0 plan after count count' spot spot'
      → (length rule ≡ record_words w)
      × Demand2 w u t after (lent_rule w e rule) (planned_words w u t (ranked w (lent_rule w e rule))) count' (rules_inserted w u t (ranked w (lent_rule w e rule)))
  inserting e t rule plan after count count' spot spot' left =
      let given = lent_rule w e rule in
      let passed = lent_accepted (check_rule w (length rule)) _ (sym left.left.number) in
      let told = counted_answer (check_rule w (length rule)) (insert_checks w u t given) _ _ _ after count count' spot spot' left.left in
      let is = left.left.plan ∙ ap (λ (x : Check). leaves x (insert_plan w u t given plan) plan) passed in (
        ((rule_law w (length rule)).0 passed).1,
        subst (λ (p : List ℕ). Demand2 w u t p given (planned_words w u t (ranked w given)) count' (rules_inserted w u t (ranked w given))) (sym is)
            (demand_2_insert w u t given plan count' (rule_action w (word rule)) told),
      )

  pub deleting : (t : List ℕ) (id : ℕ) (plan after : List ℕ) (count count' spot spot' : ℕ) → DeleteLeft w u t id 0 plan after count count' spot spot'
      → (given : Given) → Demand2 w u t after given (delete_words w t id) count' (without id)
  deleting t id plan after count count' spot spot' left given =
      let passed = lent_accepted (check_width w) _ (sym left.number) in
      let told = counted_answer (check_width w) (delete_checks w u t id) _ _ _ after count count' spot spot' left in
      let is = left.plan ∙ ap (λ (x : Check). leaves x (delete_plan w u t id plan) plan) passed in
      subst (λ (p : List ℕ). Demand2 w u t p given (delete_words w t id) count' (without id)) (sym is) (demand_2_delete w u t id plan count' given told)

-- a table that a caller came to is one of the histories below: there the whole buffer is lent, and as many calls are made as are counted
came_reached : (w : ℕ) → Width w → {u : Bool} (history : List Change) (t : List ℕ) → CameTo w u history t → Reached w u history t
came_reached w known history t (CameTo.started n some-slot few) = Reached.start n some-slot few
came_reached w known history t (CameTo.uncounted before s came) = Reached.uncounted before s (came_reached w known before s came)
came_reached w known history t (CameTo.inserted u before s came e rule plan after count count' spot spot' left v full) =
    let given = lent_rule w e rule in
    let planned = inserting w u known e s rule plan after count count' spot spot' left in
    let d = planned.1 in
    let told = counted_answer (check_rule w (length rule)) (insert_checks w u s given) _ _ _ after count count' spot spot' left.left in
    let is = left.left.plan ∙ ap (λ (x : Check). leaves x (insert_plan w u s given plan) plan) (lent_accepted (check_rule w (length rule)) _ (sym left.left.number)) in
    let lent = subst (Lent (insert_plan w u s given plan) count') (sym is)
    (lent_whole (insert_plan w u s given plan) count' (demand_2_room (demand_2_insert w u s given plan count' (rule_action w (word rule)) told))) in
    subst (Reached w u history) (sym (carried_at w u e s after rule known planned.0 _ count' (rules_inserted w u s (ranked w given)) d t full))
    (Reached.inserted u before s (came_reached w known before s came) given (rule_action w (word rule)) plan count' told after lent count' (d.finished count' (omega arith)))
came_reached w known history t (CameTo.deleted u before s came id plan after count count' spot spot' left e rule size v full) =
    let given = lent_rule w e rule in
    let d = deleting w u known s id plan after count count' spot spot' left given in
    let told = counted_answer (check_width w) (delete_checks w u s id) _ _ _ after count count' spot spot' left in
    let is = left.plan ∙ ap (λ (x : Check). leaves x (delete_plan w u s id plan) plan) (lent_accepted (check_width w) _ (sym left.number)) in
    let lent = subst (Lent (delete_plan w u s id plan) count') (sym is)
    (lent_whole (delete_plan w u s id plan) count' (demand_2_room (demand_2_delete w u s id plan count' given told))) in
    subst (Reached w u history) (sym (carried_at w u e s after rule known size _ count' (without id) d t full))
    (Reached.deleted u before s (came_reached w known before s came) id plan count' told given after lent count' (d.finished count' (omega arith)))

-- a table's rules are held by it
held : (w : ℕ) (u : Bool) → Width w → (rules : List Rule) (t : List ℕ) → RulesOf w u rules t → Holding w u rules t
held w u known rules t (RulesOf.ran history v came) = reached_holding (came_reached w known history v came)
held w u known rules t (RulesOf.stand v sound) = table_holding w u v ((table_rows_lem w u v).passes.1 sound)

-- the rule that is given is the record's
gives : (w e : ℕ) (rule : List ℕ) → Gives w e rule (lent_rule w e rule)
unfolding rule_of
gives w e rule = record {
  values = λ j h. word_listed w (value (word rule)) j h;
  masks = λ j h. word_listed w (mask w (word rule)) j h;
  both = div-add-mod' (word rule (2 * w)) 4294967296;
  small = rule_action w (word rule);
  priority = refl;
  edition = refl;
}

-- the rank that an edition gives a rule
ranks : (w : ℕ) (given : Given) → Ranks w given (ranked w given)
unfolding ranked
ranks w given = record {
  exact = λ e full. ap (λ (n : ℕ). rank_of w n given.rule.priority (word given.rule.mask)) e ∙ rank_full w given.rule.priority (word given.rule.mask) full;
  other = λ not_exact. rank_kept w given.edition given.rule.priority (word given.rule.mask) not_exact;
  id = refl;
  value = refl;
  mask = refl;
  action = refl;
}

-- document 01's demand 2, at every width that there is
pub second_demand : (w : ℕ) (u : Bool) → Width w → SecondDemand w u
second_demand w u known = record {
  given = gives w;
  ranks = ranks w;
  answered = λ rules t of. let holds = held w u known rules t of in
      answers w u known rules t t holds (λ x. (λ m. m, λ m. m)) (holding_lookup w u rules t holds);
  insert = λ rules t of e rule plan after count count' spot spot' left.
      let planned = inserting w u known e t rule plan after count count' spot spot' left in
      during w u known e t after rule planned.0 _ count' (rules_inserted w u t (ranked w (lent_rule w e rule))) planned.1 rules (held w u known rules t of);
  delete = λ rules t of id plan after count count' spot spot' left e rule size.
      during w u known e t after rule size _ count' (without id) (deleting w u known t id plan after count count' spot spot' left (lent_rule w e rule)) rules
      (held w u known rules t of);
  loads = λ v later t image saved bytes bytes' spot spot' words left lent loaded result place place' size load.
      let r = save_load_call v u later w t image saved bytes bytes' spot spot' words left lent loaded result place place' size load in (r.0, r.1);
}
