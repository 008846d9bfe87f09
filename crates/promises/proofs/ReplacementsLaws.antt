-- End theorems: document 02, 2026-03, of what the exported calls return and leave.
use Rattle.std.specs.Prelude.{◌≡◌, refl, Bool, true, false, ◌↔◌, ◌⊎◌, List, [], ◌∷◌, ◌++◌, ℕ, ◌≤◌, ◌<◌, length, get_or, drop}
use Rattle.std.proofs.Common.{sym, ap, ◌∙◌, subst, true≢false, ⊎_elim, arith}
use Rattle.std.proofs.Math.Logic.◌⊎◌.{inl, inr}
use Prim.{tt}
use Rattle.std.proofs.Math.Decide.{ℕ_discrete, dec_lt}
use Rattle.ternary.specs.Pattern.{Words}
use Rattle.layout.specs.Held.{Held}
use Rattle.layout.specs.Write.{put}
use Rattle.plan_words.specs.PlanWords.{write_word}
use Rattle.records.specs.Record.{word, record_words, slot_words, ident, action, record_of, put_slot}
use Rattle.records.specs.Sound.{SoundRule}
use Rattle.records.specs.Order.{slots, EqualRules, Replaceable}
use Rattle.records.specs.Checks.{Told, cause_number, unless, table_checks}
use Rattle.records.proofs.Laws.{same_id_law, tied_law, precedes_law, sound_rule_law}
use Rattle.records.proofs.RulesLaws.{rule_action}
use Rattle.records.specs.Widths.{Width, check_rule, leaves}
use Rattle.records.proofs.WidthsLaws.{rule_law}
use Rattle.records.specs.Editions.{Given, lent_rule}
use Rattle.records.proofs.EditionsLaws.{rank_sound, ranked_action}
use Rattle.records.specs.Writes.{apply_words}
use Rattle.records.proofs.EqualLaws.{equal_tied, equal_once}
use Rattle.records.proofs.Laws.{table_checks_law}
use Rattle.records.specs.Entries.{vacant, entries, entry_occupied, entry_same}
use Rattle.records.proofs.EntriesLaws.{entry_same_lem, ident_cong, occupied_at_lem, refuted}
use Rattle.records.specs.declared.Rule.{Rule}
use Rattle.records.specs.Verdict.{Check}
use Rattle.records.specs.Verdict.{Pass}
use Rattle.insert_plans.specs.Insertable.{InsertableGiven, Replacing, ReplacingGiven}
use Rattle.insert_plans.proofs.InsertableLaws.{insertable_law, replaces_none, replaced_first, replacing_passes, replacing_untied, replacing_uncrossed}
use Rattle.neighbours.proofs.NeighboursLaws.{replaced_none, untied_none}
use Rattle.insert_plans.specs.Inserts.{insert_answer, insert_plan, insert_call, planned_words}
use Rattle.insert_plans.proofs.InsertsLaws.{planned_replaced}
use Rattle.insert_plans.specs.Replacements.{ReplacementPlanned}
use Rattle.insert_plans.proofs.ReplacementsLaws.{replacement_planned}
use Rattle.histories.proofs.InsertedLaws.{inserted_replaced, changes_replaced}
use Rattle.histories.proofs.SoundnessLaws.{replacement_table, replacement_held, replacement_checks}
use Rattle.histories.proofs.Demand2Laws.{carried_whole}
use Rattle.marshalling.specs.Cells.{data_cell, spot_cell}
use Rattle.refusals.specs.Calls.{Ties, ReplacesNone, OtherRule, table_rows, rule_row, OtherEdition, edition_row, known_row, tie_row, full_row, crossed_row, short_row, new_rule_rows, rows_or, insert_call_rows}
use Rattle.refusals.proofs.PlanningLaws.{insert_rows_lem}
use Rattle.refusals.specs.Rows.{Row, Accepts}
use Rattle.refusals.proofs.RowsLaws.{first_row, not_accepted}
use Rattle.refusals.proofs.TableLaws.{table_rows_lem}
use Rattle.refusals.proofs.WidthsLaws.{no_other_rule}
use Rattle.tcam.specs.Cells.{InsertLeft}
use Rattle.promises.specs.Calls.{CarriedOut}
use Rattle.promises.proofs.CallsLaws.{carried_at}
use Rattle.promises.proofs.SecondDemandLaws.{inserting}
use Rattle.promises.specs.ThirdDemand.{Stands}
use Rattle.promises.proofs.ThirdDemandLaws.{stands_law}
use Rattle.promises.specs.FirstDemand.{DeclinesBy}
use Rattle.promises.proofs.FirstDemandLaws.{first_demand}
use Rattle.promises.specs.Replacements.{sent_rule, sent_words, SentAgain, SentForAnother, Replacements}

module _ (w : ℕ) (u : Bool) (known : Width w) (e : ℕ) (t lent : List ℕ) (s : ℕ) (again : SentAgain w u e t lent s) where
  abbrev given : Given
  given = lent_rule w e lent

  abbrev rule : Rule
  rule = sent_rule w e lent

  small : rule.action < 4294967296
  small = omega (arith, rule_action w (word lent), ranked_action w given)

  -- the premises, by the tests
  replacing : ReplacingGiven w u t given s
  replacing =
      let sound = (sound_rule_law w given.rule).1 again.sent.sound in
      record {
        sound = sound;
        edition = again.sent.edition;
        replacing = record {
          table = (table_rows_lem w u t).passes.1 again.sent.table;
          sound = rank_sound w given sound;
          new = λ i h. refuted (λ one. again.sent.unknown i h ((same_id_law w (slot_words w t i) (sent_words w e lent)).0 one));
          inside = again.inside;
          replaced = again.replaced;
          lowest = again.lowest;
        };
      }

  -- the call's answer and buffer are those of the definitions
  lent_passed : check_rule w (length lent) ≡ Pass
  lent_passed = (rule_law w (length lent)).1 (known, again.sent.words)

  module _ (result : ℕ) (plan after : List ℕ) (count count' spot spot' : ℕ) (left : InsertLeft w u e t lent result plan after count count' spot spot') where
    promised : ReplacementPlanned s (insert_answer w u t given (length plan)) plan (insert_plan w u t given plan)
    promised = replacement_planned w u t given s replacing plan

    told : insert_call w u e t lent (length plan) ≡ insert_answer w u t given (length plan)
    told = ap (λ (x : Check). unless x (insert_answer w u t given (length plan))) lent_passed

    buffer : after ≡ insert_plan w u t given plan
    buffer = left.left.plan ∙ ap (λ (x : Check). leaves x (insert_plan w u t given plan) plan) lent_passed

    planned_enough : 1 ≤ length plan → (result ≡ 0) × (count' ≡ 1) × (after ≡ write_word (put s) ∷ drop 1 plan)
    planned_enough h =
        let p = promised.enough h in (
          left.left.number ∙ ap (λ (x : Told). x.number) (told ∙ p.0),
          left.left.counted ∙ ap (λ (x : Told). data_cell x 0 count) (told ∙ p.0),
          buffer ∙ p.1,
        )

    planned_short : length plan < 1 → (result ≡ 11) × (spot' ≡ 1) × (after ≡ plan)
    planned_short h =
        let p = promised.short h in (
          left.left.number ∙ ap (λ (x : Told). x.number) (told ∙ p.0),
          left.left.spotted ∙ ap (λ (x : Told). spot_cell x spot) (told ∙ p.0),
          buffer ∙ p.1,
        )

  -- the table that carrying out leaves
  abbrev last_table : List ℕ
  last_table = put_slot w t s (record_of w rule)

  stands_after : (x : List ℕ) → Stands w last_table x
      ↔ ((Stands w t x × (ident w (word x) ≡ ident w (slot_words w t s) → ⊥)) ⊎ (record_of w rule ≡ x))
  stands_after x = (
    λ m. forth (held.0 ((stands_law w last_table x).1 m)),
    λ m. (stands_law w last_table x).0 (held.1 (back m)),
  )
    where
      entry : List ℕ
      entry = get_or (entries w t) s (vacant w)

      entry_id : ident w (word entry) ≡ ident w (slot_words w t s)
      entry_id = ident_cong w (entry_same_lem w t s again.inside)

      held : Held (vacant w) (entry_occupied w) (entries w last_table) x
          ↔ ((Held (vacant w) (entry_occupied w) (entries w t) x × (entry_same w x entry ≡ false)) ⊎ ((entry_occupied w (record_of w rule) ≡ true) × (record_of w rule ≡ x)))
      held =
          subst (λ (v : List ℕ). Held (vacant w) (entry_occupied w) (entries w v) x
          ↔ ((Held (vacant w) (entry_occupied w) (entries w t) x × (entry_same w x entry ≡ false)) ⊎ ((entry_occupied w (record_of w rule) ≡ true) × (record_of w rule ≡ x))))
          (replacement_table w u t rule small s replacing.replacing) (replacement_held w u t rule small s replacing.replacing x)

      forth : (Held (vacant w) (entry_occupied w) (entries w t) x × (entry_same w x entry ≡ false)) ⊎ ((entry_occupied w (record_of w rule) ≡ true) × (record_of w rule ≡ x))
          → (Stands w t x × (ident w (word x) ≡ ident w (slot_words w t s) → ⊥)) ⊎ (record_of w rule ≡ x)
      forth (inl (m, apart)) =
          inl (
            (stands_law w t x).0 m,
            λ f. true≢false (sym ((same_id_law w (word x) (word entry)).1 (m.0, occupied_at_lem w t s again.inside ∙ again.replaced.equal.first, f ∙ sym entry_id)) ∙ apart),
          )
      forth (inr (o, f)) = inr f

      back : (Stands w t x × (ident w (word x) ≡ ident w (slot_words w t s) → ⊥)) ⊎ (record_of w rule ≡ x)
          → (Held (vacant w) (entry_occupied w) (entries w t) x × (entry_same w x entry ≡ false)) ⊎ ((entry_occupied w (record_of w rule) ≡ true) × (record_of w rule ≡ x))
      back (inl (m, other)) =
          inl ((stands_law w t x).1 m, refuted (λ f. other (((same_id_law w (word x) (word entry)).0 f).2 ∙ entry_id)))
      back (inr f) = inr (again.replaced.equal.second, f)

  sound_after : Accepts (table_rows w u last_table)
  sound_after =
      (table_rows_lem w u last_table).passes.0
      (subst (λ (v : List ℕ). table_checks w u v ≡ Pass) (replacement_table w u t rule small s replacing.replacing) (replacement_checks w u t rule small s replacing.replacing))

  carried_out : (plan after : List ℕ) (count count' spot spot' : ℕ) → InsertLeft w u e t lent 0 plan after count count' spot spot'
      → (v : List ℕ) → CarriedOut w e t after lent count' v → v ≡ last_table
  carried_out plan after count count' spot spot' left v full =
      let d = inserting w u known e t lent plan after count count' spot spot' left in
      carried_at w u e t after lent known d.0 _ count' _ d.1 v full
      ∙ (carried_whole d.1
      ∙ (ap (λ (words : List ℕ). apply_words w t rule words) (planned_replaced w u t rule s replacing.replacing)
      ∙ replacement_table w u t rule small s replacing.replacing))

-- an accepted insert replaces no rule, or one
accepted_either : (w : ℕ) (u : Bool) (e : ℕ) (t lent : List ℕ) → length lent ≡ record_words w → Accepts (new_rule_rows w u t (lent_rule w e lent))
    → ReplacesNone w u t (sent_words w e lent) ⊎ ((s : ℕ) × SentAgain w u e t lent s)
accepted_either w u e t lent size accepts = pick ((insertable_law w u t (lent_rule w e lent)).0 ((insert_rows_lem w u t (lent_rule w e lent)).passes.1 accepts))
  where
    pick : InsertableGiven w u t (lent_rule w e lent) ⊎ ((s : ℕ) × ReplacingGiven w u t (lent_rule w e lent) s)
        → ReplacesNone w u t (sent_words w e lent) ⊎ ((s : ℕ) × SentAgain w u e t lent s)
    pick (inl p) = inl (replaced_none w u t (sent_words w e lent) (untied_none w u t (sent_words w e lent) p.insertable.new p.insertable.untied p.insertable.adds))
    pick (inr (s, q)) =
        inr (
          s,
          record {
            sent = record {
              words = size;
              table = (table_rows_lem w u t).passes.0 q.replacing.table;
              sound = (sound_rule_law w (lent_rule w e lent).rule).0 q.sound;
              edition = q.edition;
              unknown = λ i h one. true≢false (sym ((same_id_law w (slot_words w t i) (sent_words w e lent)).1 one) ∙ q.replacing.new i h);
            };
            inside = q.replacing.inside;
            replaced = q.replacing.replaced;
            lowest = q.replacing.lowest;
          },
        )

-- in a counted table no other slot holds a rule that is replaced
replaced_once : (w : ℕ) (u : Bool) → u ≡ false → (t : List ℕ) (rule : Rule) (s : ℕ) → Replacing w u t rule s
    → (i : ℕ) → i < slots w t → Replaceable w u (slot_words w t i) (word (record_of w rule)) → i ≡ s
replaced_once w true counted t rule s r i h other = absurd (true≢false counted)
replaced_once w false counted t rule s r i h other =
    let checks = (table_checks_law w false t).0 r.table in
    equal_once w t checks.1 checks.2 (word (record_of w rule)) r.new s r.inside r.replaced i h other

not_below : (s i : ℕ) → (i < s → ⊥) → s ≤ i
not_below s i f = pick (dec_lt i s)
  where
    pick : Dec (i < s) → s ≤ i
    pick (yes l) = absurd (f l)
    pick (no l) = omega arith

-- equal rules of two ids and two actions tie, in a table of either kind
another_ties : (w : ℕ) (u : Bool) (a b : Words) → EqualRules w a b → (ident w a ≡ ident w b → ⊥) → (action w a ≡ action w b → ⊥) → Ties w u a b
another_ties w u a b equal apart differ =
    let o = ((tied_law w false a b).0 (equal_tied w a b equal apart)).0 in
    ((o.0, o.1, o.2, o.3, λ named. differ), equal.ranks)

-- no lower slot holds an equal rule: one of the same action would be replaced in its place, and one of another would tie
lowest_equal : (w : ℕ) (u : Bool) (t : List ℕ) (rule : Rule) (s : ℕ) → Replacing w u t rule s
    → (i : ℕ) → i < slots w t → EqualRules w (slot_words w t i) (word (record_of w rule)) → i < s → ⊥
lowest_equal w u t rule s r i h equal less = pick (ℕ_discrete (action w (slot_words w t i)) (action w (word (record_of w rule))))
  where
    apart : ident w (slot_words w t i) ≡ ident w (word (record_of w rule)) → ⊥
    apart same = true≢false (sym ((same_id_law w (slot_words w t i) (word (record_of w rule))).1 (equal.first, equal.second, same)) ∙ r.new i h)

    pick : Dec (action w (slot_words w t i) ≡ action w (word (record_of w rule))) → ⊥
    pick (yes same) = replaced_first w u t rule s r i less (record { equal = equal; actions = λ named. same })
    pick (no differ) =
        true≢false (sym ((tied_law w u (slot_words w t i) (word (record_of w rule))).1 (another_ties w u (slot_words w t i) (word (record_of w rule)) equal apart differ))
        ∙ replacing_untied w u t rule s r i h (λ same. omega (arith, same)))

-- an equal rule of another action ties: the row of 8 is the first that holds
module _ (w : ℕ) (u : Bool) (known : Width w) (named : u ≡ true) (e : ℕ) (t lent : List ℕ) (s : ℕ) (another : SentForAnother w u e t lent s) (room : ℕ) where
  abbrev new : Words
  new = sent_words w e lent

  abbrev before : List Row
  before = rows_or (OtherRule w lent) (table_rows w u t ++ (rule_row w (lent_rule w e lent).rule ∷ edition_row e ∷ known_row w t new ∷ []))

  abbrev after : List Row
  after = full_row w u t new ∷ crossed_row w u t new ∷ short_row (length (planned_words w u t (sent_rule w e lent))) room ∷ []

  before_hold_not : Accepts before
  before_hold_not =
      let s = another.sent in
      let edition : OtherEdition e → ⊥ = λ other. ⊎_elim other.0 other.1 s.edition in
      let unknown : (known_row w t new).condition → ⊥ = λ found. s.unknown found.0 found.1 found.2 in
      let rule : (SoundRule w (lent_rule w e lent).rule → ⊥) → ⊥ = λ unsound. unsound s.sound in
      (⊎_elim (no_other_rule w lent known s.words) s.table.0, (s.table.1.0, (s.table.1.1.0, (s.table.1.1.1.0, (rule, (edition, (unknown, tt)))))))

  tie_holds : (tie_row w u t new).condition
  tie_holds =
      let a = slot_words w t s in
      let equal = another.equal in
      let apart : ident w a ≡ ident w new → ⊥ = λ same. another.sent.unknown s another.inside (equal.first, equal.second, same) in
      (s, another.inside, (another_ties w u a new equal apart another.differ, λ replaced. another.differ (replaced.actions named)))

  declined_tied : (result spot : ℕ) → DeclinesBy (insert_call_rows w u e t lent room) result spot → result ≡ 8
  declined_tied result spot d = ⊎_elim (λ zero. absurd (not_accepted before (tie_row w u t new) after tie_holds (d.accepted.0 zero)))
      (λ other. other.1
      ∙ ap cause_number (sym (first_row before (tie_row w u t new) after before_hold_not tie_holds other.0 spot ((d.refused other.0 spot).0 (other.1, refl))))) d.either

-- document 02, 2026-03, at every width that there is
pub replacements : (w : ℕ) (u : Bool) → Width w → Replacements w u
replacements w u known = record {
  either = accepted_either w u;
  accepted = λ e t rule s again. (insert_rows_lem w u t (lent_rule w e rule)).passes.0 (replacing_passes w u t (lent_rule w e rule) s (replacing w u known e t rule s again));
  enough = λ e t rule s again. planned_enough w u known e t rule s again;
  short = λ e t rule s again. planned_short w u known e t rule s again;
  lowest = λ e t rule s again i h other.
      not_below s i (lowest_equal w u t (sent_rule w e rule) s (replacing w u known e t rule s again).replacing i h other);
  once = λ counted e t rule s again i h other. replaced_once w u counted t (sent_rule w e rule) s (replacing w u known e t rule s again).replacing i h other;
  untied = λ e t rule s again i h apart ties.
      true≢false (sym ((tied_law w u (slot_words w t i) (sent_words w e rule)).1 ties)
      ∙ replacing_untied w u t (sent_rule w e rule) s (replacing w u known e t rule s again).replacing i h apart);
  uncrossed = λ e t rule s again found.
      let r = (replacing w u known e t rule s again).replacing in
      let b = found.0 in
      let a = found.1 in
      let before = replacing_uncrossed w u t (sent_rule w e rule) s r a b found.3 (omega (arith, found.2, found.3))
      ((precedes_law w u (slot_words w t a) (sent_words w e rule)).1 found.5) ((precedes_law w u (sent_words w e rule) (slot_words w t b)).1 found.4) in
      omega (arith, before, found.2);
  otherwise = λ named e t rule s another result plan after count count' spot spot' left.
      let call = first_demand.insert w u e t rule result plan after count count' spot spot' left in
      let eight = declined_tied w u known named e t rule s another (length plan) result spot' call.0 in
      (eight, (call.1 (λ zero. omega (arith, eight, zero))).0);
  carried = λ e t rule s again plan after count count' spot spot' left y full.
      let there = carried_out w u known e t rule s again plan after count count' spot spot' left y full in (
        there,
        subst (λ (v : List ℕ). Accepts (table_rows w u v)) (sym there) (sound_after w u known e t rule s again),
        λ x. subst (λ (v : List ℕ). Stands w v x ↔ ((Stands w t x × (ident w (word x) ≡ ident w (slot_words w t s) → ⊥)) ⊎ (record_of w (sent_rule w e rule) ≡ x)))
            (sym there) (stands_after w u known e t rule s again x),
      );
  replaced = λ e t rule s again rules history.
      let r = (replacing w u known e t rule s again).replacing in (
        sym (ap (λ (change : List Rule → List Rule). change rules) (inserted_replaced w u t (sent_rule w e rule) s r)),
        changes_replaced w u t (sent_rule w e rule) s history r,
      );
  added = λ t rule none rules history. let fresh = replaces_none w u t rule none in (rw fresh, rw fresh);
}
