-- End theorems on the cells that calls from C leave. A lookup: id 0 tells a miss, and any other id is that of the first match.
-- An insert with a neighbour list: with one of the table's length it leaves what the call without a list leaves, with another nothing but its result and the spot.
use Rattle.std.specs.Prelude.{◌≡◌, Bool, cond, ◌⊎◌, List, ℕ, eqb, length}
use Rattle.std.proofs.Math.Path.{refl, subst}
use Rattle.std.proofs.Common.{sym, ap, ◌∙◌, true≢false, eq-eqb}
use Rattle.std.proofs.Math.Logic.◌⊎◌.{inl, inr}
use Rattle.records.specs.Record.{word}
use Rattle.records.specs.Checks.{Told, cause_number, unless}
use Rattle.records.specs.Widths.{check_key}
use Rattle.records.proofs.WidthsLaws.{words_refused}
use Rattle.records.specs.Editions.{lent_rule}
use Rattle.records.proofs.Laws.{cause_not_zero}
use Rattle.records.specs.declared.Cause.{Cause}
use Rattle.records.specs.declared.Cause.TheVariants.{Shape}
use Rattle.records.specs.Verdict.{Check}
use Rattle.records.specs.Verdict.{Pass, Fail}
use Rattle.buffers.specs.Buffers.{flag_number}
use Rattle.neighbour_lists.specs.Lists.{list_numbers, list_of, stale_list}
use Rattle.lookups.specs.Lookup.{lookup_answer, lookup_call, hit_at, Case, refused_by, hit, miss}
use Rattle.lookups.proofs.LookupLaws.{lookup_cases, lookup_hit, lookup_miss, lookup_refused, hit_not_zero}
use Rattle.insert_plans.specs.Inserts.{insert_call, insert_cover}
use Rattle.insert_plans.specs.ListedInserts.{listed_insert, listed_insert_reply}
use Rattle.insert_plans.proofs.ListedInsertsLaws.{reply_same, plan_same, list_refused}
use Rattle.marshalling.specs.Cells.{data_cell, spot_cell}
use Rattle.marshalling.proofs.CellsLaws.{refusal_kept, refusal_put, cover_cells, refreshed_cells, refreshed_cell_lem}
use Rattle.tcam.specs.Cells.{HitCells, MissCells, InsertLeft, CoverLeft, ListedInsertLeft, ListDeclined}

module _ (w : ℕ) (t key : List ℕ) (slot id did : ℕ) where
  abbrev Left : Told → Type 0
  Left told =
      HitCells w t key (data_cell told 0 slot) (data_cell told 1 id) (data_cell told 2 did)
      ⊎ MissCells w t key (data_cell told 0 slot) (data_cell told 1 id) (data_cell told 2 did)

  -- a refusal's number is not 0
  refused : (cause : Cause) {n : ℕ} → n ≡ 0 → n ≡ cause_number cause → ⊥
  refused cause e f = true≢false (ap (λ (n : ℕ). eqb n 0) (sym e ∙ f) ∙ cause_not_zero cause)

  answered : (lookup_answer w t (word key)).number ≡ 0 → Left (lookup_answer w t (word key))
  unfolding hit_at
  answered e = pick (lookup_cases w t (word key))
    where
      pick : Case w t (word key) → Left (lookup_answer w t (word key))
      pick (refused_by cause spot f) = absurd (refused cause e (ap (λ (x : Told). x.number) (lookup_refused w t (word key) cause spot f)))
      pick (hit i f m) =
          subst Left (sym (lookup_hit w t (word key) i f m)) (inl (record { first = m; named = refl; acted = refl; some = hit_not_zero w t (word key) i f m }))
      pick (miss f m) = subst Left (sym (lookup_miss w t (word key) f m)) (inr (record { none = m; slot_zero = refl; id_zero = refl; did_zero = refl }))

  -- of any key and width: what is lent wrong is refused
  pub lookup_cells : (lookup_call w t key).number ≡ 0
      → HitCells w t key (data_cell (lookup_call w t key) 0 slot) (data_cell (lookup_call w t key) 1 id) (data_cell (lookup_call w t key) 2 did)
      ⊎ MissCells w t key (data_cell (lookup_call w t key) 0 slot) (data_cell (lookup_call w t key) 1 id) (data_cell (lookup_call w t key) 2 did)
  unfolding lookup_call
  lookup_cells e = by (check_key w (length key)) e
    where
      by : (x : Check) → (unless x (lookup_answer w t (word key))).number ≡ 0 → Left (unless x (lookup_answer w t (word key)))
      by Pass f = answered f
      by (Fail cause spot) f = absurd (refused cause f refl)

module _ (w : ℕ) (u : Bool) (e : ℕ) (t rule list list' : List ℕ) (result : ℕ) (plan after : List ℕ) (count count' covered covered' refreshed refreshed' spot spot' : ℕ)
    (r : ListedInsertLeft w u e t rule list list' result plan after count count' covered covered' refreshed refreshed' spot spot') where
  abbrev told : Told
  told = listed_insert w u e t rule (length list) (length plan)

  -- the cells but that for the flag are as the answer without it has them
  cells : (data_cell (listed_insert_reply w u e t rule list (length plan)) 0 count ≡ data_cell told 0 count)
      × (data_cell (listed_insert_reply w u e t rule list (length plan)) 1 covered ≡ data_cell told 1 covered)
      × (spot_cell (listed_insert_reply w u e t rule list (length plan)) spot ≡ spot_cell told spot)
  cells = refreshed_cells told (stale_list w u t list) count covered spot

  -- a list of the table's length: what the call without a list leaves
  pub listed_as_insert : length list ≡ list_numbers w t
      → InsertLeft w u e t rule result plan after count count' spot spot' × CoverLeft w u e t rule (length plan) covered covered'
  listed_as_insert size =
      let same = reply_same w u e t rule list plan size in
      let cover = cover_cells (insert_call w u e t rule (length plan)) (insert_cover w t (lent_rule w e rule)) count spot in (
        record {
          left = record {
            number = r.left.number ∙ ap (λ (x : Told). x.number) same;
            plan = r.left.plan ∙ plan_same w u e t rule list plan size;
            counted = r.left.counted ∙ (cells.0 ∙ (ap (λ (x : Told). data_cell x 0 count) same ∙ cover.0));
            spotted = r.left.spotted ∙ (cells.2 ∙ (ap (λ (x : Told). spot_cell x spot) same ∙ cover.1));
          };
          shortest = r.shortest size;
        },
        r.covered_told ∙ (cells.1 ∙ ap (λ (x : Told). data_cell x 1 covered) same),
      )

  -- and where it returns 0 the list is the table's, and the flag tells whether it was not before
  pub listed_success : result ≡ 0 → (list' ≡ list_of w u t) × (refreshed' ≡ flag_number (stale_list w u t list))
  listed_success zero =
      let none : told.number ≡ 0 = sym r.left.number ∙ zero in (
        r.listed ∙ ap (λ (b : Bool). cond b (list_of w u t) list) (eq-eqb told.number 0 none),
        r.refreshed_told ∙ refreshed_cell_lem told (stale_list w u t list) refreshed none,
      )

  -- a list of another length: 1, spot 0, and nothing is written
  pub listed_declined : (length list ≡ list_numbers w t → ⊥) → ListDeclined list list' result plan after count count' covered covered' refreshed refreshed' spot'
  listed_declined other =
      let ends = list_refused w u e t rule list plan (sym (words_refused (length list) (list_numbers w t) other)) refl in
      let reply = ends.0 in
      record {
        number = r.left.number ∙ ap (λ (x : Told). x.number) (sym reply);
        spotted = r.left.spotted ∙ sym (refusal_put Shape 0 spot reply);
        planned = r.left.plan ∙ sym ends.1;
        kept = r.listed ∙ sym ends.2;
        counted = r.left.counted ∙ sym (refusal_kept Shape 0 0 count reply);
        covered_kept = r.covered_told ∙ sym (refusal_kept Shape 0 1 covered reply);
        refreshed_kept = r.refreshed_told ∙ sym (refusal_kept Shape 0 2 refreshed reply);
      }
