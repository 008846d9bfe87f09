-- End theorems on planning with a neighbour list lent: how the call ends behind its two checks, and that with a list of the table's length it answers and plans as
-- the one without a list.
use Rattle.std.specs.Prelude.{◌≡◌, refl, Bool, cond, List, ℕ, eqb, length}
use Rattle.std.proofs.Common.{sym, ap, ◌∙◌}
use Rattle.records.specs.Checks.{Told, refusal, unless}
use Rattle.records.proofs.Laws.{cause_not_zero, told_answered}
use Rattle.records.specs.Widths.{check_rule, check_words, leaves}
use Rattle.records.proofs.WidthsLaws.{leaves_same, words_law, shape_turn, call_refused, call_answered}
use Rattle.records.specs.Editions.{lent_rule}
use Rattle.records.specs.declared.Cause.{Cause}
use Rattle.records.specs.Verdict.{Check}
use Rattle.records.specs.Verdict.{Pass, Fail}
use Rattle.buffers.specs.Buffers.{with_refreshed, with_cover, without_cover}
use Rattle.buffers.proofs.BuffersLaws.{cover_refused, refreshed_refused, refreshed_dropped}
use Rattle.neighbour_lists.specs.Lists.{list_numbers, list_of, stale_list}
use Rattle.insert_plans.specs.Inserts.{insert_answer, insert_plan, insert_call, insert_cover, insert_reply, insert_call_plan, insert_call_reply}
use Rattle.insert_plans.proofs.InsertsLaws.{call_reply_dropped}
use Rattle.insert_plans.specs.ListedInserts.{listed_insert, listed_insert_reply, listed_insert_plan, listed_insert_list}

-- how the call ends: its answer, the plan buffer and the list afterwards
abbrev ListedEnds : ℕ → Bool → ℕ → List ℕ → List ℕ → List ℕ → List ℕ → Told → List ℕ → List ℕ → Type 0
ListedEnds w u e t rule list plan told after left =
    (told ≡ listed_insert_reply w u e t rule list (length plan)) × (after ≡ listed_insert_plan w u e t rule (length list) plan)
    × (left ≡ listed_insert_list w u e t rule list (length plan))

-- the answer without a list stands behind the check of the rule
call_behind : (w : ℕ) (u : Bool) (e : ℕ) (t rule : List ℕ) (room : ℕ)
    → unless (check_rule w (length rule)) (insert_reply w u t (lent_rule w e rule) room) ≡ insert_call_reply w u e t rule room
call_behind w u e t rule room = by (check_rule w (length rule))
  where
    by : (x : Check) → unless x (insert_reply w u t (lent_rule w e rule) room)
        ≡ with_cover (unless x (insert_answer w u t (lent_rule w e rule) room)) (insert_cover w t (lent_rule w e rule))
    by Pass = refl
    by (Fail cause spot) = cover_refused cause spot (insert_cover w t (lent_rule w e rule)) refl

-- what a refusal keeps as it was
pub refusal_keeps : (cause : Cause) (spot : ℕ) {told : Told} (after before : List ℕ) → refusal cause spot ≡ told → before ≡ cond (eqb told.number 0) after before
refusal_keeps cause spot after before e =
    ap (λ (b : Bool). cond b after before) (sym (ap (λ (x : Told). eqb x.number 0) (sym e) ∙ cause_not_zero cause))

module _ (w : ℕ) (u : Bool) (e : ℕ) (t rule list plan : List ℕ) where
  refused : (cause : Cause) (spot : ℕ) → refusal cause spot ≡ listed_insert w u e t rule (length list) (length plan)
      → plan ≡ listed_insert_plan w u e t rule (length list) plan → ListedEnds w u e t rule list plan (refusal cause spot) plan list
  refused cause spot told left =
      (refreshed_refused cause spot (stale_list w u t list) told, left, refusal_keeps cause spot (list_of w u t) list told)

  -- refused by the check of the width and the rule's words, which the call makes first
  pub rule_refused : {x : Check} {cause : Cause} {spot : ℕ} → x ≡ check_rule w (length rule) → x ≡ Fail cause spot
      → ListedEnds w u e t rule list plan (refusal cause spot) plan list
  rule_refused {cause = cause} {spot} h f =
      let numbers = check_words (length list) (list_numbers w t) in
      let reply = insert_reply w u t (lent_rule w e rule) (length plan) in
      let r = call_refused (unless numbers reply) (insert_plan w u t (lent_rule w e rule) plan) plan h f in
      refused cause spot (r.0 ∙ (shape_turn w (length rule) (length list) (list_numbers w t) reply ∙ ap (unless numbers) (call_behind w u e t rule (length plan))))
      (leaves_same numbers plan ∙ ap (λ (p : List ℕ). leaves numbers p plan) r.1)

  -- .. by that of the list's numbers, ..
  pub list_refused : {x : Check} {cause : Cause} {spot : ℕ} → x ≡ check_words (length list) (list_numbers w t) → x ≡ Fail cause spot
      → ListedEnds w u e t rule list plan (refusal cause spot) plan list
  list_refused {cause = cause} {spot} h f =
      let r = call_refused (insert_call_reply w u e t rule (length plan)) (insert_call_plan w u e t rule plan) plan h f in
      refused cause spot r.0 r.1

  -- .. or as the planning ends
  pub listed_answered : {x y : Check} {told : Told} {after left : List ℕ} → x ≡ check_rule w (length rule) → x ≡ Pass
      → y ≡ check_words (length list) (list_numbers w t) → y ≡ Pass
      → told ≡ with_refreshed (insert_reply w u t (lent_rule w e rule) (length plan)) (stale_list w u t list)
      → after ≡ insert_plan w u t (lent_rule w e rule) plan
      → left ≡ cond (eqb (insert_reply w u t (lent_rule w e rule) (length plan)).number 0) (list_of w u t) list
      → ListedEnds w u e t rule list plan told after left
  listed_answered h f i g told after left =
      let behind = call_answered plan h f (refl, after) in
      let r = call_answered plan i g (behind.0 ∙ call_behind w u e t rule (length plan), behind.1) in (
        told ∙ ap (λ (x : Told). with_refreshed x (stale_list w u t list)) r.0,
        r.1,
        left ∙ ap (λ (x : Told). cond (eqb x.number 0) (list_of w u t) list) r.0,
      )

  -- with a list of the table's length: the answer but for what it tells of the list, and the plan
  module _ (size : length list ≡ list_numbers w t) where
    pub reply_same : listed_insert w u e t rule (length list) (length plan) ≡ insert_call_reply w u e t rule (length plan)
    reply_same = sym (told_answered (sym ((words_law (length list) (list_numbers w t)).1 size)) refl refl)

    pub plan_same : listed_insert_plan w u e t rule (length list) plan ≡ insert_call_plan w u e t rule plan
    plan_same =
        ap (λ (x : Check). leaves x (insert_call_plan w u e t rule plan) plan) ((words_law (length list) (list_numbers w t)).1 size)

    pub listed_dropped : without_cover (listed_insert_reply w u e t rule list (length plan)) ≡ insert_call w u e t rule (length plan)
    listed_dropped =
        ap (λ (x : Told). without_cover (with_refreshed x (stale_list w u t list))) reply_same
        ∙ (refreshed_dropped (insert_call w u e t rule (length plan)) (insert_cover w t (lent_rule w e rule)) (stale_list w u t list)
        ∙ call_reply_dropped w u e t rule (length plan))
