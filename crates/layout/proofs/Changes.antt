-- End theorems on replies through a plan: each key keeps its old reply until the last write, and then has that of the changed set of rules.
-- A delete is one emptying write.
use Rattle.std.specs.Prelude.{◌≡◌, Bool, false, ◌↔◌, ◌⊎◌, List, ℕ, ◌<◌, length, get_or}
use Rattle.layout.specs.Order.{Laws, InOrder}
use Rattle.layout.specs.Held.{Held, Unique, Coherent, emptied}
use Rattle.layout.specs.Replies.{Answers, ConflictOrAlike, reply}
use Rattle.layout.specs.Valid.{Between, Placed}
use Rattle.layout.proofs.OrderLaws.{in_order_emptied}
use Rattle.layout.proofs.HeldLaws.{unique_coherent, unique_emptied, held_removed}
use Rattle.layout.proofs.RepliesLaws.{reply_answers, answers_equal, equal_replies}

module _
    {S O : Type 0} {empty : S} {occupied : S → Bool} {same misordered : S → S → Bool} (laws : Laws empty occupied same misordered)
    (matches : S → Bool) (observed : S → O) (tell : ConflictOrAlike occupied same misordered matches observed) where
  -- a layout in order with unique ids answers as a set of rules, if that is what it holds
  answers_as : (u : List S) → InOrder empty misordered u → Unique empty same u → (rules : S → Type 0) → ((x : S) → Held empty occupied u x ↔ rules x)
      → Answers misordered matches observed rules (reply empty occupied matches observed u)
  answers_as u o n rules f =
      answers_equal misordered matches observed (Held empty occupied u) rules f (reply empty occupied matches observed u)
      (reply_answers laws matches u o observed (unique_coherent laws u n) tell)

  -- between the writes of an insert's plan
  pub between_reply : (first u : List S) → InOrder empty misordered first → Coherent empty same first → Between empty occupied same misordered first u
      → reply empty occupied matches observed u ≡ reply empty occupied matches observed first
  between_reply first u o c b = equal_replies laws matches observed tell u first b.order o b.coherent c b.held

  -- after it
  pub placed_reply : (first : List S) (new : S) (s : ℕ) (u : List S) → Placed empty occupied same misordered first new s u
      → Answers misordered matches observed (λ x. Held empty occupied first x ⊎ (new ≡ x)) (reply empty occupied matches observed u)
  placed_reply first new s u p = answers_as u p.order p.unique (λ x. Held empty occupied first x ⊎ (new ≡ x)) p.held

  -- after a delete
  pub removed_reply : (t : List S) (j : ℕ) → InOrder empty misordered t → Unique empty same t → j < length t
      → Answers misordered matches observed (λ x. Held empty occupied t x × (same x (get_or t j empty) ≡ false))
      (reply empty occupied matches observed (emptied empty t j))
  removed_reply t j o u b =
      answers_as (emptied empty t j) (in_order_emptied laws t j o) (unique_emptied laws t j b u)
      (λ x. Held empty occupied t x × (same x (get_or t j empty) ≡ false)) (held_removed laws t j b (λ k l d. u k j l b d))
