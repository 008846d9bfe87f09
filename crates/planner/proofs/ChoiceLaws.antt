-- Laws on the choice between the two directions: as the code makes it, and the words of its plan in the buffer.
use Rattle.std.specs.Prelude.{◌≡◌, true, false, List, [], ◌∷◌, ◌++◌, ℕ, suc, ◌-◌, ◌≤◌, ◌<◌, min, eqb, length, drop, set}
use Rattle.std.proofs.Common.{◌∙◌, arith, le-leb, length-append}
use Rattle.std.proofs.lemmas.Bool.{lt-leb}
use Rattle.search.specs.Search.{least}
use Rattle.layout.specs.Write.{put}
use Rattle.layout.specs.Minimum.{minimum, lowest_at}
use Rattle.layout.proofs.MinimumLaws.{lowest_at_law}
use Rattle.plan_words.specs.PlanWords.{write_word}
use Rattle.positions.specs.Positions.{slot_at}
use Rattle.planner.specs.Emit.{emitted}
use Rattle.planner.specs.declared.SlotRange.{SlotRange}
use Rattle.planner.specs.declared.Best.{Best}
use Rattle.planner.specs.declared.PositionChoice.{PositionChoice}
use Rattle.planner.proofs.EmitLaws.{emitted_length, stored_after}
use Rattle.planner.specs.Choice.{best_of, choice_of, preferred, choice_words}

-- a plan has a word for each move and one for the new rule
pub choice_words_length : (c : ℕ → ℕ) (slots : ℕ) (choice : PositionChoice) → length (choice_words c slots choice) ≡ suc choice.cost
unfolding choice_words
choice_words_length c slots choice =
    length-append (emitted c slots choice.up choice.position choice.cost) (write_word (put (slot_at slots choice.up choice.position)) ∷ [])
    ∙ (let e = emitted_length c slots choice.up choice.position choice.cost in omega arith)

pub preferred_down : (down up : Best) → down.cost ≤ up.cost
    → preferred down up ≡ record { up = false; cost = down.cost; position = down.position }
unfolding preferred
preferred_down down up h = rw (le-leb down.cost up.cost h)

pub preferred_up : (down up : Best) → up.cost < down.cost
    → preferred down up ≡ record { up = true; cost = up.cost; position = up.position }
unfolding preferred
preferred_up down up h = rw (lt-leb down.cost up.cost h)

-- a least cost below the number of slots is that of the position found
pub best_at : (c : ℕ → ℕ) (slots from to : ℕ) → to ≤ slots → (best_of c slots from to).cost < slots
    → ((best_of c slots from to).position < slots) × (c (best_of c slots from to).position ≡ (best_of c slots from to).cost)
best_at c slots from to h finite =
    let r = lowest_at_law c slots (to - from) from finite in
    (omega (arith, r.below, r.from), r.value)

-- found in two steps, the cost first
pub best_found : (c : ℕ → ℕ) (slots from to m p : ℕ) → m ≡ minimum c slots (to - from) from → p ≡ least (λ j. eqb (c j) m) (to - from) from
    → record { cost = m; position = p } ≡ best_of c slots from to
unfolding lowest_at
best_found c slots from to m p e f = rw (f, e)

pub choice_found : (down up : ℕ → ℕ) (slots : ℕ) (below above : SlotRange) (end start past : ℕ) (best_down_lem best_up_lem : Best) (choice : PositionChoice)
    → end ≡ min below.to slots → start ≡ slots - above.to → past ≡ slots - above.from → best_down_lem ≡ best_of down slots below.from end
    → best_up_lem ≡ best_of up slots start past → choice ≡ preferred best_down_lem best_up_lem → choice ≡ choice_of down up slots below above
choice_found down up slots below above end start past best_down_lem best_up_lem choice e f g d u c = rw (c, d, u, e, f, g)

pub plan_stored : (c : ℕ → ℕ) (slots : ℕ) (choice : PositionChoice) (plan after : List ℕ) (w : ℕ) → choice.cost < length plan
    → after ≡ emitted c slots choice.up choice.position choice.cost ++ drop choice.cost plan
    → w ≡ write_word (put (slot_at slots choice.up choice.position)) → set after choice.cost w ≡ choice_words c slots choice ++ drop (suc choice.cost) plan
unfolding choice_words
plan_stored c slots choice plan after w h e f =
    rw (e, f)
    (stored_after (emitted c slots choice.up choice.position choice.cost) plan choice.cost
    (write_word (put (slot_at slots choice.up choice.position))) (emitted_length c slots choice.up choice.position choice.cost) h)
