-- End theorems on the checks of an image: the first wrong field decides, and an image that passes has every field right.
-- These are the sentences a reader goes by; loops and theorems cite them and not the text of the definitions.
use Rattle.std.proofs.Math.Path.{◌≡◌, ap}
use Rattle.std.specs.Prelude.{refl, Bool, true, false, not, ◌&&◌, ◌↔◌, ◌⊎◌, List, eqb, ltb, leb, length}
use Rattle.std.proofs.Common.{sym, ◌∙◌, eqb-true, eq-eqb, ne_eqb, leb-true, ltb-true, le-leb, lt-ltb}
use Rattle.std.proofs.Math.Logic.{⊎_elim}
use Rattle.std.proofs.Math.Logic.◌⊎◌.{inl, inr}
use Prim.Native.Nat.{ℕ, zero, suc, ◌+◌, ◌≤◌, ◌<◌}
use Rattle.std.proofs.Math.Decide.{dec_lt}
use native.Mathlib.Omega.{arith}
use Rattle.std.proofs.lemmas.Bool.{eqb-false, not-true}
use Rattle.search.specs.SearchLaws.{below_suc, and_left, and_right, and_both}
use Rattle.records.specs.Checks.{or_else}
use Rattle.records.proofs.Laws.{or_else_pass, or_else_fail, pass_law}
use Rattle.records.specs.declared.Cause.{Cause}
use Rattle.records.specs.declared.Cause.TheVariants.{Image}
use Rattle.records.specs.Verdict.{Check}
use Rattle.records.specs.Verdict.{Pass, Fail}
use Rattle.image.specs.Format.{image_bytes, entry_place, body_place, slots_in, rules_in, id_at, entry_slot, offset_at}
use Rattle.image.specs.Checks.{field, in_turn, check_header, lowest_slot, check_entry, check_body, check_contents, check_bodies, image_checks}
use Rattle.image.specs.Checks.{FirstFails, Sound}

-- a field, as code returns from a row of them
pub field_wrong : {right : Bool} (offset : ℕ) (next : Check) → right ≡ false → Fail Image offset ≡ or_else (field right offset) next
field_wrong offset next e = rw e

pub field_right : {right : Bool} (offset : ℕ) {answer next : Check} → right ≡ true → answer ≡ next → answer ≡ or_else (field right offset) next
field_right offset e h = rw e h

pub field_last : {right : Bool} (offset : ℕ) → right ≡ true → Pass ≡ field right offset
field_last offset e = rw e

pub field_last_wrong : {right : Bool} (offset : ℕ) → right ≡ false → Fail Image offset ≡ field right offset
field_last_wrong offset e = rw e

-- checks in turn: all pass, or the first that fails decides
module _ (check : ℕ → Check) where
  pub turn_pass : (n : ℕ) → (in_turn check n ≡ Pass) ↔ ((k : ℕ) → k < n → check k ≡ Pass)
  unfolding in_turn
  turn_pass zero = (λ e k h. absurd (omega arith), λ f. refl)
  turn_pass (suc n) = (
    λ e. let p = (or_else_pass (in_turn check n) (check n)).0 e in below_suc (λ (k : ℕ). check k ≡ Pass) n ((turn_pass n).0 p.0) p.1,
    λ f. (or_else_pass (in_turn check n) (check n)).1 ((turn_pass n).1 (λ k h. f k (omega arith)), f n (omega arith)),
  )

  pub turn_fail : (n : ℕ) (cause : Cause) (spot : ℕ) → (in_turn check n ≡ Fail cause spot) ↔ FirstFails check n cause spot
  unfolding in_turn
  turn_fail zero cause spot = (λ e. absurd (let z : ◌≡◌ {A = ℕ} 0 1 = cc in omega arith), λ f. absurd (omega (arith, f.1)))
  turn_fail (suc n) cause spot = (
    λ e. ⊎_elim (λ l. let f = (turn_fail n cause spot).0 l in (f.0, omega (arith, f.1), f.2, f.3))
        (λ r. (n, omega arith, r.1, (turn_pass n).0 r.0)) ((or_else_fail (in_turn check n) (check n) cause spot).0 e),
    λ f. (or_else_fail (in_turn check n) (check n) cause spot).1 (pick f (dec_lt f.0 n) (turn_fail n cause spot).1),
  )
    where
      pick : (f : FirstFails check (suc n) cause spot) → Dec (f.0 < n) → (FirstFails check n cause spot → in_turn check n ≡ Fail cause spot)
          → (in_turn check n ≡ Fail cause spot) ⊎ ((in_turn check n ≡ Pass) × (check n ≡ Fail cause spot))
      pick f (yes l) back = inl (back (f.0, l, f.2, f.3))
      pick f (no l) back =
          let last : f.0 ≡ n = omega (arith, f.1) in
          inr ((turn_pass n).1 (λ j h. f.3 j (omega arith)), ap check (sym last) ∙ f.2)

  -- a loop over them
  abbrev pub PassBelow : ℕ → ℕ → Type 0
  PassBelow n i = (i ≤ n) × ((k : ℕ) → k < i → check k ≡ Pass)

  pub pass_start : (n : ℕ) → PassBelow n 0
  pass_start n = (omega arith, λ k h. absurd (omega arith))

  pub pass_more : {x : Check} (n i : ℕ) → PassBelow n i → i < n → x ≡ check i → x ≡ Pass → PassBelow n (i + 1)
  pass_more n i inv h e f = (omega arith, λ k l. below_suc (λ (j : ℕ). check j ≡ Pass) i inv.1 (sym e ∙ f) k (omega arith))

  pub turn_fails : {x : Check} {cause : Cause} {spot : ℕ} (n i : ℕ) → PassBelow n i → i < n → x ≡ check i → x ≡ Fail cause spot → Fail cause spot ≡ in_turn check n
  turn_fails n i inv h e f = sym ((turn_fail n _ _).1 (i, h, sym e ∙ f, inv.1))

  pub turn_passes : (n i : ℕ) → PassBelow n i → n ≤ i → Pass ≡ in_turn check n
  turn_passes n i inv h = sym ((turn_pass n).1 (λ k l. inv.1 k (omega arith)))

-- a field passes exactly when it is right
pub field_law : (right : Bool) (offset : ℕ) → (field right offset ≡ Pass) ↔ (right ≡ true)
field_law right offset = pass_law Image offset right

-- an entry passes exactly when its three fields are right
pub entry_law : (w : ℕ) (b : List ℕ) (n e k : ℕ)
    → (check_entry w b n e k ≡ Pass)
    ↔ ((id_at b k ≡ 0 → ⊥) × (entry_slot b k < n) × (lowest_slot b k ≤ entry_slot b k) × (offset_at b k ≡ body_place w e k))
unfolding check_entry
entry_law w b n e k =
    let named = not (eqb (id_at b k) 0) in
    let low = ltb (entry_slot b k) n in
    let high = leb (lowest_slot b k) (entry_slot b k) in
    let placed = eqb (offset_at b k) (body_place w e k) in
    let id = field named (entry_place k) in
    let slot = field (low && high) (entry_place k + 4) in
    let offset = field placed (entry_place k + 6) in (
      λ p. let r = (or_else_pass id (or_else slot offset)).0 p in
          let q = (or_else_pass slot offset).0 r.1 in
          let s = (field_law (low && high) (entry_place k + 4)).0 q.0 in (
            eqb-false _ _ (not-true _ ((field_law named (entry_place k)).0 r.0)),
            ltb-true _ _ (and_left low high s),
            leb-true _ _ (and_right low high s),
            eqb-true _ _ ((field_law placed (entry_place k + 6)).0 q.1),
          ),
      λ f. (or_else_pass id (or_else slot offset)).1 (
        (field_law named (entry_place k)).1 (ap not (ne_eqb _ _ f.0)),
        (or_else_pass slot offset).1 (
          (field_law (low && high) (entry_place k + 4)).1 (and_both low high (lt-ltb _ _ f.1) (le-leb _ _ f.2)),
          (field_law placed (entry_place k + 6)).1 (eq-eqb _ _ f.3),
        ),
      ),
    )

pub header_law : (w : ℕ) (b : List ℕ) (n : ℕ)
    → (check_header w b n ≡ Pass) ↔ ((4 ≤ length b) × (slots_in b ≡ n) × (rules_in b ≤ n) × (length b ≡ image_bytes w (rules_in b)))
unfolding check_header
header_law w b n =
    let whole = leb 4 (length b) in
    let same = eqb (slots_in b) n in
    let few = leb (rules_in b) n in
    let long = eqb (length b) (image_bytes w (rules_in b)) in
    let first = whole && same in
    let second = few && long in (
      λ p. let r = (or_else_pass (field first 0) (field second 2)).0 p in
          let f = (field_law first 0).0 r.0 in
          let s = (field_law second 2).0 r.1 in
          (leb-true _ _ (and_left whole same f), eqb-true _ _ (and_right whole same f), leb-true _ _ (and_left few long s), eqb-true _ _ (and_right few long s)),
      λ f. (or_else_pass (field first 0) (field second 2)).1 (
        (field_law first 0).1 (and_both whole same (le-leb _ _ f.0) (eq-eqb _ _ f.1)),
        (field_law second 2).1 (and_both few long (le-leb _ _ f.2) (eq-eqb _ _ f.3)),
      ),
    )

abbrev EntryRight : ℕ → List ℕ → ℕ → ℕ → Type 0
EntryRight w b n k = (id_at b k ≡ 0 → ⊥) × (entry_slot b k < n) × (lowest_slot b k ≤ entry_slot b k) × (offset_at b k ≡ body_place w (rules_in b) k)

-- an image passes its checks exactly when it has all of that
pub image_law : (w : ℕ) (b : List ℕ) (n : ℕ) → (image_checks w b n ≡ Pass) ↔ Sound w b n
unfolding image_checks check_contents check_bodies check_body
image_law w b n =
    let contents = in_turn (check_entry w b n (rules_in b)) (rules_in b) in
    let bodies = in_turn (check_body w b (rules_in b)) (rules_in b) in (
      λ p. let r = (or_else_pass (check_header w b n) (or_else contents bodies)).0 p in
          let q = (or_else_pass contents bodies).0 r.1 in
          let h = (header_law w b n).0 r.0 in
          let entries : (k : ℕ) → k < rules_in b → EntryRight w b n k =
          λ k l. (entry_law w b n (rules_in b) k).0 ((turn_pass (check_entry w b n (rules_in b)) (rules_in b)).0 q.0 k l) in record {
            slots_same = h.1;
            few = h.2;
            long = h.3;
            ids = λ k l. (entries k l).0;
            below = λ k l. (entries k l).1;
            above = λ k l. (entries k l).2;
            exact = λ k l. (entries k l).3;
            records = λ k l. (field_law _ (body_place w (rules_in b) k)).0 ((turn_pass (check_body w b (rules_in b)) (rules_in b)).0 q.1 k l);
          },
      λ s. (or_else_pass (check_header w b n) (or_else contents bodies)).1 (
        (header_law w b n).1 (omega (arith, s.long), s.slots_same, s.few, s.long),
        (or_else_pass contents bodies).1 (
          (turn_pass (check_entry w b n (rules_in b)) (rules_in b)).1 (λ k l. (entry_law w b n (rules_in b) k).1 (s.ids k l, s.below k l, s.above k l, s.exact k l)),
          (turn_pass (check_body w b (rules_in b)) (rules_in b)).1 (λ k l. (field_law _ (body_place w (rules_in b) k)).1 (s.records k l)),
        ),
      ),
    )
