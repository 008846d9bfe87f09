-- Laws on bytes written into a buffer: what is printed one after the other is printed as one text.
use Rattle.std.specs.Prelude.{◌≡◌, refl, List, [], ◌∷◌, ◌++◌, ℕ, suc, ◌+◌, ◌≤◌, ◌<◌, length, take, drop, set}
use Rattle.std.proofs.Common.{sym, ap, ap₂, ◌∙◌, append_assoc, arith, add-one, length-append, length-take-le, take_at, drop-drop}
use Rattle.std.proofs.lemmas.List.{set_split}
use Rattle.std.proofs.Math.Seq.{append_snoc, paste-zero, drop-append-add}
use Rattle.script_printing.specs.Printing.{Shown, Printed}

pub printed_shown : (out text : List ℕ) (count : ℕ) (after : List ℕ) → Printed out 0 text count after → Shown out text count after
printed_shown out text count after p =
    let e : 0 + length text ≡ length text = omega arith in
    record { counted = p.place ∙ e; bytes = p.bytes ∙ ap (λ (n : ℕ). text ++ drop n out) e }

-- one byte
pub printed_one : (out : List ℕ) (at b : ℕ) → at < length out → Printed out at (b ∷ []) (at + 1) (set out at b)
printed_one out at b h = record {
  place = refl;
  bytes = set_split out at b h ∙ (sym (append_snoc (take at out) b (drop (suc at) out)) ∙ ap (λ (n : ℕ). take at out ++ (b ∷ []) ++ drop n out) (sym (add-one at)));
}

-- no byte
pub printed_none : (out : List ℕ) (at : ℕ) → Printed out at [] at out
printed_none out at = record { place = omega arith; bytes = paste-zero out at [] }

-- one text after the other
module _ {out : List ℕ} {at : ℕ} {x : List ℕ} {m : ℕ} {mid : List ℕ} (first : Printed out at x m mid) where
  pub printed_then : {y : List ℕ} {next : ℕ} {after : List ℕ} → at ≤ length out → Printed mid m y next after → Printed out at (x ++ y) next after
  printed_then {y} {next} {after} h second = record {
    place = let e = length-append x y in omega (arith, first.place, second.place);
    bytes = second.bytes ∙ ap₂ ◌++◌ (ap (λ (p : List ℕ). p ++ y) front ∙ append_assoc (take at out) x y) back;
  }
    where
      head : List ℕ
      head = take at out ++ x

      size : length head ≡ m
      size = length-append (take at out) x ∙ (let e = length-take-le at out h in omega (arith, first.place))

      front : take m mid ≡ head
      front = ap (take m) first.bytes ∙ take_at head (drop (at + length x) out) m size

      back : drop (m + length y) mid ≡ drop (at + length (x ++ y)) out
      back =
          ap₂ drop (ap (λ (n : ℕ). n + length y) (sym size)) first.bytes
          ∙ (drop-append-add head (drop (at + length x) out) (length y)
          ∙ (drop-drop (length y) (at + length x) out
          ∙ ap (λ (n : ℕ). drop n out) (let e : at + length x + length y ≡ at + length (x ++ y) = omega (arith, length-append x y) in e)))

-- room for two texts is room for the first, and then for the second
module _ (out : List ℕ) (at : ℕ) (x y : List ℕ) (room : at + length (x ++ y) ≤ length out) where
  pub room_first : at + length x ≤ length out
  room_first = omega (arith, length-append x y)

  pub room_next : {m : ℕ} {mid : List ℕ} → Printed out at x m mid → length mid ≡ length out → m + length y ≤ length mid
  room_next p e = omega (arith, length-append x y, p.place)

  pub both_printed : {m next : ℕ} {mid after : List ℕ} → Printed out at x m mid → Printed mid m y next after → Printed out at (x ++ y) next after
  both_printed p q = printed_then p (omega arith) q
