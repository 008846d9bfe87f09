-- End theorems on what a line is answered: letter, number and values lose nothing.
use Rattle.std.specs.Prelude.{◌≡◌, refl, ℕ, get_or}
use Rattle.std.proofs.Common.{ap, ap₂, arith}
use Rattle.records.specs.Checks.{refusal}
use Rattle.records.proofs.Laws.{cause_not_zero, cause_number_once}
use Rattle.records.specs.declared.Cause.{Cause}
use Rattle.script_operations.specs.declared.LineAnswer.{LineAnswer}
use Rattle.script_operations.specs.declared.LineAnswer.TheVariants.{Made, Planned, Found, Miss, Refused}
use Rattle.script_operations.specs.Told.{looked_told, line_told, lettered, LineTold, planned_told}

-- a refusal is one for either call
pub planned_refused : (cause : Cause) (spot : ℕ) → lettered 82 (refusal cause spot) ≡ planned_told (refusal cause spot)
planned_refused cause spot = rw (cause_not_zero cause)

pub looked_refused : (cause : Cause) (spot : ℕ) → lettered 82 (refusal cause spot) ≡ looked_told (refusal cause spot)
looked_refused cause spot = rw (cause_not_zero cause)

-- an answer's letter, number and values lose nothing
value : {x y : LineTold} → x ≡ y → (k : ℕ) → get_or x.told.values k 0 ≡ get_or y.told.values k 0
value e k = ap (λ (t : LineTold). get_or t.told.values k 0) e

pub line_told_once : (a b : LineAnswer) → line_told a ≡ line_told b → a ≡ b
line_told_once (Made x) (Made y) e = let f = value e 0 in λ i. Made (record { slots = f i })
line_told_once (Made x) (Planned y) e = let n : ◌≡◌ {A = ℕ} 78 80 = ap (λ (t : LineTold). t.letter) e in absurd (omega arith)
line_told_once (Made x) (Found y) e = let n : ◌≡◌ {A = ℕ} 78 65 = ap (λ (t : LineTold). t.letter) e in absurd (omega arith)
line_told_once (Made x) Miss e = let n : ◌≡◌ {A = ℕ} 78 77 = ap (λ (t : LineTold). t.letter) e in absurd (omega arith)
line_told_once (Made x) (Refused d u) e = let n : ◌≡◌ {A = ℕ} 78 82 = ap (λ (t : LineTold). t.letter) e in absurd (omega arith)
line_told_once (Planned x) (Made y) e = let n : ◌≡◌ {A = ℕ} 80 78 = ap (λ (t : LineTold). t.letter) e in absurd (omega arith)
line_told_once (Planned x) (Planned y) e = let f = value e 0 in λ i. Planned (record { count = f i })
line_told_once (Planned x) (Found y) e = let n : ◌≡◌ {A = ℕ} 80 65 = ap (λ (t : LineTold). t.letter) e in absurd (omega arith)
line_told_once (Planned x) Miss e = let n : ◌≡◌ {A = ℕ} 80 77 = ap (λ (t : LineTold). t.letter) e in absurd (omega arith)
line_told_once (Planned x) (Refused d u) e = let n : ◌≡◌ {A = ℕ} 80 82 = ap (λ (t : LineTold). t.letter) e in absurd (omega arith)
line_told_once (Found x) (Made y) e = let n : ◌≡◌ {A = ℕ} 65 78 = ap (λ (t : LineTold). t.letter) e in absurd (omega arith)
line_told_once (Found x) (Planned y) e = let n : ◌≡◌ {A = ℕ} 65 80 = ap (λ (t : LineTold). t.letter) e in absurd (omega arith)
line_told_once (Found x) (Found y) e = let at = value e in λ i. Found (record { slot = at 0 i; id = at 1 i; action = at 2 i })
line_told_once (Found x) Miss e = let n : ◌≡◌ {A = ℕ} 65 77 = ap (λ (t : LineTold). t.letter) e in absurd (omega arith)
line_told_once (Found x) (Refused d u) e = let n : ◌≡◌ {A = ℕ} 65 82 = ap (λ (t : LineTold). t.letter) e in absurd (omega arith)
line_told_once Miss (Made y) e = let n : ◌≡◌ {A = ℕ} 77 78 = ap (λ (t : LineTold). t.letter) e in absurd (omega arith)
line_told_once Miss (Planned y) e = let n : ◌≡◌ {A = ℕ} 77 80 = ap (λ (t : LineTold). t.letter) e in absurd (omega arith)
line_told_once Miss (Found y) e = let n : ◌≡◌ {A = ℕ} 77 65 = ap (λ (t : LineTold). t.letter) e in absurd (omega arith)
line_told_once Miss Miss e = refl
line_told_once Miss (Refused d u) e = let n : ◌≡◌ {A = ℕ} 77 82 = ap (λ (t : LineTold). t.letter) e in absurd (omega arith)
line_told_once (Refused c s) (Made y) e = let n : ◌≡◌ {A = ℕ} 82 78 = ap (λ (t : LineTold). t.letter) e in absurd (omega arith)
line_told_once (Refused c s) (Planned y) e = let n : ◌≡◌ {A = ℕ} 82 80 = ap (λ (t : LineTold). t.letter) e in absurd (omega arith)
line_told_once (Refused c s) (Found y) e = let n : ◌≡◌ {A = ℕ} 82 65 = ap (λ (t : LineTold). t.letter) e in absurd (omega arith)
line_told_once (Refused c s) Miss e = let n : ◌≡◌ {A = ℕ} 82 77 = ap (λ (t : LineTold). t.letter) e in absurd (omega arith)
line_told_once (Refused c s) (Refused d u) e = ap₂ Refused (cause_number_once c d (ap (λ (t : LineTold). t.told.number) e)) (value e 0)
