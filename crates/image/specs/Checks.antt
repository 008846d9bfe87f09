-- What a load checks of an image, in document 01's order, and the table that an image means.
-- A wrong field is 14 at its offset; the first wrong field decides.
use Rattle.std.specs.Prelude.{Bool, not, cond, ◌&&◌, true, List, ℕ, zero, suc, ◌+◌, ◌<◌, ◌≤◌, eqb, ltb, leb, length, replicate, ◌≡◌}
use Rattle.records.specs.Record.{word, sound, put_slot}
use Rattle.records.specs.Order.{slots}
use Rattle.records.specs.Checks.{or_else, check_shape, check_twice, check_order}
use Rattle.records.specs.declared.Cause.TheVariants.{Image}
use Rattle.records.specs.Verdict.{Check}
use Rattle.records.specs.Verdict.{Pass, Fail}
use Rattle.records.specs.declared.Cause.{Cause}
use Rattle.image.specs.Format.{image_bytes, entry_place, body_place, slots_in, rules_in, id_at, entry_slot, offset_at, record_at}

-- a field at an offset: it is right, or 14 there
abbrev pub field : Bool → ℕ → Check
field right offset = cond right Pass (Fail Image offset)

-- checks 0 to n − 1 in turn: the first that fails decides
unfoldable pub in_turn : (ℕ → Check) → ℕ → Check
in_turn check zero = Pass
in_turn check (suc n) = or_else (in_turn check n) (check n)

-- 14 at offset 0 if shorter than 4 bytes or slots differ; at 2 if e > slots or the length is wrong
unfoldable pub check_header : ℕ → List ℕ → ℕ → Check
check_header w b n =
    or_else (field (leb 4 (length b) && eqb (slots_in b) n) 0)
    (field (leb (rules_in b) n && eqb (length b) (image_bytes w (rules_in b))) 2)

-- the lowest slot that entry k may name: above the entry before
abbrev pub lowest_slot : List ℕ → ℕ → ℕ
lowest_slot b zero = 0
lowest_slot b (suc k) = suc (entry_slot b k)

-- an entry of the contents: id not 0; slot below slots and above the entry before; offset exact
unfoldable pub check_entry : ℕ → List ℕ → ℕ → ℕ → ℕ → Check
check_entry w b n e k =
    or_else (field (not (eqb (id_at b k) 0)) (entry_place k))
    (or_else (field (ltb (entry_slot b k) n && leb (lowest_slot b k) (entry_slot b k)) (entry_place k + 4))
    (field (eqb (offset_at b k) (body_place w e k)) (entry_place k + 6)))

-- a body: an unsound value or rank, at the body's start; its id has passed by then
unfoldable pub check_body : ℕ → List ℕ → ℕ → ℕ → Check
check_body w b e k = field (sound w (word (record_at w b e k))) (body_place w e k)

unfoldable pub check_contents : ℕ → List ℕ → ℕ → ℕ → Check
check_contents w b n e = in_turn (check_entry w b n e) e

unfoldable pub check_bodies : ℕ → List ℕ → ℕ → Check
check_bodies w b e = in_turn (check_body w b e) e

-- the checks of an image for a table of n slots
unfoldable pub image_checks : ℕ → List ℕ → ℕ → Check
image_checks w b n = or_else (check_header w b n) (or_else (check_contents w b n (rules_in b)) (check_bodies w b (rules_in b)))

-- a table with the records of an image's first k rules in their slots
unfoldable pub rules_put : ℕ → List ℕ → ℕ → List ℕ → ℕ → List ℕ
rules_put w b e t zero = t
rules_put w b e t (suc k) = put_slot w (rules_put w b e t k) (entry_slot b k) (record_at w b e k)

-- the table meant: of so many words, empty but for the image's rules
unfoldable pub meant : ℕ → List ℕ → ℕ → List ℕ
meant w b size = rules_put w b (rules_in b) (replicate size 0) (rules_in b)

-- shape of the lent table, then the image, then 3 and 4 over the table meant
unfoldable pub load_checks : ℕ → Bool → List ℕ → List ℕ → Check
load_checks w u b t =
    or_else (or_else (check_shape w t) (image_checks w b (slots w t)))
    (or_else (check_twice w (meant w b (length t))) (check_order w u (meant w b (length t))))

-- checks in turn
module _ (check : ℕ → Check) where
  -- the failing check, the ones before it passing
  abbrev pub FirstFails : ℕ → Cause → ℕ → Type 0
  FirstFails n cause spot = (k : ℕ) × (k < n) × (check k ≡ Fail cause spot) × ((j : ℕ) → j < k → check j ≡ Pass)

-- What an image that passes its checks has, for a table of n slots.
pub record Sound (w : ℕ) (b : List ℕ) (n : ℕ) : Type 0 where
  pub slots_same : slots_in b ≡ n
  pub few : rules_in b ≤ n
  pub long : length b ≡ image_bytes w (rules_in b)
  pub ids : (k : ℕ) → k < rules_in b → id_at b k ≡ 0 → ⊥
  pub below : (k : ℕ) → k < rules_in b → entry_slot b k < n
  pub above : (k : ℕ) → k < rules_in b → lowest_slot b k ≤ entry_slot b k
  pub exact : (k : ℕ) → k < rules_in b → offset_at b k ≡ body_place w (rules_in b) k
  pub records : (k : ℕ) → k < rules_in b → sound w (word (record_at w b (rules_in b) k)) ≡ true
