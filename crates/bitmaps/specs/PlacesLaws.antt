-- Laws on the bounds of a choice of places.
use Rattle.std.specs.Prelude.{◌≡◌, Bool, true, ◌&&◌, List, ℕ, ◌+◌, ◌*◌, ◌/◌, ◌<◌, ◌≤◌, ltb, length, get_or, set}
use Rattle.std.proofs.Math.Decide.{ℕ_discrete}
use Rattle.std.proofs.Common.{mul-le-mul, mul-le-mul_left, arith, get_or-set_same, get_or-set_other, ltb-true}
use Rattle.search.specs.SearchLaws.{and_left, and_right}
use Rattle.bitmaps.specs.Places.{Below}

-- one store more of a list that is filled from the front
pub below_more : (xs : List ℕ) (n b x : ℕ) → n < length xs → x < b → Below xs n b → Below (set xs n x) (n + 1) b
below_more xs n b x h l old k s = pick (ℕ_discrete k n)
  where
    pick : Dec (k ≡ n) → get_or (set xs n x) k 0 < b
    pick (yes e) = rw (e, get_or-set_same xs n x 0 h) l
    pick (no e) = rw (get_or-set_other xs n k x 0 e) (old k (omega arith))

-- a store among the entries
pub below_set : (xs : List ℕ) (n b at x : ℕ) → at < length xs → x < b → Below xs n b → Below (set xs at x) n b
below_set xs n b at x h l old k s = pick (ℕ_discrete k at)
  where
    pick : Dec (k ≡ at) → get_or (set xs at x) k 0 < b
    pick (yes e) = rw (e, get_or-set_same xs at x 0 h) l
    pick (no e) = rw (get_or-set_other xs at k x 0 e) (old k s)

-- what a capped score takes is no more than what is left
pub share : (left score : ℕ) → score < 257 → left / 1024 * (2 * score) ≤ left
share left score h =
    let most : left / 1024 * (2 * score) ≤ left / 1024 * 512 = mul-le-mul_left (left / 1024) (omega arith) in
    omega arith

-- the product of two counts of six bits
pub product : (ones zeros : ℕ) → ones < 64 → zeros < 64 → ones * zeros < 4096
product ones zeros h l =
    let first : ones ≤ 63 = omega arith in
    let second : zeros ≤ 63 = omega arith in
    omega (arith, mul-le-mul first second)

-- two tests made together, and the last of a row
pub less : (a b c d : ℕ) → ltb a b && ltb c d ≡ true → (a < b) × (c < d)
less a b c d e = (ltb-true a b (and_left (ltb a b) (ltb c d) e), ltb-true c d (and_right (ltb a b) (ltb c d) e))

pub less_last : (before : Bool) (a b : ℕ) → before && ltb a b ≡ true → a < b
less_last before a b e = ltb-true a b (and_right before (ltb a b) e)
