-- `script_text::part_end` meets its contract.
-- The loop's place and the rest of the part after it always make the same end.
use native.Mathlib.Omega.{arith}
use Prim.Native.Nat.{ℕ, ◌+◌, ◌≤◌}
use mathlib.Core.Path.{◌≡◌, refl, ap}
use mathlib.Core.List.{List, []}
use Rattle.std.proofs.Math.Decide.{dec_le}
use lib.ListN.{length, drop, drop_of_length-le}
use Rattle.script_text.specs.Parts.{first_part}
use Rattle.script_text.proofs.PartsLaws.{first_here, first_on}
use Rattle.script_text.proofs.part_end.Goals as goal

pub loop-at-init : goal.loop-at-init
loop-at-init c = refl

pub returns-then-text-at : goal.returns-then-text-at
returns-then-text-at c =
    let e = first_here c.args.separator c.args.text.now c.loop-at.at (omega arith) c.if-text-at.true in
    omega (arith, ap length e, c.loop-at.invariant)

pub loop-at-preserved : goal.loop-at-preserved
loop-at-preserved c =
    omega (arith, first_on c.args.separator c.args.text.now c.loop-at.at (omega arith) c.if-text-at.false, c.loop-at.invariant)

pub returns : goal.returns
unfolding first_part
returns c = by (dec_le c.args.from (length x))
  where
    x : List ℕ
    x = c.args.text.now

    at : ℕ
    at = c.loop-at.at

    by : Dec (c.args.from ≤ length x) → c.max.result ≡ c.args.from + length (first_part c.args.separator (drop c.args.from x))
    by (yes h) =
        let e : first_part c.args.separator (drop at x) ≡ [] = rw (drop_of_length-le x {i = at} (omega arith)) in
        omega (arith, ap length e, c.loop-at.invariant)
    by (no h) =
        let e : first_part c.args.separator (drop c.args.from x) ≡ [] = rw (drop_of_length-le x {i = c.args.from} (omega arith)) in
        omega (arith, ap length e)
