-- `script::lookup_in` meets its contract.
-- The table stays.
use mathlib.Core.Path.{refl, sym}
use native.Mathlib.Omega.{arith}
use lib.Seq.{length-take-le}
use Rattle.script.proofs.ScriptLaws.{left_kept}
use Rattle.script.proofs.lookup_in.Goals as goal

pub slice_bounds-look_up-end : goal.slice_bounds-look_up-end
slice_bounds-look_up-end c = sym (length-take-le _ c.args.memory.now (omega (arith, c.requires.0, c.requires.1)))

pub returns : goal.returns
returns c =
    record { left = left_kept c.args.memory.now c.args.present c.requires.0 c.requires.1 refl c.look_up-said.ensures.shown; answer_value = c.look_up-said.ensures.answer_value }
