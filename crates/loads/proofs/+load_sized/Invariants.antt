-- The call of itself is never made, so that any measure will do.
use Rattle.loads.proofs.+load_sized.Given as goal

abbrev pub decreases-load_sized : goal.decreases-load_sized
decreases-load_sized l = 0
