-- `loads::load_with` meets its contract.
-- The front of the working table is as many zeros as the lent table has words.
use lib.ListN.{length}
use Rattle.image.proofs.LoadLaws.{front_zeros}
use Rattle.loads.proofs.load_with.Goals as goal

pub load_through-requires : goal.load_through-requires
load_through-requires g c =
    record { width = c.requires.width.0; table_value = (c.requires.table_value, front_zeros (length c.args.table.now) _ c.requires.width.1) }
