-- `bitmaps::places::choose_places` meets its contract.
-- The choice from the scores keeps the bounds.
use native.Mathlib.Omega.{arith}
use borrow.Author.Rules.{rules}
use Rattle.bitmaps.proofs.places.choose_places.Goals as goal

pub fill_scores-requires : goal.fill_scores-requires
fill_scores-requires c = let p = c.requires in (p.0, p.1, omega arith)

pub take_places-requires : goal.take_places-requires
take_places-requires c = (c.requires.0, omega arith, search rules, c.fill_scores.ensures)

pub returns : goal.returns
returns c = c.take_places.ensures
