-- `saves::put_entry` meets its contract.
-- Each field is stored behind the one before.
use mathlib.Core.List.{◌++◌}
use Prim.Native.Nat.{◌+◌}
use native.Mathlib.Omega.{arith}
use lib.ListN.{length-append}
use Rattle.image.specs.Bytes.{bytes_of}
use Rattle.image.specs.Format.{entry_of}
use Rattle.image.proofs.BytesLaws.{length_bytes, store_then}
use Rattle.saves.proofs.put_entry.Goals as goal

pub returns : goal.returns
unfolding entry_of
returns c =
    let a = c.args in
    let first = bytes_of 4 a.id in
    let second = bytes_of 2 a.slot in
    store_then a.image.now a.at (a.at + 6) (first ++ second) (bytes_of 4 a.body) (omega arith)
    (omega (arith, length-append first second, length_bytes 4 a.id, length_bytes 2 a.slot))
    (store_then a.image.now a.at (a.at + 4) first second (omega arith) (omega (arith, length_bytes 4 a.id))
    c.put_number.ensures
    c.put_number-2.ensures)
    c.put_number-3.ensures
