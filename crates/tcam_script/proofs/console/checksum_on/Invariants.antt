-- Each turn takes one byte more.
use Rattle.std.proofs.Common.{◌≡◌, take}
use Rattle.tcam_script.specs.Checksum.{checksum_on}
use Rattle.tcam_script.proofs.console.checksum_on.Given as goal

abbrev pub invariant-loop-byte : goal.invariant-loop-byte
invariant-loop-byte l = l.sum ≡ checksum_on l.before (take l.byte-index l.bytes)
