-- A read that failed gave no bytes.
use Rattle.std.proofs.Common.{refl}
use Rattle.tcam_script.specs.Checksum.{checksum_on}
use Rattle.tcam_script.proofs.console.receive.Goals as goal

pub returns-in-Err-clause-checksum_value : goal.returns-in-Err-clause-checksum_value
unfolding checksum_on
returns-in-Err-clause-checksum_value g c = refl
