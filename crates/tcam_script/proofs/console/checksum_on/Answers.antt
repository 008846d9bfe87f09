use Rattle.std.proofs.Common.{arith, refl, ap, ap₂, take_all, ◌∙◌, ◌+◌, ◌*◌, ◌%◌, ℕ}
use Rattle.tcam_script.specs.Checksum.{modulus, checksum_on}
use Rattle.tcam_script.proofs.ChecksumLaws.{checksum_next}
use Rattle.tcam_script.proofs.console.checksum_on.Goals as goal

pub loop-byte-init : goal.loop-byte-init
unfolding checksum_on
loop-byte-init c = refl

pub loop-byte-preserved : goal.loop-byte-preserved
loop-byte-preserved c =
    let turn = c.loop-byte in
    let next = checksum_next c.args.before c.args.bytes.now turn.byte-index (omega arith) in
    ap₂ (λ (sum byte : ℕ). sum % modulus * 256 + byte) turn.invariant c.from.ensures ∙ next

pub returns : goal.returns
returns c = c.loop-byte.invariant ∙ ap (checksum_on c.args.before) (take_all _ _ (omega arith))
