-- The bytes stand in front of zeros.
use Rattle.std.proofs.Common.{length, ap, arith}
use Rattle.rcp_base.proofs.NamePadding.{copied_is_padded}
use Rattle.rcp_base.proofs.name.Name.read.Goals as goal

pub invariant_of-result : goal.invariant_of-result
invariant_of-result c =
    let same = ap length c.as_bytes-bytes.ensures.value in
    let short = c.is_name.ensures.short c.if-not-is_name.false in
    copied_is_padded (length c.as_bytes-bytes.result.now) c.copy_from_slice.new.self (ap length c.copy_from_slice.ensures.after) (omega (arith, same, short))
