-- The places so far are empty.
use Rattle.std.proofs.Common.{◌≡◌, take, replicate, None}
use Rattle.mailbox.proofs.message.clear.Given as goal

abbrev pub invariant-loop-value : goal.invariant-loop-value
invariant-loop-value l = take l.value-index l.value-items ≡ replicate l.value-index None
