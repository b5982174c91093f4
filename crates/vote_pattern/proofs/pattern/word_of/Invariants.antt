use Rattle.std.proofs.Common.{take}
use Rattle.vote_pattern.specs.inner.Numbers.{AreBitsOf}
use Rattle.vote_pattern.proofs.pattern.word_of.Given as goal

abbrev pub invariant-loop-number : goal.invariant-loop-number
invariant-loop-number l = AreBitsOf (take l.number-index l.numbers) l.word
