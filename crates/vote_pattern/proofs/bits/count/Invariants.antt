use Rattle.std.proofs.Common.{◌≡◌, ◌*◌, ◌≤◌, take, sum_by}
use Rattle.vote_pattern.specs.inner.Numbers.{number_count}
use Rattle.vote_pattern.proofs.bits.count.Given as goal

abbrev pub invariant-loop-word : goal.invariant-loop-word
invariant-loop-word l = record {
  sum : l.count ≡ sum_by number_count (take l.word-index l.words);
  few : l.count ≤ 64 * l.word-index;
}
