use Rattle.std.proofs.Common.{◌≡◌, ℕ, ◌+◌, ◌≤◌, ap, sym, ◌∙◌, arith, get_or, count_ones}
use Rattle.std.proofs.lemmas.List.Sums.{sum_by_more}
use Rattle.vote_pattern.specs.inner.Numbers.{number_count}
use Rattle.vote_pattern.proofs.BitLemmas.{ones_are_numbers, few_numbers}
use Rattle.vote_pattern.proofs.bits.count.Goals as goal

pub loop-word-preserved : goal.loop-word-preserved
loop-word-preserved c =
    let word = get_or c.args.words.now c.loop-word.word-index 0 in
    let ones : count_ones word ≡ number_count word = ones_are_numbers word (c.type_inv.words c.loop-word.word-index).fits in
    let few : number_count word ≤ 64 = few_numbers word in
    record {
      sum = ap (λ (x : ℕ). c.loop-word.count + x) ones ∙ ap (λ (x : ℕ). x + number_count word) c.loop-word.invariant.sum
          ∙ sym (sum_by_more number_count c.args.words.now c.loop-word.word-index 0 c.loop-word-test.true);
      few = omega (arith, c.loop-word.invariant.few);
    }
