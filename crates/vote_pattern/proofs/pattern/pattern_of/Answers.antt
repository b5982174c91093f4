use Rattle.std.proofs.Common.{◌≡◌, length, arith, ap}
use Rattle.vote_pattern.proofs.VoteLemmas.{AreWordsOf, words_of_plan, pattern_of_plan}
use Rattle.vote_pattern.proofs.pattern.pattern_of.Goals as goal

all_words : (c : goal.After-len-2) → AreWordsOf c.args.parts.now.slots c.loop-slot.words.items
all_words c =
    let same : c.as_slice-slot-items.result.now ≡ c.args.parts.now.slots = c.as_slice-slot-items.ensures in
    let long : length c.as_slice-slot-items.result.now ≡ length c.args.parts.now.slots = ap length same in
    record {
      long = omega (arith, c.loop-slot.invariant.long);
      bits = λ slot h. c.loop-slot.invariant.words slot (omega arith);
    }

pub invariant_of-result : goal.invariant_of-result
invariant_of-result c = rw (c.len.ensures, c.len-2.ensures)
    (words_of_plan c.args.parts.now c.loop-slot.words.items c.requires.slots c.requires.cells c.requires.votes (all_words c))

pub returns : goal.returns
returns c = rw (c.len.ensures, c.len-2.ensures) (pattern_of_plan c.args.parts.now c.loop-slot.words.items (all_words c))
