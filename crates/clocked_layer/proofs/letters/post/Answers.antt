use Rattle.std.proofs.Common.{ap, arith, ◌∙◌}
use Rattle.clocked_layer.proofs.PostLemmas.{column_all, column_more}
use Rattle.rcp_model.specs.Messages.{letter_to}
use Rattle.replica_parts.specs.Places.{post_at}
use Rattle.clocked_layer.proofs.letters.post.Goals as goal

pub loop-receiver-preserved : goal.loop-receiver-preserved
loop-receiver-preserved c = record {
  room = c.post_to.ensures.room;
  posted = λ plan q p s.
      ap (λ f. f q p) (c.post_to.ensures.letters plan s)
      ∙ column_more c.args.sender c.loop-receiver.receiver q p
      (letter_to plan c.args.frame c.args.input.now c.args.own.now c.args.sender)
      (post_at c.args.letters.now.items) (post_at c.loop-receiver.letters.items)
      (λ a b. c.loop-receiver.invariant.posted plan a b s);
}

pub returns-clause-letters : goal.returns-clause-letters
returns-clause-letters c plan s =
    column_all c.args.setting.now plan c.args.frame c.args.input.now c.args.own.now c.args.sender
    c.loop-receiver.receiver c.args.letters.now.items (post_at c.loop-receiver.letters.items)
    c.requires.room s.replicas
    (omega (arith, s.replicas, c.replicas-receiver-end.ensures, c.loop-receiver-test.false))
    (λ q p. c.loop-receiver.invariant.posted plan q p s)
