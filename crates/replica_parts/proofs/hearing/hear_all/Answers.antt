use Rattle.rcp_base.proofs.FillLaws.{filled_all, filled_seen}
use Rattle.rcp_base.specs.Tables.{table}
use Rattle.rcp_model.specs.Messages.{heard_message}
use Rattle.replica_parts.proofs.BallotLemmas.{letter_at-is}
use Rattle.replica_parts.proofs.RoomLemmas.{each_at, each_set}
use Rattle.replica_parts.specs.Ballots.{heard_by}
use Rattle.replica_parts.specs.Places.{letter_at, letter_in, message_in}
use Rattle.replica_parts.specs.Rooms.{IsHeard}
use Rattle.std.proofs.Common.{None, ap, ap₂, arith, refl, sym, ℕ, ◌∙◌}
use Rattle.replica_parts.proofs.hearing.hear_all.Goals as goal

pub loop-sender-preserved : goal.loop-sender-preserved
loop-sender-preserved c = record {
  heard = λ plan s. filled_seen message_in _ _ None _ _ c.loop-sender.sender _ (c.loop-sender.invariant.heard plan s) c.loop-sender-test.true (c.hear_in.ensures.heard plan c.args.frame c.args.input.now c.args.receiver c.loop-sender.sender (c.new-window.ensures plan s) refl ∙ ap₂ (heard_message plan c.args.frame c.args.input.now c.args.receiver c.loop-sender.sender c.args.own.now)
      (ap letter_in c.index-fresh-number.is ∙ sym (letter_at-is c.args.fresh.now c.loop-sender.sender c.index-fresh-number.result (omega (arith, c.loop-sender-test.true, c.requires.fresh.size))))
      (ap letter_in c.index-late-number.is ∙ sym (letter_at-is c.args.late.now c.loop-sender.sender c.index-late-number.result (omega (arith, c.loop-sender-test.true, c.requires.late.size)))));
  room = each_set c.args.setting.now.replicas (IsHeard c.args.setting.now) c.loop-sender.places.items c.loop-sender.sender c.hear_in.new.place c.loop-sender.invariant.room
      (c.hear_in.ensures.room ∙ each_at c.args.setting.now.replicas (IsHeard c.args.setting.now) c.loop-sender.places.items c.loop-sender.sender c.index_mut.result.now c.loop-sender.invariant.room c.loop-sender-test.true c.index_mut.ensures.value);
}

pub returns-clause-heard : goal.returns-clause-heard
returns-clause-heard c = λ plan s.
    filled_all _ _ None _ _ c.loop-sender.sender (c.loop-sender.invariant.heard plan s) c.loop-sender-test.false
    ∙ ap (λ (n : ℕ). table n (heard_by plan c.args.frame c.args.input.now c.args.receiver c.args.own.now (letter_at c.args.fresh.now) (letter_at c.args.late.now))) s.replicas
