use Rattle.rcp_base.proofs.FillLaws.{filled_all, filled_seen}
use Rattle.rcp_base.specs.Message.{Content}
use Rattle.rcp_base.specs.Tables.{table}
use Rattle.rcp_model.specs.Messages.{letter_to}
use Rattle.replica_parts.proofs.RoomLemmas.{each_set}
use Rattle.replica_parts.specs.Places.{letter_in}
use Rattle.replica_parts.specs.Rooms.{IsPost}
use Rattle.replica_parts.specs.States.{no_content}
use Rattle.std.proofs.Common.{None, ap, arith, get_or, ℕ, ◌∙◌}
use Rattle.std.proofs.lemmas.List.{get_or_read}
use Rattle.replica_parts.proofs.letters.put_row.Goals as goal

pub loop-sender-preserved : goal.loop-sender-preserved
loop-sender-preserved c = record {
  letters = λ plan s. filled_seen letter_in _ _ None _ _ c.loop-sender.sender _ (c.loop-sender.invariant.letters plan s) c.loop-sender-test.true
      (c.put_letter.ensures.letter plan s ∙ ap (λ (m : Content). letter_to plan c.args.frame c.args.input.now m c.loop-sender.sender c.args.receiver)
      (get_or_read c.args.own.now c.loop-sender.sender c.index-own-number.result (omega (arith, c.loop-sender-test.true, c.requires.own.size)) c.index-own-number.is no_content));
  room = each_set c.args.setting.now.replicas (IsPost c.args.setting.now) c.loop-sender.row.items c.loop-sender.sender c.put_letter.new.place c.loop-sender.invariant.room c.put_letter.ensures.room;
}

pub returns-clause-letters : goal.returns-clause-letters
returns-clause-letters c = λ plan s.
    filled_all _ _ None _ _ c.loop-sender.sender (c.loop-sender.invariant.letters plan s) c.loop-sender-test.false
    ∙ ap (λ (n : ℕ). table n (λ (sender : ℕ). letter_to plan c.args.frame c.args.input.now (get_or c.args.own.now sender no_content) sender c.args.receiver)) s.replicas
