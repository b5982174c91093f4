use Rattle.rcp_base.proofs.FillLaws.{filled_all, filled_seen}
use Rattle.rcp_base.specs.Tables.{table}
use Rattle.rcp_model.specs.Messages.{letter_to}
use Rattle.replica_parts.proofs.RoomLemmas.{each_set}
use Rattle.replica_parts.specs.Places.{letters_in}
use Rattle.replica_parts.specs.Rooms.{ArePosts}
use Rattle.replica_parts.specs.States.{no_content}
use Rattle.replica_parts.specs.declared.post.Post.{Post}
use Rattle.std.proofs.Common.{Vec, [], ap, get_or, ℕ, ◌∙◌}
use Rattle.std.specs.Global.{Global}
use Rattle.replica_parts.proofs.letters.write_rows.Goals as goal

pub loop-receiver-preserved : goal.loop-receiver-preserved
loop-receiver-preserved c = record {
  letters = λ plan s. filled_seen (λ (row : Vec Post Global). letters_in row.items) _ _ [] _ _ c.loop-receiver.receiver c.put_row.new.row (c.loop-receiver.invariant.letters plan s) c.loop-receiver-test.true (c.put_row.ensures.letters plan s);
  room = each_set c.args.setting.now.replicas (λ (row : Vec Post Global). ArePosts c.args.setting.now row.items) c.loop-receiver.rows.items c.loop-receiver.receiver c.put_row.new.row c.loop-receiver.invariant.room c.put_row.ensures.room;
}

pub returns-clause-letters : goal.returns-clause-letters
returns-clause-letters c = λ plan s.
    filled_all _ _ [] _ _ c.loop-receiver.receiver (c.loop-receiver.invariant.letters plan s) c.loop-receiver-test.false
    ∙ ap (λ (n : ℕ). table n (λ (receiver : ℕ). table plan.replicas (λ (sender : ℕ). letter_to plan c.args.frame c.args.input.now (get_or c.args.own.now sender no_content) sender receiver))) s.replicas
