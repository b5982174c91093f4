use Rattle.rcp_base.proofs.FillLaws.{filled_seen}
use Rattle.rcp_model.specs.System.{still_on_its_way}
use Rattle.replica_parts.proofs.BallotLemmas.{row_read}
use Rattle.replica_parts.proofs.ComputingLemmas.{filled_map}
use Rattle.replica_parts.proofs.RoomLemmas.{each_set, each_at}
use Rattle.replica_parts.specs.Places.{letter_rows, letters_in}
use Rattle.replica_parts.specs.Rooms.{ArePosts}
use Rattle.replica_parts.specs.declared.post.Post.{Post}
use Rattle.std.proofs.Common.{SFits, Vec, [], ap, arith, map, refl, rules, w64, ◌∙◌}
use Rattle.std.proofs.lemmas.Int.{to_z-of_z}
use Rattle.std.proofs.lemmas.List.{length-map}
use Rattle.std.specs.Global.{Global}
use Rattle.replica_parts.proofs.keeping.keep_all.Goals as goal

pub loop-receiver-preserved : goal.loop-receiver-preserved
loop-receiver-preserved c = record {
  letters = λ plan s.
      let f = c.loop-receiver.invariant.letters plan s in
      let size = c.loop-receiver.invariant.room.size in
      let g : SFits w64 c.end_tick-end.result = search rules in
      filled_seen (λ (row : Vec Post Global). letters_in row.items) _ _ [] _ _ c.loop-receiver.receiver c.keep_row.new.row f c.loop-receiver-test.true
      (c.keep_row.ensures.letters plan c.args.frame (to_z-of_z w64 c.end_tick-end.result g ∙ c.end_tick-end.ensures plan s) ∙ ap (map (still_on_its_way plan c.args.frame))
      (row_read c.loop-receiver.rows.items c.loop-receiver.receiver c.index_mut.result.now _ (omega (arith, c.loop-receiver-test.true, size)) c.index_mut.ensures.value refl ∙ f.rest c.loop-receiver.receiver (omega arith)));
  room = each_set c.args.setting.now.replicas (λ (row : Vec Post Global). ArePosts c.args.setting.now row.items) c.loop-receiver.rows.items c.loop-receiver.receiver c.keep_row.new.row c.loop-receiver.invariant.room c.keep_row.ensures.room;
}

pub returns-clause-letters : goal.returns-clause-letters
returns-clause-letters c = λ plan s.
    filled_map (map (still_on_its_way plan c.args.frame)) (letter_rows c.args.rows.now.items) _ [] [] _ _ c.loop-receiver.receiver (length-map _ _ ∙ c.requires.room.size) (c.loop-receiver.invariant.letters plan s) c.loop-receiver-test.false

pub keep_row-requires : goal.keep_row-requires
keep_row-requires c = each_at c.args.setting.now.replicas (λ (row : Vec Post Global). ArePosts c.args.setting.now row.items) c.loop-receiver.rows.items c.loop-receiver.receiver c.index_mut.result.now c.loop-receiver.invariant.room c.loop-receiver-test.true c.index_mut.ensures.value
