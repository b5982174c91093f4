use Rattle.rcp_base.proofs.FillLaws.{filled_seen}
use Rattle.rcp_base.specs.Message.{Content}
use Rattle.rcp_model.specs.System.{still_on_its_way}
use Rattle.replica_parts.proofs.BallotLemmas.{letter_at-is}
use Rattle.replica_parts.proofs.ComputingLemmas.{filled_map}
use Rattle.replica_parts.proofs.RoomLemmas.{each_set, each_at}
use Rattle.replica_parts.specs.Places.{letter_in, letters_in}
use Rattle.replica_parts.specs.Rooms.{IsPost}
use Rattle.std.proofs.Common.{None, SFits, ap, arith, length, rules, sym, w64, ◌∙◌}
use Rattle.std.proofs.lemmas.Int.{to_z-of_z}
use Rattle.std.proofs.lemmas.List.{length-map}
use Rattle.replica_parts.proofs.keeping.keep_row.Goals as goal

pub loop-sender-preserved : goal.loop-sender-preserved
loop-sender-preserved c = record {
  letters = λ plan frame e.
      let f = c.loop-sender.invariant.letters plan frame e in
      let size = c.loop-sender.invariant.room.size in
      filled_seen letter_in _ _ None _ _ c.loop-sender.sender c.keep.new.place f c.loop-sender-test.true
      (c.keep.ensures.letter plan frame e ∙ ap (still_on_its_way plan frame)
      (ap letter_in c.index_mut.ensures.value ∙ sym (letter_at-is c.loop-sender.row.items c.loop-sender.sender c.index_mut.result.now (omega (arith, c.loop-sender-test.true, size))) ∙ f.rest c.loop-sender.sender (omega arith)));
  room = each_set c.args.setting.now.replicas (IsPost c.args.setting.now) c.loop-sender.row.items c.loop-sender.sender c.keep.new.place c.loop-sender.invariant.room
      (ap (λ (m : Content). length m.values) c.keep.ensures.message
      ∙ each_at c.args.setting.now.replicas (IsPost c.args.setting.now) c.loop-sender.row.items c.loop-sender.sender c.index_mut.result.now c.loop-sender.invariant.room c.loop-sender-test.true c.index_mut.ensures.value);
}

pub returns-clause-letters : goal.returns-clause-letters
returns-clause-letters c = λ plan frame e.
    let g : SFits w64 c.args.end = search rules in
    filled_map (still_on_its_way plan frame) (letters_in c.args.row.now.items) _ None None _ _ c.loop-sender.sender (length-map _ _ ∙ c.requires.size) (c.loop-sender.invariant.letters plan frame (to_z-of_z w64 c.args.end g ∙ e)) c.loop-sender-test.false
