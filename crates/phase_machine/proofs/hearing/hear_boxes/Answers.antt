use Rattle.phase_machine.proofs.PlaceLemmas.{each_at, each_set, filled_none, some_then}
use Rattle.rcp_base.proofs.FillLaws.{filled_all, filled_seen}
use Rattle.mailbox.specs.declared.message.Message.{Message}
use Rattle.rcp_base.specs.Message.{Content}
use Rattle.replica_parts.specs.Places.{message_in}
use Rattle.replica_parts.specs.Rooms.{IsHeard}
use Rattle.std.proofs.Common.{Bor, None, Option, Some, ap, arith, cond, length, sym, ◌==◌, ◌<◌, ◌≡◌, ◌∙◌}
use Rattle.std.proofs.lemmas.List.{length-map}
use Rattle.phase_machine.proofs.hearing.hear_boxes.Goals as goal

pub loop-sender-init : goal.loop-sender-init
loop-sender-init c = record {
  heard = filled_none _ _ _ _ (length-map _ message_in ∙ c.requires.room.size);
  room = c.requires.room;
}

pub loop-sender-preserved : goal.loop-sender-preserved
loop-sender-preserved c =
    let setting = c.args.setting.now in
    let before = c.loop-sender.invariant in
    let sender = c.loop-sender.sender in
    let read = c.index_mut.ensures.value in
    let lt : sender < setting.replicas =
    omega (arith, c.loop-sender-test.true, c.replicas-sender-end.ensures) in
    record {
      heard = filled_seen message_in _ _ None _ _ sender _ before.heard lt
          (sym c.hear_one.ensures.heard
          ∙ ap (λ (m : Option Content). cond (sender == c.args.replica) (Some c.args.own.now) m)
          c.message.ensures.message);
      room = each_set setting.replicas (IsHeard setting) _ sender _ before.room
          (c.hear_one.ensures.room
          ∙ each_at setting.replicas (IsHeard setting) _ sender _ before.room lt read);
    }

pub hear_one-requires-clause-own : goal.hear_one-requires-clause-own
hear_one-requires-clause-own c =
    let setting = c.args.setting.now in
    let lt : c.loop-sender.sender < setting.replicas =
    omega (arith, c.loop-sender-test.true, c.replicas-sender-end.ensures) in
    each_at setting.replicas (IsHeard setting) _ c.loop-sender.sender c.index_mut.result.now
    c.loop-sender.invariant.room lt c.index_mut.ensures.value ∙ sym c.requires.own

pub hear_one-requires-clause-mail : goal.hear_one-requires-clause-mail
hear_one-requires-clause-mail c =
    let setting = c.args.setting.now in
    let place = c.index_mut.result.now in
    let lt : c.loop-sender.sender < setting.replicas =
    omega (arith, c.loop-sender-test.true, c.replicas-sender-end.ensures) in
    let room : length place.message.values ≡ setting.cells =
    each_at setting.replicas (IsHeard setting) _ c.loop-sender.sender place
    c.loop-sender.invariant.room lt c.index_mut.ensures.value in
    some_then {X = Bor Message} c.message.result
    (λ message. length message.now.values ≡ c.args.boxes.now.cells)
    (λ message. length place.message.values ≡ length message.now.values)
    (λ message e. room ∙ sym (e ∙ c.requires.boxes.cells)) c.message.ensures.cells

pub returns-clause-heard : goal.returns-clause-heard
returns-clause-heard c =
    filled_all _ _ None _ _ c.loop-sender.sender c.loop-sender.invariant.heard
    (omega (arith, c.loop-sender-test.false, c.replicas-sender-end.ensures))
