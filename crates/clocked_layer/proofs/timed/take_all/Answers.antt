use Rattle.std.proofs.Common.{sym, subst}
use Rattle.clocked_layer.proofs.TimedLemmas.{IsOnItsWay, has_taken_all, is_picked_by, on_its_way, still_on_its_way_by}
use Rattle.clocked_layer.specs.Timed.{HasTakenAll, IsPickedBy}
use Rattle.clocked_layer.specs.Way.{block_so_far}
use Rattle.clocked_layer.proofs.timed.take_all.Goals as goal

pub loop-event-init : goal.loop-event-init
loop-event-init g c =
    let B = g.B.Stepped in
    let input = c.args.input.now in
    let told = B.answers c.args.block.now in
    record {
      some = c.requires.open;
      way = λ plan state mail timely block.
          subst (IsOnItsWay (B.runs c.args.block.now) told told plan state input mail)
          (sym c.requires.log)
          (on_its_way plan state input mail (B.runs c.args.block.now) told timely block);
    }

pub loop-event-preserved : goal.loop-event-preserved
loop-event-preserved g c =
    let B = g.B.Stepped in
    let input = c.args.input.now in
    let told = B.answers c.args.block.now in
    let old = c.loop-event.block in
    let new = c.step.new.self in
    let took = c.in-Some.ensures in
    let some = c.loop-event.invariant.some in
    record {
      some = (some.0, _, took.block some.0 some.1 some.2);
      way = λ plan state mail timely opened.
          let block = block_so_far plan state input mail (B.log old) in
          let way = c.loop-event.invariant.way plan state mail timely opened in
          subst (IsOnItsWay (B.runs new) told (B.answers new) plan state input mail)
          (sym took.log)
          (still_on_its_way_by plan state input mail (B.runs old) (B.runs new)
          told (B.answers old) (B.answers new) (B.log old) c.in-Some._event way
          (took.due plan block way.block)
          (record { place = took.picked plan block way.block; rest = took.answers })
          (took.block plan block way.block));
    }

pub returns-clause-all : goal.returns-clause-all
returns-clause-all g c plan state mail timely opened =
    let B = g.B.Stepped in
    let input = c.args.input.now in
    let last = c.loop-event.block in
    let way = c.loop-event.invariant.way plan state mail timely opened in
    let none = c.in_default.ensures.none plan _ way.block in
    subst (λ b. HasTakenAll (B.runs b) plan state input mail (B.log b))
    (sym c.in_default.ensures.same)
    (has_taken_all plan state input mail (B.runs last) (B.answers c.args.block.now)
    (B.answers last) (B.log last) way none)

pub returns-clause-log : goal.returns-clause-log
returns-clause-log g c plan state mail timely opened =
    let B = g.B.Stepped in
    let input = c.args.input.now in
    let last = c.loop-event.block in
    let way = c.loop-event.invariant.way plan state mail timely opened in
    let none = c.in_default.ensures.none plan _ way.block in
    subst (λ b. IsPickedBy (B.answers c.args.block.now) (B.answers b) plan state input (B.log b))
    (sym c.in_default.ensures.same)
    (is_picked_by plan state input mail (B.runs last) (B.answers c.args.block.now)
    (B.answers last) (B.log last) way none)
