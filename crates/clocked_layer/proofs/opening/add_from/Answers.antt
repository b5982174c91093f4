use Rattle.std.proofs.Common.{ap, sym, ◌∙◌, ◌++◌}
use Rattle.clocked_layer.proofs.OpeningLemmas.{added_both}
use Rattle.clocked_layer.proofs.PostLemmas.{post_read}
use Rattle.clocked_layer.specs.Events.{fresh_events, late_events}
use Rattle.event_queue.specs.Agenda.{in_turn_from}
use Rattle.rcp_model.specs.System.{fresh_letter}
use Rattle.clocked_layer.proofs.opening.add_from.Goals as goal

pub returns-clause-events : goal.returns-clause-events
returns-clause-events c plan state s at late =
    let rows = c.args.input.now in
    let q = c.args.receiver in
    let p = c.args.sender in
    added_both c.args.agenda.now.left
    (fresh_events plan c.args.frame q p (fresh_letter plan state rows q p))
    (late_events c.args.frame q p (state.letters q p)) _ _
    (c.add_fresh.ensures.events plan state s at)
    (c.add_late.ensures.events
    ∙ ap (λ o. in_turn_from c.add_fresh.new.agenda.left (late_events c.args.frame q p o))
    (post_read c.args.setting.now c.args.late.now q p c.index-late-receiver.result
    c.index-place.result.now c.requires.late c.requires.receiver c.requires.sender
    c.index-late-receiver.is c.index-place.ensures ∙ ap (λ f. f q p) late))
    ∙ ap (λ n. in_turn_from c.args.agenda.now.left
    (fresh_events plan n q p (fresh_letter plan state rows q p)
    ++ late_events n q p (state.letters q p))) (sym at)
