use Rattle.std.proofs.Common.{subst}
use Rattle.distributed_layer.specs.State.{IsAt}
use Rattle.distributed_layer.proofs.frames.run_frame.Goals as goal

pub send_together-requires : goal.send_together-requires
send_together-requires c =
    let begun = c.begin_together.ensures c.requires.0 c.requires.1 c.requires.2 c.requires.3 in
    (c.requires.0, c.requires.1, begun.0, begun.1)

pub fill_together-requires : goal.fill_together-requires
fill_together-requires c =
    let plan = c.requires.0 in
    let state = c.requires.1 in
    let begun = c.begin_together.ensures plan state c.requires.2 c.requires.3 in
    (plan, state, begun.0, c.send_together.ensures plan state begun.0 begun.1)

pub vote_together-requires : goal.vote_together-requires
vote_together-requires c =
    let plan = c.requires.0 in
    let state = c.requires.1 in
    let begun = c.begin_together.ensures plan state c.requires.2 c.requires.3 in
    let sent = c.send_together.ensures plan state begun.0 begun.1 in
    (plan, state, begun.0, c.fill_together.ensures plan state begun.0 sent)

pub sync_together-requires : goal.sync_together-requires
sync_together-requires c =
    let plan = c.requires.0 in
    let state = c.requires.1 in
    let begun = c.begin_together.ensures plan state c.requires.2 c.requires.3 in
    let sent = c.send_together.ensures plan state begun.0 begun.1 in
    let filled = c.fill_together.ensures plan state begun.0 sent in
    (plan, state, begun.0, c.vote_together.ensures plan state begun.0 filled)

pub keep_together-requires : goal.keep_together-requires
keep_together-requires c =
    let plan = c.requires.0 in
    let state = c.requires.1 in
    let begun = c.begin_together.ensures plan state c.requires.2 c.requires.3 in
    let sent = c.send_together.ensures plan state begun.0 begun.1 in
    let filled = c.fill_together.ensures plan state begun.0 sent in
    let voted = c.vote_together.ensures plan state begun.0 filled in
    (plan, state, c.args.input.now, begun.0, c.sync_together.ensures plan state begun.0 voted)

pub returns : goal.returns
returns c = λ plan state at frame.
    let begun = c.begin_together.ensures plan state at frame in
    let boxes = begun.0 in
    let sent = c.send_together.ensures plan state boxes begun.1 in
    let filled = c.fill_together.ensures plan state boxes sent in
    let voted = c.vote_together.ensures plan state boxes filled in
    let synced = c.sync_together.ensures plan state boxes voted in
    subst (IsAt c.keep_together.new.layer plan)
    (c.phases_make_the_next_state.ensures plan state c.args.input.now boxes)
    (c.keep_together.ensures plan state c.args.input.now boxes synced)
