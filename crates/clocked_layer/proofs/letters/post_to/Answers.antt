use Rattle.std.proofs.Common.{ap, ◌∙◌}
use Rattle.clocked_layer.specs.Block.{put_pair}
use Rattle.clocked_layer.proofs.PostLemmas.{posted, rows_set}
use Rattle.replica_parts.specs.Places.{post_at}
use Rattle.clocked_layer.proofs.letters.post_to.Goals as goal

pub returns-clause-letters : goal.returns-clause-letters
returns-clause-letters c plan s =
    posted c.args.setting.now c.args.letters.now.items c.args.receiver c.args.sender
    c.index_mut.result.now c.put_letter.new.place c.requires.room c.requires.receiver
    c.requires.sender c.index_mut.ensures.value
    ∙ ap (put_pair (post_at c.args.letters.now.items) c.args.receiver c.args.sender)
    (c.put_letter.ensures.letter plan s)

pub returns-clause-room : goal.returns-clause-room
returns-clause-room c =
    rows_set c.args.setting.now c.args.letters.now.items c.args.receiver c.args.sender
    c.index_mut.result.now c.put_letter.new.place c.requires.room c.requires.receiver
    c.index_mut.ensures.value c.put_letter.ensures.room
