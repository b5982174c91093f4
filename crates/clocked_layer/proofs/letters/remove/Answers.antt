use Rattle.clocked_layer.proofs.PostLemmas.{posted}
use Rattle.clocked_layer.proofs.letters.remove.Goals as goal

pub returns-clause-letters : goal.returns-clause-letters
returns-clause-letters c =
    posted c.args.setting.now c.args.letters.now.items c.args.receiver c.args.sender
    c.index_mut.result.now _ c.requires.room c.requires.receiver c.requires.sender
    c.index_mut.ensures.value
