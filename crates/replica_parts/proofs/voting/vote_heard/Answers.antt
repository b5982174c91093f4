use Rattle.replica_parts.proofs.OwnLemmas.{own_ballot}
use Rattle.replica_parts.specs.declared.ballot.Heard.{Heard}
use Rattle.replica_parts.specs.inner.Agreement.{Agrees}
use Rattle.replica_parts.specs.Places.{message_at}
use Rattle.std.proofs.Common.{List, Vec, ap, subst, sym, ◌∙◌}
use Rattle.std.specs.Global.{Global}
use Rattle.std.specs.Prelude.{IfSome}
use Rattle.vote_pattern.specs.Votes.{is_in}
use Rattle.replica_parts.proofs.voting.vote_heard.Goals as goal

pub returns-then-all_agree-clause-ballot : goal.returns-then-all_agree-clause-ballot
returns-then-all_agree-clause-ballot c = λ plan s.
    own_ballot plan (is_in c.args.votes.now) c.args.slot c.args.computed.now c.keep_own.new.ballot c.args.ballot.now.heard.items c.args.setting.now.replicas
    s.replicas c.requires.room.heard.size (sym (ap (λ (v : Vec Heard Global). v.items) c.keep_own.ensures.heard)) (c.requires.computed ∙ s.cells)
    (λ sender lt. subst (λ (xs : List Heard). IfSome (message_at xs sender) (Agrees c.args.slot c.args.computed.now)) c.as_slice.ensures.value (c.all_agree.ensures.0 c.if-all_agree.true sender lt))
    c.keep_own.ensures.taken c.keep_own.ensures.cells
