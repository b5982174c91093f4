use Rattle.rcp_model.specs.Messages.{arrival_of}
use Rattle.replica_parts.proofs.SettingLemmas.{arrival_back, clock_read, delay_back, delay_is, rate_back, skew_back}
use Rattle.std.proofs.Common.{refl, ◌∙◌}
use Rattle.replica_parts.proofs.hearing.arrival_of.Goals as goal

pub send-sent-requires-clause-clock : goal.send-sent-requires-clause-clock
send-sent-requires-clause-clock c = clock_read _ _ c.requires.of c.args.frame c.args.sender _ _ c.requires.frame c.skew.ensures c.rate.ensures

pub arrival-requires-clause-delay : goal.arrival-requires-clause-delay
arrival-requires-clause-delay c = rw (delay_back _ _ c.requires.of c.args.sender c.args.receiver _ c.delay.ensures) (delay_is _ _ c.requires.of c.args.sender c.args.receiver)

pub returns : goal.returns
unfolding arrival_of
returns c = λ plan s.
    arrival_back _ _ c.requires.of c.args.sender c.args.receiver c.send-sent.result c.delay.result c.arrival.result _ c.send-sent.ensures.range
    (c.send-sent.ensures.value ∙ rw (s.timing, skew_back _ _ c.requires.of c.args.sender _ c.skew.ensures, rate_back _ _ c.requires.of c.args.sender _ c.rate.ensures) refl)
    c.delay.ensures c.arrival.ensures
