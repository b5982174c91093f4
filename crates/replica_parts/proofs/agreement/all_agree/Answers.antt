use Rattle.replica_parts.proofs.BallotLemmas.{heard_here}
use Rattle.replica_parts.specs.inner.Agreement.{Agrees}
use Rattle.replica_parts.specs.Places.{message_at}
use Rattle.rcp_base.specs.Message.{Content}
use Rattle.std.proofs.Common.{◌≡◌, ℕ, Option, arith, inl, inr, subst, sym}
use Rattle.std.proofs.lemmas.Bool.{cases_lt, true≢false}
use Rattle.std.specs.Prelude.{IfSome, IsTrue}
use Rattle.replica_parts.proofs.agreement.all_agree.Goals as goal

pub returns-then-not-agrees : goal.returns-then-not-agrees
returns-then-not-agrees c =
    let here = heard_here c.args.heard.now c.loop-sender.sender c.index-heard-sender.result (omega (arith, c.loop-sender-test.true, c.requires.heard.size)) c.index-heard-sender.is in
    (λ f. absurd (true≢false (sym f)), λ all. subst IsTrue c.if-not-agrees.true (c.agrees.ensures.1 (subst (λ (o : Option Content). IfSome o (Agrees c.args.slot c.args.computed.now)) here (all c.loop-sender.sender c.loop-sender-test.true))))

pub loop-sender-preserved : goal.loop-sender-preserved
loop-sender-preserved c = λ sender lt.
    let here = heard_here c.args.heard.now c.loop-sender.sender c.index-heard-sender.result (omega (arith, c.loop-sender-test.true, c.requires.heard.size)) c.index-heard-sender.is in
    elim (cases_lt sender c.loop-sender.sender) [
      | inl less ↦ c.loop-sender.invariant sender less
      | inr past ↦ let e : sender ≡ c.loop-sender.sender = omega (arith, past, lt) in
          subst (λ (k : ℕ). IfSome (message_at c.args.heard.now k) (Agrees c.args.slot c.args.computed.now)) (sym e)
          (subst (λ (o : Option Content). IfSome o (Agrees c.args.slot c.args.computed.now)) (sym here) (c.agrees.ensures.0 c.if-not-agrees.false))
    ]
