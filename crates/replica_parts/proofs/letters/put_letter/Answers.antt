use Rattle.replica_parts.proofs.QuietLemmas.{letter_is}
use Rattle.replica_parts.specs.Quiet.{IsQuietArrival}
use Rattle.std.proofs.Common.{Option, SFits, arith, rules, subst, w64, ℤ, ◌∙◌}
use Rattle.std.proofs.lemmas.Int.{to_z-of_z}
use Rattle.std.specs.Prelude.{IfSome}
use Rattle.replica_parts.proofs.letters.put_letter.Goals as goal

pub returns-in-Some-clause-letter : goal.returns-in-Some-clause-letter
returns-in-Some-clause-letter c = λ plan s.
    let f : SFits w64 c.in-Some.tick = search rules in
    let h = subst (λ (o : Option ℤ). IfSome o (IsQuietArrival c.args.setting.now c.args.frame c.args.input.now)) c.in-Some.is c.requires.arrival in
    let e = s.replicas in
    c.put_message.ensures.letter
    ∙ rw (to_z-of_z w64 c.in-Some.tick f) (letter_is c.args.input.now h.quiet plan c.args.frame c.args.own.now c.args.sender c.args.receiver c.in-Some.tick (omega (arith, e, c.requires.sender)) (omega (arith, e, c.requires.receiver)) (h.arrives plan s))
