use Rattle.std.proofs.Common.{rules, ◌≡◌, subst}
use Rattle.rcp_model.specs.Plan.{IsPlan}
use Rattle.journal_gen.specs.Generator.{journal_text}
use Rattle.journal_gen.proofs.LawLemmas.{bytes_are_accepted}
use Rattle.journal_gen.proofs.frames.generate.Goals as goal

pub returns-clause-accepted : goal.returns-clause-accepted
returns-clause-accepted c =
    let text : c.put_journal.new.text.items ≡ journal_text c.args.plan.now c.args.length c.args.number c.args.frames = search rules in
    bytes_are_accepted c.args.plan.now c.args.length c.args.number c.args.frames c.put_journal.new.text.items
    (subst IsPlan c.parts.ensures.parts c.parts.ensures.rules) c.requires.some c.requires.few text
