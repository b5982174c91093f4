use Rattle.phase_machine.proofs.StepLemmas.{one_shows, phase_read}
use Rattle.phase_machine.specs.Phase.{ShowsSeat}
use Rattle.phase_machine.specs.declared.phase.Phase.{Phase}
use Rattle.std.proofs.Common.{subst, sym}
use Rattle.phase_machine.proofs.steps.deliver_at.Goals as goal

pub deliver-requires : goal.deliver-requires
deliver-requires c =
    let s = c.requires.show in
    let q = c.args.replica in
    let is = phase_read _ q c.index_mut.result.now c.requires.replica c.index_mut.ensures.value in
    record {
      shows = (
        s.0,
        s.1,
        q,
        s.2 q,
        subst (λ (x : Phase). ShowsSeat s.0 s.1 q x (s.2 q)) (sym is) (s.3 q c.requires.replica),
        s.4,
        s.5,
      );
    }

pub returns-clause-show : goal.returns-clause-show
returns-clause-show c = λ plan rows seats letter all same.
    let q = c.args.replica in
    let is = phase_read _ q c.index_mut.result.now c.requires.replica c.index_mut.ensures.value in
    let at = subst (λ (x : Phase). ShowsSeat plan rows q x (seats q)) (sym is)
    (all q c.requires.replica) in
    one_shows plan rows seats q _ _ _ all c.requires.replica
    (c.deliver.ensures.shows plan rows q (seats q) letter at same)
