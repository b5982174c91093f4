-- A name that is inserted goes last, or changes nothing where it is known.
use Rattle.std.proofs.Common.{sym, ◌∙◌}
use Rattle.task_file.proofs.NameEntryLemmas.{texts_added, read_is_name, is_inserted}
use Rattle.task_file.proofs.name_list.NameList.add.Goals.{in-Ok, in-Err}
use Rattle.task_file.proofs.name_list.NameList.add.Goals as goal

pub invariant_of-self : goal.invariant_of-self
invariant_of-self c =
    let read = read_is_name c.args.text.now c.in-Some.name (sym c.read.ensures ∙ c.in-Some.is) in
    elim c.match-insert.branch [
      | in-Ok w ↦ rw w.in-Ok.ensures.entries (texts_added c.self.inside.names.entries c.args.text c.in-Some.name read.1 c.self.invariant)
      | in-Err w ↦ rw w.in-Err.ensures.err c.self.invariant
    ]

pub returns-clause-new : goal.returns-clause-new
returns-clause-new c =
    let read = read_is_name c.args.text.now c.in-Some.name (sym c.read.ensures ∙ c.in-Some.is) in
    elim c.match-insert.branch [
      | in-Ok w ↦
          rw (w.result-is, ← c.self.view_is) (is_inserted c.self.inside.names.entries c.args.text c.in-Some.name w.is_none.result w.in-Ok.known read.0 w.in-Ok.ensures.old w.is_none.ensures).told
      | in-Err w ↦ rw w.result-is tt
    ]

pub returns-clause-names : goal.returns-clause-names
returns-clause-names c =
    let read = read_is_name c.args.text.now c.in-Some.name (sym c.read.ensures ∙ c.in-Some.is) in
    elim c.match-insert.branch [
      | in-Ok w ↦
          rw (w.result-is, w.in-Ok.ensures.entries, ← c.self.view_is) (is_inserted c.self.inside.names.entries c.args.text c.in-Some.name w.is_none.result w.in-Ok.known read.0 w.in-Ok.ensures.old w.is_none.ensures).names
      | in-Err w ↦ rw w.result-is tt
    ]
