-- A text is known by its key.
use Rattle.std.proofs.Common.{ap, ◌∙◌}
use Rattle.rcp_base.specs.Answers.{has_text}
use Rattle.task_file.proofs.NameEntryLemmas.{known_by_text}
use Rattle.task_file.proofs.name_list.NameList.has.Goals as goal

pub returns : goal.returns
returns c = c.contains_key.ensures ∙ (known_by_text c.self.inside.names.entries c.args.text.now ∙ ap (λ names. has_text names c.args.text.now) c.self.view_is)
