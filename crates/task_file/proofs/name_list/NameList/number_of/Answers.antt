-- The index of a key is the place of its text.
use Rattle.std.specs.Str.{bytes_eq}
use Rattle.std.proofs.Common.{position, ap, ◌∙◌}
use Rattle.task_file.proofs.NameEntryLemmas.{number_by_text}
use Rattle.task_file.proofs.name_list.NameList.number_of.Goals as goal

pub returns-clause-number : goal.returns-clause-number
returns-clause-number c =
    c.get_index_of.ensures.index ∙ (number_by_text c.self.inside.names.entries c.args.text.now ∙ ap (position (bytes_eq c.args.text.now)) c.self.view_is)
