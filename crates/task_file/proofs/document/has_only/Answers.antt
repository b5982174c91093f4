-- The test of each key of the map is that of each member.
use Rattle.std.proofs.Common.{◌∙◌, List, ℕ, Bor}
use Rattle.task_file.proofs.DocumentLemmas.{each_key_passes}
use Rattle.task_file.proofs.document.has_only.Goals as goal

pub returns : goal.returns
returns c =
    let bytes_of : Bor (List ℕ) → List ℕ = λ key. key.now in
    c.each_key.ensures ∙ each_key_passes bytes_of c.args.keys.now c.args.table.now.entries
