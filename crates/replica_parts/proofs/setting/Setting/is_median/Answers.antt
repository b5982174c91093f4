use Rattle.replica_parts.proofs.SettingLemmas.{median_at}
use Rattle.std.proofs.Common.{◌∙◌}
use Rattle.replica_parts.proofs.setting.Setting.is_median.Goals as goal

pub returns : goal.returns
returns c = λ plan s. c.index.ensures ∙ median_at plan c.args.self.now c.args.cell _ s c.requires.cell
