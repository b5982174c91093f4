use Rattle.std.proofs.Common.{◌==◌, List, ap₂, refl, ℕ, ◌∙◌}
use Rattle.std.specs.List.{list_any}
use Rattle.rcp_base.specs.Tables.{table}
use Rattle.rcp_model.specs.Ballot.{is_median}
use Rattle.replica_parts.proofs.setting.setting_of.Goals as goal

pub returns : goal.returns
unfolding is_median
returns c = record {
  rules = c.requires;
  replicas = refl;
  cells = c.len-2.ensures;
  actuators = c.len-3.ensures;
  slots = c.len-4.ensures;
  timing = refl;
  medians = c.in_ok-medians.ensures ∙ ap₂ (λ (n : ℕ) (xs : List ℕ). table n (λ (cell : ℕ). list_any (λ (median : ℕ). median == cell) xs)) c.len.ensures c.as_slice.ensures;
}
