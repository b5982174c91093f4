-- The runner has room for each code, and the results for each task's cells.
use Rattle.std.proofs.Common.{rules, ◌≡◌, ◌∙◌, length, ap, subst, All, ◌≤◌}
use Rattle.task_code.specs.Machine.{room_of}
use Rattle.frame_table.specs.Tasks.{greatest_length}
use Rattle.frame_table.proofs.CountLemmas.{same_counts, fit_within}
use Rattle.frame_table.proofs.programs.Programs.new.Goals as goal

pub invariant_of-result : goal.invariant_of-result
invariant_of-result c =
    let count : length c.in_ok-results.results.items ≡ c.longest.result = search (rules, c.in_ok-results.ensures.len) in
    let long : length c.in_ok-results.results.items ≡ greatest_length c.in_ok-targets.targets =
    count ∙ c.longest.ensures ∙ ap greatest_length c.as_slice-2.ensures in (
      subst (All (λ code. room_of code ≤ c.in_ok-runner.runner)) c.as_slice.ensures.value c.in_ok-runner.ensures.enough,
      fit_within c.in_ok-targets.targets _ long,
      same_counts c.in_ok-codes.codes.items c.in_ok-targets.targets c.args.tasks.now c.in_ok-codes.ensures c.in_ok-targets.ensures,
    )
