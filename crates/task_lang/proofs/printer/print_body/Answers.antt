use Rattle.std.proofs.Common.{◌≡◌, ap, ◌∙◌}
use Rattle.std.specs.Prelude.{◌++◌, flat_map, codes}
use Rattle.task_lang.specs.Statements.{scope_of}
use Rattle.task_lang.specs.Printing.{whole_scope, let_names, let_text, set_text, task_text}
use Rattle.task_lang.proofs.PlacingLemmas.{body_added}
use Rattle.task_lang.proofs.PrintingLaws.{printed_reads_back}
use Rattle.task_lang.proofs.printer.print_body.Goals as goal

pub returns : goal.returns
unfolding task_text
returns c =
    let text : c.pop.new.self ≡ task_text c.args.sensors.now c.args.cells.now c.args.task.now =
    body_added c.new-labels.result (whole_scope c.args.sensors.now c.args.cells.now c.args.task.now)
    (c.new-labels.ensures ∙ ap (λ rows. scope_of c.args.sensors.now c.args.cells.now (let_names rows)) c.as_slice.ensures)
    c.args.task.now.lets c.args.task.now.sets c.pop.result c.new-out.result c.put_lets.new.out c.put_sets.new.out c.pop.new.self
    c.new-out.ensures
    (c.in_ok-put_lets.ensures ∙ ap (λ rows. c.new-out.result ++ flat_map (λ row. let_text c.new-labels.result row ++ codes " ") rows) c.as_slice-2.ensures)
    (c.in_ok-put_sets.ensures ∙ ap (λ rows. c.put_lets.new.out ++ flat_map (λ row. set_text c.new-labels.result row ++ codes " ") rows) c.as_slice-3.ensures)
    c.pop.ensures in
    record { text = text; again = printed_reads_back c.args.sensors.now c.args.cells.now c.args.task.now c.pop.new.self text }
