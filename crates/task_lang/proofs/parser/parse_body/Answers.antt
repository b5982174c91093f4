use Rattle.std.proofs.Common.{◌≡◌, ap, sym, ◌∙◌}
use Rattle.task_lang.specs.Tokens.{tokens_of}
use Rattle.task_lang.specs.Statements.{IsTask}
use Rattle.task_lang.specs.NameFaults.{first_wrong_name}
use Rattle.task_lang.proofs.PlaceLemmas.{tokens_few}
use Rattle.task_lang.proofs.TextLemmas.{fault_answered, tree_answered, name_answered}
use Rattle.task_lang.proofs.parser.parse_body.Goals as goal

pub task_of-requires-clause-tokens : goal.task_of-requires-clause-tokens
task_of-requires-clause-tokens c =
    let cut : c.as_slice-tokens.result.now ≡ tokens_of c.args.text.now = c.as_slice-tokens.ensures ∙ (c.in_ok-list.ensures.tokens ∙ ap tokens_of c.as_bytes.ensures.value) in
    tokens_few c.args.text.now c.as_slice-tokens.result.now cut c.requires.text

pub returns-in-Err : goal.returns-in-Err
returns-in-Err c =
    let cut : c.as_slice-tokens.result.now ≡ tokens_of c.args.text.now = c.as_slice-tokens.ensures ∙ (c.in_ok-list.ensures.tokens ∙ ap tokens_of c.as_bytes.ensures.value) in
    fault_answered (IsTask c.args.sensors.now c.args.cells.now c.args.name) c.args.text.now c.as_slice-tokens.result.now cut
    (first_wrong_name c.args.sensors.now c.args.cells.now (tokens_of c.args.text.now)) c.in-Err.fault c.fault_of_syntax.result c.in-Err.ensures c.fault_of_syntax.ensures

pub returns-in-None : goal.returns-in-None
returns-in-None c =
    let cut : c.as_slice-tokens.result.now ≡ tokens_of c.args.text.now = c.as_slice-tokens.ensures ∙ (c.in_ok-list.ensures.tokens ∙ ap tokens_of c.as_bytes.ensures.value) in
    tree_answered (IsTask c.args.sensors.now c.args.cells.now c.args.name) c.args.text.now c.as_slice-tokens.result.now cut
    (first_wrong_name c.args.sensors.now c.args.cells.now (tokens_of c.args.text.now)) c.in-Ok.task c.in-Ok.ensures
    (sym c.in-None.is ∙ (c.in_ok-first_wrong_name.ensures ∙ ap (first_wrong_name c.args.sensors.now c.args.cells.now) cut))

pub returns : goal.returns
returns c =
    let cut : c.as_slice-tokens.result.now ≡ tokens_of c.args.text.now = c.as_slice-tokens.ensures ∙ (c.in_ok-list.ensures.tokens ∙ ap tokens_of c.as_bytes.ensures.value) in
    name_answered (IsTask c.args.sensors.now c.args.cells.now c.args.name) c.args.text.now c.as_slice-tokens.result.now cut
    (first_wrong_name c.args.sensors.now c.args.cells.now (tokens_of c.args.text.now)) c.in-Ok.task c.in-Some.fault c.in-Some.left c.fault_of_name.result c.in-Ok.ensures
    (sym c.in-Some.is ∙ (c.in_ok-first_wrong_name.ensures ∙ ap (first_wrong_name c.args.sensors.now c.args.cells.now) cut)) c.fault_of_name.ensures
