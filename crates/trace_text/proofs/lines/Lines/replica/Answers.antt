use Rattle.std.proofs.Common.{◌++◌, codes, if◌then◌else◌, ap, ◌∙◌}
use Rattle.std.specs.Fmt.{decimal}
use Rattle.trace_text.specs.Lines.{numbers_text}
use Rattle.trace_text.proofs.LineLemmas.{replica_text}
use Rattle.trace_text.proofs.lines.Lines.replica.Goals as goal

pub returns : goal.returns
returns c =
    let down = if c.args.down then codes " down slot " else codes " up slot " in
    let working = if c.args.working then codes " working yes\n" else codes " working no\n" in
    let slot = decimal c.args.slot in
    let cells = numbers_text c.args.cells.now in
    c.as_slice.ensures.value ∙ c.put_either-2.ensures ∙ ap (λ line. line ++ working) c.put_state.ensures.put
    ∙ ap (λ line. line ++ slot ++ codes " cells" ++ cells ++ working) c.put_either.ensures
    ∙ ap (λ line. line ++ down ++ slot ++ codes " cells" ++ cells ++ working) c.put_count.ensures.put
    ∙ ap (λ line. line ++ decimal c.args.replica ++ down ++ slot ++ codes " cells" ++ cells ++ working) c.start.ensures
    ∙ replica_text c.args.replica c.args.down c.args.slot c.args.cells.now c.args.working
