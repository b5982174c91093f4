use Rattle.std.specs.List.{remove}
use Rattle.std.proofs.Common.{◌≡◌, ◌+◌, suc, drop, refl, ap, ◌∙◌, arith}
use Rattle.event_queue.proofs.AgendaLemmas.{removed_first, removed_behind, none_left}
use Rattle.event_queue.proofs.agenda.take_out.Goals as goal

pub returns-then-i-gt0-clause-left : goal.returns-then-i-gt0-clause-left
returns-then-i-gt0-clause-left c =
    ap (drop c.args.taken) c.remove.ensures.items
    ∙ removed_behind c.args.taken c.args.events.now.items c.args.i _ refl

pub returns-then-taken-len-clause-left : goal.returns-then-taken-len-clause-left
returns-then-taken-len-clause-left c =
    let one_more : c.args.taken + 1 ≡ suc c.args.taken = omega arith in
    let first : 0 ≡ c.args.i = omega (arith, c.if-i-gt0.false) in
    ap (λ n. drop n c.args.events.now.items) one_more
    ∙ removed_first c.args.taken c.args.events.now.items
    ∙ ap (remove (drop c.args.taken c.args.events.now.items)) first

pub returns-clause-left : goal.returns-clause-left
returns-clause-left c =
    let first : 0 ≡ c.args.i = omega (arith, c.if-i-gt0.false) in
    c.clear.ensures.items
    ∙ none_left c.args.taken c.args.events.now.items
    (omega (arith, c.if-taken-len.false, c.len.ensures, c.args.events.now.ok.0))
    ∙ ap (remove (drop c.args.taken c.args.events.now.items)) first
