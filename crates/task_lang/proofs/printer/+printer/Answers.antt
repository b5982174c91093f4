-- Which of the two a place wants.
use Rattle.std.proofs.Common.{◌≡◌, ◌++◌, OnOk, sym, subst, arith}
use Rattle.task_lang.proofs.PlacingLemmas.{placed_below, placed_above}
use Rattle.task_lang.proofs.printer.+printer.Goals as goal

pub put_placed-returns-then-level_of-least : goal.put_placed-returns-then-level_of-least
put_placed-returns-then-level_of-least t c =
    subst (λ text. OnOk c.put_bracketed.result (c.put_bracketed.new.out ≡ c.args.out.now ++ text))
    (sym (placed_below c.args.labels.now c.args.e.now c.level_of.result c.args.least c.level_of.ensures c.if-level_of-least.true)) c.put_bracketed.ensures

pub put_placed-returns-else-level_of-least : goal.put_placed-returns-else-level_of-least
put_placed-returns-else-level_of-least t c =
    subst (λ text. OnOk c.put_bare.result (c.put_bare.new.out ≡ c.args.out.now ++ text))
    (sym (placed_above c.args.labels.now c.args.e.now c.level_of.result c.args.least c.level_of.ensures (omega (arith, c.if-level_of-least.false)))) c.put_bare.ensures
