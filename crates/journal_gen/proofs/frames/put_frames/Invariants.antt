-- The rows of the frames so far were added, and the seed is that before the next.
use Rattle.std.proofs.Common.{◌≡◌, ◌++◌}
use Rattle.journal_gen.specs.Generator.{rows_before, rows_text, seed_before}
use Rattle.journal_gen.proofs.frames.put_frames.Given as goal

abbrev pub invariant-loop-frame : goal.invariant-loop-frame
invariant-loop-frame l =
    (l.text.items ≡ l.initial.text.items
    ++ rows_text l.fn.parts (rows_before l.fn.parts l.fn.recovery l.fn.number l.frame))
    × (l.draws.seed ≡ seed_before l.fn.parts l.fn.recovery l.fn.number l.frame)
