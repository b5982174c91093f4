-- One line after the other.
use Rattle.std.proofs.Common.{◌≡◌, ap, ◌∙◌}
use Rattle.rcp_base.proofs.AddingLaws.{adds_all, adds_then}
use Rattle.trace_text.specs.declared.label.Label.TheVariants as label
use Rattle.trace_text.specs.Lines.{count_line}
use Rattle.rcp_top.specs.Summary.{counts_text}
use Rattle.rcp_top.proofs.counts.Counts.write.Goals as goal

pub returns : goal.returns
unfolding counts_text
returns g c =
    let frames : c.count.result.now ≡ count_line label.Frames c.args.frames = c.count.ensures ∙ ap (count_line label.Frames) c.from-frames.ensures in
    adds_all _ _ tt _ _
    (adds_then _ _ _ _ _ _ _ _ (rw frames at c.add-so_far.ensures)
    (adds_then _ _ _ _ _ _ _ _ (rw c.count-2.ensures at c.add-so_far-2.ensures)
    (adds_then _ _ _ _ _ _ _ _ (rw c.count-3.ensures at c.add-so_far-3.ensures)
    (adds_then _ _ _ _ _ _ _ _ (rw c.count-4.ensures at c.add-so_far-4.ensures)
    (adds_then _ _ _ _ _ _ _ _ (rw c.count-5.ensures at c.add-so_far-5.ensures)
    (rw c.count-6.ensures at c.add.ensures))))))
