-- The texts so far write these actuators.
use Rattle.std.proofs.Common.{◌≡◌, map, drop}
use Rattle.rcp_base.specs.Answers.{each_from}
use Rattle.rcp_base.proofs.ReaderLaws.{after}
use Rattle.task_file.specs.inner.SectionViews.{text_view}
use Rattle.task_file.specs.Texts.{actuator_of}
use Rattle.task_file.proofs.texts.actuators_of.Given as goal

abbrev pub invariant-loop-i : goal.invariant-loop-i
invariant-loop-i l =
    each_from (actuator_of l.sensors l.cells) 0 (map text_view l.texts) ≡ after l.actuators (each_from (actuator_of l.sensors l.cells) l.i (map text_view (drop l.i l.texts)))
