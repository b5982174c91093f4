-- Lines that no test prints.
use Rattle.std.proofs.Common.{◌≡◌, pos, [], ◌∷◌, true, false, None, refl}
use Rattle.std.specs.Fmt.{digits}
use Rattle.std.specs.Prelude.{codes}
use Rattle.event_queue.specs.declared.event.EventKind.TheVariants as event
use Rattle.fault_journal.specs.declared.fault.JournalFault.TheVariants as journal
use Rattle.trace_text.specs.declared.label.Label.TheVariants as label
use Rattle.trace_text.specs.Lines.{count_line, event_line, frame_guard_line, replica_line, vote_line}
use Rattle.trace_text.specs.Refusals.{journal_refused_line}

-- a journal past the limit takes too long
line_of_a_long_journal : journal_refused_line journal.TooLong ≡ codes "journal refused: J01\n"
unfolding journal_refused_line
line_of_a_long_journal = refl

line_of_a_guarded_frame : frame_guard_line 12 true ≡ codes "frame 12 guard yes\n"
unfolding frame_guard_line digits
line_of_a_guarded_frame = refl

line_of_a_vote_without_a_value : vote_line (codes "valve") None ≡ codes "vote valve none\n"
unfolding vote_line
line_of_a_vote_without_a_value = refl

line_of_a_replica_that_is_down : replica_line 2 true 1 (pos 40 ∷ pos 0 ∷ []) false ≡ codes "replica 2 down slot 1 cells 40 0 working no\n"
unfolding replica_line digits
line_of_a_replica_that_is_down = refl

line_of_a_count : count_line label.NoVote 7 ≡ codes "none 7\n"
unfolding count_line digits
line_of_a_count = refl

line_of_a_send : event_line record { tick = pos 30053; kind = event.Send; replica = 2; other = 0; frame = 7 } ≡ codes "30053 send 2\n"
unfolding event_line digits
line_of_a_send = refl

line_of_a_delivery : event_line record { tick = pos 32053; kind = event.Deliver; replica = 0; other = 2; frame = 7 } ≡ codes "32053 deliver 2 to 0 of 7\n"
unfolding event_line digits
line_of_a_delivery = refl
