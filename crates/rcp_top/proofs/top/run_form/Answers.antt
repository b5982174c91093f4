-- One form after the other: what was read, and what was then written.
use Rattle.rcp_top.specs.Check.{ShowsCheck, check_of}
use Rattle.rcp_top.specs.Ideal.{ShowsIdeal, ideal_of}
use Rattle.rcp_top.specs.Events.{events_for, events_of}
use Rattle.rcp_top.specs.Frames.{ShowsRun}
use Rattle.rcp_top.specs.Replay.{replay_for, replay_of}
use Rattle.rcp_top.specs.Generated.{ShowsJournal, gen_of}
use Rattle.rcp_top.specs.Summary.{summary_for, summary_of}
use Rattle.rcp_top.specs.Thin.{ShowsThin, thin_of}
use Rattle.rcp_top.proofs.ReadingLaws.{ends_of, finds_stand_for}
use Rattle.rcp_top.proofs.top.run_form.Goals as goal

pub returns-in-Check-clause-does : goal.returns-in-Check-clause-does
returns-in-Check-clause-does g c =
    rw c.in-Check.is (ends_of ShowsCheck (g.F.Folder.state c.args.folder.now) (g.F.Folder.state c.read_check.new.folder) (check_of c.in-Check.file.now) c.read_check.result _ c.read_check.ensures.finds c.finish.ensures.ends)

pub returns-in-Thin-clause-does : goal.returns-in-Thin-clause-does
returns-in-Thin-clause-does g c =
    rw c.in-Thin.is (ends_of ShowsThin (g.F.Folder.state c.args.folder.now) (g.F.Folder.state c.read_thin.new.folder) (thin_of c.in-Thin.file.now) c.read_thin.result _ c.read_thin.ensures.finds c.finish-in-Thin.ensures.ends)

pub returns-in-Ideal-clause-does : goal.returns-in-Ideal-clause-does
returns-in-Ideal-clause-does g c =
    rw c.in-Ideal.is (ends_of ShowsIdeal (g.F.Folder.state c.args.folder.now) (g.F.Folder.state c.read_ideal-found.new.folder) (ideal_of c.in-Ideal.file.now c.in-Ideal.journal.now) c.read_ideal-found.result _ c.read_ideal-found.ensures.finds c.finish-in-Ideal.ensures.ends)

pub returns-in-Replay-clause-does : goal.returns-in-Replay-clause-does
returns-in-Replay-clause-does g c =
    let file = c.in-Replay.file.now in
    let journal = c.in-Replay.journal.now in
    rw c.in-Replay.is (ends_of (ShowsRun replay_for) (g.F.Folder.state c.args.folder.now) (g.F.Folder.state c.read_run-found.new.folder) (replay_of file journal) c.read_run-found.result _ (c.read_run-found.ensures.finds replay_for) c.finish-in-Replay.ensures.ends)

pub returns-in-Events-clause-does : goal.returns-in-Events-clause-does
returns-in-Events-clause-does g c =
    let file = c.in-Events.file.now in
    let journal = c.in-Events.journal.now in
    rw c.in-Events.is (ends_of (ShowsRun events_for) (g.F.Folder.state c.args.folder.now) (g.F.Folder.state c.read_run-found-in-Events.new.folder) (events_of file journal c.in-Events.order) c.read_run-found-in-Events.result _ (c.read_run-found-in-Events.ensures.finds events_for) c.finish-in-Events.ensures.ends)

pub finish-requires-in-Replay : goal.finish-requires-in-Replay
finish-requires-in-Replay g c =
    finds_stand_for (ShowsRun replay_for) (g.F.Folder.state c.args.folder.now) (g.F.Folder.state c.read_run-found.new.folder) (replay_of c.in-Replay.file.now c.in-Replay.journal.now) c.read_run-found.result (c.read_run-found.ensures.finds replay_for)

pub finish-requires-in-Events : goal.finish-requires-in-Events
finish-requires-in-Events g c =
    finds_stand_for (ShowsRun events_for) (g.F.Folder.state c.args.folder.now) (g.F.Folder.state c.read_run-found-in-Events.new.folder) (events_of c.in-Events.file.now c.in-Events.journal.now c.in-Events.order) c.read_run-found-in-Events.result (c.read_run-found-in-Events.ensures.finds events_for)

pub returns-in-Summary-clause-does : goal.returns-in-Summary-clause-does
returns-in-Summary-clause-does g c =
    let file = c.in-Summary.file.now in
    let journal = c.in-Summary.journal.now in
    rw c.in-Summary.is (ends_of (ShowsRun summary_for) (g.F.Folder.state c.args.folder.now) (g.F.Folder.state c.read_run-found-in-Summary.new.folder) (summary_of file journal) c.read_run-found-in-Summary.result _ (c.read_run-found-in-Summary.ensures.finds summary_for) c.finish-in-Summary.ensures.ends)

pub finish-requires-in-Summary : goal.finish-requires-in-Summary
finish-requires-in-Summary g c =
    finds_stand_for (ShowsRun summary_for) (g.F.Folder.state c.args.folder.now) (g.F.Folder.state c.read_run-found-in-Summary.new.folder) (summary_of c.in-Summary.file.now c.in-Summary.journal.now) c.read_run-found-in-Summary.result (c.read_run-found-in-Summary.ensures.finds summary_for)

pub returns-in-Gen-clause-does : goal.returns-in-Gen-clause-does
returns-in-Gen-clause-does g c =
    rw c.in-Gen.is (ends_of ShowsJournal (g.F.Folder.state c.args.folder.now) (g.F.Folder.state c.read_gen-found.new.folder) (gen_of c.in-Gen.file.now c.in-Gen.request.number c.in-Gen.request.frames) c.read_gen-found.result _ c.read_gen-found.ensures.finds c.finish-in-Gen.ensures.ends)
