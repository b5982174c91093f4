-- What was done for a form of words, over the files that the folder tells, and where a file was not read.
use Rattle.std.proofs.Common.{sym, map, string_bytes}
use Rattle.rcp_top.specs.Forms.{form_in}
use Rattle.rcp_top.specs.Outcome.{Ends}
use Rattle.rcp_top.proofs.EndingLemmas.{ends_memory, ends_over, read_fault_in}
use Rattle.rcp_top.proofs.top.rcp_over.Goals as goal

pub returns-in-Some-clause-ends : goal.returns-in-Some-clause-ends
returns-in-Some-clause-ends g c =
    ends_over (g.F.Folder.state c.args.folder.now) (g.F.Folder.state c.run_form.new.folder) (map (λ word. string_bytes word) c.args.words.now) (form_in c.in-Some.form)
    (λ due. Ends due c.run_form.result (g.S.Sink.state c.args.out.now) (g.S.Sink.state c.run_form.new.out)) (sym c.in-Some.ensures) c.run_form.ensures.does

pub returns-in-Some-clause-read_fault : goal.returns-in-Some-clause-read_fault
returns-in-Some-clause-read_fault g c =
    read_fault_in (g.F.Folder.state c.args.folder.now) (g.F.Folder.state c.run_form.new.folder) (map (λ word. string_bytes word) c.args.words.now) (form_in c.in-Some.form)
    c.run_form.result (g.S.Sink.state c.args.out.now) (g.S.Sink.state c.run_form.new.out) (sym c.in-Some.ensures) c.run_form.ensures.does

pub returns-in-Err-clause-ends : goal.returns-in-Err-clause-ends
returns-in-Err-clause-ends g c = ends_memory (g.F.Folder.state c.args.folder.now) (map (λ word. string_bytes word) c.args.words.now) (g.S.Sink.state c.args.out.now)
