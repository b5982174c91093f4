-- The first bytes of a piece are a front of it.
use Rattle.std.proofs.Common.{take, drop, sym}
use Rattle.std.proofs.lemmas.List.{take-append-drop}
use Rattle.rcp_base.proofs.mem_sink.append_front.Goals as goal

pub returns-clause-front : goal.returns-clause-front
returns-clause-front c = record {
  front = take c.min.result c.args.bytes.now;
  rest = drop c.min.result c.args.bytes.now;
  parts = sym (take-append-drop c.min.result c.args.bytes.now);
  appended = c.in_ok-append.ensures.ok;
}
