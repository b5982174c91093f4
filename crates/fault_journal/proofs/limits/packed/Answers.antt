use Rattle.std.proofs.Common.{FitsSigned, refl, rules, arith}
use Rattle.std.proofs.Math.Facts.{Fits-of_lt}
use Rattle.std.proofs.lemmas.Int.{to_z-of_z}
use Rattle.fault_journal.proofs.LimitLemmas.{are_limited, kept}
use Rattle.fault_journal.proofs.limits.packed.Goals as goal
use mir.Syntax.{w64}

pub overflow_cast-result : goal.overflow_cast-result
overflow_cast-result c =
    let limited = are_limited c.args.plan.now c.args.row.now c.requires.replicas c.requires.limits in
    rw (kept 1_000_000 _ (omega arith) limited.frame) (tt, Fits-of_lt (omega (arith, limited.frame.few)))

pub overflow_cast-result-2 : goal.overflow_cast-result-2
overflow_cast-result-2 c =
    let limited = are_limited c.args.plan.now c.args.row.now c.requires.replicas c.requires.limits in
    rw (kept 8 _ (omega arith) limited.replica) (tt, Fits-of_lt (omega (arith, limited.replica.few)))

pub overflow_cast-result-3 : goal.overflow_cast-result-3
overflow_cast-result-3 c =
    let limited = are_limited c.args.plan.now c.args.row.now c.requires.replicas c.requires.limits in
    rw (kept 8 _ (omega arith) limited.receiver) (tt, Fits-of_lt (omega (arith, limited.receiver.few)))

pub returns-clause-row : goal.returns-clause-row
returns-clause-row c =
    let limited = are_limited c.args.plan.now c.args.row.now c.requires.replicas c.requires.limits in
    let fits : FitsSigned w64 c.args.row.now.value = search rules in
    rw (kept 1_000_000 _ (omega arith) limited.frame, kept 8 _ (omega arith) limited.replica, kept 8 _ (omega arith) limited.receiver, to_z-of_z w64 c.args.row.now.value fits) refl

pub returns-clause-place : goal.returns-clause-place
returns-clause-place c =
    let limited = are_limited c.args.plan.now c.args.row.now c.requires.replicas c.requires.limits in
    rw (kept 1_000_000 _ (omega arith) limited.frame, kept 8 _ (omega arith) limited.replica, kept 8 _ (omega arith) limited.receiver) (record {
      frame = limited.frame.few;
      replica = omega (arith, limited.replica.few);
      receiver = omega (arith, limited.receiver.few);
      item = c.requires.item;
    })
