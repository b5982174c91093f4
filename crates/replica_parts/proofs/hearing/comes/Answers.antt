use Rattle.std.proofs.Common.{SFits, refl, rules, w64}
use Rattle.std.proofs.lemmas.Int.{to_z-of_z}
use Rattle.replica_parts.proofs.hearing.comes.Goals as goal

pub returns-then-place : goal.returns-then-place
returns-then-place c = λ plan frame rows receiver w.
    let f : SFits w64 c.args.place.now.arrival = search rules in
    let e = c.has.ensures plan frame rows receiver w in
    rw (c.if-place.true, e, to_z-of_z w64 c.args.place.now.arrival f) refl
