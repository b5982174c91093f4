-- No more is counted than there are votes, and the digest is taken modulo 2^64 at each step.
use Rattle.std.proofs.Common.{◌≡◌, ◌+◌, ◌*◌, ◌%◌, ℕ, ap, w64, arith, rules}
use Rattle.std.proofs.lemmas.Int.{of_z-to_z}
use Rattle.std.specs.Int.{cast_unsigned}
use Rattle.rcp_top.proofs.SummaryLemmas.{tally_most, tally_none, tally_some}
use Rattle.rcp_top.proofs.counts.Tally.with_vote.Goals as goal

pub overflow_add-result : goal.overflow_add-result
overflow_add-result c =
    let votes = c.requires.0 in
    let same = ap (λ t. t.votes) c.requires.1 in
    omega (arith, same, (tally_most votes).0, c.requires.2)

pub overflow_add-result-in-None : goal.overflow_add-result-in-None
overflow_add-result-in-None c =
    let votes = c.requires.0 in
    let same = ap (λ t. t.no_votes) c.requires.1 in
    omega (arith, same, (tally_most votes).1, c.requires.2)

pub returns-in-Some : goal.returns-in-Some
returns-in-Some c votes is =
    let bits : c.cast_unsigned.result ≡ cast_unsigned w64 c.in-Some.value = search (rules, of_z-to_z w64) in
    rw c.in-Some.is (tally_some c.args.self votes c.in-Some.value _ is (ap (λ (n : ℕ). (c.args.self.digest * 31 % 18446744073709551616 + n) % 18446744073709551616) bits))

pub returns-in-None : goal.returns-in-None
returns-in-None c votes is = rw c.in-None.is (tally_none c.args.self votes is)
