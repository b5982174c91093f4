use Rattle.std.proofs.Common.{ℕ, ◌≡◌, List, ap, ◌∙◌, replicate, rules}
use Rattle.vote_pattern.specs.Votes.{Votes, is_in}
use Rattle.vote_pattern.proofs.VoteLemmas.{none_in}
use Rattle.vote_pattern.proofs.pattern.Pattern.new.Goals as goal

pub returns-clause-votes : goal.returns-clause-votes
returns-clause-votes c =
    let words : c.in_ok-vec.field-0.items ≡ replicate c.args.slots 0 = search rules in
    ap (λ (w : List ℕ). record { slots = c.args.slots; cells = c.args.cells; words = w }) words

pub returns-clause-none : goal.returns-clause-none
returns-clause-none c =
    λ slot cell. ap (λ (v : Votes). is_in v slot cell) (returns-clause-votes c) ∙ none_in c.args.slots c.args.cells slot cell
