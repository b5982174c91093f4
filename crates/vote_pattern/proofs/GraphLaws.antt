-- The votes of a graph are listed and counted as the graph's are.
use Rattle.std.proofs.Common.{◌≡◌, ℕ, zero, suc, ◌+◌, ◌<◌, ◌≤◌, Bool, cond, List, ◌∷◌, length, refl, ◌∙◌, ap, ap₂, arith}
use Rattle.std.specs.List.{filter, range_with_len, sum_by}
use Rattle.rcp_model.specs.Walk.{Graph}
use Rattle.rcp_model.specs.PlanGraph.{voted_at, voted_count}
use Rattle.vote_pattern.specs.Laws.{AreListedAlike}
use Rattle.vote_pattern.specs.Votes.{Votes, AreVotesOf, is_in, votes_at, vote_count}
use Rattle.vote_pattern.proofs.BitLemmas.{same_sums}

-- tests that agree on the numbers of a range let the same ones through
filter_same : (p q : ℕ → Bool) (a n : ℕ) → ((i : ℕ) → a ≤ i → i < a + n → p i ≡ q i) → filter p (range_with_len a n) ≡ filter q (range_with_len a n)
filter_same p q a zero same = refl
filter_same p q a (suc n) same =
    let rest = filter_same p q (a + 1) n (λ i low high. same i (omega arith) (omega arith)) in
    ap₂ (λ (b : Bool) (xs : List ℕ). cond b (a ∷ xs) xs) (same a (omega arith) (omega arith)) rest

same_list : (g : Graph) (votes : Votes) → AreVotesOf g votes → (slot : ℕ) → slot < g.slots → votes_at votes slot ≡ voted_at g slot
unfolding votes_at voted_at
same_list g votes are slot below =
    ap (λ (n : ℕ). filter (is_in votes slot) (range_with_len 0 n)) are.cells
    ∙ filter_same (is_in votes slot) (g.votes slot) 0 g.cells (λ i low high. are.each slot i below (omega arith))

same_count : (g : Graph) (votes : Votes) → AreVotesOf g votes → vote_count votes ≡ voted_count g
unfolding vote_count voted_count
same_count g votes are =
    ap (λ (n : ℕ). sum_by (λ slot. length (votes_at votes slot)) (range_with_len 0 n)) are.slots
    ∙ same_sums (λ slot. length (votes_at votes slot)) (λ slot. length (voted_at g slot)) g.slots (λ slot below. ap length (same_list g votes are slot below))

pub listed_alike : (g : Graph) (votes : Votes) → AreVotesOf g votes → AreListedAlike g votes
listed_alike g votes are = record { lists = same_list g votes are; count = same_count g votes are }
