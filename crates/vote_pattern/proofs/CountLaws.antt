-- One vote more or less is one more or less in the count.
use Rattle.std.proofs.Common.{◌≡◌, ◌≢◌, ℕ, zero, suc, ◌+◌, ◌<◌, Bool, length, inl, inr, sym, ◌∙◌, ap, arith}
use Rattle.std.proofs.lemmas.Bool.{cases_eq}
use Rattle.std.proofs.lemmas.List.Sums.{length-filter}
use Rattle.std.specs.List.{range_with_len, sum_by}
use Rattle.vote_pattern.specs.Laws.{one_if}
use Rattle.vote_pattern.specs.Votes.{Votes, ChangesVote, is_in, votes_at, vote_count}
use Rattle.vote_pattern.proofs.BitLemmas.{same_sums, sum_suc}

-- sums that differ in one place alone differ by what stands there
one_place : (f g : ℕ → ℕ) (n i : ℕ) → i < n → ((j : ℕ) → j ≢ i → f j ≡ g j)
    → sum_by g (range_with_len 0 n) + f i ≡ sum_by f (range_with_len 0 n) + g i
one_place f g zero i h same = absurd (omega arith)
one_place f g (suc n) i h same =
    let before = sum_suc f n in
    let after = sum_suc g n in
    elim (cases_eq i n) [
      | inl a ↦
          let below : sum_by f (range_with_len 0 n) ≡ sum_by g (range_with_len 0 n) = same_sums f g n (λ j l. same j (λ e. omega arith)) in
          let at_f : f i ≡ f n = ap f a in
          let at_g : g i ≡ g n = ap g a in
          omega arith
      | inr a ↦
          let below = one_place f g n i (omega arith) same in
          let last : f n ≡ g n = same n (λ e. a (sym e)) in
          omega arith
    ]

votes_of_slot : (votes : Votes) (slot : ℕ) → length (votes_at votes slot) ≡ sum_by (λ (cell : ℕ). one_if (is_in votes slot cell)) (range_with_len 0 votes.cells)
unfolding votes_at
votes_of_slot votes slot = length-filter (is_in votes slot) (range_with_len 0 votes.cells)

-- the votes of the slot
slot_count_follows : (old new : Votes) (slot cell : ℕ) (value : Bool) → cell < old.cells → ChangesVote old new slot cell value
    → length (votes_at new slot) + one_if (is_in old slot cell) ≡ length (votes_at old slot) + one_if (is_in new slot cell)
slot_count_follows old new slot cell value c writes =
    let f = λ (k : ℕ). one_if (is_in old slot k) in
    let g = λ (k : ℕ). one_if (is_in new slot k) in
    let before = votes_of_slot old slot in
    let after : length (votes_at new slot) ≡ sum_by g (range_with_len 0 old.cells)
    = votes_of_slot new slot ∙ ap (λ (n : ℕ). sum_by g (range_with_len 0 n)) writes.cells in
    let both = one_place f g old.cells cell c (λ other ne. ap one_if (sym (writes.other_cells other ne))) in
    omega arith

-- another slot has the votes that it had
same_slot : (old new : Votes) (slot cell : ℕ) (value : Bool) → ChangesVote old new slot cell value → (other : ℕ) → other ≢ slot
    → length (votes_at new other) ≡ length (votes_at old other)
same_slot old new slot cell value writes other ne =
    votes_of_slot new other ∙ ap (λ (n : ℕ). sum_by (λ (k : ℕ). one_if (is_in new other k)) (range_with_len 0 n)) writes.cells
    ∙ same_sums _ _ old.cells (λ k h. ap one_if (writes.other_slots other k ne)) ∙ sym (votes_of_slot old other)

-- all votes
pub count_follows : (old new : Votes) (slot cell : ℕ) (value : Bool) → slot < old.slots → cell < old.cells → ChangesVote old new slot cell value
    → vote_count new + one_if (is_in old slot cell) ≡ vote_count old + one_if value
unfolding vote_count
count_follows old new slot cell value s c writes =
    let f = λ (k : ℕ). length (votes_at old k) in
    let g = λ (k : ℕ). length (votes_at new k) in
    let after : vote_count new ≡ sum_by g (range_with_len 0 old.slots) = ap (λ (n : ℕ). sum_by g (range_with_len 0 n)) writes.slots in
    let both = one_place f g old.slots slot s (λ other ne. sym (same_slot old new slot cell value writes other ne)) in
    let here = slot_count_follows old new slot cell value c writes in
    let now : one_if (is_in new slot cell) ≡ one_if value = ap one_if writes.here in
    omega arith
