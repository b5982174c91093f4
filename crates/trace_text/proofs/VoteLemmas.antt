-- The votes of a slot, one cell at a time.
use Rattle.std.proofs.Common.{◌≡◌, ℕ, suc, ◌+◌, ◌-◌, ◌<◌, ◌≤◌, Bool, true, false, not, cond, ◌==◌, ◌||◌, List, [], ◌∷◌, ◌++◌, length, codes, append_assoc, refl, ap, sym, ◌∙◌, arith, inl, inr}
use Rattle.std.specs.List.{filter, list_any, range_with_len}
use Rattle.std.proofs.lemmas.Bool.{cases_Bool, ne_eqb}
use Rattle.vote_pattern.specs.Votes.{Votes, votes_at, is_in}

-- none of a list passes exactly where what passes is nothing
pub none_passes : (p : ℕ → Bool) (xs : List ℕ) → not (list_any p xs) ≡ (length (filter p xs) == 0)
none_passes p [] = refl
none_passes p (x ∷ xs) =
    let shown : Bool → Bool = λ b. not (b || list_any p xs) in
    let listed : Bool → Bool = λ b. length (cond b (x ∷ filter p xs) (filter p xs)) == 0 in
    elim (cases_Bool (p x)) [
      | inl some ↦ ap shown some ∙ sym (ne_eqb (suc (length (filter p xs))) 0 (λ e. omega arith)) ∙ sym (ap listed some)
      | inr none ↦ ap shown none ∙ none_passes p xs ∙ sym (ap listed none)
    ]

-- what is left of a slot's votes, one cell at a time
pub votes_left : Votes → ℕ → ℕ → List ℕ
votes_left votes slot cell = filter (is_in votes slot) (range_with_len cell (votes.cells - cell))

pub votes_left_voted : (votes : Votes) (slot cell : ℕ) → cell < votes.cells → is_in votes slot cell ≡ true
    → votes_left votes slot cell ≡ cell ∷ votes_left votes slot (cell + 1)
unfolding votes_left
votes_left_voted votes slot cell below voted =
    let one : votes.cells - cell ≡ suc (votes.cells - (cell + 1)) = omega arith in
    let rest = filter (is_in votes slot) (range_with_len (cell + 1) (votes.cells - (cell + 1))) in
    ap (λ n. filter (is_in votes slot) (range_with_len cell n)) one ∙ ap (λ b. cond b (cell ∷ rest) rest) voted

pub votes_left_unvoted : (votes : Votes) (slot cell : ℕ) → cell < votes.cells → is_in votes slot cell ≡ false
    → votes_left votes slot cell ≡ votes_left votes slot (cell + 1)
unfolding votes_left
votes_left_unvoted votes slot cell below unvoted =
    let one : votes.cells - cell ≡ suc (votes.cells - (cell + 1)) = omega arith in
    let rest = filter (is_in votes slot) (range_with_len (cell + 1) (votes.cells - (cell + 1))) in
    ap (λ n. filter (is_in votes slot) (range_with_len cell n)) one ∙ ap (λ b. cond b (cell ∷ rest) rest) unvoted

pub votes_left_none : (votes : Votes) (slot cell : ℕ) → votes.cells ≤ cell → votes_left votes slot cell ≡ []
unfolding votes_left
votes_left_none votes slot cell past =
    let none : votes.cells - cell ≡ 0 = omega arith in
    ap (λ n. filter (is_in votes slot) (range_with_len cell n)) none

pub all_votes_left : (votes : Votes) (slot : ℕ) → votes_left votes slot 0 ≡ votes_at votes slot
unfolding votes_left votes_at
all_votes_left votes slot =
    let all : votes.cells - 0 ≡ votes.cells = omega arith in
    ap (λ n. filter (is_in votes slot) (range_with_len 0 n)) all

-- a name after a space, and what follows it
pub one_more_name : (line name rest : List ℕ) → ((line ++ codes " ") ++ name) ++ rest ≡ line ++ (32 ∷ (name ++ rest))
one_more_name line name rest = append_assoc (line ++ codes " ") name rest ∙ append_assoc line (codes " ") (name ++ rest)
