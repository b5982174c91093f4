-- How often a move stands in a list of events.
use Rattle.std.specs.List.{flat_map, range_with_len, AllByRecursion}
use Rattle.std.proofs.lemmas.Bool.{cases_eq}
use Rattle.std.proofs.lemmas.List.Recursion.{is_count_by}
use Rattle.std.proofs.lemmas.List.Sorted.{sum_by-IsPermutation}
use Rattle.std.proofs.Common.{◌≡◌, ℕ, zero, suc, ◌+◌, ◌<◌, ◌≤◌, Bool, true, false, cond, ◌==◌, List, [], ◌∷◌, ◌++◌, ◌⊎◌, inl, inr, IsPermutation, refl, sym, ap, ap₂, ◌∙◌, arith}
use Rattle.clocked_layer.proofs.Moves.{Arrives, Arrives_late, Begins, Move, Sends, Syncs, Votes, same_move, same_move_refl, same_move_true}
use Rattle.event_queue.specs.declared.event.Event.{Event}
use Rattle.event_queue.specs.declared.event.EventKind.{EventKind}
use Rattle.event_queue.specs.declared.event.EventKind.TheVariants.{Begin, Deliver, Send, Sync, Vote}

-- a fact of all items of two lists, and of all that pieces have
pub all_append : (P : Event → Type 0) (xs ys : List Event)
    → AllByRecursion P xs → AllByRecursion P ys → AllByRecursion P (xs ++ ys)
all_append P [] ys p q = q
all_append P (x ∷ xs) ys p q = (p.0, all_append P xs ys p.1 q)

pub all_flat : (P : Event → Type 0) (piece : ℕ → List Event) (numbers : List ℕ)
    → ((n : ℕ) → AllByRecursion P (piece n)) → AllByRecursion P (flat_map piece numbers)
all_flat P piece [] h = tt
all_flat P piece (n ∷ numbers) h =
    all_append P (piece n) (flat_map piece numbers) (h n) (all_flat P piece numbers h)

pub all_both : (P Q : Event → Type 0) (events : List Event)
    → AllByRecursion P events → AllByRecursion Q events
    → AllByRecursion (λ e. P e × Q e) events
all_both P Q [] p q = tt
all_both P Q (e ∷ events) p q = ((p.0, q.0), all_both P Q events p.1 q.1)

module _ (done : ℕ) where
  abbrev move_by : EventKind → Event → Move
  move_by Begin e = Begins e.replica
  move_by Send e = Sends e.replica
  move_by Deliver e =
      cond (e.frame == done) (Arrives e.replica e.other) (Arrives_late e.replica e.other)
  move_by Vote e = Votes e.replica
  move_by Sync e = Syncs e.replica

  -- the move that an event of the block after so many frames is
  abbrev pub move_of : Event → Move
  move_of e = move_by e.kind e

  abbrev pub count : Move → List Event → ℕ
  count move [] = 0
  count move (e ∷ events) =
      cond (same_move move (move_of e)) (1 + count move events) (count move events)

  pub count_permutation : (move : Move) (xs ys : List Event) → IsPermutation xs ys
      → count move xs ≡ count move ys
  count_permutation move xs ys h =
      is_count_by (count move) (λ e. same_move move (move_of e)) refl (λ _ _. refl) xs
      ∙ sym (sum_by-IsPermutation (λ e. cond (same_move move (move_of e)) 1 0) xs ys h)
      ∙ sym (is_count_by (count move) (λ e. same_move move (move_of e)) refl (λ _ _. refl) ys)

  -- a move that is counted stands there, with a fact that each event there has
  pub found : (P : Event → Type 0) (move : Move) (events : List Event) → AllByRecursion P events
      → 0 < count move events → (e : Event) × P e × (move ≡ move_of e)
  found P move [] all h = absurd (omega arith)
  found P move (e ∷ events) all h =
      go (same_move move (move_of e)) refl h (found P move events all.1)
    where
      go : (t : Bool) → same_move move (move_of e) ≡ t
          → 0 < cond t (1 + count move events) (count move events)
          → (0 < count move events → (f : Event) × P f × (move ≡ move_of f))
          → (f : Event) × P f × (move ≡ move_of f)
      go true same h later = (e, all.0, same_move_true _ _ same)
      go false same h later = later h

  pub count_one : (move : Move) (e : Event) → move ≡ move_of e → count move (e ∷ []) ≡ 1
  count_one move e h =
      ap (λ t. cond t (1 + 0) 0) (ap (same_move move) (sym h) ∙ same_move_refl move)

  pub count_append : (move : Move) (xs ys : List Event)
      → count move (xs ++ ys) ≡ count move xs + count move ys
  count_append move [] ys = omega arith
  count_append move (e ∷ xs) ys = go (same_move move (move_of e)) (count_append move xs ys)
    where
      go : (t : Bool) → count move (xs ++ ys) ≡ count move xs + count move ys
          → cond t (1 + count move (xs ++ ys)) (count move (xs ++ ys))
          ≡ cond t (1 + count move xs) (count move xs) + count move ys
      go true h = omega arith
      go false h = h

  -- a move that differs from all in a list in one respect does not stand there
  pub elsewhere : {X : Type 0} (g : Move → X) (v : X) (move : Move) (events : List Event)
      → (g move ≡ v → ⊥) → AllByRecursion (λ e. g (move_of e) ≡ v) events
      → count move events ≡ 0
  elsewhere g v move [] other all = refl
  elsewhere g v move (e ∷ events) other all =
      go (same_move move (move_of e)) refl (elsewhere g v move events other all.1)
    where
      go : (t : Bool) → same_move move (move_of e) ≡ t → count move events ≡ 0
          → cond t (1 + count move events) (count move events) ≡ 0
      go true same h = absurd (other (ap g (same_move_true _ _ same) ∙ all.0))
      go false same h = h

  -- in pieces by number, of which one alone has the move, it stands as often as in that one
  module _ (move : Move) (piece : ℕ → List Event) (at : ℕ)
      (others : (n : ℕ) → (n ≡ at → ⊥) → count move (piece n) ≡ 0) where
    count_past : (n from : ℕ) → at < from
        → count move (flat_map piece (range_with_len from n)) ≡ 0
    count_past zero from h = refl
    count_past (suc n) from h =
        count_append move (piece from) (flat_map piece (range_with_len (from + 1) n))
        ∙ ap₂ (λ x y. x + y) (others from (λ e. omega arith))
        (count_past n (from + 1) (omega arith))

    pub count_in : (n from : ℕ) → from ≤ at → at < from + n
        → count move (flat_map piece (range_with_len from n)) ≡ count move (piece at)
    count_in zero from h i = absurd (omega arith)
    count_in (suc n) from h i =
        count_append move (piece from) (flat_map piece (range_with_len (from + 1) n))
        ∙ go (cases_eq from at) (count_in n (from + 1))
      where
        rest : ℕ
        rest = count move (flat_map piece (range_with_len (from + 1) n))

        go : (from ≡ at) ⊎ (from ≡ at → ⊥)
            → (from + 1 ≤ at → at < (from + 1) + n → rest ≡ count move (piece at))
            → count move (piece from) + rest ≡ count move (piece at)
        go (inl e) later =
            let z : rest ≡ 0 = count_past n (from + 1) (omega arith) in
            let same : count move (piece from) ≡ count move (piece at)
            = ap (λ x. count move (piece x)) e in
            omega arith
        go (inr other) later =
            let z : rest ≡ count move (piece at) = later (omega arith) (omega arith) in
            let none : count move (piece from) ≡ 0 = others from other in
            omega arith
