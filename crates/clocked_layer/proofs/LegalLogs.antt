-- Each event of a legal log is due.
use Rattle.std.specs.List.{AllByRecursion}
use Rattle.std.proofs.lemmas.Int.{ints}
use Rattle.std.proofs.lemmas.List.Sorted.{All-permutation, IsPermutation-sym}
use Rattle.std.proofs.lemmas.List.Elements.{recursion_from_All, All-from_recursion}
use Rattle.std.proofs.Common.{◌≡◌, ℕ, ◌+◌, ◌-◌, ◌<ℤ◌, ◌≤ℤ◌, Bool, true, false, cond, nat_le, List, [], ◌∷◌, inl, inr, MatchBool, refl, sym, ap, ◌∙◌, subst, arith, leb-false}
use Rattle.clocked_layer.proofs.BlockEvents.{IsOneOf, all_events, once}
use Rattle.clocked_layer.proofs.Counts.{all_both, count, count_permutation, found, move_of}
use Rattle.clocked_layer.proofs.Moves.{InOrder, Marks, Move, Of, arrives, arrives_late, begins, mark, is_marked, is_marked_after, no_marks, none_is_marked, same_move, same_move_refl, same_move_true, sends, syncs, votes}
use Rattle.clocked_layer.proofs.Runs.{ComesFirst, IsRun}
use Rattle.clocked_layer.specs.Events.{IsLegalLog, delivery}
use Rattle.clocked_layer.specs.Ready.{IsTimely}
use Rattle.event_queue.specs.Event.{ComesBy, NeverFalls, RisesFrom, kind_rank}
use Rattle.event_queue.specs.declared.event.Event.{Event}
use Rattle.rcp_model.specs.FrameRows.{FrameRows}
use Rattle.rcp_model.specs.Messages.{Letter}
use Rattle.rcp_model.specs.System.{SystemState}
use Rattle.rcp_model.specs.declared.plan.PlanParts.{PlanParts}

-- the order, computed
in_order : (a b : Event) → ComesBy a b → InOrder a b
in_order a b h = go (nat_le (kind_rank a.kind) (kind_rank b.kind)) refl h
  where
    go : (t : Bool) → nat_le (kind_rank a.kind) (kind_rank b.kind) ≡ t → ComesBy a b
        → MatchBool t (a.tick ≤ℤ b.tick) (a.tick <ℤ b.tick)
    go true e (inl lt) = omega (arith, ints)
    go true e (inr both) = omega (arith, ints)
    go false e (inl lt) = lt
    go false e (inr both) = absurd (omega (arith, leb-false _ _ e))

comes_through : (a b c : Event) → ComesBy a b → ComesBy b c → ComesBy a c
comes_through a b c (inl h) (inl i) = inl (omega (arith, ints))
comes_through a b c (inl h) (inr i) = inl (omega (arith, ints))
comes_through a b c (inr h) (inl i) = inl (omega (arith, ints))
comes_through a b c (inr h) (inr i) = inr (h.0 ∙ i.0, omega arith)

pub all_after : (a b : Event) (log : List Event) → ComesBy a b → RisesFrom b log
    → AllByRecursion (ComesBy a) log
all_after a b [] h rises = tt
all_after a b (e ∷ log) h rises =
    let i = comes_through a b e h rises.0 in (i, all_after a e log i rises.1)

pub comes_by_itself : (a : Event) → ComesBy a a
comes_by_itself a = inr (refl, omega arith)

pub still_rises : (e : Event) (log : List Event) → RisesFrom e log → NeverFalls log
still_rises e [] h = tt
still_rises e (f ∷ log) h = h.1

module _ (plan : PlanParts) (rows : FrameRows) (state : SystemState) where
  -- a move is one event
  one_event : (move : Move) (e f : Event) → Of plan rows state move e → Of plan rows state move f
      → e ≡ f
  one_event move e f (begins q _) (begins _ _) = refl
  one_event move e f (sends q _) (sends _ _) = refl
  one_event move e f (arrives q p letter is _) (arrives _ _ other is' _) =
      let same : letter ≡ other = cc in
      ap (λ (x : Letter). delivery state.done q p x.arrival) same
  one_event move e f (arrives_late q p letter is) (arrives_late _ _ other is') =
      let same : letter ≡ other = cc in
      ap (λ (x : Letter). delivery (state.done - 1) q p x.arrival) same
  one_event move e f (votes q _) (votes _ _) = refl
  one_event move e f (syncs q _) (syncs _ _) = refl

  -- each move that has not happened stands once in what is left
  abbrev IsLeft : Marks → List Event → Type 0
  IsLeft marks log =
      (move : Move) (e : Event) → Of plan rows state move e
      → count state.done move log ≡ cond (is_marked marks move) 0 1

  none_left : (marks : Marks) (move : Move) → ◌≡◌ {A = ℕ} 0 (cond (is_marked marks move) 0 1)
      → is_marked marks move ≡ true
  none_left marks move = go (is_marked marks move)
    where
      go : (t : Bool) → ◌≡◌ {A = ℕ} 0 (cond t 0 1) → t ≡ true
      go true h = refl
      go false h = absurd (omega arith)

  run_from : (log : List Event) (marks : Marks) → AllByRecursion (IsOneOf plan rows state) log
      → IsLeft marks log → NeverFalls log → IsRun plan rows state marks log
  run_from [] marks all left rises = λ move e of. none_left marks move (left move e of)
  run_from (e ∷ log) marks all left rises = (
    now,
    all.0,
    first.0,
    due,
    run_from log (mark marks now) all.1 rest (still_rises e log rises),
  )
    where
      now : Move
      now = move_of state.done e

      go : (t : Bool) → 1 + count state.done now log ≡ cond t 0 1
          → (t ≡ false) × (count state.done now log ≡ 0)
      go true h = absurd (omega arith)
      go false h = (refl, omega arith)

      first : (is_marked marks now ≡ false) × (count state.done now log ≡ 0)
      first =
          go (is_marked marks now)
          (sym (ap (λ t. cond t (1 + count state.done now log) (count state.done now log))
          (same_move_refl now)) ∙ left now e all.0)

      due : ComesFirst plan rows state marks e
      due other f of unmarked =
          let n : count state.done other (e ∷ log) ≡ 1
          = left other f of ∙ ap (λ t. cond t 0 1) unmarked in
          let w = found state.done (λ g. IsOneOf plan rows state g × ComesBy e g) other (e ∷ log)
          (all_both (IsOneOf plan rows state) (ComesBy e) (e ∷ log) all
          (comes_by_itself e, all_after e e log (comes_by_itself e) rises)) (omega arith) in
          subst (InOrder e)
          (one_event other w.0 f (subst (λ x. Of plan rows state x w.0) (sym w.2) w.1.0) of)
          (in_order e w.0 w.1.1)

      rest : IsLeft (mark marks now) log
      rest other f of =
          pick (same_move other now) refl (left other f of)
          ∙ ap (λ t. cond t 0 1) (sym (is_marked_after marks now other))
        where
          pick : (t : Bool) → same_move other now ≡ t
              → cond t (1 + count state.done other log) (count state.done other log)
              ≡ cond (is_marked marks other) 0 1
              → count state.done other log ≡ cond (cond t true (is_marked marks other)) 0 1
          pick true same h =
              ap (λ x. count state.done x log) (same_move_true _ _ same) ∙ first.1
          pick false same h = h

  pub legal_run : IsTimely plan rows state → (log : List Event) → IsLegalLog plan state rows log
      → IsRun plan rows state no_marks log
  legal_run timely log legal =
      run_from log no_marks
      (recursion_from_All (IsOneOf plan rows state) log
      (All-permutation (IsOneOf plan rows state) _ _ (IsPermutation-sym _ _ legal.holds)
      (All-from_recursion _ _ (all_events plan rows state timely))))
      (λ move e of.
      count_permutation state.done move _ _ legal.holds
      ∙ once plan rows state timely move e of
      ∙ ap (λ t. cond t 0 1) (sym (none_is_marked move)))
      legal.rises
