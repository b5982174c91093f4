-- What a try of one vote leaves.
use Rattle.std.proofs.Common.{◌≡◌, ◌≢◌, ◌↔◌, Option, ℕ, ◌+◌, ◌*◌, ◌<◌, Bool, true, false, not, ◌&&◌, eqb, IsTrue, inl, inr, refl, sym, ◌∙◌, ap, ap₂, subst, arith}
use Rattle.std.proofs.lemmas.Bool.{cases_eq, cases_Bool, and_right, not-true, not_from_true, not_from_false, cond-true, cond-false}
use Rattle.std.proofs.Math.Bool.{and-true}
use Rattle.rcp_base.proofs.SearchLaws.{both_or_none}
use Rattle.rcp_model.specs.declared.node.Node.{Node}
use Rattle.rcp_model.specs.Walk.{Graph}
use Rattle.rcp_model.specs.Levels.{has_level_node}
use Rattle.rcp_model.specs.Thinning.{is_good, votes_without, without, thinned_at}
use Rattle.task_graph.specs.Rows.{Rows}
use Rattle.vote_pattern.specs.Votes.{Votes, ChangesVote, AreVotesOf, is_in, vote_count}
use Rattle.vote_pattern.specs.Laws.{one_if}
use Rattle.vote_pattern.proofs.CountLaws.{count_follows}
use Rattle.recovery_analysis.specs.Graphs.{graph_of, IsOneSize}
use Rattle.rcp_model.specs.Node.{make_node}
use Rattle.rcp_model.specs.Walk.{IsNode}
use Rattle.rcp_model.proofs.OrderLaws.{same_node, other_node}
use Rattle.pattern_thinning.specs.inner.Reach.{IsOnWalk, step_limit}
use Rattle.rcp_model.proofs.AlikeLaws.{IsAlike, HasSameVotes}
use Rattle.pattern_thinning.proofs.GoodLemmas.{alike_voting, good_by_steps, same_good}
use Rattle.pattern_thinning.proofs.ReachLemmas.{new_walk_is_through, walk_through}

-- the vote that is taken away, and another
pub without_here : (votes : ℕ → ℕ → Bool) (n : Node) (s c : ℕ) → make_node s c ≡ n → votes_without votes n s c ≡ false
without_here votes n s c e = elim (cases_Bool (eqb s n.slot && eqb c n.cell)) [
  | inl is ↦ and_right (votes s c) (not (eqb s n.slot && eqb c n.cell)) (not_from_true (eqb s n.slot && eqb c n.cell) is)
  | inr is_not ↦ absurd (other_node (make_node s c) n is_not e)
]

pub without_other : (votes : ℕ → ℕ → Bool) (n : Node) (s c : ℕ) → make_node s c ≢ n → votes_without votes n s c ≡ votes s c
without_other votes n s c ne = elim (cases_Bool (eqb s n.slot && eqb c n.cell)) [
  | inl is ↦ absurd (ne (same_node (make_node s c) n is))
  | inr is_not ↦ ap (λ (b : Bool). votes s c && b) (not_from_false (eqb s n.slot && eqb c n.cell) is_not) ∙ and-true (votes s c)
]

-- votes that are no longer those of one node, and else as before
without_is : (votes new : ℕ → ℕ → Bool) (n : Node) → new n.slot n.cell ≡ false → ((s c : ℕ) → make_node s c ≢ n → new s c ≡ votes s c) → (s c : ℕ) → new s c ≡ votes_without votes n s c
without_is votes new n here others s c = elim (cases_Bool (eqb s n.slot && eqb c n.cell)) [
  | inl is ↦
      let e : make_node s c ≡ n = same_node (make_node s c) n is in
      ap (λ (m : Node). new m.slot m.cell) e ∙ here ∙ sym (without_here votes n s c e)
  | inr is_not ↦
      let ne : make_node s c ≢ n = other_node (make_node s c) n is_not in
      others s c ne ∙ sym (without_other votes n s c ne)
]

-- one vote written leaves the votes of other nodes
writes_others : (old new : Votes) (n : Node) (value : Bool) → ChangesVote old new n.slot n.cell value → (s c : ℕ) → make_node s c ≢ n → is_in new s c ≡ is_in old s c
writes_others old new n value w s c ne = elim (cases_eq s n.slot) [
  | inr other_slot ↦ w.other_slots s c other_slot
  | inl same ↦
      let other : c ≢ n.cell = λ e. ne (ap₂ make_node same e) in
      ap (λ (x : ℕ). is_in new x c) same ∙ w.other_cells c other ∙ ap (λ (x : ℕ). is_in old x c) (sym same)
]

module _ (limit : Option ℕ) where
  -- what a try leaves, whether the vote is kept or taken
  kept : (g : Graph) (n : Node) (votes : Votes) → is_good limit (without g n) ≡ false → AreVotesOf g votes → AreVotesOf (thinned_at limit g n) votes
  kept g n votes e are = subst (λ (h : Graph). AreVotesOf h votes) (sym (cond-false (is_good limit (without g n)) (without g n) g e)) are

  taken : (g : Graph) (n : Node) (votes : Votes) → is_good limit (without g n) ≡ true → AreVotesOf (without g n) votes → AreVotesOf (thinned_at limit g n) votes
  taken g n votes e are = subst (λ (h : Graph). AreVotesOf h votes) (sym (cond-true (is_good limit (without g n)) (without g n) g e)) are

  -- a try on one graph and on another that is the same in range leaves the same
  pub try_alike : (g h : Graph) (n : Node) (votes : Votes) → IsAlike g h → HasSameVotes g h → AreVotesOf (thinned_at limit g n) votes → AreVotesOf (thinned_at limit h n) votes
  try_alike g h n votes a same are =
      let slots : h.slots ≡ g.slots = a.slots in
      let cells : h.cells ≡ g.cells = a.cells in
      let good = is_good limit (without g n) in
      let same_without : HasSameVotes (without g n) (without h n) = λ s c p q. ap (λ (b : Bool). b && not (eqb s n.slot && eqb c n.cell)) (same s c p q) in
      let both : good ≡ is_good limit (without h n) = same_good limit (without g n) (without h n) (record { slots = a.slots; cells = a.cells; feeds = a.feeds }) same_without in
      elim (cases_Bool good) [
        | inl well ↦
            let as_g = subst (λ (k : Graph). AreVotesOf k votes) (cond-true good (without g n) g well) are in
            taken h n votes (sym both ∙ well) (record {
              slots = as_g.slots ∙ sym a.slots;
              cells = as_g.cells ∙ sym a.cells;
              each = λ s c p q. as_g.each s c (omega arith) (omega arith) ∙ sym (same_without s c (omega arith) (omega arith));
            })
        | inr bad ↦
            let as_g = subst (λ (k : Graph). AreVotesOf k votes) (cond-false good (without g n) g bad) are in
            kept h n votes (sym both ∙ bad) (record {
              slots = as_g.slots ∙ sym a.slots;
              cells = as_g.cells ∙ sym a.cells;
              each = λ s c p q. as_g.each s c (omega arith) (omega arith) ∙ sym (same s c (omega arith) (omega arith));
            })
      ]

module _ (limit : Option ℕ) (rows : Rows) (old : Votes) (n : Node) where
  abbrev graph : Graph
  graph = graph_of rows old

  -- a vote that is not there is taken: nothing changes
  pub absent_is_taken : IsOneSize rows old → is_in old n.slot n.cell ≡ false → is_good limit graph ≡ true → AreVotesOf (thinned_at limit graph n) old
  absent_is_taken size absent good =
      let same : (s c : ℕ) → is_in old s c ≡ votes_without (is_in old) n s c = without_is (is_in old) (is_in old) n absent (λ s c ne. refl) in
      taken limit graph n old
      (sym (same_good limit graph (without graph n) (alike_voting graph (votes_without (is_in old) n)) (λ s c p q. sym (same s c))) ∙ good)
      (record { slots = sym size.slots; cells = sym size.cells; each = λ s c p q. same s c })

  module _ (cleared : Votes) (w : ChangesVote old cleared n.slot n.cell false) where
    -- whether a good pattern is left is what the search answers
    pub search_decides : is_good limit graph ≡ true → (k : ℕ) → k ≡ step_limit limit (rows.slots * rows.cells) → (found : Bool) → (IsTrue found ↔ IsOnWalk (graph_of rows cleared) k n)
        → is_good limit (graph_of rows cleared) ≡ not found
    search_decides good k is found decides =
        let h = graph_of rows cleared in
        good_by_steps limit h
        ∙ ap (λ (i : ℕ). not (has_level_node h i)) (sym is)
        ∙ ap not (both_or_none (has_level_node h k) found
        (λ t. decides.1 (new_walk_is_through graph h n k (record { slots = refl; cells = refl; feeds = λ s d c p q r. refl })
        (λ m ne e. sym (writes_others old cleared n false w m.slot m.cell ne) ∙ e)
        (ap (has_level_node graph) is ∙ not-true (has_level_node graph (step_limit limit (rows.slots * rows.cells))) (sym (good_by_steps limit graph) ∙ good)) t))
        (λ t. walk_through h n k (decides.0 t)))

    cleared_is_without : (s c : ℕ) → is_in cleared s c ≡ votes_without (is_in old) n s c
    cleared_is_without = without_is (is_in old) (is_in cleared) n w.here (writes_others old cleared n false w)

    without_good : is_good limit (without graph n) ≡ is_good limit (graph_of rows cleared)
    without_good = same_good limit (without graph n) (graph_of rows cleared) (alike_voting (without graph n) (is_in cleared)) (λ s c p q. cleared_is_without s c)

    pub cleared_is_taken : IsOneSize rows old → is_good limit (graph_of rows cleared) ≡ true → AreVotesOf (thinned_at limit graph n) cleared
    cleared_is_taken size good =
        taken limit graph n cleared (without_good ∙ good)
        (record { slots = w.slots ∙ sym size.slots; cells = w.cells ∙ sym size.cells; each = λ s c p q. cleared_is_without s c })

    pub count_taken : IsOneSize rows old → IsNode graph n → is_in old n.slot n.cell ≡ true → vote_count cleared + 1 ≡ vote_count old
    count_taken size node voted =
        let slots : rows.slots ≡ old.slots = size.slots in
        let cells : rows.cells ≡ old.cells = size.cells in
        let slot_in : n.slot < rows.slots = node.slot_in in
        let cell_in : n.cell < rows.cells = node.cell_in in
        let less = count_follows old cleared n.slot n.cell false (omega arith) (omega arith) w in
        let one : one_if (is_in old n.slot n.cell) ≡ 1 = ap one_if voted in
        omega arith

    module _ (new : Votes) (back : ChangesVote cleared new n.slot n.cell true) (voted : is_in old n.slot n.cell ≡ true) where
      -- the vote is written back
      back_again : (s c : ℕ) → is_in new s c ≡ is_in old s c
      back_again s c = elim (cases_Bool (eqb s n.slot && eqb c n.cell)) [
        | inl is ↦
            let e : make_node s c ≡ n = same_node (make_node s c) n is in
            ap (λ (m : Node). is_in new m.slot m.cell) e ∙ back.here ∙ sym voted ∙ ap (λ (m : Node). is_in old m.slot m.cell) (sym e)
        | inr is_not ↦
            let ne : make_node s c ≢ n = other_node (make_node s c) n is_not in
            writes_others cleared new n true back s c ne ∙ writes_others old cleared n false w s c ne
      ]

      pub back_is_kept : IsOneSize rows old → is_good limit (graph_of rows cleared) ≡ false → AreVotesOf (thinned_at limit graph n) new
      back_is_kept size bad =
          kept limit graph n new (without_good ∙ bad)
          (record { slots = back.slots ∙ w.slots ∙ sym size.slots; cells = back.cells ∙ w.cells ∙ sym size.cells; each = λ s c p q. back_again s c })

      pub back_is_good : is_good limit graph ≡ true → is_good limit (graph_of rows new) ≡ true
      back_is_good good = sym (same_good limit graph (graph_of rows new) (alike_voting graph (is_in new)) (λ s c p q. back_again s c)) ∙ good

      pub count_kept : IsOneSize rows old → IsNode graph n → vote_count new ≡ vote_count old
      count_kept size node =
          let slots : rows.slots ≡ old.slots = size.slots in
          let cells : rows.cells ≡ old.cells = size.cells in
          let slots_too : cleared.slots ≡ old.slots = w.slots in
          let cells_too : cleared.cells ≡ old.cells = w.cells in
          let slot_in : n.slot < rows.slots = node.slot_in in
          let cell_in : n.cell < rows.cells = node.cell_in in
          let less = count_taken size node voted in
          let more = count_follows cleared new n.slot n.cell true (omega arith) (omega arith) back in
          let none : one_if (is_in cleared n.slot n.cell) ≡ 0 = ap one_if w.here in
          omega arith
