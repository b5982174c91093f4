-- What the steps of a frame leave is the next state.
use Rattle.std.proofs.Common.{◌≡◌, ℕ, ◌<◌, Bool, List, [], map, length, get_or, Option, None, sym, ap, ap₂, subst, ◌∙◌, inl, inr, arith, Vec}
use Rattle.std.proofs.lemmas.Bool.{cases_Bool, cond-true, cond-false}
use Rattle.std.proofs.lemmas.List.{get_or-map, length-map}
use Rattle.std.specs.Global.{Global}
use Rattle.rcp_base.specs.Message.{Content}
use Rattle.rcp_base.specs.Tables.{table}
use Rattle.rcp_base.proofs.FillLaws.{table_agree, map-table}
use Rattle.rcp_base.proofs.TableLaws.{get_or-table, length-table}
use Rattle.rcp_model.specs.declared.plan.PlanParts.{PlanParts}
use Rattle.rcp_model.specs.Ballot.{ballot_of}
use Rattle.rcp_model.specs.FrameRows.{FrameRows}
use Rattle.rcp_model.specs.Messages.{Letter, heard_message, is_up, is_voted, letter_to, own_message}
use Rattle.rcp_model.specs.System.{SystemState, ballot_in, computed_cells, end_of_frame, fresh_letter, heard_in, next_state, state_after_rows, still_on_its_way}
use Rattle.rcp_model.specs.Uniprocessor.{ProcessorState}
use Rattle.replica_parts.proofs.BallotLaws.{ballot_agrees}
use Rattle.replica_parts.specs.declared.ballot.Ballot.{Ballot}
use Rattle.replica_parts.specs.declared.post.Post.{Post}
use Rattle.replica_parts.specs.Ballots.{IsBallot, IsBallotOrNone, ballot_now, heard_by}
use Rattle.replica_parts.specs.Places.{letter_rows, post_at}
use Rattle.replica_parts.specs.States.{message_of, no_content, no_state, state_after_compute, state_after_vote}

module _ (plan : PlanParts) (rows : FrameRows) (state : SystemState) (held : List ProcessorState) (held_is : held ≡ table plan.replicas state.replicas) where
  pub held_at : (p : ℕ) → p < plan.replicas → get_or held p no_state ≡ state.replicas p
  held_at p lt = ap (λ (xs : List ProcessorState). get_or xs p no_state) held_is ∙ get_or-table plan.replicas state.replicas p no_state lt

  -- what is held is what the next state holds
  pub held_next : table plan.replicas (λ q. state_after_rows plan rows q (state_after_vote plan ((next_state plan state rows).ballots q) (get_or held q no_state))) ≡ table plan.replicas (next_state plan state rows).replicas
  unfolding next_state end_of_frame
  held_next = table_agree plan.replicas _ _ no_state (λ q lt. ap (state_after_rows plan rows q) (elim (cases_Bool (is_up plan rows q)) [
    | inl u ↦ ap (λ o. state_after_vote plan o (get_or held q no_state)) (cond-true _ _ _ u) ∙ sym (cond-true _ _ _ u)
    | inr d ↦ ap (λ o. state_after_vote plan o (get_or held q no_state)) (cond-false _ _ _ d) ∙ held_at q lt ∙ sym (cond-false _ _ _ d)
  ]))

module _ (plan : PlanParts) (rows : FrameRows) (state : SystemState) (votes : ℕ → ℕ → Bool) (held computed : List ProcessorState) (own : List Content)
    (votes_are : votes ≡ is_voted plan)
    (held_is : held ≡ table plan.replicas state.replicas)
    (computed_is : computed ≡ map (state_after_compute plan rows.sensors) held)
    (own_is : own ≡ map (message_of plan votes) computed) where
  held_size : length held ≡ plan.replicas
  held_size = ap length held_is ∙ length-table plan.replicas state.replicas

  computed_at : (p : ℕ) → p < plan.replicas → get_or computed p no_state ≡ state_after_compute plan rows.sensors (state.replicas p)
  computed_at p lt = ap (λ (xs : List ProcessorState). get_or xs p no_state) computed_is ∙ get_or-map (state_after_compute plan rows.sensors) held p no_state no_state (omega (arith, lt, held_size)) ∙ ap (state_after_compute plan rows.sensors) (held_at plan rows state held held_is p lt)

  computed_size : length computed ≡ plan.replicas
  computed_size = ap length computed_is ∙ length-map held (state_after_compute plan rows.sensors) ∙ held_size

  own_at : (p : ℕ) → p < plan.replicas → get_or own p no_content ≡ own_message plan (is_voted plan) (state.replicas p).slot (computed_cells plan rows (state.replicas p))
  own_at p lt = ap (λ (xs : List Content). get_or xs p no_content) own_is ∙ get_or-map (message_of plan votes) computed p no_state no_content (omega (arith, lt, computed_size)) ∙ ap₂ (message_of plan) votes_are (computed_at p lt)

  -- the letters that go out are those of the next state
  pub fresh_table : table plan.replicas (λ q. table plan.replicas (λ p. letter_to plan state.done rows (get_or own p no_content) p q)) ≡ table plan.replicas (λ q. table plan.replicas (fresh_letter plan state rows q))
  unfolding fresh_letter
  fresh_table = table_agree plan.replicas _ _ [] (λ q lt. table_agree plan.replicas _ _ None
      (λ p l. ap (λ (m : Content). letter_to plan state.done rows m p q) (own_at p l)))

  module _ (fresh late : ℕ → ℕ → Option Letter)
      (fresh_is : (q p : ℕ) → q < plan.replicas → p < plan.replicas → fresh q p ≡ fresh_letter plan state rows q p)
      (late_is : (q p : ℕ) → q < plan.replicas → p < plan.replicas → late q p ≡ state.letters q p) where
    heard_at : (q p : ℕ) → q < plan.replicas → p < plan.replicas → heard_by plan state.done rows q (get_or own q no_content) (fresh q) (late q) p ≡ heard_in plan state rows q p
    unfolding heard_in
    heard_at q p lt l =
        ap (λ (m : Content). heard_message plan state.done rows q p m (fresh q p) (late q p)) (own_at q lt)
        ∙ ap₂ (heard_message plan state.done rows q p (own_message plan (is_voted plan) (state.replicas q).slot (computed_cells plan rows (state.replicas q)))) (fresh_is q p lt l) (late_is q p lt l)

    -- the ballots are those of the next state
    pub ballot_next : (q : ℕ) (place : Ballot) → q < plan.replicas
        → IsBallotOrNone plan.replicas place (ballot_now plan votes rows q (get_or computed q no_state) (heard_by plan state.done rows q (get_or own q no_content) (fresh q) (late q)))
        → IsBallotOrNone plan.replicas place ((next_state plan state rows).ballots q)
    unfolding next_state end_of_frame ballot_now ballot_in
    ballot_next q place lt h = elim (cases_Bool (is_up plan rows q)) [
      | inl u ↦
          let heard = heard_by plan state.done rows q (get_or own q no_content) (fresh q) (late q) in
          let some = subst (IsBallotOrNone plan.replicas place) (cond-true _ _ _ u) h in
          let by_plan = subst (λ (v : ℕ → ℕ → Bool). IsBallot plan.replicas place (ballot_of plan v (get_or computed q no_state).slot (get_or computed q no_state).cells heard)) votes_are some.1 in
          let same = subst (λ (x : ProcessorState). IsBallot plan.replicas place (ballot_of plan (is_voted plan) x.slot x.cells heard)) (computed_at q lt) by_plan in
          subst (IsBallotOrNone plan.replicas place) (sym (cond-true _ _ _ u)) (some.0, ballot_agrees plan (is_voted plan) (state.replicas q).slot (computed_cells plan rows (state.replicas q)) place heard (heard_in plan state rows q) (λ p l. heard_at q p lt l) same)
      | inr d ↦ subst (IsBallotOrNone plan.replicas place) (sym (cond-false _ _ _ d)) (subst (IsBallotOrNone plan.replicas place) (cond-false _ _ _ d) h)
    ]

-- the letter at a place of rows that are a table
pub post_is : (rows : List (Vec Post Global)) (n : ℕ) (f : ℕ → ℕ → Option Letter) (q p : ℕ) → letter_rows rows ≡ table n (λ q. table n (f q)) → q < n → p < n → post_at rows q p ≡ f q p
post_is rows n f q p e lt l =
    ap (λ (xs : List (List (Option Letter))). get_or (get_or xs q []) p None) e
    ∙ ap (λ (xs : List (Option Letter)). get_or xs p None) (get_or-table n (λ q. table n (f q)) q [] lt)
    ∙ get_or-table n (f q) p None l

-- the letters that are still on their way are those of the next state
pub kept_table : (plan : PlanParts) (state : SystemState) (rows : FrameRows) → map (map (still_on_its_way plan state.done)) (table plan.replicas (λ q. table plan.replicas (fresh_letter plan state rows q)))
    ≡ table plan.replicas (λ q. table plan.replicas ((next_state plan state rows).letters q))
unfolding next_state end_of_frame
kept_table plan state rows =
    map-table (map (still_on_its_way plan state.done)) plan.replicas (λ q. table plan.replicas (fresh_letter plan state rows q)) [] []
    ∙ table_agree plan.replicas _ _ [] (λ q lt. map-table (still_on_its_way plan state.done) plan.replicas (fresh_letter plan state rows q) None None)
