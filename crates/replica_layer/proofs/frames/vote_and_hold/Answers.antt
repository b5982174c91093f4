use Rattle.std.proofs.Common.{◌≡◌, refl, sym, ◌∙◌, ap, ap₂, get_or, ℕ, ℤ, List, map, subst}
use Rattle.rcp_base.specs.Tables.{table}
use Rattle.rcp_model.specs.Messages.{letter_to}
use Rattle.rcp_model.specs.System.{fresh_letter, next_state}
use Rattle.rcp_model.specs.Uniprocessor.{ProcessorState}
use Rattle.vote_pattern.specs.Votes.{is_in}
use Rattle.replica_parts.specs.declared.ballot.Ballot.{Ballot}
use Rattle.replica_parts.specs.Ballots.{AreBallots, IsBallotOrNone, ballot_now, heard_by}
use Rattle.replica_parts.specs.Places.{letter_rows, post_at}
use Rattle.replica_parts.specs.States.{message_of, no_content, no_state, state_after_compute}
use Rattle.replica_layer.proofs.NextLemmas.{ballot_next, fresh_table, held_next, post_is}
use Rattle.replica_layer.proofs.frames.vote_and_hold.Goals as goal

pub returns-clause-fresh : goal.returns-clause-fresh
returns-clause-fresh c = λ plan state h f.
    let votes_are = c.votes_of_a_pattern_are_the_plans.ensures plan c.args.layer.now.votes h.setting.rules h.votes in
    let computed_is : c.as_slice-2.result.now ≡ map (state_after_compute plan c.args.input.now.sensors) c.args.layer.now.held.items =
    c.as_slice-2.ensures.value ∙ c.compute_all.ensures.computed plan h.code
    ∙ ap₂ (λ (s : List ℤ) (xs : List ProcessorState). map (state_after_compute plan s) xs) c.sensors.ensures c.as_slice.ensures.value in
    let own_is : c.as_slice-3.result.now ≡ map (message_of plan (is_in c.args.layer.now.votes)) c.as_slice-2.result.now =
    c.as_slice-3.ensures.value ∙ c.write_owns.ensures.own plan h.setting in
    c.write_rows.ensures.letters plan h.setting
    ∙ ap (λ (n : ℕ). table plan.replicas (λ q. table plan.replicas (λ p. letter_to plan n c.args.input.now (get_or c.as_slice-3.result.now p no_content) p q))) h.done
    ∙ fresh_table plan c.args.input.now state (is_in c.args.layer.now.votes) c.args.layer.now.held.items c.as_slice-2.result.now c.as_slice-3.result.now votes_are h.replicas computed_is own_is

pub returns-clause-ballots : goal.returns-clause-ballots
returns-clause-ballots c = λ plan state h f q d lt.
    let votes_are = c.votes_of_a_pattern_are_the_plans.ensures plan c.args.layer.now.votes h.setting.rules h.votes in
    let computed_is : c.as_slice-4.result.now ≡ map (state_after_compute plan c.args.input.now.sensors) c.args.layer.now.held.items =
    c.as_slice-4.ensures.value ∙ c.compute_all.ensures.computed plan h.code
    ∙ ap₂ (λ (s : List ℤ) (xs : List ProcessorState). map (state_after_compute plan s) xs) c.sensors.ensures c.as_slice.ensures.value in
    let own_is : c.as_slice-5.result.now ≡ map (message_of plan (is_in c.args.layer.now.votes)) c.as_slice-4.result.now =
    c.as_slice-5.ensures.value ∙ c.write_owns.ensures.own plan h.setting ∙ ap (map (message_of plan (is_in c.args.layer.now.votes))) (c.as_slice-2.ensures.value ∙ sym c.as_slice-4.ensures.value) in
    ballot_next plan c.args.input.now state (is_in c.args.layer.now.votes) c.args.layer.now.held.items c.as_slice-4.result.now c.as_slice-5.result.now votes_are h.replicas computed_is own_is
    (post_at c.as_slice-6.result.now) (post_at c.as_slice-7.result.now)
    (λ r p below inside. post_is c.as_slice-6.result.now plan.replicas (fresh_letter plan state c.args.input.now) r p (ap letter_rows c.as_slice-6.ensures.value ∙ returns-clause-fresh c plan state h f) below inside)
    (λ r p below inside. post_is c.as_slice-7.result.now plan.replicas state.letters r p (ap letter_rows c.as_slice-7.ensures.value ∙ h.letters) below inside)
    q (get_or c.vote_all.new.ballots.items q d) lt
    (subst (λ (n : ℕ). IsBallotOrNone plan.replicas (get_or c.vote_all.new.ballots.items q d) (ballot_now plan (is_in c.args.layer.now.votes) c.args.input.now q (get_or c.as_slice-4.result.now q no_state)
    (heard_by plan n c.args.input.now q (get_or c.as_slice-5.result.now q no_content) (post_at c.as_slice-6.result.now q) (post_at c.as_slice-7.result.now q)))) h.done
    (c.vote_all.ensures.ballots plan h.setting q d lt))

pub returns-clause-held : goal.returns-clause-held
returns-clause-held c = λ plan state h f.
    c.hold_all.ensures.held plan (next_state plan state c.args.input.now).ballots h.setting
    (subst (λ (xs : List Ballot). AreBallots plan.replicas xs (next_state plan state c.args.input.now).ballots) (sym c.as_slice-8.ensures.value) (returns-clause-ballots c plan state h f))
    ∙ held_next plan c.args.input.now state c.args.layer.now.held.items h.replicas

pub returns-clause-done : goal.returns-clause-done
returns-clause-done c = refl
