-- While a block's events are taken, the log is the beginning of the order that the answers pick.
use Rattle.std.proofs.lemmas.List.{length-append}
use Rattle.std.proofs.Common.{◌≡◌, ℕ, zero, suc, List, [], ◌∷◌, ◌++◌, Option, Some, None, IfSome, length, slice_get, refl, sym, ap, ◌∙◌, subst, arith, append-nil, append_assoc}
use Rattle.event_queue.proofs.PickLaws.{picked_order_step}
use Rattle.event_queue.specs.Agenda.{InTurn, without_event}
use Rattle.event_queue.specs.Picker.{answers_after, later_answers, picked_order, picked_place}
use Rattle.event_queue.specs.declared.event.Event.{Event}

-- of all events these are left behind a log, which has been picked so far
pub record IsPickedSoFar (told now : Option (ℕ → ℕ)) (all left log : List Event) : Type 0 where
  pub order : IfSome told (λ answers.
      picked_order all answers ≡ log ++ picked_order left (answers_after (length log) answers))
  pub later : IfSome told (λ answers. now ≡ Some (answers_after (length log) answers))

-- what an event that is picked asks of the answers before and after it
pub record IsPicked (now later : Option (ℕ → ℕ)) (left : List Event) (event : Event)
    : Type 0 where
  pub place : IfSome now (λ answers. slice_get left (picked_place left answers) ≡ Some event)
  pub rest : IfSome now (λ answers. later ≡ Some (later_answers answers))

pub none_picked : (told : Option (ℕ → ℕ)) (all : List Event) → IsPickedSoFar told told all all []
none_picked None all = record { order = tt; later = tt }
none_picked (Some answers) all = record { order = refl; later = refl }

behind_more : (n : ℕ) (answers : ℕ → ℕ)
    → answers_after (suc n) answers ≡ later_answers (answers_after n answers)
behind_more zero answers = refl
behind_more (suc n) answers = behind_more n (later_answers answers)

one_longer : (log : List Event) (event : Event) → length (log ++ event ∷ []) ≡ suc (length log)
one_longer log event = omega (arith, length-append log (event ∷ []))

pub one_more_picked : (told now later : Option (ℕ → ℕ)) (all left log : List Event)
    (event : Event) → InTurn left → IsPickedSoFar told now all left log
    → IsPicked now later left event
    → IsPickedSoFar told later all (without_event event left) (log ++ event ∷ [])
one_more_picked None now later all left log event turn so_far picked =
    record { order = tt; later = tt }
one_more_picked (Some answers) now later all left log event turn so_far picked = record {
  order =
      so_far.order
      ∙ ap (λ x. log ++ x) (picked_order_step left behind event turn picks.place)
      ∙ sym (append_assoc log (event ∷ []) _)
      ∙ ap (λ x. (log ++ event ∷ []) ++ picked_order (without_event event left) x) (sym next);
  later = picks.rest ∙ ap Some (sym next);
}
  where
    behind : ℕ → ℕ
    behind = answers_after (length log) answers

    picks : IsPicked (Some behind) later left event
    picks = subst (λ x. IsPicked x later left event) so_far.later picked

    next : answers_after (length (log ++ event ∷ [])) answers ≡ later_answers behind
    next =
        ap (λ n. answers_after n answers) (one_longer log event)
        ∙ behind_more (length log) answers

-- where none is left, the log is that order
pub all_picked : (told now : Option (ℕ → ℕ)) (all log : List Event)
    → IsPickedSoFar told now all [] log → IfSome told (λ answers. log ≡ picked_order all answers)
all_picked None now all log so_far = tt
all_picked (Some answers) now all log so_far = sym (so_far.order ∙ append-nil log)
