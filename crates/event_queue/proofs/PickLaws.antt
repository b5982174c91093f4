-- What answers pick is due, and picks each event once, in order.
use Rattle.std.specs.List.{All}
use Rattle.std.proofs.lemmas.Option.{gets}
use Rattle.std.proofs.lemmas.List.Sorted.{All-permutation, IsPermutation-refl, IsPermutation-sym, IsPermutation-trans, IsPermutation-cons, length_permutation}
use Rattle.std.proofs.lemmas.List.Elements.{recursion_from_All, All-from_recursion}
use Rattle.std.proofs.Common.{◌≡◌, ℕ, zero, suc, ◌+◌, ◌<◌, List, [], ◌∷◌, Some, IsPermutation, length, slice_index_or, slice_get, refl, ap, ◌∙◌, subst, arith}
use Rattle.event_queue.specs.declared.event.Event.{Event}
use Rattle.event_queue.specs.Event.{ComesBy, IsLogOf}
use Rattle.event_queue.specs.Agenda.{InTurn, without_event, due, IsDueIn}
use Rattle.event_queue.specs.Picker.{later_answers, picked_place, picked_event, picked_order_of, picked_order}
use Rattle.event_queue.proofs.TurnLaws.{taken_out, all_without, without_turn}
use Rattle.event_queue.proofs.DueLaws.{due_at, rises_first}

-- the place that is picked is that of a due event
pub picked_below : (left : List Event) (answers : ℕ → ℕ) → 0 < length left
    → picked_place left answers < due left
picked_below [] answers some = absurd (omega arith)
picked_below (first ∷ rest) answers some = omega arith

-- what is picked is due
pub picked_is_due : (other : Event) (left : List Event) (answers : ℕ → ℕ) → InTurn left
    → 0 < length left → IsDueIn left (picked_event other left answers)
picked_is_due other left answers turn some =
    due_at left (picked_place left answers) other turn (picked_below left answers some)

one_fewer : (e : Event) (left : List Event) → IsPermutation left (e ∷ without_event e left)
    → length left ≡ length (without_event e left) + 1
one_fewer e left out = omega (arith, length_permutation left (e ∷ without_event e left) out)

-- what is picked, and then what the later answers pick of the rest
pub picked_order_step : (left : List Event) (answers : ℕ → ℕ) (e : Event) → InTurn left
    → slice_get left (picked_place left answers) ≡ Some e
    → picked_order left answers ≡ e ∷ picked_order (without_event e left) (later_answers answers)
picked_order_step [] answers e turn at = grind (arith, gets)
picked_order_step (first ∷ rest) answers e turn at =
    ap (λ x. x ∷ picked_order_of (length rest) (without_event x (first ∷ rest)) later) is
    ∙ ap (λ n. e ∷ picked_order_of n (without_event e (first ∷ rest)) later) fewer
  where
    later : ℕ → ℕ
    later = later_answers answers

    read : (xs : List Event) (i : ℕ) (x d : Event) → slice_get xs i ≡ Some x
        → slice_index_or xs i d ≡ x
    read xs i x d h = grind (arith, gets)

    is : picked_event first (first ∷ rest) answers ≡ e
    is = read (first ∷ rest) (picked_place (first ∷ rest) answers) e first at

    due_one : IsDueIn (first ∷ rest) e
    due_one =
        subst (IsDueIn (first ∷ rest)) is
        (picked_is_due first (first ∷ rest) answers turn (omega arith))

    fewer : length rest ≡ length (without_event e (first ∷ rest))
    fewer = omega (arith, one_fewer e (first ∷ rest) (taken_out e (first ∷ rest) due_one.is_left))

-- a due event ahead of a log of the others
due_ahead : (left log : List Event) (e : Event) → IsDueIn left e
    → IsLogOf (without_event e left) log → IsLogOf left (e ∷ log)
due_ahead left log e is_due rest = record {
  holds =
      IsPermutation-trans _ _ _ (IsPermutation-cons e log (without_event e left) rest.holds)
      (IsPermutation-sym left (e ∷ without_event e left) (taken_out e left is_due.is_left));
  rises = rises_first e log (recursion_from_All (ComesBy e) log behind) rest.rises;
}
  where
    behind : All (ComesBy e) log
    behind =
        All-permutation (ComesBy e) (without_event e left) log
        (IsPermutation-sym log (without_event e left) rest.holds)
        (All-from_recursion (ComesBy e) (without_event e left)
        (all_without (ComesBy e) e left (recursion_from_All (ComesBy e) left is_due.first)))

picked_log_of : (n : ℕ) (left : List Event) (answers : ℕ → ℕ) → length left ≡ n → InTurn left
    → IsLogOf left (picked_order_of n left answers)
picked_log_of zero [] answers same turn = record { holds = IsPermutation-refl []; rises = tt }
picked_log_of zero (first ∷ rest) answers same turn = absurd (omega arith)
picked_log_of (suc n) [] answers same turn = absurd (omega arith)
picked_log_of (suc n) (first ∷ rest) answers same turn =
    let left : List Event = first ∷ rest in
    let e : Event = picked_event first left answers in
    let is_due : IsDueIn left e = picked_is_due first left answers turn (omega arith) in
    let fewer : length (without_event e left) ≡ n =
    omega (arith, one_fewer e left (taken_out e left is_due.is_left)) in
    due_ahead left _ e is_due
    (picked_log_of n (without_event e left) (later_answers answers) fewer
    (without_turn e left turn))

-- the order in which answers pick has each event, and never falls
pub picked_log : (left : List Event) (answers : ℕ → ℕ) → InTurn left
    → IsLogOf left (picked_order left answers)
picked_log left answers turn = picked_log_of (length left) left answers refl turn
