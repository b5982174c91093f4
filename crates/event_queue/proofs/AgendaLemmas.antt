-- What an agenda does to its events, as lists.
use Rattle.std.specs.List.{insert, remove}
use Rattle.std.specs.List.Sorted.{IsPartitionPoint, IsPartitionedBy}
use Rattle.std.specs.Result.{IsOk, is_ok}
use Rattle.std.proofs.lemmas.List.{drop_all, length-drop, get_or-drop}
use Rattle.std.proofs.lemmas.Option.{slice_get_read}
use Rattle.std.proofs.lemmas.List.Edits.{length-remove}
use Rattle.std.proofs.lemmas.List.Sorted.{length_permutation}
use Rattle.std.proofs.Common.{◌≡◌, ℕ, zero, suc, ◌+◌, ◌-◌, ◌<◌, ◌≤◌, List, [], ◌∷◌, drop, Some, slice_get, get_or, if◌then◌else◌, Result, Ok, Err, length, true, false, refl, sym, ap, ◌∙◌, arith}
use Rattle.event_queue.specs.declared.event.Event.{Event}
use Rattle.event_queue.specs.Agenda.{InTurn, inserted, due, EventQueue, with_event, without_place}
use Rattle.event_queue.proofs.DueLaws.{due_le}
use Rattle.event_queue.proofs.TurnLaws.{comes_ahead, inserted_permutes, partitioned_turn, inserted_place}

-- what a call that succeeds leaves
pub made : {A E B : Type 0} (r : Result A E) (new old : B) (with : B)
    → new ≡ (if is_ok r then with else old) → IsOk r → new ≡ with
made (Ok x) new old with is ok = is
made (Err e) new old with is ok = cc

-- what is seen of so much room and these events
abbrev pub queue_of : ℕ → List Event → EventQueue
queue_of capacity events = record { left = events; spare = capacity - length events }

-- one more
pub length-inserted : (e : Event) (es : List Event) → length (inserted e es) ≡ length es + 1
length-inserted e es = omega (arith, length_permutation _ _ (inserted_permutes e es))

pub added : (capacity : ℕ) (old new : List Event) (e : Event) → new ≡ inserted e old
    → queue_of capacity new ≡ with_event (queue_of capacity old) e
added capacity old new e is = λ i. record { left = is i; spare = fewer i }
  where
    fewer : capacity - length new ≡ capacity - length old - 1
    fewer = omega (arith, ap length is, length-inserted e old)

-- one fewer
pub removed : (capacity : ℕ) (old new : List Event) (place : ℕ) → new ≡ remove old place
    → place < length old → length old ≤ capacity
    → queue_of capacity new ≡ without_place (queue_of capacity old) place
removed capacity old new place is below fits = λ i. record { left = is i; spare = more i }
  where
    more : capacity - length new ≡ capacity - length old + 1
    more = omega (arith, ap length is, length-remove old place below)

-- an event behind all that come before it stands at its place
pub placed : (e : Event) (old new : List Event) (place : ℕ) → InTurn old → place ≤ length old
    → (IsPartitionedBy (comes_ahead e) old
    → IsPartitionPoint (λ f. comes_ahead e f ≡ true) (λ f. comes_ahead e f ≡ false) old place)
    → new ≡ insert old place e → new ≡ inserted e old
placed e old new place turn within split is =
    is ∙ sym (inserted_place e old place within (split (partitioned_turn e old turn)))

-- Events that were taken from the front.

-- the first that is left is taken out where one more is gone
pub removed_first : (n : ℕ) (es : List Event) → drop (suc n) es ≡ remove (drop n es) 0
removed_first zero [] = refl
removed_first zero (e ∷ es) = refl
removed_first (suc n) [] = refl
removed_first (suc n) (e ∷ es) = removed_first n es

-- one that is left is taken out behind those that are gone
pub removed_behind : (n : ℕ) (es : List Event) (i k : ℕ) → k ≡ n + i
    → drop n (remove es k) ≡ remove (drop n es) i
removed_behind zero es i k is = ap (remove es) (omega (arith, is))
removed_behind (suc n) [] i zero is = absurd (omega (arith, is))
removed_behind (suc n) [] zero (suc k) is = refl
removed_behind (suc n) [] (suc i) (suc k) is = refl
removed_behind (suc n) (e ∷ es) i zero is = absurd (omega (arith, is))
removed_behind (suc n) (e ∷ es) i (suc k) is = removed_behind n es i k (omega (arith, is))

-- none is left where the last is taken out
pub none_left : (n : ℕ) (es : List Event) → length es ≤ suc n → [] ≡ remove (drop n es) 0
none_left n es few = sym (drop_all (suc n) es few) ∙ removed_first n es

-- how many are left
pub left_count : (n : ℕ) (es : List Event) → n ≤ length es
    → length (drop n es) + n ≡ length es
left_count n es le = omega (arith, length-drop n es)

-- the place of an event that is due
pub place_of : (n : ℕ) (es : List Event) (i : ℕ) → n ≤ length es → i < due (drop n es)
    → n + i < length es
place_of n es i le below = omega (arith, due_le (drop n es), left_count n es le)

-- an event that is due, read at its place
pub is_left : (n : ℕ) (es : List Event) (i : ℕ) (e : Event) → i < due (drop n es)
    → e ≡ get_or es (n + i) e → slice_get (drop n es) i ≡ Some e
is_left n es i e below is =
    slice_get_read (drop n es) _ i e refl (omega (arith, below, due_le (drop n es)))
    (is ∙ sym (get_or-drop n es i e))
