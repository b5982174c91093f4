-- Events in order: one more of them, and one taken out.
use Rattle.std.specs.List.{All, AllByRecursion, Contains, insert, remove}
use Rattle.std.specs.List.Sorted.{IsPartitionPoint, IsPartitionedBy}
use Rattle.std.specs.Ordering.{is_lt}
use Rattle.std.proofs.lemmas.Bool.{both_ways}
use Rattle.std.proofs.lemmas.List.Sorted.{All-permutation, IsPermutation-refl, IsPermutation-sym, IsPermutation-trans, IsPermutation-cons, IsPermutation-append_left, IsPermutation-middle, IsPermutation-insert}
use Rattle.std.proofs.lemmas.List.Elements.{recursion_from_All, All-from_recursion, All-get_or}
use Rattle.std.proofs.lemmas.List.{get_or_default}
use Rattle.std.proofs.Common.{◌≡◌, ℕ, zero, suc, ◌-◌, ◌<◌, ◌≤◌, Bool, true, false, cond, List, [], ◌∷◌, ◌++◌, IsPermutation, length, get_or, slice_index_or, refl, sym, ap, ◌∙◌, subst, arith, append-nil}
use Rattle.event_queue.specs.declared.event.Event.{Event}
use Rattle.event_queue.specs.Event.{event_cmp, same_event}
use Rattle.event_queue.specs.Agenda.{inserted, in_turn_from, in_turn, InTurn, without_event}
use Rattle.event_queue.proofs.OrderLemmas.{same_event_true, same_event_refl, not_before_itself, one_of_two, before_order}

-- the second does not come before the first
abbrev pub IsBehind : Event → Event → Type 0
IsBehind a b = is_lt (event_cmp b a) ≡ false

-- what holds of all of a list, by what it follows from
pub weaken : (P Q : Event → Type 0) → ((e : Event) → P e → Q e) → (es : List Event)
    → AllByRecursion P es → AllByRecursion Q es
weaken P Q h [] all = tt
weaken P Q h (e ∷ es) all = (h e all.0, weaken P Q h es all.1)

swap_two : (e f : Event) (es : List Event) → IsPermutation (e ∷ f ∷ es) (f ∷ e ∷ es)
swap_two e f es = IsPermutation-insert (f ∷ es) 1 e

-- One more.

pub inserted_permutes : (e : Event) (es : List Event) → IsPermutation (inserted e es) (e ∷ es)
inserted_permutes e [] = IsPermutation-refl (e ∷ [])
inserted_permutes e (f ∷ fs) = go (is_lt (event_cmp f e)) (inserted_permutes e fs)
  where
    go : (t : Bool) → IsPermutation (inserted e fs) (e ∷ fs)
        → IsPermutation (cond t (f ∷ inserted e fs) (e ∷ f ∷ fs)) (e ∷ f ∷ fs)
    go true h = IsPermutation-trans _ _ _ (IsPermutation-cons f _ _ h) (swap_two f e fs)
    go false h = IsPermutation-refl (e ∷ f ∷ fs)

in_turn_from_permutes : (done es : List Event) → IsPermutation (in_turn_from done es) (done ++ es)
in_turn_from_permutes done [] =
    subst (IsPermutation done) (sym (append-nil done)) (IsPermutation-refl done)
in_turn_from_permutes done (e ∷ es) =
    IsPermutation-trans _ _ _ (in_turn_from_permutes (inserted e done) es)
    (IsPermutation-trans _ _ _ (IsPermutation-append_left es _ _ (inserted_permutes e done))
    (IsPermutation-sym _ _ (IsPermutation-middle done e es)))

-- bringing events into order only moves them
pub in_turn_permutes : (es : List Event) → IsPermutation (in_turn es) es
in_turn_permutes es = in_turn_from_permutes [] es

pub all_inserted : (P : Event → Type 0) (e : Event) (es : List Event) → P e → AllByRecursion P es
    → AllByRecursion P (inserted e es)
all_inserted P e es p all =
    recursion_from_All P _ (All-permutation P _ _ (IsPermutation-sym _ _ (inserted_permutes e es))
    (All-from_recursion P (e ∷ es) (p, all)))

-- an event at its place leaves them in order
pub inserted_turn : (e : Event) (es : List Event) → InTurn es → InTurn (inserted e es)
inserted_turn e [] turn = (tt, tt)
inserted_turn e (f ∷ fs) turn = go (is_lt (event_cmp f e)) refl (inserted_turn e fs turn.1)
  where
    go : (t : Bool) → is_lt (event_cmp f e) ≡ t → InTurn (inserted e fs)
        → InTurn (cond t (f ∷ inserted e fs) (e ∷ f ∷ fs))
    go true is rest = (all_inserted (IsBehind f) e fs (before_order.one_way f e is) turn.0, rest)
    go false is rest =
        let behind = λ (g : Event) (h : IsBehind f g). before_order.chain g f e h is in
        ((is, weaken (IsBehind f) (IsBehind e) behind fs turn.0), turn)

in_turn_from_turn : (done es : List Event) → InTurn done → InTurn (in_turn_from done es)
in_turn_from_turn done [] turn = turn
in_turn_from_turn done (e ∷ es) turn =
    in_turn_from_turn (inserted e done) es (inserted_turn e done turn)

pub in_turn_turn : (es : List Event) → InTurn (in_turn es)
in_turn_turn es = in_turn_from_turn [] es tt

-- By place.

-- each event is behind those at lower places
pub in_turn_at : (es : List Event) (i j : ℕ) (d : Event) → InTurn es → i ≤ j → j < length es
    → IsBehind (get_or es i d) (get_or es j d)
in_turn_at [] i j d turn le lt = absurd (omega arith)
in_turn_at (f ∷ fs) zero zero d turn le lt = not_before_itself f
in_turn_at (f ∷ fs) zero (suc j) d turn le lt =
    All-get_or (IsBehind f) fs j d (omega arith) (All-from_recursion (IsBehind f) fs turn.0)
in_turn_at (f ∷ fs) (suc i) zero d turn le lt = absurd (omega arith)
in_turn_at (f ∷ fs) (suc i) (suc j) d turn le lt =
    in_turn_at fs i j d turn.1 (omega arith) (omega arith)

-- whether an event comes before another, as a test
abbrev pub comes_ahead : Event → Event → Bool
comes_ahead e f = is_lt (event_cmp f e)

pub partitioned_turn : (e : Event) (es : List Event) → InTurn es
    → IsPartitionedBy (comes_ahead e) es
partitioned_turn e es turn i j d le lt before = go (comes_ahead e (get_or es i d)) refl
  where
    go : (t : Bool) → comes_ahead e (get_or es i d) ≡ t → t ≡ true
    go true is = refl
    go false is =
        let not_before : comes_ahead e (get_or es j d) ≡ false =
        before_order.chain (get_or es j d) (get_or es i d) e (in_turn_at es i j d turn le lt) is in
        cc

-- the place of an event is the one up to which all come before it
pub inserted_place : (e : Event) (es : List Event) (i : ℕ) → i ≤ length es
    → IsPartitionPoint (λ f. comes_ahead e f ≡ true) (λ f. comes_ahead e f ≡ false) es i
    → inserted e es ≡ insert es i e
inserted_place e [] zero le h = refl
inserted_place e [] (suc i) le h = absurd (omega arith)
inserted_place e (f ∷ fs) zero le h =
    let first : comes_ahead e f ≡ false = h.1 0 f (omega arith) (omega arith) in
    ap (λ t. cond t (f ∷ inserted e fs) (e ∷ f ∷ fs)) first
inserted_place e (f ∷ fs) (suc i) le h =
    let first : comes_ahead e f ≡ true = h.0 0 f (omega arith) (omega arith) in
    ap (λ t. cond t (f ∷ inserted e fs) (e ∷ f ∷ fs)) first
    ∙ ap (λ x. f ∷ x) (inserted_place e fs i (omega arith) (
      λ k d a b. h.0 (suc k) d (omega arith) (omega arith),
      λ k d a b. h.1 (suc k) d (omega arith) (omega arith),
    ))

-- Behind the last.

-- an event that none comes before stands first
stands_first : (e : Event) (es : List Event) → AllByRecursion (IsBehind e) es
    → inserted e es ≡ e ∷ es
stands_first e [] all = refl
stands_first e (f ∷ fs) all = ap (λ t. cond t (f ∷ inserted e fs) (e ∷ f ∷ fs)) all.0

inserted_behind : (e : Event) (es : List Event) → InTurn es
    → AllByRecursion (λ f. IsBehind f e) es → inserted e es ≡ es ++ e ∷ []
inserted_behind e [] turn all = refl
inserted_behind e (f ∷ fs) turn all =
    go (is_lt (event_cmp f e)) refl (inserted_behind e fs turn.1 all.1)
  where
    go : (t : Bool) → is_lt (event_cmp f e) ≡ t → inserted e fs ≡ fs ++ e ∷ []
        → cond t (f ∷ inserted e fs) (e ∷ f ∷ fs) ≡ f ∷ (fs ++ e ∷ [])
    go true is rest = ap (λ x. f ∷ x) rest
    go false is rest =
        let same : f ≡ e = one_of_two f e is all.0 in
        let first : inserted e fs ≡ e ∷ fs =
        stands_first e fs (subst (λ x. AllByRecursion (IsBehind x) fs) same turn.0) in
        ap (λ x. x ∷ f ∷ fs) (sym same) ∙ ap (λ x. f ∷ x ∷ fs) same
        ∙ ap (λ x. f ∷ x) (sym first ∙ rest)

-- an event that does not come before the last stands behind it
pub inserted_end : (e : Event) (es : List Event) (d : Event) → InTurn es
    → is_lt (event_cmp e (get_or es (length es - 1) d)) ≡ false → inserted e es ≡ es ++ e ∷ []
inserted_end e es d turn last =
    inserted_behind e es turn (recursion_from_All (λ f. IsBehind f e) es behind)
  where
    behind : All (λ f. IsBehind f e) es
    behind i k below =
        before_order.chain e (get_or es (length es - 1) k) (get_or es i k)
        (ap (λ f. is_lt (event_cmp e f)) (get_or_default es (length es - 1) k d (omega arith))
        ∙ last)
        (in_turn_at es i (length es - 1) k turn (omega arith) (omega arith))

-- Either of two first.

passes : (e f : Event) (es : List Event) → is_lt (event_cmp f e) ≡ true
    → inserted e (f ∷ es) ≡ f ∷ inserted e es
passes e f es h = ap (λ t. cond t (f ∷ inserted e es) (e ∷ f ∷ es)) h

stops : (e f : Event) (es : List Event) → is_lt (event_cmp f e) ≡ false
    → inserted e (f ∷ es) ≡ e ∷ f ∷ es
stops e f es h = ap (λ t. cond t (f ∷ inserted e es) (e ∷ f ∷ es)) h

-- two events stand in the same order, whichever is put in first
two_in_order : (e f : Event) (es : List Event)
    → cond (is_lt (event_cmp f e)) (f ∷ e ∷ es) (e ∷ f ∷ es)
    ≡ cond (is_lt (event_cmp e f)) (e ∷ f ∷ es) (f ∷ e ∷ es)
two_in_order e f es = go (is_lt (event_cmp f e)) refl (is_lt (event_cmp e f)) refl
  where
    go : (t : Bool) → is_lt (event_cmp f e) ≡ t → (u : Bool) → is_lt (event_cmp e f) ≡ u
        → cond t (f ∷ e ∷ es) (e ∷ f ∷ es) ≡ cond u (e ∷ f ∷ es) (f ∷ e ∷ es)
    go true h true k = absurd (both_ways _ (before_order.one_way f e h) k)
    go true h false k = refl
    go false h true k = refl
    go false h false k =
        let same : e ≡ f = one_of_two e f k h in
        ap (λ x. x ∷ f ∷ es) same ∙ ap (λ x. f ∷ x ∷ es) (sym same)

between : (g f e : Event) → is_lt (event_cmp g f) ≡ false → is_lt (event_cmp g e) ≡ true
    → is_lt (event_cmp f e) ≡ true
between g f e h k = go (is_lt (event_cmp f e)) refl
  where
    go : (t : Bool) → is_lt (event_cmp f e) ≡ t → t ≡ true
    go true is = refl
    go false is = absurd (both_ways _ (before_order.chain g f e h is) k)

inserted_twice : (e f : Event) (es : List Event)
    → inserted e (inserted f es) ≡ inserted f (inserted e es)
inserted_twice e f [] = two_in_order e f []
inserted_twice e f (g ∷ gs) =
    go (is_lt (event_cmp g e)) refl (is_lt (event_cmp g f)) refl (inserted_twice e f gs)
  where
    go : (t : Bool) → is_lt (event_cmp g e) ≡ t → (u : Bool) → is_lt (event_cmp g f) ≡ u
        → inserted e (inserted f gs) ≡ inserted f (inserted e gs)
        → inserted e (inserted f (g ∷ gs)) ≡ inserted f (inserted e (g ∷ gs))
    go true h true k rest =
        ap (inserted e) (passes f g gs k) ∙ passes e g (inserted f gs) h ∙ ap (λ x. g ∷ x) rest
        ∙ sym (ap (inserted f) (passes e g gs h) ∙ passes f g (inserted e gs) k)
    go true h false k rest =
        ap (inserted e) (stops f g gs k) ∙ passes e f (g ∷ gs) (between g f e k h)
        ∙ ap (λ x. f ∷ x) (passes e g gs h)
        ∙ sym (ap (inserted f) (passes e g gs h) ∙ stops f g (inserted e gs) k)
    go false h true k rest =
        ap (inserted e) (passes f g gs k) ∙ stops e g (inserted f gs) h
        ∙ sym (ap (inserted f) (stops e g gs h) ∙ passes f e (g ∷ gs) (between g e f h k)
        ∙ ap (λ x. e ∷ x) (passes f g gs k))
    go false h false k rest =
        ap (inserted e) (stops f g gs k)
        ∙ ap (λ x. cond (is_lt (event_cmp f e)) (f ∷ x) (e ∷ f ∷ g ∷ gs)) (stops e g gs h)
        ∙ two_in_order e f (g ∷ gs)
        ∙ sym (ap (inserted f) (stops e g gs h)
        ∙ ap (λ x. cond (is_lt (event_cmp e f)) (e ∷ x) (f ∷ e ∷ g ∷ gs)) (stops f g gs k))

inserted_before : (e : Event) (done es : List Event)
    → in_turn_from (inserted e done) es ≡ inserted e (in_turn_from done es)
inserted_before e done [] = refl
inserted_before e done (f ∷ fs) =
    ap (λ x. in_turn_from x fs) (inserted_twice f e done) ∙ inserted_before e (inserted f done) fs

-- of two lots of events, either may be put in first
pub either_first : (done es fs : List Event)
    → in_turn_from (in_turn_from done es) fs ≡ in_turn_from (in_turn_from done fs) es
either_first done es [] = refl
either_first done es (f ∷ fs) =
    ap (λ x. in_turn_from x fs) (sym (inserted_before f done es))
    ∙ either_first (inserted f done) es fs

-- One taken out.

all_removed : (P : Event → Type 0) (es : List Event) (i : ℕ) → AllByRecursion P es
    → AllByRecursion P (remove es i)
all_removed P [] zero all = tt
all_removed P [] (suc i) all = tt
all_removed P (e ∷ es) zero all = all.1
all_removed P (e ∷ es) (suc i) all = (all.0, all_removed P es i all.1)

pub removed_turn : (es : List Event) (i : ℕ) → InTurn es → InTurn (remove es i)
removed_turn [] zero turn = tt
removed_turn [] (suc i) turn = tt
removed_turn (e ∷ es) zero turn = turn.1
removed_turn (e ∷ es) (suc i) turn =
    (all_removed (IsBehind e) es i turn.0, removed_turn es i turn.1)

-- an event that is left is taken out once
pub taken_out : (e : Event) (left : List Event) → Contains left e
    → IsPermutation left (e ∷ without_event e left)
taken_out e [] at = absurd (omega arith)
taken_out e (f ∷ fs) at = go (same_event e f) refl at (taken_out e fs)
  where
    further : same_event e f ≡ false → (k : ℕ) → k < length (f ∷ fs)
        → slice_index_or (f ∷ fs) k e ≡ e → Contains fs e
    further same zero h is =
        absurd (both_ways _ same (ap (same_event e) is ∙ same_event_refl e))
    further same (suc k) h is = (k, omega arith, is)

    go : (t : Bool) → same_event e f ≡ t → Contains (f ∷ fs) e
        → (Contains fs e → IsPermutation fs (e ∷ without_event e fs))
        → IsPermutation (f ∷ fs) (e ∷ cond t fs (f ∷ without_event e fs))
    go true same at later =
        subst (λ x. IsPermutation (f ∷ fs) (x ∷ fs)) (sym (same_event_true e f same))
        (IsPermutation-refl (f ∷ fs))
    go false same at later =
        IsPermutation-trans _ _ _
        (IsPermutation-cons f _ _ (later (further same at.0 at.1 at.2)))
        (swap_two f e (without_event e fs))

pub all_without : (P : Event → Type 0) (e : Event) (left : List Event) → AllByRecursion P left
    → AllByRecursion P (without_event e left)
all_without P e [] all = tt
all_without P e (f ∷ fs) all = go (same_event e f) (all_without P e fs all.1)
  where
    go : (t : Bool) → AllByRecursion P (without_event e fs)
        → AllByRecursion P (cond t fs (f ∷ without_event e fs))
    go true rest = all.1
    go false rest = (all.0, rest)

pub without_turn : (e : Event) (es : List Event) → InTurn es → InTurn (without_event e es)
without_turn e [] turn = tt
without_turn e (f ∷ fs) turn = go (same_event e f) (without_turn e fs turn.1)
  where
    go : (t : Bool) → InTurn (without_event e fs) → InTurn (cond t fs (f ∷ without_event e fs))
    go true rest = turn.1
    go false rest = (all_without (IsBehind f) e fs turn.0, rest)

-- where an event stands again further on, all between are that event
stands_again : (f : Event) (fs : List Event) (i : ℕ) (d : Event) → InTurn (f ∷ fs)
    → i < length fs → get_or fs i d ≡ f → without_event f fs ≡ remove fs i → fs ≡ f ∷ remove fs i
stands_again f [] i d turn lt again rest = absurd (omega arith)
stands_again f (g ∷ gs) i d turn lt again rest =
    ap (λ x. x ∷ gs) same ∙ ap (λ x. f ∷ x) (sym removed)
  where
    not_before : (k : ℕ) → k < length (g ∷ gs) → get_or (g ∷ gs) k d ≡ f
        → is_lt (event_cmp f g) ≡ false
    not_before k below is =
        ap (λ e. is_lt (event_cmp e g)) (sym is)
        ∙ in_turn_at (g ∷ gs) 0 k d turn.1 (omega arith) below

    same : g ≡ f
    same = one_of_two g f turn.0.0 (not_before i lt again)

    tied : same_event f g ≡ true
    tied = ap (same_event f) same ∙ same_event_refl f

    removed : remove (g ∷ gs) i ≡ gs
    removed = sym rest ∙ ap (λ t. cond t gs (g ∷ without_event f gs)) tied

-- the event at a place is taken out there
pub taken_at : (es : List Event) (i : ℕ) (d : Event) → InTurn es → i < length es
    → without_event (get_or es i d) es ≡ remove es i
taken_at [] i d turn h = absurd (omega arith)
taken_at (f ∷ fs) zero d turn h =
    ap (λ t. cond t fs (f ∷ without_event f fs)) (same_event_refl f)
taken_at (f ∷ fs) (suc i) d turn h =
    go (same_event (get_or fs i d) f) refl (taken_at fs i d turn.1 (omega arith))
  where
    go : (t : Bool) → same_event (get_or fs i d) f ≡ t
        → without_event (get_or fs i d) fs ≡ remove fs i
        → cond t fs (f ∷ without_event (get_or fs i d) fs) ≡ f ∷ remove fs i
    go true is rest =
        let again : get_or fs i d ≡ f = same_event_true (get_or fs i d) f is in
        stands_again f fs i d turn (omega arith) again
        (ap (λ e. without_event e fs) (sym again) ∙ rest)
    go false is rest = ap (λ x. f ∷ x) rest
