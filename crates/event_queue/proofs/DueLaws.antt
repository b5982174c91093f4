-- Which of the events in order are due, and how their ticks and kinds rise.
use Rattle.std.specs.List.{All, AllByRecursion, prefix_len, remove}
use Rattle.std.specs.Ordering.{int_eq, is_lt}
use Rattle.std.proofs.lemmas.Int.{ints}
use Rattle.std.proofs.lemmas.Bool.{and_parts, and_from, both_ways, ltb-false}
use Rattle.std.proofs.lemmas.List.Sums.{prefix_len_passes, prefix_len_stops, prefix_len-le-length}
use Rattle.std.proofs.lemmas.List.Elements.{All-from_recursion, Contains-get_or, All-get_or}
use Rattle.std.proofs.Common.{◌≡◌, ℕ, ℤ, zero, suc, ◌+◌, ◌<◌, ◌≤◌, Bool, true, false, cond, ◌&&◌, ◌==◌, List, [], ◌∷◌, Some, slice_get, inl, inr, length, get_or, le_of_eq, refl, sym, ap, ◌∙◌, arith, nat_lt, ltb-true, eqb-true, eq-eqb}
use Rattle.event_queue.specs.declared.event.Event.{Event}
use Rattle.event_queue.specs.Event.{kind_rank, event_cmp, ComesBy, RisesFrom, NeverFalls}
use Rattle.event_queue.specs.Agenda.{InTurn, inserted, same_moment, due, IsDueIn}
use Rattle.event_queue.proofs.OrderLemmas.{comes_by, one_of_two, before_order}
use Rattle.event_queue.proofs.TurnLaws.{IsBehind, weaken, in_turn_at}

int_eq_true : (a b : ℤ) → int_eq a b ≡ true → a ≡ b
int_eq_true a b h = grind (arith, ints)

int_eq_from : (a b : ℤ) → a ≡ b → int_eq a b ≡ true
int_eq_from a b h = grind (arith, ints)

-- no more are due than there are
pub due_le : (es : List Event) → due es ≤ length es
due_le [] = omega arith
due_le (f ∷ fs) = omega (arith, prefix_len-le-length (same_moment f) fs)

-- one of the first that are of one moment is left, and comes no later than any
pub due_at : (es : List Event) (i : ℕ) (d : Event) → InTurn es → i < due es
    → IsDueIn es (get_or es i d)
due_at [] i d turn h = absurd (omega arith)
due_at (f ∷ fs) i d turn h = record {
  is_left =
      Contains-get_or (f ∷ fs) i d (omega (arith, prefix_len-le-length (same_moment f) fs));
  first =
      All-from_recursion (ComesBy (get_or (f ∷ fs) i d)) (f ∷ fs)
      (weaken (ComesBy f) (ComesBy (get_or (f ∷ fs) i d)) (λ g. by_moment g) (f ∷ fs)
      (inr (refl, omega arith), weaken (IsBehind f) (ComesBy f) (λ g. comes_by f g) fs turn.0));
}
  where
    moment : (j : ℕ) → j < due (f ∷ fs)
        → ((get_or (f ∷ fs) j d).tick ≡ f.tick)
        × (kind_rank (get_or (f ∷ fs) j d).kind ≡ kind_rank f.kind)
    moment zero k = (refl, refl)
    moment (suc j) k =
        let w = and_parts _ _ (prefix_len_passes (same_moment f) fs j d (omega arith)) in
        (sym (int_eq_true _ _ w.0), sym (eqb-true _ _ w.1))

    by_moment : (g : Event) → ComesBy f g → ComesBy (get_or (f ∷ fs) i d) g
    by_moment g (inl lt) = let w = moment i h in inl (omega (arith, ints))
    by_moment g (inr both) = let w = moment i h in inr (w.0 ∙ both.0, omega arith)

-- events that come by each other are of one moment
one_moment : (f g e : Event) → ComesBy f g → ComesBy g e → ComesBy e f → same_moment f g ≡ true
one_moment f g e (inl a) (inl b) (inl c) = absurd (omega (arith, ints))
one_moment f g e (inl a) (inl b) (inr c) = absurd (omega (arith, ints))
one_moment f g e (inl a) (inr b) (inl c) = absurd (omega (arith, ints))
one_moment f g e (inl a) (inr b) (inr c) = absurd (omega (arith, ints))
one_moment f g e (inr a) (inl b) (inl c) = absurd (omega (arith, ints))
one_moment f g e (inr a) (inl b) (inr c) = absurd (omega (arith, ints))
one_moment f g e (inr a) (inr b) (inl c) = absurd (omega (arith, ints))
one_moment f g e (inr a) (inr b) (inr c) =
    and_from _ _ (int_eq_from _ _ a.0) (eq-eqb _ _ (omega arith))

-- an event that comes no later than any is one of the first that are due
pub all_due : (es : List Event) (i : ℕ) (d : Event) → InTurn es → i < length es
    → All (ComesBy (get_or es i d)) es → i < due es
all_due [] i d turn lt all = absurd (omega arith)
all_due (f ∷ fs) zero d turn lt all = omega arith
all_due (f ∷ fs) (suc i) d turn lt all = go (nat_lt i place) refl
  where
    place : ℕ
    place = prefix_len (same_moment f) fs

    stops : place ≤ i → ⊥
    stops le =
        let g : Event = get_or fs place d in
        let below : place < length fs = omega arith in
        let ahead : ComesBy f g = comes_by f g
        (All-get_or (IsBehind f) fs place d below (All-from_recursion (IsBehind f) fs turn.0)) in
        let behind : ComesBy g (get_or fs i d) = comes_by g (get_or fs i d)
        (in_turn_at fs place i d turn.1 le (omega arith)) in
        both_ways _ (prefix_len_stops (same_moment f) fs d below)
        (one_moment f g (get_or fs i d) ahead behind (all 0 d (omega arith)))

    go : (t : Bool) → nat_lt i place ≡ t → suc i < 1 + place
    go true is = let h : i < place = ltb-true i place is in omega arith
    go false is = absurd (stops (ltb-false i place is))

-- One more.

moment_back : (e f : Event) → same_moment f e ≡ false → same_moment e f ≡ false
moment_back e f other = go (same_moment e f) refl
  where
    go : (t : Bool) → same_moment e f ≡ t → t ≡ false
    go false is = refl
    go true is =
        let both = and_parts _ _ is in
        absurd (both_ways _ other
        (and_from (int_eq f.tick e.tick) (kind_rank f.kind == kind_rank e.kind)
        (int_eq_from f.tick e.tick (sym (int_eq_true _ _ both.0)))
        (eq-eqb (kind_rank f.kind) (kind_rank e.kind) (sym (eqb-true _ _ both.1)))))

moment_itself : (f : Event) → same_moment f f ≡ true
moment_itself f =
    and_from _ _ (int_eq_from f.tick f.tick refl)
    (eq-eqb (kind_rank f.kind) (kind_rank f.kind) refl)

comes_with : (e f : Event) → same_moment f e ≡ true → ComesBy e f
comes_with e f same =
    let both = and_parts _ _ same in
    inr (sym (int_eq_true _ _ both.0), le_of_eq (sym (eqb-true _ _ both.1)))

comes_before : (g e : Event) → is_lt (event_cmp g e) ≡ true → ComesBy g e
comes_before g e is = comes_by g e (before_order.one_way g e is)

-- where an event is of the first one's moment, one more is
run_more : (e f : Event) (fs : List Event) → AllByRecursion (ComesBy f) fs
    → same_moment f e ≡ true
    → prefix_len (same_moment f) (inserted e fs) ≡ 1 + prefix_len (same_moment f) fs
run_more e f [] all same = ap (λ t. cond t 1 0) same
run_more e f (g ∷ gs) all same = go (is_lt (event_cmp g e)) refl (run_more e f gs all.1 same)
  where
    go : (t : Bool) → is_lt (event_cmp g e) ≡ t
        → prefix_len (same_moment f) (inserted e gs) ≡ 1 + prefix_len (same_moment f) gs
        → prefix_len (same_moment f) (cond t (g ∷ inserted e gs) (e ∷ g ∷ gs))
        ≡ 1 + prefix_len (same_moment f) (g ∷ gs)
    go true is rest =
        let first : same_moment f g ≡ true =
        one_moment f g e all.0 (comes_before g e is) (comes_with e f same) in
        ap (λ t. cond t (1 + prefix_len (same_moment f) (inserted e gs)) 0) first
        ∙ ap (λ n. 1 + n) rest
        ∙ ap (λ t. 1 + cond t (1 + prefix_len (same_moment f) gs) 0) (sym first)
    go false is rest =
        ap (λ t. cond t (1 + prefix_len (same_moment f) (g ∷ gs)) 0) same

-- where it is not, as many are
run_kept : (e f : Event) (fs : List Event) → ComesBy f e → same_moment f e ≡ false
    → prefix_len (same_moment f) (inserted e fs) ≡ prefix_len (same_moment f) fs
run_kept e f [] after other = ap (λ t. cond t 1 0) other
run_kept e f (g ∷ gs) after other =
    go (is_lt (event_cmp g e)) refl (same_moment f g) refl (run_kept e f gs after other)
  where
    go : (t : Bool) → is_lt (event_cmp g e) ≡ t → (u : Bool) → same_moment f g ≡ u
        → prefix_len (same_moment f) (inserted e gs) ≡ prefix_len (same_moment f) gs
        → prefix_len (same_moment f) (cond t (g ∷ inserted e gs) (e ∷ g ∷ gs))
        ≡ prefix_len (same_moment f) (g ∷ gs)
    go true is u first rest = ap (λ n. cond (same_moment f g) (1 + n) 0) rest
    go false is true first rest =
        absurd (both_ways _ other
        (one_moment f e g after (comes_by e g is) (comes_with g f first)))
    go false is false first rest =
        ap (λ t. cond t (1 + prefix_len (same_moment f) (g ∷ gs)) 0) other
        ∙ ap (λ t. cond t (1 + prefix_len (same_moment f) gs) 0) (sym first)

-- events of one moment have the same moment as others
moments_alike : (e f : Event) → same_moment f e ≡ true → same_moment e ≡ same_moment f
moments_alike e f same =
    let both = and_parts _ _ same in
    let tick : e.tick ≡ f.tick = sym (int_eq_true _ _ both.0) in
    let rank : kind_rank e.kind ≡ kind_rank f.kind = sym (eqb-true _ _ both.1) in
    λ i. λ g. int_eq (tick i) g.tick && (rank i == kind_rank g.kind)

-- one more is due where an event is of the moment that is due
pub due_one_more : (e f : Event) (fs : List Event) → InTurn (f ∷ fs) → same_moment f e ≡ true
    → due (inserted e (f ∷ fs)) ≡ 1 + due (f ∷ fs)
due_one_more e f fs turn same = go (is_lt (event_cmp f e)) refl
  where
    go : (t : Bool) → is_lt (event_cmp f e) ≡ t
        → due (cond t (f ∷ inserted e fs) (e ∷ f ∷ fs)) ≡ 1 + due (f ∷ fs)
    go true is =
        ap (λ n. 1 + n) (run_more e f fs
        (weaken (IsBehind f) (ComesBy f) (λ g. comes_by f g) fs turn.0) same)
    go false is =
        ap (λ m. 1 + prefix_len m (f ∷ fs)) (moments_alike e f same)
        ∙ ap (λ t. 1 + cond t (1 + prefix_len (same_moment f) fs) 0)
        (moment_itself f)

-- an event before all is due alone
pub due_alone : (e f : Event) (fs : List Event) → same_moment f e ≡ false
    → is_lt (event_cmp e f) ≡ true → due (inserted e (f ∷ fs)) ≡ 1
due_alone e f fs other before =
    ap (λ t. due (cond t (f ∷ inserted e fs) (e ∷ f ∷ fs))) (before_order.one_way e f before)
    ∙ ap (λ t. 1 + cond t (1 + prefix_len (same_moment e) fs) 0) (moment_back e f other)

-- an event of a later moment leaves as many due
pub due_kept : (e f : Event) (fs : List Event) → same_moment f e ≡ false
    → is_lt (event_cmp e f) ≡ false → due (inserted e (f ∷ fs)) ≡ due (f ∷ fs)
due_kept e f fs other behind = go (is_lt (event_cmp f e)) refl
  where
    go : (t : Bool) → is_lt (event_cmp f e) ≡ t
        → due (cond t (f ∷ inserted e fs) (e ∷ f ∷ fs)) ≡ due (f ∷ fs)
    go true is = ap (λ n. 1 + n) (run_kept e f fs (comes_by f e behind) other)
    go false is =
        let same : e ≡ f = one_of_two e f behind is in
        absurd (both_ways _ other (ap (same_moment f) same
        ∙ moment_itself f))

-- The same of the first of a list.

first_is : (f g : Event) (gs : List Event) → Some f ≡ slice_get (g ∷ gs) 0 → f ≡ g
first_is f g gs is = cc

pub one_more_at : (e f : Event) (es : List Event) → Some f ≡ slice_get es 0 → InTurn es
    → same_moment f e ≡ true → due (inserted e es) ≡ 1 + due es
one_more_at e f [] is turn same = cc
one_more_at e f (g ∷ gs) is turn same =
    due_one_more e g gs turn (ap (λ h. same_moment h e) (sym (first_is f g gs is)) ∙ same)

pub alone_at : (e f : Event) (es : List Event) → Some f ≡ slice_get es 0
    → same_moment f e ≡ false → is_lt (event_cmp e f) ≡ true → due (inserted e es) ≡ 1
alone_at e f [] is other before = cc
alone_at e f (g ∷ gs) is other before =
    due_alone e g gs (ap (λ h. same_moment h e) (sym (first_is f g gs is)) ∙ other)
    (ap (λ h. is_lt (event_cmp e h)) (sym (first_is f g gs is)) ∙ before)

pub kept_at : (e f : Event) (es : List Event) → Some f ≡ slice_get es 0
    → same_moment f e ≡ false → is_lt (event_cmp e f) ≡ false → due (inserted e es) ≡ due es
kept_at e f [] is other behind = cc
kept_at e f (g ∷ gs) is other behind =
    due_kept e g gs (ap (λ h. same_moment h e) (sym (first_is f g gs is)) ∙ other)
    (ap (λ h. is_lt (event_cmp e h)) (sym (first_is f g gs is)) ∙ behind)

-- One fewer.

-- one of the first of one kind fewer
run_fewer : (p : Event → Bool) (es : List Event) (i : ℕ) → i < prefix_len p es
    → prefix_len p es ≡ 1 + prefix_len p (remove es i)
run_fewer p [] i h = absurd (omega arith)
run_fewer p (e ∷ es) i h = go (p e) refl (λ k lt. run_fewer p es k lt) i h
  where
    go : (t : Bool) → p e ≡ t
        → ((k : ℕ) → k < prefix_len p es → prefix_len p es ≡ 1 + prefix_len p (remove es k))
        → (k : ℕ) → k < cond t (1 + prefix_len p es) 0
        → cond t (1 + prefix_len p es) 0 ≡ 1 + prefix_len p (remove (e ∷ es) k)
    go false is rest k lt = absurd (omega arith)
    go true is rest zero lt = refl
    go true is rest (suc k) lt =
        ap (λ n. 1 + n) (rest k (omega arith)
        ∙ ap (λ t. cond t (1 + prefix_len p (remove es k)) 0) (sym is))

-- where more than one was due, one fewer is
pub due_one_fewer : (es : List Event) (i : ℕ) → i < due es → 1 < due es
    → due es ≡ 1 + due (remove es i)
due_one_fewer [] i h more = absurd (omega arith)
due_one_fewer (f ∷ []) i h more = absurd (omega arith)
due_one_fewer (f ∷ g ∷ gs) zero h more = go (same_moment f g) refl more
  where
    go : (t : Bool) → same_moment f g ≡ t
        → 1 < 1 + cond t (1 + prefix_len (same_moment f) gs) 0
        → 1 + cond t (1 + prefix_len (same_moment f) gs) 0
        ≡ 1 + (1 + prefix_len (same_moment g) gs)
    go false is lt = absurd (omega arith)
    go true is lt = ap (λ m. 1 + (1 + prefix_len m gs)) (sym (moments_alike g f is))
due_one_fewer (f ∷ g ∷ gs) (suc i) h more =
    ap (λ n. 1 + n) (run_fewer (same_moment f) (g ∷ gs) i (omega arith))

-- The order of a log.

-- a log rises from an event that comes by all of it
pub rises_first : (e : Event) (es : List Event) → AllByRecursion (ComesBy e) es → NeverFalls es
    → RisesFrom e es
rises_first e [] all n = tt
rises_first e (f ∷ fs) all n = (all.0, n)

-- events in order are a log
pub turn_rises : (es : List Event) → InTurn es → NeverFalls es
turn_rises [] h = tt
turn_rises (e ∷ es) h =
    rises_first e es (weaken (IsBehind e) (ComesBy e) (λ f. comes_by e f) es h.0)
    (turn_rises es h.1)
