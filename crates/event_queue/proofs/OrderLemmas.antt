-- The order of events is total, and tells events apart.
use Rattle.std.proofs.lemmas.Cmp.{then_total, on_total, int_cmp_total, nat_cmp_total, tied_itself, int_ranked}
use Rattle.std.proofs.lemmas.Map.Lookups.{exact_signed, exact_unsigned}
use Rattle.std.proofs.lemmas.List.Sorted.{ranks_by}
use Rattle.std.specs.Cmp.{IsTotalOrder, IsStrictWeakOrder}
use Rattle.std.specs.Ordering.{int_cmp, nat_cmp, ordering_then, ordering_reverse, is_eq, is_lt}
use Rattle.std.specs.declared.cmp.Ordering.{Ordering}
use Rattle.std.specs.declared.cmp.Ordering.TheVariants.{Less, Equal, Greater}
use Rattle.std.proofs.Common.{◌≡◌, ℕ, ℤ, ◌<ℤ◌, ◌<◌, ◌≤◌, Bool, true, false, cond, ◌==◌, nat_lt, ◌⊎◌, inl, inr, ⊎_elim, le_of_lt, le_of_eq, ltb-true, refl, sym, ap, ◌∙◌}
use Rattle.event_queue.specs.declared.event.EventKind.{EventKind}
use Rattle.event_queue.specs.declared.event.EventKind.TheVariants.{Begin, Send, Deliver, Vote, Sync}
use Rattle.event_queue.specs.declared.event.Event.{Event}
use Rattle.event_queue.specs.Event.{kind_rank, event_cmp, same_event, ComesBy}

-- a total order
pub event_total : IsTotalOrder event_cmp
event_total =
    then_total (on_total (λ (e : Event). e.tick) int_cmp_total)
    (then_total (on_total (λ (e : Event). kind_rank e.kind) nat_cmp_total)
    (then_total (on_total (λ (e : Event). e.replica) nat_cmp_total)
    (then_total (on_total (λ (e : Event). e.other) nat_cmp_total)
    (on_total (λ (e : Event). e.frame) nat_cmp_total))))

both_equal : (o p : Ordering) → ordering_then o p ≡ Equal → (o ≡ Equal) × (p ≡ Equal)
both_equal Less p h = (cc, cc)
both_equal Equal p h = (refl, h)
both_equal Greater p h = (cc, cc)

kind_of : ℕ → EventKind
kind_of n =
    cond (n == 0) Begin (cond (n == 1) Send (cond (n == 2) Deliver (cond (n == 3) Vote Sync)))

rank_back : (k : EventKind) → kind_of (kind_rank k) ≡ k
unfolding kind_of
rank_back Begin = refl
rank_back Send = refl
rank_back Deliver = refl
rank_back Vote = refl
rank_back Sync = refl

-- events that tie are one
pub event_exact : (a b : Event) → event_cmp a b ≡ Equal → a ≡ b
event_exact a b h =
    let p = both_equal _ _ h in
    let q = both_equal _ _ p.1 in
    let r = both_equal _ _ q.1 in
    let u = both_equal _ _ r.1 in
    let tick : a.tick ≡ b.tick = exact_signed _ _ p.0 in
    let kind : a.kind ≡ b.kind =
    sym (rank_back a.kind) ∙ ap kind_of (exact_unsigned _ _ q.0) ∙ rank_back b.kind in
    let replica : a.replica ≡ b.replica = exact_unsigned _ _ r.0 in
    let other : a.other ≡ b.other = exact_unsigned _ _ u.0 in
    let frame : a.frame ≡ b.frame = exact_unsigned _ _ u.1 in
    λ i. record {
      tick = tick i;
      kind = kind i;
      replica = replica i;
      other = other i;
      frame = frame i;
    }

is_equal : (o : Ordering) → is_eq o ≡ true → o ≡ Equal
is_equal Less h = cc
is_equal Equal h = refl
is_equal Greater h = cc

pub same_event_true : (a b : Event) → same_event a b ≡ true → a ≡ b
same_event_true a b h = event_exact a b (is_equal (event_cmp a b) h)

pub same_event_refl : (a : Event) → same_event a a ≡ true
same_event_refl a = ap is_eq (tied_itself event_total a)

-- no event comes before itself
pub not_before_itself : (a : Event) → is_lt (event_cmp a a) ≡ false
not_before_itself a = ap is_lt (tied_itself event_total a)

first_less : (o p : Ordering) → ordering_then o p ≡ Less → (o ≡ Less) ⊎ ((o ≡ Equal) × (p ≡ Less))
first_less Less p h = inl refl
first_less Equal p h = inr (refl, h)
first_less Greater p h = inl h

int_less : (x y : ℤ) → int_cmp x y ≡ Less → x <ℤ y
int_less x y h = int_ranked x y Less (sym h)

nat_less : (x y : ℕ) → nat_cmp x y ≡ Less → x < y
nat_less x y h = go (nat_lt x y) refl h
  where
    go : (t : Bool) → nat_lt x y ≡ t → cond t Less (cond (x == y) Equal Greater) ≡ Less → x < y
    go true e h = ltb-true x y e
    go false e h = test (x == y) h
      where
        test : (u : Bool) → cond u Equal Greater ≡ Less → x < y
        test true h = cc
        test false h = cc

abbrev by_rest : Event → Event → Ordering
by_rest a b =
    ordering_then (nat_cmp a.replica b.replica)
    (ordering_then (nat_cmp a.other b.other) (nat_cmp a.frame b.frame))

-- what comes before is of no later tick and kind
pub comes_before : (a b : Event) → event_cmp a b ≡ Less → ComesBy a b
comes_before a b h = go (first_less _ _ h)
  where
    kinds : (x y : ℕ) (p : Ordering) → ordering_then (nat_cmp x y) p ≡ Less → x ≤ y
    kinds x y p h =
        ⊎_elim (λ lt. le_of_lt (nat_less x y lt)) (λ both. le_of_eq (exact_unsigned x y both.0))
        (first_less _ p h)

    go : (int_cmp a.tick b.tick ≡ Less)
        ⊎ ((int_cmp a.tick b.tick ≡ Equal)
        × (ordering_then (nat_cmp (kind_rank a.kind) (kind_rank b.kind)) (by_rest a b) ≡ Less))
        → ComesBy a b
    go (inl lt) = inl (int_less _ _ lt)
    go (inr both) = inr (exact_signed _ _ both.0, kinds _ _ _ both.1)

-- so is what nothing comes before
pub comes_by : (a b : Event) → is_lt (event_cmp b a) ≡ false → ComesBy a b
comes_by a b h = go (event_cmp b a) refl h
  where
    go : (o : Ordering) → event_cmp b a ≡ o → is_lt o ≡ false → ComesBy a b
    go Less is h = cc
    go Equal is h =
        let same : b ≡ a = event_exact b a is in
        inr (
          sym (ap (λ (e : Event). e.tick) same),
          le_of_eq (sym (ap (λ (e : Event). kind_rank e.kind) same)),
        )
    go Greater is h = comes_before a b (event_total.antisymm a b ∙ ap ordering_reverse is)

-- where neither comes before the other, they are one
pub one_of_two : (a b : Event) → is_lt (event_cmp a b) ≡ false → is_lt (event_cmp b a) ≡ false
    → a ≡ b
one_of_two a b h k = go (event_cmp a b) refl h
  where
    go : (o : Ordering) → event_cmp a b ≡ o → is_lt o ≡ false → a ≡ b
    go Less is h = cc
    go Equal is h = event_exact a b is
    go Greater is h =
        let back : is_lt (event_cmp b a) ≡ true =
        ap is_lt (event_total.antisymm b a ∙ ap ordering_reverse is) in
        cc

-- to come before is an order in which some may tie
pub before_order : IsStrictWeakOrder (λ (a b : Event). is_lt (event_cmp a b))
before_order = ranks_by event_total (λ (e : Event). e)
