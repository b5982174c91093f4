-- A fault passes from a part to the whole, and a list that is read item by item is read as the definition says.
-- This project's own.
use Rattle.std.proofs.Common.{◌≡◌, ◌∙◌, ℕ, ◌+◌, ◌<◌, ◌≤◌, Bool, true, false, List, [], ◌∷◌, ◌++◌, length, get_or, drop, map, Result, Ok, Err, sym, refl, ap, append_assoc, subst, All, arith}
use Rattle.std.proofs.lemmas.List.{append-nil, drop_all, drop_more, map_push, length-map}
use Rattle.std.proofs.Math.ListN.{get_or-map}
use Rattle.std.proofs.lemmas.List.Elements.{All-get_or}
use Rattle.rcp_base.specs.Answers.{◌>>=◌, each_from, IsFaultOr}

-- where the part's fault is the whole's
pub fault_along : {A B F : Type 0} (memory : Bool) (fault : F) (part : Result A F) (whole : Result B F)
    → IsFaultOr memory fault part → (part ≡ Err fault → whole ≡ Err fault) → IsFaultOr memory fault whole
fault_along true fault part whole h step = tt
fault_along false fault part whole h step = step h

-- the items read so far, before those that are read later
abbrev pub after : {B F : Type 0} → List B → Result (List B) F → Result (List B) F
after done later = later >>= (λ ys. Ok (done ++ ys))

-- the first i of the values are read
pub record ReadsOn {V A B W F : Type 0} (see : V → A) (say : W → B) (read : ℕ → A → Result B F) (values : List V) (i : ℕ) (done : List W) : Type 0 where
  pub whole : each_from read 0 (map see values) ≡ after (map say done) (each_from read i (map see (drop i values)))

pub after_none : {B F : Type 0} (later : Result (List B) F) → later ≡ after [] later
after_none (Ok ys) = refl
after_none (Err fault) = refl

-- one more is read
pub after_more : {B F : Type 0} (done : List B) (y : B) (later : Result (List B) F)
    → after done (later >>= (λ ys. Ok (y ∷ ys))) ≡ after (done ++ y ∷ []) later
after_more done y (Ok ys) = ap Ok (sym (append_assoc done (y ∷ []) ys))
after_more done y (Err fault) = refl

pub after_nothing : {B F : Type 0} (done : List B) → after {B = B} {F = F} done (Ok []) ≡ Ok done
after_nothing done = ap Ok (append-nil done)

module _ {V A B W F : Type 0} (see : V → A) (say : W → B) (read : ℕ → A → Result B F) (values : List V) where
  pub reads_none : ReadsOn see say read values 0 []
  reads_none = record { whole = after_none (each_from read 0 (map see values)) }

  -- the next value is read
  pub reads_next : (i : ℕ) (done : List W) (value : V)
      → i < length values → value ≡ get_or values i value → ReadsOn see say read values i done
      → each_from read 0 (map see values)
      ≡ after (map say done) (read i (see value) >>= (λ y. each_from read (i + 1) (map see (drop (i + 1) values)) >>= (λ ys. Ok (y ∷ ys))))
  reads_next i done value below at on =
      let e = drop_more values i value below in
      on.whole ∙ rw e (rw (← at) refl)

  pub reads_more : (i : ℕ) (done : List W) (value : V) (x : W)
      → i < length values → value ≡ get_or values i value → ReadsOn see say read values i done → read i (see value) ≡ Ok (say x)
      → ReadsOn see say read values (i + 1) (done ++ x ∷ [])
  reads_more i done value x below at on is =
      let next = reads_next i done value below at on in
      record { whole = next ∙ rw (is, map_push say done x) (after_more (map say done) (say x) _) }

  pub reads_stop : (i : ℕ) (done : List W) (value : V) (memory : Bool) (fault : F)
      → i < length values → value ≡ get_or values i value → ReadsOn see say read values i done → IsFaultOr memory fault (read i (see value))
      → IsFaultOr memory fault (each_from read 0 (map see values))
  reads_stop i done value memory fault below at on stop =
      let next = reads_next i done value below at on in
      fault_along memory fault (read i (see value)) (each_from read 0 (map see values)) stop (λ is. next ∙ rw is refl)

  -- all are read
  pub reads_all : (i : ℕ) (done : List W)
      → length values ≤ i → ReadsOn see say read values i done → each_from read 0 (map see values) ≡ Ok (map say done)
  reads_all i done past on = on.whole ∙ rw (drop_all i values past) (after_nothing (map say done))

module _ {X A B F : Type 0} (view : X → A) (read : ℕ → A → Result B F) (items : List X) (done : List B) (i : ℕ) (d : X) where
  pub first_left : i < length items
      → each_from read i (map view (drop i items))
      ≡ (read i (view (get_or items i d)) >>= λ y. each_from read (i + 1) (map view (drop (i + 1) items)) >>= λ ys. Ok (y ∷ ys))
  first_left within = ap (λ left. each_from read i (map view left)) (drop_more items i d within)

  -- an item was read
  pub each_more : (y : B) (whole : Result (List B) F)
      → i < length items → whole ≡ after done (each_from read i (map view (drop i items))) → read i (view (get_or items i d)) ≡ Ok y
      → whole ≡ after (done ++ y ∷ []) (each_from read (i + 1) (map view (drop (i + 1) items)))
  each_more y whole within left is =
      let rest = each_from read (i + 1) (map view (drop (i + 1) items)) in
      left ∙ (ap (after done) (first_left within ∙ ap (λ first. first >>= λ y. rest >>= λ ys. Ok (y ∷ ys)) is) ∙ after_more done y rest)

  -- an item has a fault
  pub each_stops : (memory : Bool) (fault : F) (whole : Result (List B) F)
      → i < length items → whole ≡ after done (each_from read i (map view (drop i items)))
      → IsFaultOr memory fault (read i (view (get_or items i d))) → IsFaultOr memory fault whole
  each_stops memory fault whole within left is =
      let rest = each_from read (i + 1) (map view (drop (i + 1) items)) in
      fault_along memory fault (read i (view (get_or items i d))) whole is
      (λ err. left ∙ ap (after done) (first_left within ∙ ap (λ first. first >>= λ y. rest >>= λ ys. Ok (y ∷ ys)) err))

-- what holds of each item's view
pub all_seen : {X A : Type 0} (P : A → Type 0) (view : X → A) (items : List X) (i : ℕ) (d : X)
    → i < length items → All P (map view items) → P (view (get_or items i d))
all_seen P view items i d within all =
    subst P (get_or-map view items i d) (All-get_or P (map view items) i (view d) (omega (arith, length-map items view)) all)
