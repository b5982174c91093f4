-- Counts of the items of a list that pass a test.
use Rattle.std.proofs.Common.{◌≡◌, ℕ, zero, suc, ◌+◌, ◌<◌, ◌≤◌, Bool, true, false, cond, List, [], ◌∷◌, map, length, count_by, refl, arith}
use Rattle.std.specs.List.{range_with_len}
use Rattle.std.proofs.lemmas.List.Sums.{sum_by-cons}

-- one item more
pub count_by-cons : {X : Type 0} (p : X → Bool) (x : X) (xs : List X) → count_by p (x ∷ xs) ≡ cond (p x) 1 0 + count_by p xs
count_by-cons p x xs = sum_by-cons (λ y. cond (p y) 1 0) x xs

-- a test that passes no less counts no less
pub one_le : (b c : Bool) → (b ≡ true → c ≡ true) → cond b 1 0 ≤ cond c 1 0
one_le false c h = omega arith
one_le true c h = let e = h refl in rw e (omega arith)

-- more items of a list pass a test than numbers of its places pass another, where each such place does
pub count_mono : {X : Type 0} (good : ℕ → Bool) (f : ℕ → X) (p : X → Bool) (a n : ℕ) → ((k : ℕ) → k < a + n → good k ≡ true → p (f k) ≡ true) → count_by good (range_with_len a n) ≤ count_by p (map f (range_with_len a n))
count_mono good f p a zero h = omega arith
count_mono good f p a (suc n) h =
    let rest : count_by good (range_with_len (a + 1) n) ≤ count_by p (map f (range_with_len (a + 1) n)) = count_mono good f p (a + 1) n (λ k l. h k (omega arith)) in
    omega (arith, count_by-cons good a (range_with_len (a + 1) n), count_by-cons p (f a) (map f (range_with_len (a + 1) n)), one_le (good a) (p (f a)) (h a (omega arith)))

-- counts of what passes one test, another, or neither
pub count_apart : {X : Type 0} (p q : X → Bool) → ((x : X) → cond (p x) 1 0 + cond (q x) 1 0 ≤ 1) → (xs : List X) → count_by p xs + count_by q xs ≤ length xs
count_apart p q h [] = omega arith
count_apart p q h (x ∷ xs) = omega (arith, count_by-cons p x xs, count_by-cons q x xs, h x, count_apart p q h xs)

-- a test that passes wherever another does
pub count_more : {X : Type 0} (p q : X → Bool) → ((x : X) → p x ≡ true → q x ≡ true) → (xs : List X) → count_by p xs ≤ count_by q xs
count_more p q h [] = omega arith
count_more p q h (x ∷ xs) = omega (arith, count_by-cons p x xs, count_by-cons q x xs, one_le (p x) (q x) (h x), count_more p q h xs)

-- no more than there are
pub count_most : {X : Type 0} (p : X → Bool) (xs : List X) → count_by p xs ≤ length xs
count_most p [] = omega arith
count_most p (x ∷ xs) = omega (arith, count_by-cons p x xs, one_at_most (p x), count_most p xs)
  where
    one_at_most : (b : Bool) → cond b 1 0 ≤ 1
    one_at_most true = omega arith
    one_at_most false = omega arith
