-- The median, place by place from the last, and counts of places in the place of counts of values.
use Rattle.std.proofs.Common.{◌≡◌, ℕ, ◌+◌, ◌*◌, ◌/◌, ◌-◌, ◌≤◌, Bool, true, false, cond, List, [], ◌∷◌, ◌++◌, length, Option, Some, None, count_by, refl, sym, ap, ◌∙◌, arith, inl, inr, filter, ℤ, int_le, is_some, append-nil}
use Rattle.std.proofs.lemmas.Bool.{cases_Bool, cond-true, cond-false, le-leb, lt-leb}
use Rattle.std.proofs.lemmas.Bool.Decides.{leb_tells}
use Rattle.std.specs.Prelude.{if◌then◌else◌, nat_le}
use Rattle.std.proofs.lemmas.Int.{ints}
use Rattle.std.proofs.lemmas.List.Elements.{filter-append, filter_map-append}
use Rattle.rcp_base.specs.Median.{values_named, is_half, least_with, least_of, median_of}
use Rattle.rcp_base.proofs.CountLaws.{count_by-cons}
use Rattle.majority_vote.specs.Middle.{lesser, with_place, names_at_most}

-- the least that half of the values are at most, of those that these places name
abbrev pub least_half : List ℤ → List (Option ℤ) → Option ℤ
least_half values places = least_of (filter (is_half values) (values_named places))

one_lesser : (x : ℤ) (o : Option ℤ) → least_with x o ≡ Some (lesser x o)
one_lesser x None = refl
one_lesser x (Some y) = refl

-- two numbers more in either order
in_either_order : (x y : ℤ) (o : Option ℤ) → least_with x (least_with y o) ≡ least_with y (least_with x o)
in_either_order x y None = ap Some (grind (arith, ints))
in_either_order x y (Some z) = ap Some (grind (arith, ints))

-- one number more at the end
least_of_last : (xs : List ℤ) (y : ℤ) → least_of (xs ++ y ∷ []) ≡ least_with y (least_of xs)
least_of_last [] y = refl
least_of_last (x ∷ xs) y = ap (least_with x) (least_of_last xs y) ∙ in_either_order x y (least_of xs)

filter_last : (test : ℤ → Bool) (xs : List ℤ) (y : ℤ) → filter test (xs ++ y ∷ []) ≡ filter test xs ++ (if test y then y ∷ [] else [])
filter_last test xs y = filter-append test xs (y ∷ [])

named_last : (places : List (Option ℤ)) (place : Option ℤ) → values_named (places ++ place ∷ []) ≡ values_named places ++ values_named (place ∷ [])
named_last places place = filter_map-append (λ named. named) places (place ∷ [])

-- one place more at the end
pub least_half_last : (values : List ℤ) (places : List (Option ℤ)) (place : Option ℤ)
    → least_half values (places ++ place ∷ []) ≡ with_place values place (least_half values places)
least_half_last values places None =
    ap (λ xs. least_of (filter (is_half values) xs)) (named_last places None ∙ append-nil (values_named places))
least_half_last values places (Some x) =
    ap (λ xs. least_of (filter (is_half values) xs)) (named_last places (Some x))
    ∙ ap least_of (filter_last (is_half values) (values_named places) x)
    ∙ elim (cases_Bool (is_half values x)) [
      | inl t ↦
          ap (λ ys. least_of (filter (is_half values) (values_named places) ++ ys)) (cond-true (is_half values x) (x ∷ []) [] t)
          ∙ least_of_last (filter (is_half values) (values_named places)) x
          ∙ one_lesser x (least_half values places)
          ∙ sym (cond-true (is_half values x) (Some (lesser x (least_half values places))) (least_half values places) t)
      | inr f ↦
          ap (λ ys. least_of (filter (is_half values) (values_named places) ++ ys)) (cond-false (is_half values x) (x ∷ []) [] f)
          ∙ ap least_of (append-nil (filter (is_half values) (values_named places)))
          ∙ sym (cond-false (is_half values x) (Some (lesser x (least_half values places))) (least_half values places) f)
    ]

pub median_is_least_half : (places : List (Option ℤ)) → median_of places ≡ least_half (values_named places) places
unfolding median_of
median_is_least_half places = refl

-- as many places name a value as there are values
pub count_named : (places : List (Option ℤ)) → count_by is_some places ≡ length (values_named places)
count_named [] = refl
count_named (None ∷ places) = omega (arith, count_named places, count_by-cons is_some None places)
count_named (Some x ∷ places) = omega (arith, count_named places, count_by-cons is_some (Some x) places)

-- and as many name one of at most this
pub count_at_most : (value : ℤ) (places : List (Option ℤ)) → count_by (names_at_most value) places ≡ count_by (λ other. int_le other value) (values_named places)
count_at_most value [] = refl
count_at_most value (None ∷ places) = omega (arith, count_at_most value places, count_by-cons (names_at_most value) None places)
count_at_most value (Some x ∷ places) =
    omega (arith, count_at_most value places, count_by-cons (names_at_most value) (Some x) places, count_by-cons (λ other. int_le other value) x (values_named places))

-- at least half, by counts without a product
pub half_test : (named at_most values some : ℕ) → named ≡ values → at_most ≡ some
    → nat_le (named - named / 2) at_most ≡ nat_le values (2 * some)
half_test named at_most values some is so = rw (is, so) (both_ways_le values some)
  where
    both_ways_le : (n k : ℕ) → nat_le (n - n / 2) k ≡ nat_le n (2 * k)
    both_ways_le n k = elim (leb_tells n (2 * k)) [
      | inl le ↦ le-leb _ _ (let h = le.1 in omega arith) ∙ sym le.0
      | inr gt ↦ lt-leb _ _ (let h = gt.1 in omega arith) ∙ sym gt.0
    ]
