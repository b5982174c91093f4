-- What is told of a vote is what its definition as a statement says. This project's own.
use Rattle.std.specs.Prelude.{◌≡◌, ◌↔◌, ℕ, nat_eq, ℤ, Bool, List, [], Option, Some, None}
use Rattle.std.specs.Ordering.{int_eq}
use Rattle.rcp_base.specs.Majority.{IsMajority, majority_of}
use Rattle.rcp_base.specs.Median.{IsMedian, median_of, values_named}

-- the value that is told has a majority of the places, and none is told exactly where no value has one
pub record TellsMajority {X : Type 0} (same : X → X → Bool) (places : List (Option X)) : Type 0 where
  pub some : (value : X) → (majority_of same places ≡ Some value) ↔ IsMajority same places value
  pub none : (majority_of same places ≡ None) ↔ ((value : X) → IsMajority same places value → ⊥)

-- so it is of values and of slots
abbrev pub MajoritiesAreTold : Type 0
MajoritiesAreTold = ((places : List (Option ℤ)) → TellsMajority int_eq places) × ((places : List (Option ℕ)) → TellsMajority nat_eq places)

-- the value that is told is the median of the values that places name, and none is told exactly where they name none
pub record TellsMedian (places : List (Option ℤ)) : Type 0 where
  pub some : (value : ℤ) → (median_of places ≡ Some value) ↔ IsMedian places value
  pub none : (median_of places ≡ None) ↔ (values_named places ≡ [])

abbrev pub MediansAreTold : Type 0
MediansAreTold = (places : List (Option ℤ)) → TellsMedian places

-- a value that has a majority of the places is their median too
abbrev pub AMajorityIsTheMedian : Type 0
AMajorityIsTheMedian = (places : List (Option ℤ)) (value : ℤ) → IsMajority int_eq places value → median_of places ≡ Some value
