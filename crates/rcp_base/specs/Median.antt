-- The median of the values that places name, and what is chosen of a vote. This project's own.
use Rattle.std.specs.Prelude.{◌*◌, ◌≤◌, nat_le, ℤ, ◌≤ℤ◌, int_le, Bool, List, [], ◌∷◌, length, count_by, filter, filter_map, Contains, Option, Some, None, unwrap_or, if◌then◌else◌}
use Rattle.std.specs.Int.{int_min}
use Rattle.std.specs.Ordering.{int_eq}
use Rattle.rcp_base.specs.Majority.{voted_value}

-- the values that places name
abbrev pub values_named : List (Option ℤ) → List ℤ
values_named places = filter_map (λ place. place) places

-- at least half of these values are at most this one
abbrev pub is_half : List ℤ → ℤ → Bool
is_half values value = nat_le (length values) (2 * count_by (λ other. int_le other value) values)

-- the same as a statement
abbrev pub IsHalf : List ℤ → ℤ → Type 0
IsHalf values value = length values ≤ 2 * count_by (λ other. int_le other value) values

-- the least value that is named and that at least half of the named values are at most: of an even number, the lower middle
pub record IsMedian (places : List (Option ℤ)) (value : ℤ) : Type 0 where
  pub named : Contains (values_named places) value
  pub half : IsHalf (values_named places) value
  pub least : (other : ℤ) → Contains (values_named places) other → IsHalf (values_named places) other → value ≤ℤ other

-- the lesser of a number and another, where there is another
abbrev pub least_with : ℤ → Option ℤ → Option ℤ
least_with x None = Some x
least_with x (Some y) = Some (int_min x y)

-- the least of numbers, where there are any
abbrev pub least_of : List ℤ → Option ℤ
least_of [] = None
least_of (x ∷ xs) = least_with x (least_of xs)

-- the median, where some place names a value
unfoldable pub median_of : List (Option ℤ) → Option ℤ
median_of places = least_of (filter (is_half (values_named places)) (values_named places))

-- what a vote over these places chooses: the median or the majority's value, and one's own where there is none
unfoldable pub chosen_value : Bool → List (Option ℤ) → ℤ → ℤ
chosen_value median places own = if median then unwrap_or (median_of places) own else voted_value int_eq places own
