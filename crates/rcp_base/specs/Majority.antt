-- The vote of more than half of all places. After NASA TM-102716.
use Rattle.std.specs.Prelude.{◌*◌, ◌<◌, nat_lt, Bool, false, List, length, count_by, find, filter_map, Option, Some, None, unwrap_or}

-- a place names this value, by a test of equality
abbrev pub names_value : {X : Type 0} → (X → X → Bool) → X → Option X → Bool
names_value same value None = false
names_value same value (Some other) = same value other

-- more than half of all places name this value; a place that names none counts as a place
abbrev pub has_majority : {X : Type 0} → (X → X → Bool) → List (Option X) → X → Bool
has_majority same places value = nat_lt (length places) (2 * count_by (names_value same value) places)

-- the same, said of the count
abbrev pub IsMajority : {X : Type 0} → (X → X → Bool) → List (Option X) → X → Type 0
IsMajority same places value = length places < 2 * count_by (names_value same value) places

-- the value that more than half of all places name, if there is one: no two can be
unfoldable pub majority_of : {X : Type 0} → (X → X → Bool) → List (Option X) → Option X
majority_of same places = find (has_majority same places) (filter_map (λ place. place) places)

-- what is taken from a vote: the majority's value, and one's own where there is none
unfoldable pub voted_value : {X : Type 0} → (X → X → Bool) → List (Option X) → X → X
voted_value same places own = unwrap_or (majority_of same places) own
