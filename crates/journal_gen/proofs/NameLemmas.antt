-- The names of a plan: each is found at its own place.
use Rattle.std.proofs.Common.{◌≡◌, ◌≢◌, ℕ, zero, suc, ◌+◌, ◌<◌, List, [], ◌∷◌, ◌++◌, length, get_or, Some, Bool, true, AllPairs, refl, sym, ◌∙◌, inl, inr, arith, length-append}
use Rattle.std.proofs.lemmas.Bool.{and_parts, cases_lt, lt-ltb, true≢false}
use Rattle.std.proofs.lemmas.List.{get_or_append_left, get_or-append-add, length-map}
use Rattle.std.proofs.lemmas.List.Folds.{list_all-append}
use Rattle.std.proofs.lemmas.List.Sums.{fails_before_first, passes_at_first}
use Rattle.std.proofs.lemmas.Slice.Eq.{bytes_eq-Decides}
use Rattle.std.specs.List.{list_all, position_or_len}
use Rattle.std.specs.Str.{bytes_eq}
use Rattle.rcp_base.specs.Answers.{place_in}
use Rattle.rcp_base.specs.Name.{is_name}
use Rattle.rcp_model.specs.declared.plan.PlanParts.{PlanParts}
use Rattle.rcp_model.specs.declared.plan.Variable.{Variable}
use Rattle.rcp_model.specs.Plan.{IsPlan, variable_names}
use Rattle.journal_gen.specs.Written.{name_at}

-- the first name that is this one stands at this place
first_place : (names : List (List ℕ)) (i : ℕ) → i < length names → AllPairs (λ a b. a ≢ b) names
    → position_or_len (bytes_eq (name_at names i)) names ≡ i
first_place names i within distinct =
    let text = name_at names i in
    let test : List ℕ → Bool = bytes_eq text in
    let first = position_or_len test names in
    elim (cases_lt first i) [
      | inl before ↦
          let passes = passes_at_first test names [] (omega (arith, before, within)) in
          let same : text ≡ get_or names first [] = (bytes_eq-Decides text (get_or names first [])).0 passes in
          absurd (distinct first i [] before within (sym same))
      | inr after ↦ elim (cases_lt i first) [
        | inl past ↦ absurd (true≢false (sym ((bytes_eq-Decides text text).1 refl) ∙ fails_before_first test names i [] past))
        | inr upto ↦ omega (arith, after, upto)
      ]
    ]

pub place_found : (names : List (List ℕ)) (i : ℕ) → i < length names → AllPairs (λ a b. a ≢ b) names
    → place_in names (name_at names i) ≡ Some i
place_found names i within distinct =
    let first = first_place names i within distinct in
    rw (first, lt-ltb i (length names) within) refl

pairs_left : (xs ys : List (List ℕ)) → AllPairs (λ a b. a ≢ b) (xs ++ ys) → AllPairs (λ a b. a ≢ b) xs
pairs_left xs ys distinct i j d less within same =
    distinct i j d less (omega (arith, within, length-append xs ys))
    (get_or_append_left xs ys d i (omega (arith, less, within)) ∙ same ∙ sym (get_or_append_left xs ys d j within))

pairs_right : (xs ys : List (List ℕ)) → AllPairs (λ a b. a ≢ b) (xs ++ ys) → AllPairs (λ a b. a ≢ b) ys
pairs_right xs ys distinct i j d less within same =
    distinct (length xs + i) (length xs + j) d (omega (arith, less)) (omega (arith, within, length-append xs ys))
    (get_or-append-add xs ys i d ∙ same ∙ sym (get_or-append-add xs ys j d))

is_name_at : (names : List (List ℕ)) (i : ℕ) → i < length names → list_all is_name names ≡ true → is_name (name_at names i) ≡ true
is_name_at [] i within are = absurd (omega (arith, within))
is_name_at (name ∷ names) zero within are = (and_parts (is_name name) (list_all is_name names) are).0
is_name_at (name ∷ names) (suc i) within are = is_name_at names i (omega (arith, within)) (and_parts (is_name name) (list_all is_name names) are).1

-- a name of a list, and its place there
pub record IsNameAt (names : List (List ℕ)) (i : ℕ) : Type 0 where
  pub name : is_name (name_at names i) ≡ true
  pub place : place_in names (name_at names i) ≡ Some i

-- the names of sensors and of cells
pub sensor_name : (plan : PlanParts) → IsPlan plan → (i : ℕ) → i < length plan.sensors → IsNameAt (variable_names plan.sensors) i
sensor_name plan is i within =
    let sensors = variable_names plan.sensors in
    let cells = variable_names plan.cells in
    let inside : i < length sensors = omega (arith, within, length-map plan.sensors (λ (v : Variable). v.name)) in
    let each = and_parts (list_all is_name sensors) (list_all is_name cells) (sym (list_all-append is_name sensors cells) ∙ is.variables.each) in
    record {
      name = is_name_at sensors i inside each.0;
      place = place_found sensors i inside (pairs_left sensors cells is.variables.distinct);
    }

pub cell_name : (plan : PlanParts) → IsPlan plan → (i : ℕ) → i < length plan.cells → IsNameAt (variable_names plan.cells) i
cell_name plan is i within =
    let sensors = variable_names plan.sensors in
    let cells = variable_names plan.cells in
    let inside : i < length cells = omega (arith, within, length-map plan.cells (λ (v : Variable). v.name)) in
    let each = and_parts (list_all is_name sensors) (list_all is_name cells) (sym (list_all-append is_name sensors cells) ∙ is.variables.each) in
    record {
      name = is_name_at cells i inside each.1;
      place = place_found cells i inside (pairs_right sensors cells is.variables.distinct);
    }
