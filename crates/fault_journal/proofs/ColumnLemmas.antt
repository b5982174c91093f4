-- The places of names.
use Rattle.std.proofs.Common.{◌≡◌, ℕ, ◌+◌, Bool, List, [], ◌∷◌, map, position, not, cond, refl, ap}
use Rattle.std.proofs.lemmas.List.{length-map}
use Rattle.std.specs.List.{prefix_len}
use Rattle.std.specs.Str.{bytes_eq}
use Rattle.rcp_model.specs.declared.plan.ActuatorRow.{ActuatorRow}
use Rattle.rcp_model.specs.declared.plan.Variable.{Variable}
use Rattle.rcp_model.specs.Plan.{variable_names, actuator_names}
use Rattle.rcp_base.specs.Answers.{place_in}

prefix_len-map : {X : Type 0} {Y : Type 0} (f : X → Y) (test : Y → Bool) (xs : List X) → prefix_len test (map f xs) ≡ prefix_len (λ x. test (f x)) xs
prefix_len-map f test [] = refl
prefix_len-map f test (x ∷ xs) = ap (λ n. cond (test (f x)) (1 + n) 0) (prefix_len-map f test xs)

position-map : {X : Type 0} {Y : Type 0} (f : X → Y) (test : Y → Bool) (xs : List X) → position test (map f xs) ≡ position (λ x. test (f x)) xs
position-map f test xs = rw (prefix_len-map f (λ y. not (test y)) xs, length-map xs f) refl

pub variable_places : (variables : List Variable) (text : List ℕ) → place_in (variable_names variables) text ≡ position (λ variable. bytes_eq text variable.name) variables
variable_places variables text = position-map (λ (variable : Variable). variable.name) (bytes_eq text) variables

pub actuator_places : (actuators : List ActuatorRow) (text : List ℕ) → place_in (actuator_names actuators) text ≡ position (λ actuator. bytes_eq text actuator.name) actuators
actuator_places actuators text = position-map (λ (actuator : ActuatorRow). actuator.name) (bytes_eq text) actuators
