-- What the scan of names finds in the tokens of a statement.
use Rattle.std.proofs.Common.{◌≡◌, ℕ, suc, List, [], ◌∷◌, ◌++◌, length, Bool, true, false, cond, Option, Some, None, refl, sym, ap, ◌∙◌}
use Rattle.std.specs.Prelude.{◌&&◌}
use Rattle.std.specs.List.{list_all}
use Rattle.task_lang.specs.declared.token.Token.{Token}
use Rattle.task_lang.specs.declared.token.Token.TheVariants as token
use Rattle.task_lang.specs.Words.{Scope}
use Rattle.task_lang.specs.ReaderParts.{choose}
use Rattle.task_lang.specs.NameFaults.{NameFault, IsUnknown, Seen, SetCell, Operand, is_in_scope, begins_with_assign, fault_in, seen_behind_name, wrong_name_from}
use Rattle.task_lang.specs.RightNames.{is_known, AreKnown}
use Rattle.task_lang.proofs.KeptLeaves.{stands_within}
use Rattle.task_lang.proofs.TokensWithin.{is_inner}

-- what is seen where no `let` stands right before
abbrev pub seen_at : Scope → List (List ℕ) → List (List ℕ) → Seen
seen_at scope begun set = record { scope = scope; begun = begun; set = set; behind_let = false }

module _ (scope : Scope) (begun set : List (List ℕ)) where
  -- how a test of a name goes on
  abbrev pub tested : Bool → NameFault → Seen → List Token → Option (NameFault × ℕ)
  tested passes fault seen rest = choose (cond passes None (Some fault)) (wrong_name_from seen rest) (λ fault. Some (fault, suc (length rest)))

  pub operand : (name : List ℕ) (rest : List Token) → begins_with_assign rest ≡ false
      → wrong_name_from (seen_at scope begun set) (token.Word name ∷ rest) ≡ tested (is_in_scope scope name) IsUnknown (seen_at scope begun set) rest
  operand name rest none =
      ap (λ b.
      let role = cond b SetCell Operand in
      choose (fault_in (seen_at scope begun set) role name) (wrong_name_from (seen_behind_name (seen_at scope begun set) role name) rest) (λ fault. Some (fault, suc (length rest))))
      none

  -- a token that may stand within an expression is passed
  stands_passed : (first : Token) (rest : List Token) → begins_with_assign rest ≡ false → stands_within scope first ≡ true
      → wrong_name_from (seen_at scope begun set) (first ∷ rest) ≡ wrong_name_from (seen_at scope begun set) rest
  stands_passed (token.Word name) rest none stands =
      operand name rest none ∙ ap (λ b. tested b IsUnknown (seen_at scope begun set) rest) stands
  stands_passed token.Let rest none stands = cc
  stands_passed token.Assign rest none stands = cc
  stands_passed token.Equal rest none stands = cc
  stands_passed token.Semicolon rest none stands = cc
  stands_passed _ rest none stands = refl

  -- an inner token that is passed may stand there
  passed_stands : (first : Token) (rest : List Token) → begins_with_assign rest ≡ false → is_inner first ≡ true
      → wrong_name_from (seen_at scope begun set) (first ∷ rest) ≡ None → stands_within scope first ≡ true
  passed_stands (token.Word name) rest none inner found = by_case (is_in_scope scope name) refl
    where
      by_case : (b : Bool) → is_in_scope scope name ≡ b → is_in_scope scope name ≡ true
      by_case true is = is
      by_case false is =
          let fault : wrong_name_from (seen_at scope begun set) (token.Word name ∷ rest) ≡ Some (IsUnknown, suc (length rest)) =
          operand name rest none ∙ ap (λ b. tested b IsUnknown (seen_at scope begun set) rest) is in
          cc
  passed_stands token.Let rest none inner found = cc
  passed_stands token.Assign rest none inner found = cc
  passed_stands token.Equal rest none inner found = cc
  passed_stands token.Semicolon rest none inner found = cc
  passed_stands _ rest none inner found = refl

no_assign : (first : Token) (rest : List Token) → is_inner first ≡ true → begins_with_assign (first ∷ rest) ≡ false
no_assign token.Assign rest inner = cc
no_assign _ rest inner = refl

stands_inner : (scope : Scope) (first : Token) → stands_within scope first ≡ true → is_inner first ≡ true
stands_inner scope (token.Word name) stands = refl
stands_inner scope token.Let stands = cc
stands_inner scope token.Assign stands = cc
stands_inner scope token.Equal stands = cc
stands_inner scope token.Semicolon stands = cc
stands_inner scope _ stands = refl

pub both : (a b : Bool) → (a && b) ≡ true → (a ≡ true) × (b ≡ true)
both true b is = (refl, is)
both false b is = cc

-- inner tokens before no `:=`
pub no_assign_behind : (tokens rest : List Token) → list_all is_inner tokens ≡ true → begins_with_assign rest ≡ false → begins_with_assign (tokens ++ rest) ≡ false
no_assign_behind [] rest inner none = none
no_assign_behind (first ∷ tokens) rest inner none = no_assign first (tokens ++ rest) (both (is_inner first) (list_all is_inner tokens) inner).0

all_inner : (scope : Scope) (tokens : List Token) → list_all (stands_within scope) tokens ≡ true → list_all is_inner tokens ≡ true
all_inner scope [] all = refl
all_inner scope (first ∷ tokens) all =
    let parts = both (stands_within scope first) (list_all (stands_within scope) tokens) all in
    ap (λ b. b && list_all is_inner tokens) (stands_inner scope first parts.0) ∙ all_inner scope tokens parts.1

module _ (scope : Scope) (begun set : List (List ℕ)) where
  -- an expression whose names are in scope is passed
  pub all_passed : (tokens rest : List Token) → begins_with_assign rest ≡ false → list_all (stands_within scope) tokens ≡ true
      → wrong_name_from (seen_at scope begun set) (tokens ++ rest) ≡ wrong_name_from (seen_at scope begun set) rest
  all_passed [] rest none all = refl
  all_passed (first ∷ tokens) rest none all =
      let parts = both (stands_within scope first) (list_all (stands_within scope) tokens) all in
      stands_passed scope begun set first (tokens ++ rest) (no_assign_behind tokens rest (all_inner scope tokens parts.1) none) parts.0
      ∙ all_passed tokens rest none parts.1

  -- and one that is passed has its names in scope
  pub passed_all : (tokens rest : List Token) → begins_with_assign rest ≡ false → list_all is_inner tokens ≡ true → wrong_name_from (seen_at scope begun set) (tokens ++ rest) ≡ None
      → list_all (stands_within scope) tokens ≡ true
  passed_all [] rest none inner found = refl
  passed_all (first ∷ tokens) rest none inner found =
      let parts = both (is_inner first) (list_all is_inner tokens) inner in
      let behind : begins_with_assign (tokens ++ rest) ≡ false = no_assign_behind tokens rest parts.1 none in
      let stands : stands_within scope first ≡ true = passed_stands scope begun set first (tokens ++ rest) behind parts.0 found in
      let next : wrong_name_from (seen_at scope begun set) (tokens ++ rest) ≡ None = sym (stands_passed scope begun set first (tokens ++ rest) behind stands) ∙ found in
      ap (λ b. b && list_all (stands_within scope) tokens) stands ∙ passed_all tokens rest none parts.1 next

-- it stands within an expression where it parts no statements and is known
known_stands : (scope : Scope) (first : Token) → is_inner first ≡ true → is_known scope first ≡ true → stands_within scope first ≡ true
known_stands scope (token.Word name) inner known = known
known_stands scope token.Let inner known = cc
known_stands scope token.Assign inner known = cc
known_stands scope token.Equal inner known = cc
known_stands scope token.Semicolon inner known = cc
known_stands scope _ inner known = refl

stands_known : (scope : Scope) (first : Token) → stands_within scope first ≡ true → is_known scope first ≡ true
stands_known scope (token.Word name) stands = stands
stands_known scope _ stands = refl

pub all_known_stand : (scope : Scope) (tokens : List Token) → list_all is_inner tokens ≡ true → AreKnown scope tokens → list_all (stands_within scope) tokens ≡ true
all_known_stand scope [] inner known = refl
all_known_stand scope (first ∷ tokens) inner known =
    let inners = both (is_inner first) (list_all is_inner tokens) inner in
    let knowns = both (is_known scope first) (list_all (is_known scope) tokens) known in
    ap (λ b. b && list_all (stands_within scope) tokens) (known_stands scope first inners.0 knowns.0) ∙ all_known_stand scope tokens inners.1 knowns.1

pub all_standing_known : (scope : Scope) (tokens : List Token) → list_all (stands_within scope) tokens ≡ true → AreKnown scope tokens
all_standing_known scope [] stand = refl
all_standing_known scope (first ∷ tokens) stand =
    let stands = both (stands_within scope first) (list_all (stands_within scope) tokens) stand in
    ap (λ b. b && list_all (is_known scope) tokens) (stands_known scope first stands.0) ∙ all_standing_known scope tokens stands.1
