-- A scan that finds no wrong name has found each set's name among the cells.
use Rattle.std.proofs.Common.{◌≡◌, ℕ, suc, Bool, true, false, not, ◌&&◌, cond, Option, Some, None, List, [], ◌∷◌, ◌++◌, length, refl, subst}
use Rattle.std.specs.Prelude.{is_some}
use Rattle.task_lang.specs.declared.token.Token.{Token}
use Rattle.task_lang.specs.declared.token.Token.TheVariants as token
use Rattle.rcp_base.specs.Answers.{place_in}
use Rattle.task_lang.specs.Words.{is_let}
use Rattle.task_lang.specs.ReaderParts.{choose}
use Rattle.task_lang.specs.NameFaults.{NameFault, IsBadTarget, Role, NewLet, SetCell, Operand, Seen, has_name, role_before, fault_in, seen_behind_name, seen_behind, wrong_name_from, nothing_seen, first_wrong_name}

-- the scan over these tokens finds no wrong name; `let` stands right before or not
pub record IsScanned (cells : List (List ℕ)) (behind_let : Bool) (tokens : List Token) : Type 0 where
  pub seen : Seen
  pub cells_are : seen.scope.cells ≡ cells
  pub behind : seen.behind_let ≡ behind_let
  pub fine : wrong_name_from seen tokens ≡ None

pub scanned_all : (sensors cells : List (List ℕ)) (tokens : List Token) → first_wrong_name sensors cells tokens ≡ None → IsScanned cells false tokens
unfolding first_wrong_name
scanned_all sensors cells tokens fine = record { seen = nothing_seen sensors cells; cells_are = refl; behind = refl; fine = fine }

-- behind a word
word_scanned : (cells : List (List ℕ)) (behind_let : Bool) (name : List ℕ) (rest : List Token) (scan : IsScanned cells behind_let (token.Word name ∷ rest))
    → (fault_in scan.seen (role_before scan.seen rest) name ≡ None) × IsScanned cells false rest
word_scanned cells behind_let name rest scan = by_fault (fault_in scan.seen (role_before scan.seen rest) name) refl scan.fine
  where
    next : Role → Option (NameFault × ℕ)
    next role = wrong_name_from (seen_behind_name scan.seen role name) rest

    goes_on : (role : Role) → next role ≡ None → IsScanned cells false rest
    goes_on NewLet fine = record { seen = seen_behind_name scan.seen NewLet name; cells_are = scan.cells_are; behind = refl; fine = fine }
    goes_on SetCell fine = record { seen = seen_behind_name scan.seen SetCell name; cells_are = scan.cells_are; behind = refl; fine = fine }
    goes_on Operand fine = record { seen = seen_behind_name scan.seen Operand name; cells_are = scan.cells_are; behind = refl; fine = fine }

    by_fault : (fault : Option NameFault) → fault_in scan.seen (role_before scan.seen rest) name ≡ fault
        → choose fault (next (role_before scan.seen rest)) (λ fault. Some (fault, suc (length rest))) ≡ None
        → (fault_in scan.seen (role_before scan.seen rest) name ≡ None) × IsScanned cells false rest
    by_fault None none fine = (none, goes_on (role_before scan.seen rest) fine)
    by_fault (Some fault) is fine = cc

-- behind each token
pub scanned_behind : (cells : List (List ℕ)) (behind_let : Bool) (t : Token) (rest : List Token) → IsScanned cells behind_let (t ∷ rest) → IsScanned cells (is_let t) rest
scanned_behind cells behind_let (token.Word name) rest scan = (word_scanned cells behind_let name rest scan).1
scanned_behind cells behind_let token.Let rest scan = record { seen = seen_behind scan.seen token.Let; cells_are = scan.cells_are; behind = refl; fine = scan.fine }
scanned_behind cells behind_let token.Semicolon rest scan = record { seen = seen_behind scan.seen token.Semicolon; cells_are = scan.cells_are; behind = refl; fine = scan.fine }
scanned_behind cells behind_let t rest scan = record { seen = seen_behind scan.seen t; cells_are = scan.cells_are; behind = refl; fine = scan.fine }

pub scanned_past : (cells : List (List ℕ)) (behind_let : Bool) (front rest : List Token) → IsScanned cells behind_let (front ++ rest) → (behind : Bool) × IsScanned cells behind rest
scanned_past cells behind_let [] rest scan = (behind_let, scan)
scanned_past cells behind_let (t ∷ front) rest scan = scanned_past cells (is_let t) front rest (scanned_behind cells behind_let t (front ++ rest) scan)

-- a name before `:=` is a cell
no_bad_target : (cell unset : Bool) → cond (cell && unset) None (Some IsBadTarget) ≡ None → cell ≡ true
no_bad_target true unset none = refl
no_bad_target false unset none = cc

place_of : (place : Option ℕ) → is_some place ≡ true → (i : ℕ) × (place ≡ Some i)
place_of (Some i) is = (i, refl)
place_of None is = cc

pub set_scanned : (cells : List (List ℕ)) (name : List ℕ) (rest : List Token) → IsScanned cells false (token.Word name ∷ token.Assign ∷ rest) → (i : ℕ) × (place_in cells name ≡ Some i)
set_scanned cells name rest scan =
    let fine : fault_in scan.seen (cond false NewLet SetCell) name ≡ None =
    subst (λ test. fault_in scan.seen (cond test NewLet SetCell) name ≡ None) scan.behind (word_scanned cells false name (token.Assign ∷ rest) scan).0 in
    place_of (place_in cells name)
    (subst (λ cells. has_name cells name ≡ true) scan.cells_are (no_bad_target (has_name scan.seen.scope.cells name) (not (has_name scan.seen.set name)) fine))
