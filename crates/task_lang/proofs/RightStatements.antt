-- Statements whose names are right, also with the lets before the sets, and as they are printed.
use Rattle.std.proofs.Common.{◌≡◌, ℕ, ◌<◌, List, [], ◌∷◌, ◌++◌, length, true, false, Some, refl, sym, ap, ◌∙◌, subst, arith, append_assoc, append-nil}
use Rattle.rcp_model.specs.declared.expr.Expr.{Expr}
use Rattle.task_lang.specs.declared.token.Token.{Token}
use Rattle.task_lang.specs.Words.{Scope, leaf_of}
use Rattle.task_lang.specs.Rules.{IsExpr}
use Rattle.task_lang.specs.Statements.{Statement, Let, Set, IsStatement, Many, last, next, scope_of, lets_behind, let_rows}
use Rattle.task_lang.specs.NameFaults.{has_name}
use Rattle.task_lang.specs.RightNames.{IsKnownExpr, Earlier, IsRightTarget, sets_behind, earlier_behind, IsRightStatement}
use Rattle.task_lang.specs.Printing.{let_names}
use Rattle.task_lang.proofs.PrintedTokens.{expr_tokens}
use Rattle.task_lang.proofs.NamingLemmas.{GoesOn}
use Rattle.task_lang.proofs.KeptLeaves.{IsKeptLeaf, leaf_kept}
use Rattle.task_lang.proofs.PrintedExpressions.{expr_printed}
use Rattle.task_lang.proofs.PrintedNames.{expr_named}
use Rattle.task_lang.proofs.WrittenStatements.{value_of, statement_tokens, statement_written, written_derived}
use Rattle.task_lang.proofs.Scanning.{all_standing_known}

-- the lets of statements, and their sets
abbrev pub lets_of : List Statement → List Statement
lets_of [] = []
lets_of (Let name value ∷ others) = Let name value ∷ lets_of others
lets_of (Set name value ∷ others) = lets_of others

abbrev pub sets_of : List Statement → List Statement
sets_of [] = []
sets_of (Let name value ∷ others) = sets_of others
sets_of (Set name value ∷ others) = Set name value ∷ sets_of others

-- the tokens of statements whose values are printed in a scope
abbrev pub printed_statements : Scope → List Statement → List Token
printed_statements shown [] = []
printed_statements shown (statement ∷ others) = statement_tokens statement (expr_tokens shown (value_of statement)) ++ printed_statements shown others

module _ (sensors cells : List (List ℕ)) where
  abbrev over : List (List ℕ) → Scope
  over lets = scope_of sensors cells lets

  -- a tree that tokens write over the first of these lets
  pub record IsTree (lets : List (List ℕ)) (value : Expr) : Type 0 where
    pub before : List (List ℕ)
    pub later : List (List ℕ)
    pub cut : lets ≡ before ++ later
    pub tokens : List Token
    pub derived : IsExpr (over before) tokens value

  abbrev pub AreRight : List (List ℕ) → List (List ℕ) → List Statement → Type 0
  AreRight lets set [] = Unit {0}
  AreRight lets set (statement ∷ others) =
      IsTree lets (value_of statement) × IsRightTarget sensors cells lets set statement × AreRight (lets_behind lets statement) (sets_behind set statement) others

  one_tree : (lets : List (List ℕ)) (tokens : List Token) (statement : Statement) → IsStatement (IsKnownExpr (over lets)) tokens statement → IsTree lets (value_of statement)
  one_tree lets tokens statement one =
      let token_in = statement_written (IsKnownExpr (over lets)) tokens statement one in
      record { before = lets; later = []; cut = sym (append-nil lets); tokens = token_in.inside; derived = token_in.derived.0 }

  pub all_right : {earlier : Earlier} {tokens : List Token} {statements : List Statement} → Many (IsRightStatement sensors cells) earlier_behind earlier tokens statements
      → AreRight earlier.lets earlier.set statements
  all_right (last earlier tokens statement right) = (one_tree earlier.lets tokens statement right.token_in, right.target, tt)
  all_right (next earlier tokens statement right behind others many) = (one_tree earlier.lets tokens statement right.token_in, right.target, all_right many)

  -- more lets harm no tree
  wider : (lets more : List (List ℕ)) (value : Expr) → IsTree lets value → IsTree (lets ++ more) value
  wider lets more value tree = record {
    before = tree.before;
    later = tree.later ++ more;
    cut = ap (λ list. list ++ more) tree.cut ∙ append_assoc tree.before tree.later more;
    tokens = tree.tokens;
    derived = tree.derived;
  }

  -- a set may stand behind the lets behind it
  set_moved : (name : List ℕ) (value : Expr) (list sets : List Statement) (lets set : List (List ℕ)) → IsTree lets value → has_name cells name ≡ true → has_name set name ≡ false
      → AreRight lets (set ++ name ∷ []) (lets_of list ++ sets) → AreRight lets set (lets_of list ++ Set name value ∷ sets)
  set_moved name value [] sets lets set tree cell new right = (tree, (cell, new), right)
  set_moved name value (Let other first ∷ list) sets lets set tree cell new right =
      (right.0, right.1, set_moved name value list sets (lets ++ other ∷ []) set (wider lets (other ∷ []) value tree) cell new right.2)
  set_moved name value (Set other first ∷ list) sets lets set tree cell new right = set_moved name value list sets lets set tree cell new right

  -- the lets may stand first
  pub lets_first : (statements : List Statement) (lets set : List (List ℕ)) → AreRight lets set statements → AreRight lets set (lets_of statements ++ sets_of statements)
  lets_first [] lets set right = tt
  lets_first (Let name value ∷ others) lets set right = (right.0, right.1, lets_first others (lets ++ name ∷ []) set right.2)
  lets_first (Set name value ∷ others) lets set right =
      set_moved name value others (sets_of others) lets set right.0 right.1.0 right.1.1 (lets_first others lets (set ++ name ∷ []) right.2)

  -- a value is printed in the scope of all lets, and read again in its own
  value_printed : (lets more whole : List (List ℕ)) (value : Expr) → whole ≡ lets ++ more → IsTree lets value → IsKnownExpr (over lets) (expr_tokens (over whole) value) value
  value_printed lets more whole value is tree =
      let before = tree.before in
      let printed_on : GoesOn (over before) (over whole) =
      record { sensors = refl; cells = refl; later = tree.later ++ more; lets = is ∙ (ap (λ list. list ++ more) tree.cut ∙ append_assoc before tree.later more) } in
      let read_on : GoesOn (over before) (over lets) = record { sensors = refl; cells = refl; later = tree.later; lets = tree.cut } in
      let leaves : (first : Token) (a : Expr) → leaf_of (over before) first ≡ Some a → IsKeptLeaf (over whole) (over lets) a =
      leaf_kept (over before) (over whole) (over lets) printed_on read_on in
      let tokens = expr_tokens (over whole) value in (
        expr_printed (over before) (over whole) (over lets) leaves 64 tree.tokens value tree.derived,
        all_standing_known (over lets) tokens (expr_named (over whole) (over lets) (over before) leaves 64 tree.tokens value tree.derived),
      )

  -- the lets behind a statement, and those of the others
  lets_cut : (lets whole : List (List ℕ)) (statement : Statement) (others : List Statement) → whole ≡ lets ++ let_names (let_rows (statement ∷ others))
      → whole ≡ lets_behind lets statement ++ let_names (let_rows others)
  lets_cut lets whole (Let name value) others is = is ∙ sym (append_assoc lets (name ∷ []) (let_names (let_rows others)))
  lets_cut lets whole (Set name value) others is = is

  one_printed : (lets set whole : List (List ℕ)) (statement : Statement) (others : List Statement) → whole ≡ lets ++ let_names (let_rows (statement ∷ others))
      → AreRight lets set (statement ∷ others)
      → IsRightStatement sensors cells (record { lets = lets; set = set }) (statement_tokens statement (expr_tokens (over whole) (value_of statement))) statement
  one_printed lets set whole statement others is right =
      record {
        token_in = written_derived (IsKnownExpr (over lets)) statement (expr_tokens (over whole) (value_of statement))
            (value_printed lets (let_names (let_rows (statement ∷ others))) whole (value_of statement) is right.0);
        target = right.1;
      }

  -- right statements are right as they are printed
  printed_right : (statement : Statement) (others : List Statement) (lets set whole : List (List ℕ)) → whole ≡ lets ++ let_names (let_rows (statement ∷ others))
      → AreRight lets set (statement ∷ others)
      → Many (IsRightStatement sensors cells) earlier_behind (record { lets = lets; set = set }) (printed_statements (over whole) (statement ∷ others)) (statement ∷ others)
  printed_right statement [] lets set whole is right =
      let tokens = statement_tokens statement (expr_tokens (over whole) (value_of statement)) in
      let earlier : Earlier = record { lets = lets; set = set } in
      subst (λ list. Many (IsRightStatement sensors cells) earlier_behind earlier list (statement ∷ [])) (sym (append-nil tokens))
      (last earlier tokens statement (one_printed lets set whole statement [] is right))
  printed_right statement (second ∷ others) lets set whole is right =
      let tokens = statement_tokens statement (expr_tokens (over whole) (value_of statement)) in
      next (record { lets = lets; set = set }) tokens statement (one_printed lets set whole statement (second ∷ others) is right)
      (printed_statements (over whole) (second ∷ others)) (second ∷ others)
      (printed_right second others (lets_behind lets statement) (sets_behind set statement) whole (lets_cut lets whole statement (second ∷ others) is) right.2)

  pub some_printed : (statements : List Statement) → 0 < length statements → (lets set whole : List (List ℕ)) → whole ≡ lets ++ let_names (let_rows statements)
      → AreRight lets set statements
      → Many (IsRightStatement sensors cells) earlier_behind (record { lets = lets; set = set }) (printed_statements (over whole) statements) statements
  some_printed [] some lets set whole is right = absurd (omega arith)
  some_printed (statement ∷ others) some lets set whole is right = printed_right statement others lets set whole is right

  -- right statements are statements
  plainly : (lets : List (List ℕ)) (tokens : List Token) (statement : Statement) → IsStatement (IsKnownExpr (over lets)) tokens statement → IsStatement (IsExpr (over lets)) tokens statement
  plainly lets tokens statement one =
      let token_in = statement_written (IsKnownExpr (over lets)) tokens statement one in
      subst (λ list. IsStatement (IsExpr (over lets)) list statement) (sym token_in.cut) (written_derived (IsExpr (over lets)) statement token_in.inside token_in.derived.0)

  pub right_body : {earlier : Earlier} {tokens : List Token} {statements : List Statement} → Many (IsRightStatement sensors cells) earlier_behind earlier tokens statements
      → Many (λ lets. IsStatement (IsExpr (over lets))) lets_behind earlier.lets tokens statements
  right_body (last earlier tokens statement right) = last earlier.lets tokens statement (plainly earlier.lets tokens statement right.token_in)
  right_body (next earlier tokens statement right behind others many) =
      next earlier.lets tokens statement (plainly earlier.lets tokens statement right.token_in) behind others (right_body many)
