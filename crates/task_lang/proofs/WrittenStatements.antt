-- A statement's tokens by its name and those of its value.
use Rattle.std.proofs.Common.{◌≡◌, List, [], ◌∷◌, ◌++◌, true, refl, ap, ◌∙◌, subst}
use Rattle.rcp_model.specs.declared.expr.Expr.{Expr}
use Rattle.task_lang.specs.declared.token.Token.{Token}
use Rattle.task_lang.specs.declared.token.Token.TheVariants as token
use Rattle.task_lang.specs.declared.token.Mark.{Mark}
use Rattle.task_lang.specs.declared.token.Mark.TheVariants as mark
use Rattle.task_lang.specs.Words.{is_let, token_of_mark}
use Rattle.task_lang.specs.Rules.{Sequence, plain, prefixed_by}
use Rattle.task_lang.specs.Statements.{Statement, Let, Set, IsNamed, named, IsStatement, parts_behind}

abbrev pub value_of : Statement → Expr
value_of (Let name value) = value
value_of (Set name value) = value

-- the tokens of a statement whose value has these tokens
abbrev pub statement_tokens : Statement → List Token → List Token
statement_tokens (Let name value) tokens = token.Let ∷ token.Word name ∷ token.Equal ∷ tokens ++ token.Semicolon ∷ []
statement_tokens (Set name value) tokens = token.Word name ∷ token.Assign ∷ tokens ++ token.Semicolon ∷ []

-- a statement is token_in by its value's tokens, and these write the value
pub record IsWritten (Value : List Token → Expr → Type 0) (tokens : List Token) (statement : Statement) : Type 0 where
  pub inside : List Token
  pub cut : tokens ≡ statement_tokens statement inside
  pub derived : Value inside (value_of statement)

module _ (Value : List Token → Expr → Type 0) where
  behind_written : (sign : Mark) (tokens : List Token) (value : Expr) → Sequence Value (parts_behind sign) tokens (value ∷ [])
      → (inside : List Token) × (tokens ≡ token_of_mark sign ∷ inside ++ token.Semicolon ∷ []) × Value inside value
  behind_written sign tokens value derived =
      let inside = derived.2 in
      let end = inside.7 in
      let first : inside.2 ≡ value = let listed : value ∷ [] ≡ inside.2 ∷ inside.3 = inside.5 in cc in
      let last : inside.1 ≡ token.Semicolon ∷ [] = end.1 ∙ ap (λ list. token.Semicolon ∷ list) end.2.0 in
      let rest : derived.0 ≡ inside.0 ++ token.Semicolon ∷ [] = inside.4 ∙ ap (λ list. inside.0 ++ list) last in
      (inside.0, derived.1 ∙ ap (λ list. token_of_mark sign ∷ list) rest, subst (Value inside.0) first inside.6)

  is_let_is : (first : Token) → is_let first ≡ true → first ≡ token.Let
  is_let_is token.Let is = refl
  is_let_is _ is = cc

  set_written : {tokens : List Token} {statement : Statement} → IsNamed mark.Assign Set Value tokens statement → IsWritten Value tokens statement
  set_written (named name tokens value derived) =
      let behind = behind_written mark.Assign tokens value derived in
      record { inside = behind.0; cut = ap (λ list. token.Word name ∷ list) behind.1; derived = behind.2 }

  let_written : (first : Token) → is_let first ≡ true → {tokens : List Token} {statement : Statement} → IsNamed mark.Equal Let Value tokens statement
      → IsWritten Value (first ∷ tokens) statement
  let_written first is (named name tokens value derived) =
      let behind = behind_written mark.Equal tokens value derived in
      record {
        inside = behind.0;
        cut = ap (λ start. start ∷ token.Word name ∷ tokens) (is_let_is first is) ∙ ap (λ list. token.Let ∷ token.Word name ∷ list) behind.1;
        derived = behind.2;
      }

  pub statement_written : (tokens : List Token) (statement : Statement) → IsStatement Value tokens statement → IsWritten Value tokens statement
  statement_written tokens statement (plain list other derived) = set_written derived
  statement_written tokens statement (prefixed_by first list other is derived) = let_written first is derived

  behind_derived : (sign : Mark) (inside : List Token) (value : Expr) → Value inside value
      → Sequence Value (parts_behind sign) (token_of_mark sign ∷ inside ++ token.Semicolon ∷ []) (value ∷ [])
  behind_derived sign inside value derived =
      (inside ++ token.Semicolon ∷ [], refl, (inside, token.Semicolon ∷ [], value, [], refl, refl, derived, ([], refl, (refl, refl))))

  pub written_derived : (statement : Statement) (inside : List Token) → Value inside (value_of statement) → IsStatement Value (statement_tokens statement inside) statement
  written_derived (Let name value) inside derived =
      let tokens = token.Equal ∷ inside ++ token.Semicolon ∷ [] in
      prefixed_by token.Let (token.Word name ∷ tokens) (Let name value) refl (named name tokens value (behind_derived mark.Equal inside value derived))
  written_derived (Set name value) inside derived =
      let tokens = token.Assign ∷ inside ++ token.Semicolon ∷ [] in
      plain (token.Word name ∷ tokens) (Set name value) (named name tokens value (behind_derived mark.Assign inside value derived))
