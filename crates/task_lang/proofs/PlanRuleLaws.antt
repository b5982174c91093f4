-- What is read of a text keeps the rules of a plan.
use Rattle.std.proofs.Common.{◌≡◌, ℕ, ◌+◌, true, List, [], ◌++◌, length, Ok, ap, refl, subst, sym, arith, append-nil}
use Rattle.std.specs.Prelude.{slice_index_or}
use Rattle.rcp_model.specs.declared.expr.Expr.{Expr}
use Rattle.rcp_model.specs.declared.task.Task.{Task}
use Rattle.rcp_model.specs.Plan.{AreNames, is_over, IsTaskOver}
use Rattle.task_lang.specs.Tokens.{tokens_of}
use Rattle.task_lang.specs.Statements.{Statement, scope_of, let_rows, task_with}
use Rattle.task_lang.specs.RightNames.{IsRightBody}
use Rattle.task_lang.specs.PlanRules.{ExpressionsKeepRules, BodiesKeepRules, BodiesKeepNames}
use Rattle.task_lang.specs.Answers.{IsExprAnswer, IsBodyAnswer}
use Rattle.task_lang.specs.TextReaders.{read_expr, read_body}
use Rattle.task_lang.proofs.TextLemmas.{expression_texts_read, body_texts_read}
use Rattle.task_lang.proofs.TokenSizes.{tokens_are_fine}
use Rattle.task_lang.proofs.NameScans.{body_names_scanned}
use Rattle.task_lang.proofs.OverScopes.{expressions_over}
use Rattle.task_lang.proofs.RowRules.{KeepRules, rules_kept, lets_named, lets_read, sets_over, sets_there, sets_apart}

-- an expression is over the sensors and cells
pub expressions_keep_rules : ExpressionsKeepRules
expressions_keep_rules sensors cells text a answer =
    expressions_over (scope_of sensors cells []) 0 (omega arith) 64 (tokens_of text) a (tokens_are_fine text) answer.permitted

statements_keep_rules : (sensors cells : List (List ℕ)) → AreNames (sensors ++ cells) → (name : List ℕ) (statements : List Statement) → KeepRules sensors cells [] [] statements
    → IsTaskOver sensors cells (task_with cells name statements)
statements_keep_rules sensors cells are name statements keep = record {
  names = lets_named sensors cells [] [] statements (subst AreNames (sym (append-nil (sensors ++ cells))) are) keep;
  lets = λ i d below.
      let place : 0 + i ≡ i = omega arith in
      subst (λ n. is_over (length sensors) (length cells) n (slice_index_or (let_rows statements) i d).value ≡ true) place
      (lets_read sensors cells [] [] statements keep i d below);
  values = sets_over sensors cells (length (let_rows statements)) [] [] statements (omega arith) keep;
  targets = sets_there sensors cells [] [] statements keep;
  apart = sets_apart sensors cells [] [] [] statements refl (λ i j d less below. absurd (omega arith)) keep;
}

-- so is a task
pub bodies_keep_rules : BodiesKeepRules
bodies_keep_rules sensors cells are name text task answer =
    let tokens = tokens_of text in
    let statements = answer.permitted.0 in
    let right : IsRightBody sensors cells tokens statements = (body_names_scanned sensors cells tokens statements answer.permitted.1).0 answer.fine in
    subst (IsTaskOver sensors cells) (sym answer.permitted.2)
    (statements_keep_rules sensors cells are name statements (rules_kept sensors cells (tokens_are_fine text) right))

-- and it has its name
pub bodies_keep_names : BodiesKeepNames
bodies_keep_names sensors cells name text task answer = ap (λ (task : Task). task.name) answer.permitted.2

-- so does what the readers of texts answer

pub read_expr_keeps_rules : (sensors cells : List (List ℕ)) (text : List ℕ) (a : Expr) → read_expr sensors cells text ≡ Ok a → is_over (length sensors) (length cells) 0 a ≡ true
read_expr_keeps_rules sensors cells text a is =
    expressions_keep_rules sensors cells text a (subst (IsExprAnswer sensors cells text) is (expression_texts_read sensors cells text))

pub read_body_keeps_rules : (sensors cells : List (List ℕ)) → AreNames (sensors ++ cells) → (name text : List ℕ) (task : Task) → read_body sensors cells name text ≡ Ok task
    → IsTaskOver sensors cells task
read_body_keeps_rules sensors cells are name text task is =
    bodies_keep_rules sensors cells are name text task (subst (IsBodyAnswer sensors cells name text) is (body_texts_read sensors cells name text))

pub read_body_keeps_name : (sensors cells : List (List ℕ)) (name text : List ℕ) (task : Task) → read_body sensors cells name text ≡ Ok task → task.name ≡ name
read_body_keeps_name sensors cells name text task is =
    bodies_keep_names sensors cells name text task (subst (IsBodyAnswer sensors cells name text) is (body_texts_read sensors cells name text))
