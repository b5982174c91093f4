-- Each token that is printed of an expression may stand within one: its names are in scope.
use Rattle.std.proofs.Common.{◌≡◌, ℕ, suc, List, [], ◌∷◌, ◌++◌, Bool, true, false, cond, Some, refl, sym, ap, ◌∙◌, subst}
use Rattle.std.specs.Prelude.{nat_lt, ◌&&◌}
use Rattle.std.specs.List.{list_all}
use Rattle.std.proofs.lemmas.List.Folds.{list_all-append}
use Rattle.rcp_model.specs.declared.expr.Expr.{Expr}
use Rattle.rcp_model.specs.declared.expr.Expr.TheVariants as expr
use Rattle.rcp_model.specs.declared.expr.Op.{Op}
use Rattle.rcp_model.specs.declared.expr.Op.TheVariants as op
use Rattle.task_lang.specs.declared.token.Token.{Token}
use Rattle.task_lang.specs.declared.token.Token.TheVariants as token
use Rattle.task_lang.specs.Words.{Scope, leaf_of}
use Rattle.task_lang.specs.Rules.{enclosed_by, expr_rule}
use Rattle.task_lang.specs.Signs.{level_of, left_place, is_call}
use Rattle.task_lang.proofs.PrintedTokens.{PrintedTokens, placed_tokens, sign_token, listed_tokens, leaf_token, call_tokens, infix_tokens, two_tokens, printed_tokens, expr_tokens}
use Rattle.task_lang.proofs.TreeLemmas.{TreesKeep, tree_holds}
use Rattle.task_lang.proofs.PrintingSteps.{tokens-neg, tokens-not, tokens-abs, tokens-two, tokens-clamp, tokens-if}
use Rattle.task_lang.proofs.KeptLeaves.{stands_within, IsKeptLeaf}

pub all_in_both : {X : Type 0} (test : X → Bool) (front behind : List X) → list_all test front ≡ true → list_all test behind ≡ true → list_all test (front ++ behind) ≡ true
all_in_both test front behind first second =
    list_all-append test front behind ∙ (ap (λ b. b && list_all test behind) first ∙ second)

module _ (shown target : Scope) where
  abbrev AllStand : List Token → Type 0
  AllStand tokens = list_all (stands_within target) tokens ≡ true

  abbrev IsNamed : Expr → Type 0
  IsNamed a = AllStand (printed_tokens shown a).tokens

  -- so are they with brackets
  placed_named : (least : ℕ) (printed : PrintedTokens) → AllStand printed.tokens → AllStand (placed_tokens least printed)
  placed_named least printed named = by_case (nat_lt printed.level least)
    where
      by_case : (b : Bool) → AllStand (cond b (token.Open ∷ printed.tokens ++ token.Close ∷ []) printed.tokens)
      by_case true = all_in_both (stands_within target) printed.tokens (token.Close ∷ []) named refl
      by_case false = named

  sign_stands : (operator : Op) → stands_within target (sign_token operator) ≡ true
  sign_stands op.Or = refl
  sign_stands op.And = refl
  sign_stands op.Eq = refl
  sign_stands op.Ne = refl
  sign_stands op.Lt = refl
  sign_stands op.Le = refl
  sign_stands op.Gt = refl
  sign_stands op.Ge = refl
  sign_stands op.Add = refl
  sign_stands op.Sub = refl
  sign_stands op.Mul = refl
  sign_stands op.Div = refl
  sign_stands op.Rem = refl
  sign_stands op.Min = refl
  sign_stands op.Max = refl

  -- behind a token that may stand there
  with_first : (first : Token) (tokens : List Token) → stands_within target first ≡ true → AllStand tokens → AllStand (first ∷ tokens)
  with_first first tokens stands all = ap (λ b. b && list_all (stands_within target) tokens) stands ∙ all

  call_named : (word : Token) (arguments : List PrintedTokens) → stands_within target word ≡ true → AllStand (listed_tokens arguments) → AllStand (call_tokens word arguments).tokens
  call_named word arguments stands all =
      with_first word (token.Open ∷ listed_tokens arguments ++ token.Close ∷ []) stands
      (all_in_both (stands_within target) (listed_tokens arguments) (token.Close ∷ []) all refl)

  two_listed : (a b : PrintedTokens) → AllStand a.tokens → AllStand b.tokens → AllStand (listed_tokens (a ∷ b ∷ []))
  two_listed a b first second =
      all_in_both (stands_within target) (placed_tokens 1 a) (token.Comma ∷ placed_tokens 1 b) (placed_named 1 a first) (placed_named 1 b second)

  three_listed : (a b c : PrintedTokens) → AllStand a.tokens → AllStand b.tokens → AllStand c.tokens → AllStand (listed_tokens (a ∷ b ∷ c ∷ []))
  three_listed a b c first second third =
      all_in_both (stands_within target) (placed_tokens 1 a) (token.Comma ∷ listed_tokens (b ∷ c ∷ [])) (placed_named 1 a first) (two_listed b c second third)

  two_named : (operator : Op) (a b : PrintedTokens) → AllStand a.tokens → AllStand b.tokens → AllStand (two_tokens operator a b).tokens
  two_named operator a b first second = by_case (is_call operator)
    where
      by_case : (call : Bool) → AllStand (cond call (call_tokens (sign_token operator) (a ∷ b ∷ [])) (record { level = level_of operator; tokens = infix_tokens operator a b })).tokens
      by_case true = call_named (sign_token operator) (a ∷ b ∷ []) (sign_stands operator) (two_listed a b first second)
      by_case false =
          all_in_both (stands_within target) (placed_tokens (left_place operator) a) (sign_token operator ∷ placed_tokens (suc (level_of operator)) b)
          (placed_named (left_place operator) a first)
          (with_first (sign_token operator) (placed_tokens (suc (level_of operator)) b) (sign_stands operator) (placed_named (suc (level_of operator)) b second))

  by_printed : (a : Expr) (printed : PrintedTokens) → printed_tokens shown a ≡ printed → AllStand printed.tokens → IsNamed a
  by_printed a printed is all = let Stand : PrintedTokens → Type 0 = λ other. AllStand other.tokens in subst Stand (sym is) all

  trees_named : TreesKeep IsNamed
  trees_named = record {
    neg = λ a named. by_printed (expr.Neg a) _ (tokens-neg shown a) (placed_named 7 (printed_tokens shown a) named);
    denied = λ a named. by_printed (expr.Not a) _ (tokens-not shown a) (placed_named 3 (printed_tokens shown a) named);
    abs = λ a named.
        by_printed (expr.Abs a) _ (tokens-abs shown a) (call_named token.Abs (printed_tokens shown a ∷ []) refl (placed_named 1 (printed_tokens shown a) named));
    two = λ operator a b first second.
        by_printed (expr.Two operator a b) _ (tokens-two shown operator a b) (two_named operator (printed_tokens shown a) (printed_tokens shown b) first second);
    clamp = λ a low high first second third.
        by_printed (expr.Clamp a low high) _ (tokens-clamp shown a low high)
        (call_named token.Clamp (printed_tokens shown a ∷ printed_tokens shown low ∷ printed_tokens shown high ∷ []) refl
        (three_listed (printed_tokens shown a) (printed_tokens shown low) (printed_tokens shown high) first second third));
    choice = λ test a b first second third.
        by_printed (expr.If test a b) _ (tokens-if shown test a b)
        (call_named token.If (printed_tokens shown test ∷ printed_tokens shown a ∷ printed_tokens shown b ∷ []) refl
        (three_listed (printed_tokens shown test) (printed_tokens shown a) (printed_tokens shown b) first second third));
  }

  -- each token that is printed of a tree may stand within an expression there, where each leaf may
  pub expr_named : (scope : Scope) → ((first : Token) (a : Expr) → leaf_of scope first ≡ Some a → IsKeptLeaf shown target a)
      → (n : ℕ) (tokens : List Token) (a : Expr) → expr_rule scope (enclosed_by scope n) tokens a → list_all (stands_within target) (expr_tokens shown a) ≡ true
  expr_named scope leaves n tokens a derived =
      placed_named 1 (printed_tokens shown a)
      (tree_holds IsNamed trees_named scope
      (λ first leaf is.
      let kept = leaves first leaf is in
      by_printed leaf (leaf_token kept.first) kept.printed (with_first kept.first [] kept.fine refl))
      n tokens a derived)
