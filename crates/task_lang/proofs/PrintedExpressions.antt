-- The tokens that are printed of an expression write the same tree, within the limit of brackets.
use Rattle.std.proofs.Common.{◌≡◌, ℕ, zero, suc, ◌≤◌, List, [], ◌∷◌, ◌++◌, Bool, true, false, cond, Some, refl, sym, ◌∙◌, subst, arith, ◌⊎◌, inl, inr}
use Rattle.std.specs.Prelude.{nat_lt}
use Rattle.std.proofs.lemmas.Bool.{ltb-false, le-ltb}
use Rattle.rcp_model.specs.declared.expr.Expr.{Expr}
use Rattle.rcp_model.specs.declared.expr.Expr.TheVariants as expr
use Rattle.rcp_model.specs.declared.expr.Op.TheVariants as op
use Rattle.task_lang.specs.declared.token.Token.{Token}
use Rattle.task_lang.specs.declared.token.Token.TheVariants as token
use Rattle.task_lang.specs.declared.token.Form.TheVariants as form
use Rattle.task_lang.specs.Words.{Scope, leaf_of}
use Rattle.task_lang.specs.Forms.{parts_of_form}
use Rattle.task_lang.specs.Rules.{one, more, single, pair, plain, prefixed_by, leaf, within, enclosed_by, prim_rule, unary_rule, product_rule, sum_rule, comparison_rule, inv_rule, conj_rule, expr_rule}
use Rattle.task_lang.proofs.PrintedTokens.{PrintedTokens, placed_tokens, sign_token, leaf_token, call_tokens, two_tokens, printed_tokens, expr_tokens}
use Rattle.task_lang.proofs.LevelRules.{rule_at, looser, deeper}
use Rattle.task_lang.proofs.TreeLemmas.{FormsKeep, form_holds, sequence_holds}
use Rattle.task_lang.proofs.PrintingSteps.{tokens-neg, tokens-not, tokens-abs, tokens-two, tokens-clamp, tokens-if}
use Rattle.task_lang.proofs.PrintedForms.{or_infix, and_infix, comparison_infix, sum_infix, product_infix, one_listed, two_listed, three_listed}
use Rattle.task_lang.proofs.KeptLeaves.{IsKeptLeaf}

module _ (shown target : Scope) where
  -- the tokens of a tree without brackets of its own write it, with at most n brackets and prefixes round a token
  abbrev Natural : ℕ → Expr → Type 0
  Natural n a = rule_at (printed_tokens shown a).level target (enclosed_by target n) (printed_tokens shown a).tokens a

  -- it stands at a place as it is, or there is room for brackets
  abbrev Kept : ℕ → ℕ → Expr → Type 0
  Kept n least a = ((least ≤ (printed_tokens shown a).level) × Natural n a) ⊎ ((m : ℕ) × (n ≡ suc m) × Natural m a)

  natural_deeper : (n : ℕ) (a : Expr) → Natural n a → Natural (suc n) a
  natural_deeper n a = deeper target n (printed_tokens shown a).level (printed_tokens shown a).tokens a

  as_it_is : (n least : ℕ) (a : Expr) → least ≤ (printed_tokens shown a).level → Natural n a
      → rule_at least target (enclosed_by target n) (placed_tokens least (printed_tokens shown a)) a
  as_it_is n least a high derived =
      let Derives : Bool → Type 0 =
      λ b. rule_at least target (enclosed_by target n) (cond b (token.Open ∷ (printed_tokens shown a).tokens ++ token.Close ∷ []) (printed_tokens shown a).tokens) a in
      subst Derives (sym (le-ltb (printed_tokens shown a).level least high))
      (looser target (enclosed_by target n) least (printed_tokens shown a).level high (printed_tokens shown a).tokens a derived)

  in_brackets : (n least : ℕ) (a : Expr) → least ≤ 8 → Natural n a
      → rule_at least target (enclosed_by target (suc n)) (token.Open ∷ (printed_tokens shown a).tokens ++ token.Close ∷ []) a
  in_brackets n least a low derived =
      let tokens = (printed_tokens shown a).tokens in
      let inside : expr_rule target (enclosed_by target n) tokens a = looser target (enclosed_by target n) 0 (printed_tokens shown a).level (omega arith) tokens a derived in
      looser target (enclosed_by target (suc n)) least 8 low (token.Open ∷ tokens ++ token.Close ∷ []) a
      (within token.Open form.Brackets refl (tokens ++ token.Close ∷ []) (a ∷ [])
      (tokens, token.Close ∷ [], a, [], refl, refl, inside, ([], refl, (refl, refl))))

  with_room : (n least : ℕ) (a : Expr) → least ≤ 8 → Natural n a → rule_at least target (enclosed_by target (suc n)) (placed_tokens least (printed_tokens shown a)) a
  with_room n least a low derived = by_case (nat_lt (printed_tokens shown a).level least) refl
    where
      by_case : (b : Bool) → nat_lt (printed_tokens shown a).level least ≡ b → rule_at least target (enclosed_by target (suc n)) (placed_tokens least (printed_tokens shown a)) a
      by_case false is = as_it_is (suc n) least a (ltb-false (printed_tokens shown a).level least is) (natural_deeper n a derived)
      by_case true is =
          let Derives : Bool → Type 0 =
          λ b. rule_at least target (enclosed_by target (suc n)) (cond b (token.Open ∷ (printed_tokens shown a).tokens ++ token.Close ∷ []) (printed_tokens shown a).tokens) a in
          subst Derives (sym is) (in_brackets n least a low derived)

  -- it is derived where it is placed
  placed : (n least : ℕ) (a : Expr) → least ≤ 8 → Kept n least a → rule_at least target (enclosed_by target n) (placed_tokens least (printed_tokens shown a)) a
  placed n least a low (inl kept) = as_it_is n least a kept.0 kept.1
  placed n least a low (inr kept) =
      subst (λ i. rule_at least target (enclosed_by target i) (placed_tokens least (printed_tokens shown a)) a) (sym kept.1) (with_room kept.0 least a low kept.2)

  lower : (n high low : ℕ) (a : Expr) → low ≤ high → Kept n high a → Kept n low a
  lower n high low a below (inl kept) = inl (omega arith, kept.1)
  lower n high low a below (inr kept) = inr kept

  naturally : (n least : ℕ) (a : Expr) → Kept n least a → Natural n a
  naturally n least a (inl kept) = kept.1
  naturally n least a (inr kept) = subst (λ i. Natural i a) (sym kept.1) (natural_deeper kept.0 a kept.2)

  -- with its level as it is printed
  stays : (n least : ℕ) (a : Expr) (printed : PrintedTokens) → printed_tokens shown a ≡ printed → least ≤ printed.level
      → rule_at printed.level target (enclosed_by target n) printed.tokens a → Kept n least a
  stays n least a printed is high derived =
      let Stands : PrintedTokens → Type 0 = λ other. (least ≤ other.level) × rule_at other.level target (enclosed_by target n) other.tokens a in
      inl (subst Stands (sym is) (high, derived))

  -- what is kept of what is enclosed
  abbrev KeptWithin : ℕ → ℕ → Expr → Type 0
  KeptWithin n least a = (m : ℕ) × (n ≡ suc m) × Kept m least a

  record InsideKept (scope : Scope) (n : ℕ) : Type 0 where
    expr : (tokens : List Token) (a : Expr) → (enclosed_by scope n).expr tokens a → KeptWithin n 1 a
    inv : (tokens : List Token) (a : Expr) → (enclosed_by scope n).inv tokens a → KeptWithin n 3 a
    unary : (tokens : List Token) (a : Expr) → (enclosed_by scope n).unary tokens a → KeptWithin n 7 a

module _ (scope shown target : Scope) (leaves : (first : Token) (a : Expr) → leaf_of scope first ≡ Some a → IsKeptLeaf shown target a) (n : ℕ)
    (inside : InsideKept shown target scope n) where
  -- where it is placed within a form or behind a prefix
  expr_placed : (a : Expr) → KeptWithin shown target n 1 a → (enclosed_by target n).expr (placed_tokens 1 (printed_tokens shown a)) a
  expr_placed a kept =
      subst (λ i. (enclosed_by target i).expr (placed_tokens 1 (printed_tokens shown a)) a) (sym kept.1) (placed shown target kept.0 1 a (omega arith) kept.2)

  inv_placed : (a : Expr) → KeptWithin shown target n 3 a → (enclosed_by target n).inv (placed_tokens 3 (printed_tokens shown a)) a
  inv_placed a kept =
      subst (λ i. (enclosed_by target i).inv (placed_tokens 3 (printed_tokens shown a)) a) (sym kept.1) (placed shown target kept.0 3 a (omega arith) kept.2)

  unary_placed : (a : Expr) → KeptWithin shown target n 7 a → (enclosed_by target n).unary (placed_tokens 7 (printed_tokens shown a)) a
  unary_placed a kept =
      subst (λ i. (enclosed_by target i).unary (placed_tokens 7 (printed_tokens shown a)) a) (sym kept.1) (placed shown target kept.0 7 a (omega arith) kept.2)

  abbrev tokens_at : Expr → List Token
  tokens_at a = placed_tokens 1 (printed_tokens shown a)

  abbrev inner : List Token → Expr → Type 0
  inner = (enclosed_by target n).expr

  forms_keep : FormsKeep (KeptWithin shown target n 1) (Kept shown target n 8)
  forms_keep = record {
    brackets = λ a kept. inr (kept.0, kept.1, naturally shown target kept.0 1 a kept.2);
    abs = λ a kept.
        stays shown target n 8 (expr.Abs a) (call_tokens token.Abs (printed_tokens shown a ∷ [])) (tokens-abs shown a) (omega arith)
        (within token.Abs form.Abs refl _ (a ∷ []) (one_listed inner (tokens_at a) a (expr_placed a kept)));
    min = λ a b first second.
        stays shown target n 8 (expr.Two op.Min a b) (two_tokens op.Min (printed_tokens shown a) (printed_tokens shown b)) (tokens-two shown op.Min a b) (omega arith)
        (within token.Min form.Min refl _ (a ∷ b ∷ []) (two_listed inner (tokens_at a) (tokens_at b) a b (expr_placed a first) (expr_placed b second)));
    max = λ a b first second.
        stays shown target n 8 (expr.Two op.Max a b) (two_tokens op.Max (printed_tokens shown a) (printed_tokens shown b)) (tokens-two shown op.Max a b) (omega arith)
        (within token.Max form.Max refl _ (a ∷ b ∷ []) (two_listed inner (tokens_at a) (tokens_at b) a b (expr_placed a first) (expr_placed b second)));
    clamp = λ a low high first second third.
        stays shown target n 8 (expr.Clamp a low high) (call_tokens token.Clamp (printed_tokens shown a ∷ printed_tokens shown low ∷ printed_tokens shown high ∷ []))
        (tokens-clamp shown a low high) (omega arith)
        (within token.Clamp form.Clamp refl _ (a ∷ low ∷ high ∷ [])
        (three_listed inner (tokens_at a) (tokens_at low) (tokens_at high) a low high (expr_placed a first) (expr_placed low second) (expr_placed high third)));
    choice = λ test a b first second third.
        stays shown target n 8 (expr.If test a b) (call_tokens token.If (printed_tokens shown test ∷ printed_tokens shown a ∷ printed_tokens shown b ∷ []))
        (tokens-if shown test a b) (omega arith)
        (within token.If form.If refl _ (test ∷ a ∷ b ∷ [])
        (three_listed inner (tokens_at test) (tokens_at a) (tokens_at b) test a b (expr_placed test first) (expr_placed a second) (expr_placed b third)));
  }

  prim_kept : {tokens : List Token} {a : Expr} → prim_rule scope (enclosed_by scope n) tokens a → Kept shown target n 8 a
  prim_kept (leaf token a is) =
      let kept = leaves token a is in
      stays shown target n 8 a (leaf_token kept.first) kept.printed (omega arith) (leaf kept.first a kept.stands)
  prim_kept (within token form is tokens trees derived) =
      form_holds (KeptWithin shown target n 1) (Kept shown target n 8) forms_keep form trees
      (sequence_holds (enclosed_by scope n).expr (KeptWithin shown target n 1) inside.expr (parts_of_form form) tokens trees derived)

  unary_kept : {tokens : List Token} {a : Expr} → unary_rule scope (enclosed_by scope n) tokens a → Kept shown target n 7 a
  unary_kept (plain tokens a derived) = lower shown target n 8 7 a (omega arith) (prim_kept derived)
  unary_kept (prefixed_by first tokens a is derived) =
      let list = placed_tokens 7 (printed_tokens shown a) in
      stays shown target n 7 (expr.Neg a) (record { level = 7; tokens = token.Minus ∷ list }) (tokens-neg shown a) (omega arith)
      (prefixed_by token.Minus list a refl (unary_placed a (inside.unary tokens a derived)))

  product_kept : {tokens : List Token} {a : Expr} → product_rule scope (enclosed_by scope n) tokens a → Kept shown target n 6 a
  product_kept (one tokens a derived) = lower shown target n 7 6 a (omega arith) (unary_kept derived)
  product_kept (more tokens a front token operator is behind b derived) =
      let sign = product_infix token operator is in
      stays shown target n 6 (expr.Two operator a b) _ (tokens-two shown operator a b ∙ sign.shape (printed_tokens shown a) (printed_tokens shown b)) (omega arith)
      (more (placed_tokens 6 (printed_tokens shown a)) a (placed shown target n 6 a (omega arith) (product_kept front)) (sign_token operator) operator sign.sign
      (placed_tokens 7 (printed_tokens shown b)) b (placed shown target n 7 b (omega arith) (unary_kept derived)))

  sum_kept : {tokens : List Token} {a : Expr} → sum_rule scope (enclosed_by scope n) tokens a → Kept shown target n 5 a
  sum_kept (one tokens a derived) = lower shown target n 6 5 a (omega arith) (product_kept derived)
  sum_kept (more tokens a front token operator is behind b derived) =
      let sign = sum_infix token operator is in
      stays shown target n 5 (expr.Two operator a b) _ (tokens-two shown operator a b ∙ sign.shape (printed_tokens shown a) (printed_tokens shown b)) (omega arith)
      (more (placed_tokens 5 (printed_tokens shown a)) a (placed shown target n 5 a (omega arith) (sum_kept front)) (sign_token operator) operator sign.sign
      (placed_tokens 6 (printed_tokens shown b)) b (placed shown target n 6 b (omega arith) (product_kept derived)))

  comparison_kept : {tokens : List Token} {a : Expr} → comparison_rule scope (enclosed_by scope n) tokens a → Kept shown target n 4 a
  comparison_kept (single tokens a derived) = lower shown target n 5 4 a (omega arith) (sum_kept derived)
  comparison_kept (pair tokens a front token operator is behind b derived) =
      let sign = comparison_infix token operator is in
      stays shown target n 4 (expr.Two operator a b) _ (tokens-two shown operator a b ∙ sign.shape (printed_tokens shown a) (printed_tokens shown b)) (omega arith)
      (pair (placed_tokens 5 (printed_tokens shown a)) a (placed shown target n 5 a (omega arith) (sum_kept front)) (sign_token operator) operator sign.sign
      (placed_tokens 5 (printed_tokens shown b)) b (placed shown target n 5 b (omega arith) (sum_kept derived)))

  inv_kept : {tokens : List Token} {a : Expr} → inv_rule scope (enclosed_by scope n) tokens a → Kept shown target n 3 a
  inv_kept (plain tokens a derived) = lower shown target n 4 3 a (omega arith) (comparison_kept derived)
  inv_kept (prefixed_by first tokens a is derived) =
      let list = placed_tokens 3 (printed_tokens shown a) in
      stays shown target n 3 (expr.Not a) (record { level = 3; tokens = token.Not ∷ list }) (tokens-not shown a) (omega arith)
      (prefixed_by token.Not list a refl (inv_placed a (inside.inv tokens a derived)))

  conj_kept : {tokens : List Token} {a : Expr} → conj_rule scope (enclosed_by scope n) tokens a → Kept shown target n 2 a
  conj_kept (one tokens a derived) = lower shown target n 3 2 a (omega arith) (inv_kept derived)
  conj_kept (more tokens a front token operator is behind b derived) =
      let sign = and_infix token operator is in
      stays shown target n 2 (expr.Two operator a b) _ (tokens-two shown operator a b ∙ sign.shape (printed_tokens shown a) (printed_tokens shown b)) (omega arith)
      (more (placed_tokens 2 (printed_tokens shown a)) a (placed shown target n 2 a (omega arith) (conj_kept front)) (sign_token operator) operator sign.sign
      (placed_tokens 3 (printed_tokens shown b)) b (placed shown target n 3 b (omega arith) (inv_kept derived)))

  expr_kept : {tokens : List Token} {a : Expr} → expr_rule scope (enclosed_by scope n) tokens a → Kept shown target n 1 a
  expr_kept (one tokens a derived) = lower shown target n 2 1 a (omega arith) (conj_kept derived)
  expr_kept (more tokens a front token operator is behind b derived) =
      let sign = or_infix token operator is in
      stays shown target n 1 (expr.Two operator a b) _ (tokens-two shown operator a b ∙ sign.shape (printed_tokens shown a) (printed_tokens shown b)) (omega arith)
      (more (placed_tokens 1 (printed_tokens shown a)) a (placed shown target n 1 a (omega arith) (expr_kept front)) (sign_token operator) operator sign.sign
      (placed_tokens 2 (printed_tokens shown b)) b (placed shown target n 2 b (omega arith) (conj_kept derived)))

module _ (scope shown target : Scope) (leaves : (first : Token) (a : Expr) → leaf_of scope first ≡ Some a → IsKeptLeaf shown target a) where
  all_kept : (n : ℕ) → InsideKept shown target scope n
  all_kept zero =
      record { expr = λ tokens a derived. absurd derived; inv = λ tokens a derived. absurd derived; unary = λ tokens a derived. absurd derived }
  all_kept (suc n) =
      let inside : InsideKept shown target scope n = all_kept n in
      record {
        expr = λ tokens a derived. (n, refl, expr_kept scope shown target leaves n inside derived);
        inv = λ tokens a derived. (n, refl, inv_kept scope shown target leaves n inside derived);
        unary = λ tokens a derived. (n, refl, unary_kept scope shown target leaves n inside derived);
      }

  -- what is printed of a tree that tokens write writes it again, also in other scopes that have the leaves
  pub expr_printed : (n : ℕ) (tokens : List Token) (a : Expr) → expr_rule scope (enclosed_by scope n) tokens a
      → expr_rule target (enclosed_by target n) (expr_tokens shown a) a
  expr_printed n tokens a derived = placed shown target n 1 a (omega arith) (expr_kept scope shown target leaves n (all_kept n) derived)
