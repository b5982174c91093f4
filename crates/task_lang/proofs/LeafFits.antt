-- What is printed of a number or a name of a text has its token, and at most its bytes.
use Rattle.std.proofs.Common.{◌≡◌, ℕ, ◌<◌, pos, negsuc, Some, List, length, ap, subst, arith}
use Rattle.std.specs.Fmt.{decimal}
use Rattle.std.proofs.lemmas.Fmt.{decimal_digit}
use Rattle.rcp_model.specs.declared.expr.Expr.{Expr}
use Rattle.rcp_model.specs.declared.expr.Expr.TheVariants as expr
use Rattle.task_lang.specs.declared.token.Token.{Token}
use Rattle.task_lang.specs.declared.token.Token.TheVariants as token
use Rattle.task_lang.specs.Words.{Scope, stand_in, named_by, leaf_of}
use Rattle.task_lang.proofs.NamingLemmas.{GoesOn, IsNamed, unknown, known, name_printed}
use Rattle.task_lang.proofs.TokenSizes.{size_of, IsFine}
use Rattle.task_lang.proofs.TreeFits.{TreeFits, name_long, number_fits, name_fits}

pub stand_in_fits : (whole : Scope) (size : ℕ) → 0 < size → TreeFits whole stand_in size
stand_in_fits whole size some = number_fits whole 0 size (omega arith) (omega (arith, ap length (decimal_digit 0 (omega arith))))

named_fits : (scope whole : Scope) (name : List ℕ) (a : Expr) → IsFine (token.Word name) → IsNamed whole scope name a → TreeFits whole a (length name)
named_fits scope whole name a fine (unknown outside) = stand_in_fits whole (length name) (name_long name fine.0)
named_fits scope whole name a fine (known b inside text_is tokens_are same) = name_fits whole b name text_is tokens_are fine

pub leaf_keeps : (scope whole : Scope) → GoesOn scope whole → (t : Token) (a : Expr) → leaf_of scope t ≡ Some a → IsFine t → TreeFits whole a (size_of t)
leaf_keeps scope whole on (token.Number (pos n)) a is fine =
    let this : expr.Number (pos n) ≡ a = cc in subst (λ a. TreeFits whole a (length (decimal n))) this (number_fits whole n (length (decimal n)) fine (omega arith))
leaf_keeps scope whole on (token.Number (negsuc n)) a is fine = absurd fine
leaf_keeps scope whole on (token.Word name) a is fine =
    let this : named_by scope name ≡ a = cc in
    subst (λ a. TreeFits whole a (length name)) this (named_fits scope whole name (named_by scope name) fine (name_printed whole scope on name))
leaf_keeps scope whole on _ a is fine = cc
