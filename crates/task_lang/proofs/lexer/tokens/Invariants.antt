use Rattle.std.proofs.Common.{◌≡◌, ◌++◌, List, ℕ, length}
use Rattle.task_lang.specs.declared.token.Token.{Token}
use Rattle.task_lang.specs.Tokens.{tokens_of, lefts_of}
use Rattle.task_lang.proofs.lexer.tokens.Given as goal

-- what was cut off, and what is to come of the rest, is what the text has
pub record IsCut (list : List Token) (places rest text : List ℕ) : Type 0 where
  pub tokens : list ++ tokens_of rest ≡ tokens_of text
  pub lefts : places ++ lefts_of rest ≡ lefts_of text

abbrev pub invariant-loop-first : goal.invariant-loop-first
invariant-loop-first l = IsCut l.list l.lefts l.rest l.text

abbrev pub decreases-loop-first : goal.decreases-loop-first
decreases-loop-first l = length l.rest
