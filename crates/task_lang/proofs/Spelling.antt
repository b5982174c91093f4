-- Which bytes have which tokens wherever they stand, and what joins such bytes.
use Rattle.std.proofs.Common.{◌≡◌, ℕ, false, List, [], ◌∷◌, ◌++◌, codes, refl, sym, ap, ◌∙◌, subst, append_assoc}
use Rattle.rcp_base.specs.Name.{is_name_byte}
use Rattle.rcp_model.specs.declared.expr.Op.{Op}
use Rattle.rcp_model.specs.declared.expr.Op.TheVariants as op
use Rattle.task_lang.specs.declared.token.Token.{Token}
use Rattle.task_lang.specs.declared.token.Token.TheVariants as token
use Rattle.task_lang.specs.Tokens.{token_of, tokens_of}
use Rattle.task_lang.specs.Signs.{is_call, sign_of}
use Rattle.task_lang.proofs.PrintedTokens.{sign_token}

-- a word or a number before it ends there
abbrev pub Ends : List ℕ → Type 0
Ends [] = Unit {0}
Ends (b ∷ rest) = is_name_byte b ≡ false

-- the text has these tokens before each rest that goes on no word
abbrev pub Spells : List ℕ → List Token → Type 0
Spells text tokens = (rest : List ℕ) → Ends rest → tokens_of (text ++ rest) ≡ tokens ++ tokens_of rest

-- the text has these tokens before each rest
abbrev pub SpellsAlways : List ℕ → List Token → Type 0
SpellsAlways text tokens = (rest : List ℕ) → tokens_of (text ++ rest) ≡ tokens ++ tokens_of rest

pub always_spelled : (a : List ℕ) (more : List Token) → SpellsAlways a more → Spells a more
always_spelled a more spelled rest ends = spelled rest

-- what may stand before anything, and a text behind it
pub always_then : (a b : List ℕ) (more others : List Token) → SpellsAlways a more → Spells b others → Spells (a ++ b) (more ++ others)
always_then a b more others first second rest ends =
    ap tokens_of (append_assoc a b rest) ∙ (first (b ++ rest) ∙ (ap (λ tokens. more ++ tokens) (second rest ends) ∙ sym (append_assoc more others (tokens_of rest))))

-- a text, another behind it that goes on no word, and a third
pub between : (a sign b : List ℕ) (more signs others : List Token) → ((rest : List ℕ) → Ends (sign ++ rest)) → Spells a more → SpellsAlways sign signs → Spells b others
    → Spells (a ++ sign ++ b) (more ++ (signs ++ others))
between a sign b more signs others ends_at first middle second rest ends =
    ap tokens_of (append_assoc (a ++ sign) b rest ∙ append_assoc a sign (b ++ rest))
    ∙ (first (sign ++ (b ++ rest)) (ends_at (b ++ rest))
    ∙ (ap (λ tokens. more ++ tokens) (middle (b ++ rest) ∙ (ap (λ tokens. signs ++ tokens) (second rest ends) ∙ sym (append_assoc signs others (tokens_of rest))))
    ∙ sym (append_assoc more (signs ++ others) (tokens_of rest))))

-- a text, and an end that goes on no word
pub then_always : (a sign : List ℕ) (more signs : List Token) → ((rest : List ℕ) → Ends (sign ++ rest)) → Spells a more → SpellsAlways sign signs
    → SpellsAlways (a ++ sign) (more ++ signs)
then_always a sign more signs ends_at first second rest =
    ap tokens_of (append_assoc a sign rest)
    ∙ (first (sign ++ rest) (ends_at rest) ∙ (ap (λ tokens. more ++ tokens) (second rest) ∙ sym (append_assoc more signs (tokens_of rest))))

pub space_spelled : SpellsAlways (codes " ") []
unfolding tokens_of
space_spelled rest = refl

pub open_spelled : SpellsAlways (codes "(") (token.Open ∷ [])
unfolding tokens_of token_of
open_spelled rest = refl

pub close_spelled : SpellsAlways (codes ")") (token.Close ∷ [])
unfolding tokens_of token_of
close_spelled rest = refl

pub comma_spelled : SpellsAlways (codes ", ") (token.Comma ∷ [])
unfolding tokens_of token_of
comma_spelled rest = refl

pub semicolon_spelled : SpellsAlways (codes ";") (token.Semicolon ∷ [])
unfolding tokens_of token_of
semicolon_spelled rest = refl

pub minus_spelled : SpellsAlways (codes "-") (token.Minus ∷ [])
unfolding tokens_of token_of
minus_spelled rest = refl

pub not_spelled : SpellsAlways (codes "not ") (token.Not ∷ [])
unfolding tokens_of token_of
not_spelled rest = refl

pub abs_spelled : SpellsAlways (codes "abs(") (token.Abs ∷ token.Open ∷ [])
unfolding tokens_of token_of
abs_spelled rest = refl

pub min_spelled : SpellsAlways (codes "min(") (token.Min ∷ token.Open ∷ [])
unfolding tokens_of token_of
min_spelled rest = refl

pub max_spelled : SpellsAlways (codes "max(") (token.Max ∷ token.Open ∷ [])
unfolding tokens_of token_of
max_spelled rest = refl

pub clamp_spelled : SpellsAlways (codes "clamp(") (token.Clamp ∷ token.Open ∷ [])
unfolding tokens_of token_of
clamp_spelled rest = refl

pub if_spelled : SpellsAlways (codes "if(") (token.If ∷ token.Open ∷ [])
unfolding tokens_of token_of
if_spelled rest = refl

pub let_spelled : SpellsAlways (codes "let ") (token.Let ∷ [])
unfolding tokens_of token_of
let_spelled rest = refl

pub equal_spelled : SpellsAlways (codes " = ") (token.Equal ∷ [])
unfolding tokens_of token_of
equal_spelled rest = refl

pub assign_spelled : SpellsAlways (codes " := ") (token.Assign ∷ [])
unfolding tokens_of token_of
assign_spelled rest = refl

-- an operator's sign between spaces
sign_spelled : (operator : Op) → is_call operator ≡ false → SpellsAlways (codes " " ++ sign_of operator ++ codes " ") (sign_token operator ∷ [])
unfolding tokens_of token_of
sign_spelled op.Or infix_sign rest = refl
sign_spelled op.And infix_sign rest = refl
sign_spelled op.Eq infix_sign rest = refl
sign_spelled op.Ne infix_sign rest = refl
sign_spelled op.Lt infix_sign rest = refl
sign_spelled op.Le infix_sign rest = refl
sign_spelled op.Gt infix_sign rest = refl
sign_spelled op.Ge infix_sign rest = refl
sign_spelled op.Add infix_sign rest = refl
sign_spelled op.Sub infix_sign rest = refl
sign_spelled op.Mul infix_sign rest = refl
sign_spelled op.Div infix_sign rest = refl
sign_spelled op.Rem infix_sign rest = refl
sign_spelled op.Min infix_sign rest = cc
sign_spelled op.Max infix_sign rest = cc

-- a sign between two texts
pub infix_spelled : (operator : Op) (a b : List ℕ) (more others : List Token) → is_call operator ≡ false → Spells a more → Spells b others
    → Spells (a ++ codes " " ++ sign_of operator ++ codes " " ++ b) (more ++ sign_token operator ∷ others)
infix_spelled operator a b more others infix_sign first second =
    let sign : List ℕ = codes " " ++ sign_of operator ++ codes " " in
    subst (λ text. Spells text (more ++ sign_token operator ∷ others))
    (ap (λ text. text ++ b) (sym (append_assoc (a ++ codes " ") (sign_of operator) (codes " ") ∙ append_assoc a (codes " ") (sign_of operator ++ codes " "))))
    (between a sign b more (sign_token operator ∷ []) others (λ rest. refl) first (sign_spelled operator infix_sign) second)
