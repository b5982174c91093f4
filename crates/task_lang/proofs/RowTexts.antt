-- Rows with one space between them have the rows' tokens.
use Rattle.std.proofs.Common.{◌≡◌, ℕ, ◌+◌, ◌≤◌, List, [], ◌∷◌, ◌++◌, length, codes, refl, sym, ap, ◌∙◌, subst, arith, append_assoc, append-nil, length-append}
use Rattle.task_lang.specs.declared.token.Token.{Token}
use Rattle.task_lang.specs.Tokens.{tokens_of}
use Rattle.task_lang.specs.Printing.{with_spaces}
use Rattle.task_lang.proofs.TokenLemmas.{tokens_of-nil}
use Rattle.task_lang.proofs.Spelling.{Spells, space_spelled}

-- the texts have these tokens, one text after the other
abbrev pub RowsSpell : List (List ℕ) → List Token → Type 0
RowsSpell [] tokens = tokens ≡ []
RowsSpell (text ∷ texts) tokens = (first : List Token) × (others : List Token) × (tokens ≡ first ++ others) × Spells text first × RowsSpell texts others

pub rows_then : (texts more : List (List ℕ)) (tokens others : List Token) → RowsSpell texts tokens → RowsSpell more others → RowsSpell (texts ++ more) (tokens ++ others)
rows_then [] more tokens others spelled behind = subst (λ tokens. RowsSpell more (tokens ++ others)) (sym spelled) behind
rows_then (text ∷ texts) more tokens others spelled behind = (
  spelled.0,
  spelled.1 ++ others,
  ap (λ tokens. tokens ++ others) spelled.2 ∙ append_assoc spelled.0 spelled.1 others,
  spelled.3,
  rows_then texts more spelled.1 others spelled.4 behind,
)

pub rows_read : (texts : List (List ℕ)) (tokens : List Token) → RowsSpell texts tokens → tokens_of (with_spaces texts) ≡ tokens
rows_read [] tokens spelled = tokens_of-nil ∙ sym spelled
rows_read (text ∷ []) tokens spelled =
    ap tokens_of (sym (append-nil text))
    ∙ (spelled.3 [] tt ∙ (ap (λ others. spelled.0 ++ others) (tokens_of-nil ∙ sym spelled.4) ∙ sym spelled.2))
rows_read (text ∷ other ∷ texts) tokens spelled =
    ap tokens_of (append_assoc text (codes " ") (with_spaces (other ∷ texts)))
    ∙ (spelled.3 (codes " " ++ with_spaces (other ∷ texts)) refl
    ∙ (ap (λ others. spelled.0 ++ others) (space_spelled (with_spaces (other ∷ texts)) ∙ rows_read (other ∷ texts) spelled.1 spelled.4) ∙ sym spelled.2))

-- the bytes of texts, each with a space behind it
abbrev pub bytes_of : List (List ℕ) → ℕ
bytes_of [] = 0
bytes_of (text ∷ texts) = length text + 1 + bytes_of texts

pub bytes_of-append : (texts more : List (List ℕ)) → bytes_of (texts ++ more) ≡ bytes_of texts + bytes_of more
bytes_of-append [] more = omega arith
bytes_of-append (text ∷ texts) more = omega (arith, bytes_of-append texts more)

pub spaced_short : (texts : List (List ℕ)) → length (with_spaces texts) ≤ bytes_of texts
spaced_short [] = omega arith
spaced_short (text ∷ []) = omega arith
spaced_short (text ∷ other ∷ texts) =
    omega (arith, length-append (text ++ codes " ") (with_spaces (other ∷ texts)), length-append text (codes " "), spaced_short (other ∷ texts))
