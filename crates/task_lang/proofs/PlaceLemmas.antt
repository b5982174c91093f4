-- Each token of a text begins at a byte of it.
use Rattle.std.proofs.Common.{◌≡◌, ℕ, zero, suc, ◌<◌, ◌≤◌, Bool, true, false, cond, List, [], ◌∷◌, map, length, refl, ap, arith}
use Rattle.std.specs.Prelude.{slice_index_or}
use Rattle.task_lang.specs.declared.token.Token.{Token}
use Rattle.task_lang.specs.Tokens.{is_blank, tail_of, lexemes_behind, lefts_behind, token_of, tokens_of, lefts_of}
use Rattle.task_lang.specs.Readings.{TokensStandIn}

-- as many places as tokens
lefts_behind-length : (n : ℕ) (text : List ℕ) → length (lefts_behind n text) ≡ length (map token_of (lexemes_behind n text))
lefts_behind-length n [] = refl
lefts_behind-length (suc n) (b ∷ rest) = lefts_behind-length n rest
lefts_behind-length zero (b ∷ rest) = by_blank (lefts_behind-length 0 rest) (lefts_behind-length (length (tail_of b rest)) rest) (is_blank b)
  where
    by_blank : length (lefts_behind 0 rest) ≡ length (map token_of (lexemes_behind 0 rest))
        → length (lefts_behind (length (tail_of b rest)) rest) ≡ length (map token_of (lexemes_behind (length (tail_of b rest)) rest)) → (blank : Bool)
        → length (cond blank (lefts_behind 0 rest) (length (b ∷ rest) ∷ lefts_behind (length (tail_of b rest)) rest))
        ≡ length (map token_of (cond blank (lexemes_behind 0 rest) ((b ∷ tail_of b rest) ∷ lexemes_behind (length (tail_of b rest)) rest)))
    by_blank behind_blank behind_token true = behind_blank
    by_blank behind_blank behind_token false = ap suc behind_token

-- each place is in the text
lefts_behind-within : (n : ℕ) (text : List ℕ) (i : ℕ) → slice_index_or (lefts_behind n text) i 0 ≤ length text
lefts_behind-within n [] i = omega arith
lefts_behind-within (suc n) (b ∷ rest) i = omega (arith, lefts_behind-within n rest i)
lefts_behind-within zero (b ∷ rest) i = by_blank (lefts_behind-within 0 rest) (lefts_behind-within (length (tail_of b rest)) rest) (is_blank b) i
  where
    by_blank : ((i : ℕ) → slice_index_or (lefts_behind 0 rest) i 0 ≤ length rest) → ((i : ℕ) → slice_index_or (lefts_behind (length (tail_of b rest)) rest) i 0 ≤ length rest)
        → (blank : Bool) (i : ℕ) → slice_index_or (cond blank (lefts_behind 0 rest) (length (b ∷ rest) ∷ lefts_behind (length (tail_of b rest)) rest)) i 0 ≤ length (b ∷ rest)
    by_blank behind_blank behind_token true i = omega (arith, behind_blank i)
    by_blank behind_blank behind_token false zero = omega arith
    by_blank behind_blank behind_token false (suc i) = omega (arith, behind_token i)

lefts_behind-some : (n : ℕ) (text : List ℕ) (i : ℕ) → i < length (lefts_behind n text) → 0 < slice_index_or (lefts_behind n text) i 0
lefts_behind-some n [] i less = absurd (omega arith)
lefts_behind-some (suc n) (b ∷ rest) i less = lefts_behind-some n rest i less
lefts_behind-some zero (b ∷ rest) i less = by_blank (lefts_behind-some 0 rest) (lefts_behind-some (length (tail_of b rest)) rest) (is_blank b) i less
  where
    by_blank : ((i : ℕ) → i < length (lefts_behind 0 rest) → 0 < slice_index_or (lefts_behind 0 rest) i 0)
        → ((i : ℕ) → i < length (lefts_behind (length (tail_of b rest)) rest) → 0 < slice_index_or (lefts_behind (length (tail_of b rest)) rest) i 0)
        → (blank : Bool) (i : ℕ) → i < length (cond blank (lefts_behind 0 rest) (length (b ∷ rest) ∷ lefts_behind (length (tail_of b rest)) rest))
        → 0 < slice_index_or (cond blank (lefts_behind 0 rest) (length (b ∷ rest) ∷ lefts_behind (length (tail_of b rest)) rest)) i 0
    by_blank behind_blank behind_token true i less = behind_blank i less
    by_blank behind_blank behind_token false zero less = omega arith
    by_blank behind_blank behind_token false (suc i) less = behind_token i (omega arith)

pub tokens_stand_in : (text : List ℕ) → TokensStandIn text
unfolding tokens_of lefts_of
tokens_stand_in text =
    record {
      each = lefts_behind-length 0 text;
      within = lefts_behind-within 0 text;
      some = λ n less. lefts_behind-some 0 text n (omega (arith, lefts_behind-length 0 text));
    }

-- each token has a byte
lexemes_behind-length : (n : ℕ) (text : List ℕ) → length (map token_of (lexemes_behind n text)) ≤ length text
lexemes_behind-length n [] = omega arith
lexemes_behind-length (suc n) (b ∷ rest) = omega (arith, lexemes_behind-length n rest)
lexemes_behind-length zero (b ∷ rest) = by_blank (lexemes_behind-length 0 rest) (lexemes_behind-length (length (tail_of b rest)) rest) (is_blank b)
  where
    by_blank : length (map token_of (lexemes_behind 0 rest)) ≤ length rest → length (map token_of (lexemes_behind (length (tail_of b rest)) rest)) ≤ length rest → (blank : Bool)
        → length (map token_of (cond blank (lexemes_behind 0 rest) ((b ∷ tail_of b rest) ∷ lexemes_behind (length (tail_of b rest)) rest))) ≤ length (b ∷ rest)
    by_blank behind_blank behind_token true = omega arith
    by_blank behind_blank behind_token false = omega arith

pub tokens_of-length : (text : List ℕ) → length (tokens_of text) ≤ length text
unfolding tokens_of
tokens_of-length text = lexemes_behind-length 0 text

-- the byte of a token is in the text
pub left_within : (text : List ℕ) (i : ℕ) → slice_index_or (lefts_of text) i 0 ≤ length text
unfolding lefts_of
left_within text i = lefts_behind-within 0 text i

pub tokens_few : (text : List ℕ) (tokens : List Token) → tokens ≡ tokens_of text → length text ≤ 16384 → length tokens ≤ 65536
tokens_few text tokens cut short = omega (arith, tokens_of-length text, ap length cut)
