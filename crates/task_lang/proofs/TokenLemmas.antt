-- How the tokens of a text follow from its first byte.
use Rattle.std.proofs.Common.{◌≡◌, ◌++◌, append-nil, add-one, ℕ, ◌+◌, zero, suc, ◌≤◌, Bool, true, false, ◌&&◌, cond, List, [], ◌∷◌, map, length, take, drop, nat_eq, codes, refl, sym, ap, ◌∙◌, arith}
use Rattle.std.proofs.Math.Seq.{append_snoc}
use Rattle.std.specs.List.{starts_with, prefix_len}
use Rattle.std.specs.Char.{is_ascii_lowercase, is_ascii_digit}
use Rattle.rcp_base.specs.Name.{is_name_byte}
use Rattle.task_lang.specs.declared.token.Token.{Token}
use Rattle.task_lang.specs.Tokens.{is_blank, goes_with_equal, tail_of, lexemes_behind, lefts_behind, token_of, tokens_of, lefts_of}

-- the first items of a text
abbrev IsFront : List ℕ → List ℕ → Type 0
IsFront text xs = (n : ℕ) × (xs ≡ take n text)

-- whichever test holds, what is chosen is a front
one_is_front : (text : List ℕ) (a b c : Bool) (n m : ℕ)
    → IsFront text (cond a (take n text) (cond b (take m text) (cond c (take 1 text) [])))
one_is_front text true b c n m = (n, refl)
one_is_front text false true c n m = (m, refl)
one_is_front text false false true n m = (1, refl)
one_is_front text false false false n m = (0, refl)

take_again : (n : ℕ) (text : List ℕ) → take (length (take n text)) text ≡ take n text
take_again zero text = refl
take_again (suc n) [] = refl
take_again (suc n) (b ∷ rest) = ap (λ xs. b ∷ xs) (take_again n rest)

take_within : (n : ℕ) (text : List ℕ) → length (take n text) ≤ length text
take_within zero text = omega arith
take_within (suc n) [] = omega arith
take_within (suc n) (b ∷ rest) = omega (arith, take_within n rest)

tail_is_front : (first : ℕ) (behind : List ℕ) → IsFront behind (tail_of first behind)
tail_is_front first behind =
    one_is_front behind (is_ascii_lowercase first) (is_ascii_digit first) (goes_with_equal first && starts_with nat_eq behind (codes "="))
    (prefix_len is_name_byte behind) (prefix_len is_ascii_digit behind)

-- a token's tail is a front of what stands behind its first byte
pub tail_of-taken : (first : ℕ) (behind : List ℕ) → take (length (tail_of first behind)) behind ≡ tail_of first behind
tail_of-taken first behind =
    let front : IsFront behind (tail_of first behind) = tail_is_front first behind in
    ap (λ xs. take (length xs) behind) front.1 ∙ (take_again front.0 behind ∙ sym front.1)

pub tail_of-within : (first : ℕ) (behind : List ℕ) → length (tail_of first behind) ≤ length behind
tail_of-within first behind =
    let front : IsFront behind (tail_of first behind) = tail_is_front first behind in
    omega (arith, ap length front.1, take_within front.0 behind)

-- to begin behind n bytes is to drop them
lexemes_behind-drop : (n : ℕ) (text : List ℕ) → lexemes_behind n text ≡ lexemes_behind 0 (drop n text)
lexemes_behind-drop zero text = refl
lexemes_behind-drop (suc n) [] = refl
lexemes_behind-drop (suc n) (b ∷ rest) = lexemes_behind-drop n rest

pub tokens_of-nil : tokens_of [] ≡ []
unfolding tokens_of
tokens_of-nil = refl

pub tokens_of-blank : (b : ℕ) (rest : List ℕ) → is_blank b ≡ true → tokens_of (b ∷ rest) ≡ tokens_of rest
unfolding tokens_of
tokens_of-blank b rest blank =
    ap (λ test. map token_of (cond test (lexemes_behind 0 rest) ((b ∷ tail_of b rest) ∷ lexemes_behind (length (tail_of b rest)) rest))) blank

pub tokens_of-token : (b : ℕ) (rest : List ℕ) → is_blank b ≡ false
    → tokens_of (b ∷ rest) ≡ token_of (b ∷ tail_of b rest) ∷ tokens_of (drop (length (tail_of b rest)) rest)
unfolding tokens_of
tokens_of-token b rest dark =
    ap (λ test. map token_of (cond test (lexemes_behind 0 rest) ((b ∷ tail_of b rest) ∷ lexemes_behind (length (tail_of b rest)) rest))) dark
    ∙ ap (λ lexemes. token_of (b ∷ tail_of b rest) ∷ map token_of lexemes) (lexemes_behind-drop (length (tail_of b rest)) rest)

-- likewise the places where they begin
lefts_behind-drop : (n : ℕ) (text : List ℕ) → lefts_behind n text ≡ lefts_behind 0 (drop n text)
lefts_behind-drop zero text = refl
lefts_behind-drop (suc n) [] = refl
lefts_behind-drop (suc n) (b ∷ rest) = lefts_behind-drop n rest

pub lefts_of-nil : lefts_of [] ≡ []
unfolding lefts_of
lefts_of-nil = refl

pub lefts_of-blank : (b : ℕ) (rest : List ℕ) → is_blank b ≡ true → lefts_of (b ∷ rest) ≡ lefts_of rest
unfolding lefts_of
lefts_of-blank b rest blank =
    ap (λ test. cond test (lefts_behind 0 rest) (length (b ∷ rest) ∷ lefts_behind (length (tail_of b rest)) rest)) blank

pub lefts_of-token : (b : ℕ) (rest : List ℕ) → is_blank b ≡ false
    → lefts_of (b ∷ rest) ≡ length (b ∷ rest) ∷ lefts_of (drop (length (tail_of b rest)) rest)
unfolding lefts_of
lefts_of-token b rest dark =
    ap (λ test. cond test (lefts_behind 0 rest) (length (b ∷ rest) ∷ lefts_behind (length (tail_of b rest)) rest)) dark
    ∙ ap (λ places. length (b ∷ rest) ∷ places) (lefts_behind-drop (length (tail_of b rest)) rest)

-- a loop goes on over a blank
pub tokens_after_blank : (done all : List Token) (text rest : List ℕ) (first : ℕ) → text ≡ first ∷ rest → is_blank first ≡ true
    → done ++ tokens_of text ≡ all → done ++ tokens_of rest ≡ all
tokens_after_blank done all text rest first is blank whole =
    ap (λ more. done ++ more) (sym (tokens_of-blank first rest blank) ∙ ap tokens_of (sym is)) ∙ whole

-- a loop goes on over a token
pub tokens_after_token : (done more all : List Token) (text rest left : List ℕ) (first size : ℕ) (token : Token)
    → text ≡ first ∷ rest → is_blank first ≡ false → size ≡ length (tail_of first rest)
    → token ≡ token_of (take (size + 1) text) → left ≡ drop size rest → more ≡ done ++ token ∷ []
    → done ++ tokens_of text ≡ all → more ++ tokens_of left ≡ all
tokens_after_token done more all text rest left first size token is dark is_size is_token is_left is_more whole =
    let cut : take (size + 1) text ≡ first ∷ tail_of first rest =
    ap (λ n. take n text) (add-one size)
    ∙ (ap (take (suc size)) is ∙ (ap (λ n. first ∷ take n rest) is_size ∙ ap (λ tail. first ∷ tail) (tail_of-taken first rest))) in
    let next : token ∷ tokens_of left ≡ tokens_of text =
    ap (λ t. t ∷ tokens_of left) (is_token ∙ ap token_of cut)
    ∙ (ap (λ behind. token_of (first ∷ tail_of first rest) ∷ tokens_of behind) (is_left ∙ ap (λ n. drop n rest) is_size)
    ∙ (sym (tokens_of-token first rest dark) ∙ ap tokens_of (sym is))) in
    ap (λ list. list ++ tokens_of left) is_more ∙ (append_snoc done token (tokens_of left) ∙ (ap (λ tokens. done ++ tokens) next ∙ whole))

-- a loop ends with all tokens
pub tokens_at_end : (done all : List Token) (text : List ℕ) → length text ≡ 0 → done ++ tokens_of text ≡ all → done ≡ all
tokens_at_end done all [] none whole = sym (append-nil done) ∙ (ap (λ rest. done ++ rest) (sym tokens_of-nil) ∙ whole)
tokens_at_end done all (b ∷ rest) none whole = absurd (omega arith)

pub lefts_after_blank : (done all text rest : List ℕ) (first : ℕ) → text ≡ first ∷ rest → is_blank first ≡ true
    → done ++ lefts_of text ≡ all → done ++ lefts_of rest ≡ all
lefts_after_blank done all text rest first is blank whole =
    ap (λ more. done ++ more) (sym (lefts_of-blank first rest blank) ∙ ap lefts_of (sym is)) ∙ whole

pub lefts_after_token : (done more all text rest left : List ℕ) (first size : ℕ)
    → text ≡ first ∷ rest → is_blank first ≡ false → size ≡ length (tail_of first rest)
    → left ≡ drop size rest → more ≡ done ++ length text ∷ [] → done ++ lefts_of text ≡ all → more ++ lefts_of left ≡ all
lefts_after_token done more all text rest left first size is dark is_size is_left is_more whole =
    let next : length text ∷ lefts_of left ≡ lefts_of text =
    ap (λ list. length list ∷ lefts_of left) is
    ∙ (ap (λ behind. length (first ∷ rest) ∷ lefts_of behind) (is_left ∙ ap (λ n. drop n rest) is_size)
    ∙ (sym (lefts_of-token first rest dark) ∙ ap lefts_of (sym is))) in
    ap (λ list. list ++ lefts_of left) is_more ∙ (append_snoc done (length text) (lefts_of left) ∙ (ap (λ places. done ++ places) next ∙ whole))

pub lefts_at_end : (done all text : List ℕ) → length text ≡ 0 → done ++ lefts_of text ≡ all → done ≡ all
lefts_at_end done all [] none whole = sym (append-nil done) ∙ (ap (λ rest. done ++ rest) (sym lefts_of-nil) ∙ whole)
lefts_at_end done all (b ∷ rest) none whole = absurd (omega arith)
