-- What is printed has its tokens and few bytes, if its parts do.
use Rattle.std.proofs.Common.{◌≡◌, ℕ, suc, ◌+◌, ◌*◌, ◌<◌, ◌≤◌, Bool, true, false, cond, List, [], ◌∷◌, ◌++◌, length, nat_lt, codes, refl, subst, arith, length-append}
use Rattle.rcp_model.specs.declared.expr.Op.{Op}
use Rattle.task_lang.specs.declared.token.Token.{Token}
use Rattle.task_lang.specs.declared.token.Token.TheVariants as token
use Rattle.task_lang.specs.Printing.{Printed, placed, leaf, call, infix_text}
use Rattle.task_lang.specs.Signs.{sign_of, level_of, left_place, is_call}
use Rattle.task_lang.proofs.PrintedTokens.{PrintedTokens, placed_tokens, leaf_token, call_tokens, infix_tokens}
use Rattle.task_lang.proofs.Spelling.{Spells, SpellsAlways, always_spelled, always_then, between, then_always, infix_spelled, open_spelled, close_spelled, comma_spelled, minus_spelled, not_spelled}

-- what is printed has these tokens, and not many more bytes than were read, which were so many
pub record Fits (printed : Printed) (tokens : PrintedTokens) (size : ℕ) : Type 0 where
  pub level : printed.level ≡ tokens.level
  pub spelled : Spells printed.text tokens.tokens
  pub short : length printed.text + 3 ≤ 4 * size

pub fits_more : (p : Printed) (q : PrintedTokens) (size more : ℕ) → size ≤ more → Fits p q size → Fits p q more
fits_more p q size more less fits = record { level = fits.level; spelled = fits.spelled; short = omega (arith, fits.short) }

-- at a place
pub placed_spelled : (least : ℕ) (p : Printed) (q : PrintedTokens) (size : ℕ) → Fits p q size → Spells (placed least p) (placed_tokens least q)
placed_spelled least p q size fits = subst Placed fits.level (by_case (nat_lt p.level least))
  where
    Placed : ℕ → Type 0
    Placed level = Spells (placed least p) (cond (nat_lt level least) (token.Open ∷ q.tokens ++ token.Close ∷ []) q.tokens)

    by_case : (test : Bool) → Spells (cond test (codes "(" ++ p.text ++ codes ")") p.text) (cond test (token.Open ∷ q.tokens ++ token.Close ∷ []) q.tokens)
    by_case true =
        always_then (codes "(") (p.text ++ codes ")") (token.Open ∷ []) (q.tokens ++ token.Close ∷ []) open_spelled
        (always_spelled (p.text ++ codes ")") (q.tokens ++ token.Close ∷ [])
        (then_always p.text (codes ")") q.tokens (token.Close ∷ []) (λ rest. refl) fits.spelled close_spelled))
    by_case false = fits.spelled

pub placed_short : (least : ℕ) (p : Printed) → length (placed least p) ≤ length p.text + 2
placed_short least p = by_case (nat_lt p.level least)
  where
    by_case : (test : Bool) → length (cond test (codes "(" ++ p.text ++ codes ")") p.text) ≤ length p.text + 2
    by_case true = omega (arith, length-append p.text (codes ")"))
    by_case false = omega arith

pub leaf_fits : (text : List ℕ) (t : Token) (size : ℕ) → Spells text (t ∷ []) → 0 < length text → length text ≤ size → Fits (leaf text) (leaf_token t) size
leaf_fits text t size spelled some short = record { level = refl; spelled = spelled; short = omega arith }

pub minus_fits : (p : Printed) (q : PrintedTokens) (size : ℕ) → Fits p q size
    → Fits (record { level = 7; text = codes "-" ++ placed 7 p }) (record { level = 7; tokens = token.Minus ∷ placed_tokens 7 q }) (suc size)
minus_fits p q size fits =
    record {
      level = refl;
      spelled = always_then (codes "-") (placed 7 p) (token.Minus ∷ []) (placed_tokens 7 q) minus_spelled (placed_spelled 7 p q size fits);
      short = omega (arith, placed_short 7 p, fits.short);
    }

pub not_fits : (p : Printed) (q : PrintedTokens) (size : ℕ) → Fits p q size
    → Fits (record { level = 3; text = codes "not " ++ placed 3 p }) (record { level = 3; tokens = token.Not ∷ placed_tokens 3 q }) (3 + size)
not_fits p q size fits =
    record {
      level = refl;
      spelled = always_then (codes "not ") (placed 3 p) (token.Not ∷ []) (placed_tokens 3 q) not_spelled (placed_spelled 3 p q size fits);
      short = omega (arith, placed_short 3 p, fits.short);
    }

-- two with a sign between them
pub infix_fits : (operator : Op) (p r : Printed) (q s : PrintedTokens) (size other : ℕ) → is_call operator ≡ false → 0 < length (sign_of operator) → Fits p q size → Fits r s other
    → Fits (record { level = level_of operator; text = infix_text operator p r }) (record { level = level_of operator; tokens = infix_tokens operator q s })
    (size + (length (sign_of operator) + other))
infix_fits operator p r q s size other infix_sign some first second =
    let left : List ℕ = placed (left_place operator) p in
    let right : List ℕ = placed (suc (level_of operator)) r in
    let all : length (left ++ codes " " ++ sign_of operator ++ codes " " ++ right) ≡ length left + length (sign_of operator) + 2 + length right =
    omega (arith, length-append (left ++ codes " " ++ sign_of operator ++ codes " ") right, length-append (left ++ codes " " ++ sign_of operator) (codes " "), length-append (left ++ codes " ") (sign_of operator), length-append left (codes " ")) in
    record {
      level = refl;
      spelled = infix_spelled operator left right (placed_tokens (left_place operator) q) (placed_tokens (suc (level_of operator)) s) infix_sign
          (placed_spelled (left_place operator) p q size first) (placed_spelled (suc (level_of operator)) r s other second);
      short = omega (arith, all, placed_short (left_place operator) p, placed_short (suc (level_of operator)) r, first.short, second.short);
    }

-- arguments of a call
two_listed : (p r : Printed) (q s : PrintedTokens) (size other : ℕ) → Fits p q size → Fits r s other
    → Spells (placed 1 p ++ codes ", " ++ placed 1 r) (placed_tokens 1 q ++ token.Comma ∷ placed_tokens 1 s)
two_listed p r q s size other first second =
    between (placed 1 p) (codes ", ") (placed 1 r) (placed_tokens 1 q) (token.Comma ∷ []) (placed_tokens 1 s) (λ rest. refl)
    (placed_spelled 1 p q size first) comma_spelled (placed_spelled 1 r s other second)

-- a call with these bytes before its arguments
called : (head inside : List ℕ) (heads insides : List Token) → SpellsAlways head heads → Spells inside insides
    → Spells (head ++ inside ++ codes ")") (heads ++ insides ++ token.Close ∷ [])
called head inside heads insides first second =
    always_spelled (head ++ inside ++ codes ")") (heads ++ insides ++ token.Close ∷ [])
    (then_always (head ++ inside) (codes ")") (heads ++ insides) (token.Close ∷ []) (λ rest. refl) (always_then head inside heads insides first second) close_spelled)

pub one_fits : (word : List ℕ) (t : Token) (p : Printed) (q : PrintedTokens) (size : ℕ) → SpellsAlways (word ++ codes "(") (t ∷ token.Open ∷ []) → 3 ≤ length word → Fits p q size
    → Fits (call word (p ∷ [])) (call_tokens t (q ∷ [])) (length word + size)
one_fits word t p q size head long fits =
    let all : length (word ++ codes "(" ++ placed 1 p ++ codes ")") ≡ length word + 2 + length (placed 1 p) =
    omega (arith, length-append (word ++ codes "(" ++ placed 1 p) (codes ")"), length-append (word ++ codes "(") (placed 1 p), length-append word (codes "(")) in
    record {
      level = refl;
      spelled = called (word ++ codes "(") (placed 1 p) (t ∷ token.Open ∷ []) (placed_tokens 1 q) head (placed_spelled 1 p q size fits);
      short = omega (arith, all, placed_short 1 p, fits.short);
    }

pub two_fit : (word : List ℕ) (t : Token) (p r : Printed) (q s : PrintedTokens) (size other : ℕ) → SpellsAlways (word ++ codes "(") (t ∷ token.Open ∷ []) → 3 ≤ length word
    → Fits p q size → Fits r s other → Fits (call word (p ∷ r ∷ [])) (call_tokens t (q ∷ s ∷ [])) (length word + (size + other))
two_fit word t p r q s size other head long first second =
    let inside : List ℕ = placed 1 p ++ codes ", " ++ placed 1 r in
    let all : length (word ++ codes "(" ++ inside ++ codes ")") ≡ length word + 4 + length (placed 1 p) + length (placed 1 r) =
    omega (
      arith,
      length-append (word ++ codes "(" ++ inside) (codes ")"),
      length-append (word ++ codes "(") inside,
      length-append word (codes "("),
      length-append (placed 1 p ++ codes ", ") (placed 1 r),
      length-append (placed 1 p) (codes ", "),
    ) in
    record {
      level = refl;
      spelled = called (word ++ codes "(") inside (t ∷ token.Open ∷ []) (placed_tokens 1 q ++ token.Comma ∷ placed_tokens 1 s) head (two_listed p r q s size other first second);
      short = omega (arith, all, placed_short 1 p, placed_short 1 r, first.short, second.short);
    }

pub three_fit : (word : List ℕ) (t : Token) (p r v : Printed) (q s w : PrintedTokens) (size other last : ℕ) → SpellsAlways (word ++ codes "(") (t ∷ token.Open ∷ []) → 2 ≤ length word
    → Fits p q size → Fits r s other → Fits v w last → Fits (call word (p ∷ r ∷ v ∷ [])) (call_tokens t (q ∷ s ∷ w ∷ [])) (length word + (size + (other + last)))
three_fit word t p r v q s w size other last head long first second third =
    let behind : List ℕ = placed 1 r ++ codes ", " ++ placed 1 v in
    let inside : List ℕ = placed 1 p ++ codes ", " ++ behind in
    let all : length (word ++ codes "(" ++ inside ++ codes ")") ≡ length word + 6 + length (placed 1 p) + (length (placed 1 r) + length (placed 1 v)) =
    omega (
      arith,
      length-append (word ++ codes "(" ++ inside) (codes ")"),
      length-append (word ++ codes "(") inside,
      length-append word (codes "("),
      length-append (placed 1 p ++ codes ", ") behind,
      length-append (placed 1 p) (codes ", "),
      length-append (placed 1 r ++ codes ", ") (placed 1 v),
      length-append (placed 1 r) (codes ", "),
    ) in
    record {
      level = refl;
      spelled = called (word ++ codes "(") inside (t ∷ token.Open ∷ []) (placed_tokens 1 q ++ token.Comma ∷ (placed_tokens 1 s ++ token.Comma ∷ placed_tokens 1 w)) head
          (between (placed 1 p) (codes ", ") behind (placed_tokens 1 q) (token.Comma ∷ []) (placed_tokens 1 s ++ token.Comma ∷ placed_tokens 1 w) (λ rest. refl)
          (placed_spelled 1 p q size first) comma_spelled (two_listed r v s w other last second third));
      short = omega (arith, all, placed_short 1 p, placed_short 1 r, placed_short 1 v, first.short, second.short, third.short);
    }
