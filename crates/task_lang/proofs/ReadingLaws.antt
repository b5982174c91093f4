-- What a reader keeps with its rule.
use Rattle.std.proofs.Common.{◌≡◌, ℕ, suc, List, [], ◌∷◌, ◌++◌, length, Bool, false, Option, Some, None, Ok, Err, refl}
use Rattle.task_lang.specs.declared.token.Token.{Token}
use Rattle.rcp_base.specs.Answers.{◌>>=◌}
use Rattle.task_lang.specs.ReaderParts.{choose, Read, Reader, bound}

-- the tokens do not go on with what was read
abbrev pub Stops : (Token → Bool) → List Token → Type 0
Stops goes [] = Unit {0}
Stops goes (token ∷ rest) = goes token ≡ false

-- a tree was read, and these tokens stand behind it; it is read too where others follow the first of them
pub record Reads {X : Type 0} (Permits : List Token → X → Type 0) (read : Reader X) (tokens : List Token) (x : X) (rest : List Token) : Type 0 where
  pub front : List Token
  pub cut : tokens ≡ front ++ rest
  pub derived : Permits front x
  pub again : (token : Token) (behind others : List Token) → rest ≡ token ∷ behind → read (front ++ token ∷ others) ≡ Ok (x, token ∷ others)

-- with so many tokens left there is a fault: what stands before is the front of what is permitted, and the fault
-- is there too where others follow the first of those left
pub record Faults {X : Type 0} (Permits : List Token → X → Type 0) (read : Reader X) (tokens : List Token) (left : ℕ) : Type 0 where
  pub front : List Token
  pub rest : List Token
  pub more : List Token
  pub tree : X
  pub cut : tokens ≡ front ++ rest
  pub size : length rest ≡ left
  pub viable : Permits (front ++ more) tree
  pub again : (token : Token) (behind others : List Token) → rest ≡ token ∷ behind → read (front ++ token ∷ others) ≡ Err (suc (length others))

-- an answer is right by the rule
abbrev pub SoundAt : {X : Type 0} (Permits : List Token → X → Type 0) (read : Reader X) → List Token → Read X → Type 0
SoundAt Permits read tokens (Ok got) = Reads Permits read tokens got.0 got.1
SoundAt Permits read tokens (Err left) = Faults Permits read tokens left

-- the answers are right, what the rule derives is read, and it derives something
pub record Lawful {X : Type 0} (Permits : List Token → X → Type 0) (goes : Token → Bool) (read : Reader X) : Type 0 where
  pub sound : (tokens : List Token) → SoundAt Permits read tokens (read tokens)
  pub complete : (tokens rest : List Token) (x : X) → Permits tokens x → Stops goes rest → read (tokens ++ rest) ≡ Ok (x, rest)
  pub sample : (tokens : List Token) × (x : X) × Permits tokens x

-- only the first token behind a tree matters
pub read_again : {X : Type 0} (Permits : List Token → X → Type 0) (read : Reader X) (tokens : List Token) (x : X) (rest : List Token)
    (at : Reads Permits read tokens x rest) (front : List Token) (token : Token) (behind others : List Token) → rest ≡ front ++ token ∷ behind
    → read (at.front ++ (front ++ token ∷ others)) ≡ Ok (x, front ++ token ∷ others)
read_again Permits read tokens x rest at [] token behind others is = at.again token behind others is
read_again Permits read tokens x rest at (first ∷ front) token behind others is =
    at.again first (front ++ token ∷ behind) (front ++ token ∷ others) is

-- readers that go on alike from what is read
pub bound_same : {X Y : Type 0} (read : Reader X) (f g : X → Reader Y) (tokens : List Token)
    → ((x : X) (rest : List Token) → read tokens ≡ Ok (x, rest) → f x rest ≡ g x rest) → bound read f tokens ≡ bound read g tokens
bound_same {X} read f g tokens alike = by_answer (read tokens) alike
  where
    by_answer : (y : Read X) → ((x : X) (rest : List Token) → y ≡ Ok (x, rest) → f x rest ≡ g x rest)
        → (y >>= λ (got : X × List Token). f got.0 got.1) ≡ (y >>= λ (got : X × List Token). g got.0 got.1)
    by_answer (Ok got) alike = alike got.0 got.1 refl
    by_answer (Err left) alike = refl

pub choose_same : {X Y : Type 0} (o : Option X) (none : Y) (f g : X → Y) → ((x : X) → o ≡ Some x → f x ≡ g x) → choose o none f ≡ choose o none g
choose_same None none f g alike = refl
choose_same (Some x) none f g alike = alike x refl
