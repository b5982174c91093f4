-- One after the other, to the end of the tokens, each under what those before it left.
use Rattle.std.proofs.Common.{◌≡◌, ℕ, zero, suc, ◌+◌, ◌<◌, List, [], ◌∷◌, ◌++◌, length, Bool, true, Ok, refl, sym, ap, ◌∙◌, subst, arith, append-nil, length-append}
use Rattle.task_lang.specs.declared.token.Token.{Token}
use Rattle.rcp_base.specs.Answers.{◌>>=◌}
use Rattle.task_lang.specs.ReaderParts.{Reader, bound, made}
use Rattle.task_lang.specs.Statements.{Many, last, next}
use Rattle.task_lang.specs.StatementReaders.{then_more, many_below, many}
use Rattle.task_lang.proofs.ReadingLaws.{Stops, Reads, SoundAt, Lawful, bound_same}
use Rattle.task_lang.proofs.Combining.{bound-ok, bound_sound_at, alike_sound, made_sound, done_sound}
use Rattle.task_lang.proofs.Sequences.{never, stops_never}

-- everything goes on: it ends with the tokens
abbrev pub always : Token → Bool
always token = true

module _ {Left X : Type 0} (One : Left → List Token → X → Type 0) (leave : Left → X → Left) (read : Left → Reader X)
    (lawful : (left : Left) → Lawful (One left) never (read left))
    (filled : (left : Left) (tokens : List Token) (x : X) → One left tokens x → 0 < length tokens) where
  -- each takes a token
  pub one_shrinks : (left : Left) (tokens rest : List Token) (x : X) → read left tokens ≡ Ok (x, rest) → length rest < length tokens
  one_shrinks left tokens rest x is =
      let at : Reads (One left) (read left) tokens x rest = subst (SoundAt (One left) (read left) tokens) is ((lawful left).sound tokens) in
      let some : 0 < length at.front = filled left at.front x at.derived in
      let all : length tokens ≡ length at.front + length rest = ap length at.cut ∙ length-append at.front rest in
      omega arith

  -- readers that agree on shorter lists go on alike
  more_same : (f g : Left → Reader (List X)) (left : Left) (x : X) (rest : List Token) → f (leave left x) rest ≡ g (leave left x) rest
      → then_more leave f left x rest ≡ then_more leave g left x rest
  more_same f g left x [] same = refl
  more_same f g left x (token ∷ rest) same = ap (λ y. y >>= made (λ others. x ∷ others)) same

  many_same : (n m : ℕ) (left : Left) (tokens : List Token) → length tokens < n → length tokens < m → many_below leave read n left tokens ≡ many_below leave read m left tokens
  many_same zero m left tokens enough too = absurd (omega arith)
  many_same (suc n) zero left tokens enough too = absurd (omega arith)
  many_same (suc n) (suc m) left tokens enough too =
      bound_same (read left) (then_more leave (many_below leave read n) left) (then_more leave (many_below leave read m) left) tokens
      (λ x rest is.
      let less : length rest < length tokens = one_shrinks left tokens rest x is in
      more_same (many_below leave read n) (many_below leave read m) left x rest (many_same n m (leave left x) rest (omega arith) (omega arith)))

  pub many-step : (left : Left) (tokens : List Token) → many leave read left tokens ≡ bound (read left) (then_more leave (many leave read) left) tokens
  many-step left tokens =
      bound_same (read left) (then_more leave (many_below leave read (length tokens)) left) (then_more leave (many leave read) left) tokens
      (λ x rest is.
      let less : length rest < length tokens = one_shrinks left tokens rest x is in
      more_same (many_below leave read (length tokens)) (many leave read) left x rest (many_same (length tokens) (suc (length rest)) (leave left x) rest less (omega arith)))

  -- where something follows, all that follows is read
  more_front : (left : Left) (x : X) (front : List Token) (token : Token) (behind : List Token)
      → then_more leave (many leave read) left x (front ++ token ∷ behind) ≡ (many leave read (leave left x) (front ++ token ∷ behind) >>= made (λ others. x ∷ others))
  more_front left x [] token behind = refl
  more_front left x (first ∷ front) token behind = refl

  many_sound : (n : ℕ) (left : Left) (tokens : List Token) → length tokens < n
      → SoundAt (Many One leave left) (many leave read left) tokens (many leave read left tokens)
  many_sound zero left tokens enough = absurd (omega arith)
  many_sound (suc n) left tokens enough =
      alike_sound (Many One leave left) (many leave read left) (bound (read left) (then_more leave (many leave read) left)) tokens (many-step left tokens)
      (λ front token behind others cut. many-step left (front ++ token ∷ others))
      (bound_sound_at (One left) (Many One leave left) (read left) (then_more leave (many leave read) left)
      (λ tokens x one. ([], x ∷ [], subst (λ list. Many One leave left list (x ∷ [])) (sym (append-nil tokens)) (last left tokens x one)))
      tokens ((lawful left).sound tokens)
      (λ front x rest one cut.
      let some : 0 < length front = filled left front x one in
      let all : length tokens ≡ length front + length rest = ap length cut ∙ length-append front rest in
      by_rest front x one rest (many_sound n (leave left x) rest (omega arith))))
    where
      by_rest : (front : List Token) (x : X) → One left front x → (rest : List Token)
          → SoundAt (Many One leave (leave left x)) (many leave read (leave left x)) rest (many leave read (leave left x) rest)
          → SoundAt (λ more xs. Many One leave left (front ++ more) xs) (then_more leave (many leave read) left x) rest (then_more leave (many leave read) left x rest)
      by_rest front x one [] sound =
          done_sound (λ more xs. Many One leave left (front ++ more) xs) (then_more leave (many leave read) left x) (x ∷ [])
          (subst (λ list. Many One leave left list (x ∷ [])) (sym (append-nil front)) (last left front x one)) [] refl (λ token behind others cut. cc)
      by_rest front x one (token ∷ rest) sound =
          alike_sound (λ more xs. Many One leave left (front ++ more) xs) (then_more leave (many leave read) left x)
          (λ list. many leave read (leave left x) list >>= made (λ others. x ∷ others)) (token ∷ rest) refl
          (λ front first behind others cut. more_front left x front first others)
          (made_sound (Many One leave (leave left x)) (λ more xs. Many One leave left (front ++ more) xs) (λ others. x ∷ others) (many leave read (leave left x))
          (λ behind others many. next left front x one behind others many) (token ∷ rest) sound)

  pub many_filled : {left : Left} {tokens : List Token} {xs : List X} → Many One leave left tokens xs → 0 < length tokens
  many_filled (last left tokens x one) = filled left tokens x one
  many_filled (next left tokens x one behind others many) =
      let some : 0 < length tokens = filled left tokens x one in
      omega (arith, length-append tokens behind)

  -- all that the rule derives is read
  many_reads : {left : Left} {tokens : List Token} {xs : List X} → Many One leave left tokens xs → many leave read left tokens ≡ Ok (xs, [])
  many_reads (last left tokens x one) =
      many-step left tokens
      ∙ (ap (bound (read left) (then_more leave (many leave read) left)) (sym (append-nil tokens))
      ∙ bound-ok (read left) (then_more leave (many leave read) left) _ [] x ((lawful left).complete tokens [] x one tt))
  many_reads (next left tokens x one behind others rest_many) =
      many-step left (tokens ++ behind)
      ∙ (bound-ok (read left) (then_more leave (many leave read) left) _ behind x ((lawful left).complete tokens behind x one (stops_never behind))
      ∙ by_behind behind (many_filled rest_many) (many_reads rest_many))
    where
      by_behind : (behind : List Token) → 0 < length behind → many leave read (leave left x) behind ≡ Ok (others, [])
          → then_more leave (many leave read) left x behind ≡ Ok (x ∷ others, [])
      by_behind [] some is = absurd (omega arith)
      by_behind (token ∷ behind) some is = ap (λ y. y >>= made (λ others. x ∷ others)) is

  many_complete : (left : Left) (tokens rest : List Token) (xs : List X) → Many One leave left tokens xs → Stops always rest → many leave read left (tokens ++ rest) ≡ Ok (xs, rest)
  many_complete left tokens [] xs derived stops = ap (many leave read left) (append-nil tokens) ∙ many_reads derived
  many_complete left tokens (token ∷ rest) xs derived stops = cc

  pub many_lawful : (left : Left) → Lawful (Many One leave left) always (many leave read left)
  many_lawful left = record {
    sound = λ tokens. many_sound (suc (length tokens)) left tokens (omega arith);
    complete = many_complete left;
    sample = let some = (lawful left).sample in (some.0, some.1 ∷ [], last left some.0 some.1 some.2);
  }
