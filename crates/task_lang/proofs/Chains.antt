-- Operands with operators between them: chains, and at most one operator.
use Rattle.std.proofs.Common.{◌≡◌, ℕ, zero, suc, ◌+◌, ◌<◌, ◌≤◌, List, [], ◌∷◌, ◌++◌, length, Bool, true, false, Option, Some, None, Ok, refl, sym, ap, ◌∙◌, subst, arith, append_assoc, append-nil, length-append}
use Rattle.rcp_model.specs.declared.expr.Expr.{Expr}
use Rattle.rcp_model.specs.declared.expr.Expr.TheVariants as expr
use Rattle.rcp_model.specs.declared.expr.Op.{Op}
use Rattle.task_lang.specs.declared.token.Token.{Token}
use Rattle.task_lang.specs.Rules.{LeftGrouped, one, more, Compared, single, pair}
use Rattle.task_lang.specs.ReaderParts.{choose, Reader, bound, onward_to, onward, chained, beside, compared}
use Rattle.task_lang.proofs.ReadingLaws.{Stops, Reads, SoundAt, Lawful, bound_same, choose_same}
use Rattle.task_lang.proofs.Combining.{bound-ok, bound_sound, bound_sound_at, sound_under, behind_sound, done_sound}

-- what goes on with operands and operators of a level: its operators, and what goes on with its operands
abbrev pub goes_on : (Token → Option Op) → (Token → Bool) → Token → Bool
goes_on op goes token = choose (op token) (goes token) (λ operator. true)

-- what stops a level is none of its operators, and stops its operands
module _ (op : Token → Option Op) (goes : Token → Bool) where
  pub no_operator : (token : Token) → goes_on op goes token ≡ false → op token ≡ None
  no_operator token stops = by_operator (op token) stops
    where
      by_operator : (found : Option Op) → choose found (goes token) (λ operator. true) ≡ false → found ≡ None
      by_operator None stops = refl
      by_operator (Some operator) stops = cc

  pub stops_operand : (tokens : List Token) → Stops (goes_on op goes) tokens → Stops goes tokens
  stops_operand [] stops = tt
  stops_operand (token ∷ rest) stops =
      sym (ap (λ found. choose found (goes token) (λ operator. true)) (no_operator token stops)) ∙ stops

module _ (op : Token → Option Op) (Operand : List Token → Expr → Type 0) (goes : Token → Bool) (read : Reader Expr) (lawful : Lawful Operand goes read)
    (apart : (token : Token) (operator : Op) → op token ≡ Some operator → goes token ≡ false)
    (filled : (tokens : List Token) (a : Expr) → Operand tokens a → 0 < length tokens) where
  -- an operand takes a token
  pub operand_shrinks : (tokens rest : List Token) (a : Expr) → read tokens ≡ Ok (a, rest) → length rest < length tokens
  operand_shrinks tokens rest a is =
      let at : Reads Operand read tokens a rest = subst (SoundAt Operand read tokens) is (lawful.sound tokens) in
      let some : 0 < length at.front = filled at.front a at.derived in
      let all : length tokens ≡ length at.front + length rest = ap length at.cut ∙ length-append at.front rest in
      omega arith

  -- as many operators as there are tokens are enough
  onward_same : (n m : ℕ) (a : Expr) (tokens : List Token) → length tokens ≤ n → length tokens ≤ m → onward_to op read n a tokens ≡ onward_to op read m a tokens
  onward_same n m a [] enough too = refl
  onward_same zero m a (token ∷ rest) enough too = absurd (omega arith)
  onward_same (suc n) zero a (token ∷ rest) enough too = absurd (omega arith)
  onward_same (suc n) (suc m) a (token ∷ rest) enough too =
      choose_same (op token) (Ok (a, token ∷ rest))
      (λ operator. bound read (λ b. onward_to op read n (expr.Two operator a b)) rest)
      (λ operator. bound read (λ b. onward_to op read m (expr.Two operator a b)) rest)
      (λ operator _. bound_same read (λ b. onward_to op read n (expr.Two operator a b)) (λ b. onward_to op read m (expr.Two operator a b)) rest
      (λ b left is.
      let less : length left < length rest = operand_shrinks rest left b is in
      onward_same n m (expr.Two operator a b) left (omega arith) (omega arith)))

  pub onward-none : (a : Expr) (token : Token) (rest : List Token) → op token ≡ None → onward op read a (token ∷ rest) ≡ Ok (a, token ∷ rest)
  onward-none a token rest none =
      ap (λ found. choose found (Ok (a, token ∷ rest)) (λ operator. bound read (λ b. onward_to op read (length rest) (expr.Two operator a b)) rest)) none

  pub onward-some : (a : Expr) (token : Token) (operator : Op) (rest : List Token) → op token ≡ Some operator
      → onward op read a (token ∷ rest) ≡ bound read (λ b. onward op read (expr.Two operator a b)) rest
  onward-some a token operator rest some =
      ap (λ found. choose found (Ok (a, token ∷ rest)) (λ operator. bound read (λ b. onward_to op read (length rest) (expr.Two operator a b)) rest)) some
      ∙ bound_same read (λ b. onward_to op read (length rest) (expr.Two operator a b)) (λ b. onward op read (expr.Two operator a b)) rest
      (λ b left is.
      let less : length left < length rest = operand_shrinks rest left b is in
      onward_same (length rest) (length left) (expr.Two operator a b) left (omega arith) (omega arith))

  -- what the rule derives is read
  onward_stops : (a : Expr) (tokens : List Token) → Stops (goes_on op goes) tokens → onward op read a tokens ≡ Ok (a, tokens)
  onward_stops a [] stops = refl
  onward_stops a (token ∷ rest) stops = onward-none a token rest (no_operator op goes token stops)

  chain_reads : {tokens : List Token} {a : Expr} → LeftGrouped op Operand tokens a → (rest : List Token) → Stops goes rest
      → chained op read (tokens ++ rest) ≡ onward op read a rest
  chain_reads (one tokens a derived) rest stops = bound-ok read (onward op read) _ rest a (lawful.complete tokens rest a derived stops)
  chain_reads (more tokens a front token operator is behind b derived) rest stops =
      ap (chained op read) (append_assoc tokens (token ∷ behind) rest)
      ∙ (chain_reads front (token ∷ (behind ++ rest)) (apart token operator is)
      ∙ (onward-some a token operator (behind ++ rest) is
      ∙ bound-ok read (λ b. onward op read (expr.Two operator a b)) _ rest b (lawful.complete behind rest b derived stops)))

  -- what is read is derived, whatever was read before
  onward_sound : (n : ℕ) (done : List Token) (a : Expr) (tokens : List Token) → length tokens ≤ n → LeftGrouped op Operand done a
      → SoundAt (λ front x. LeftGrouped op Operand (done ++ front) x) (onward op read a) tokens (onward op read a tokens)
  onward_sound n done a [] enough derived =
      done_sound (λ front x. LeftGrouped op Operand (done ++ front) x) (onward op read a) a
      (subst (λ list. LeftGrouped op Operand list a) (sym (append-nil done)) derived) [] refl (λ token behind others is. cc)
  onward_sound zero done a (token ∷ rest) enough derived = absurd (omega arith)
  onward_sound (suc n) done a (token ∷ rest) enough derived = by_operator (onward_sound n) (op token) refl
    where
      Onward : List Token → Expr → Type 0
      Onward front x = LeftGrouped op Operand (done ++ front) x

      by_operator : ((done : List Token) (a : Expr) (tokens : List Token) → length tokens ≤ n → LeftGrouped op Operand done a
          → SoundAt (λ front x. LeftGrouped op Operand (done ++ front) x) (onward op read a) tokens (onward op read a tokens))
          → (found : Option Op) → op token ≡ found → SoundAt Onward (onward op read a) (token ∷ rest) (onward op read a (token ∷ rest))
      by_operator smaller None is =
          done_sound Onward (onward op read a) a (subst (λ list. LeftGrouped op Operand list a) (sym (append-nil done)) derived) (token ∷ rest)
          (onward-none a token rest is)
          (λ first behind others cut. let same : token ≡ first = cc in onward-none a first others (sym (ap op same) ∙ is))
      by_operator smaller (Some operator) is =
          behind_sound Onward (onward op read a) (bound read (λ b. onward op read (expr.Two operator a b))) token
          (λ behind. onward-some a token operator behind is) rest
          (bound_sound_at Operand (λ front x. Onward (token ∷ front) x) read (λ b. onward op read (expr.Two operator a b))
          (λ tokens b operand. (
            [],
            expr.Two operator a b,
            subst (λ list. LeftGrouped op Operand (done ++ token ∷ list) (expr.Two operator a b)) (sym (append-nil tokens)) (more done a derived token operator is tokens b operand),
          ))
          rest (lawful.sound rest)
          (λ front b left operand cut.
          let size : length rest ≡ length front + length left = ap length cut ∙ length-append front left in
          sound_under (λ list x. LeftGrouped op Operand ((done ++ token ∷ front) ++ list) x) (λ list x. Onward (token ∷ (front ++ list)) x)
          (onward op read (expr.Two operator a b)) left
          (λ list x whole. subst (λ all. LeftGrouped op Operand all x) (append_assoc done (token ∷ front) list) whole)
          (onward op read (expr.Two operator a b) left)
          (smaller (done ++ token ∷ front) (expr.Two operator a b) left (omega arith) (more done a derived token operator is front b operand))))

  pub chain_lawful : Lawful (LeftGrouped op Operand) (goes_on op goes) (chained op read)
  chain_lawful = record {
    sound = bound_sound Operand (LeftGrouped op Operand) read (onward op read)
        (λ tokens a operand. ([], a, subst (λ list. LeftGrouped op Operand list a) (sym (append-nil tokens)) (one tokens a operand)))
        lawful.sound
        (λ front a operand tokens. onward_sound (length tokens) front a tokens (omega arith) (one front a operand));
    complete = λ tokens rest a derived stops. chain_reads derived rest (stops_operand op goes rest stops) ∙ onward_stops a rest stops;
    sample = let some = lawful.sample in (some.0, some.1, one some.0 some.1 some.2);
  }

  pub chain_filled : (tokens : List Token) (a : Expr) → LeftGrouped op Operand tokens a → 0 < length tokens
  chain_filled tokens a (one list b operand) = filled list b operand
  chain_filled tokens a (more list b front token operator is behind c operand) = omega (arith, length-append list (token ∷ behind))

module _ (op : Token → Option Op) (Operand : List Token → Expr → Type 0) (goes : Token → Bool) (read : Reader Expr) (lawful : Lawful Operand goes read)
    (apart : (token : Token) (operator : Op) → op token ≡ Some operator → goes token ≡ false) where
  pub beside-none : (a : Expr) (token : Token) (rest : List Token) → op token ≡ None → beside op read a (token ∷ rest) ≡ Ok (a, token ∷ rest)
  beside-none a token rest none =
      ap (λ found. choose found (Ok (a, token ∷ rest)) (λ operator. bound read (λ b left. Ok (expr.Two operator a b, left)) rest)) none

  pub beside-some : (a : Expr) (token : Token) (operator : Op) (rest : List Token) → op token ≡ Some operator
      → beside op read a (token ∷ rest) ≡ bound read (λ b left. Ok (expr.Two operator a b, left)) rest
  beside-some a token operator rest some =
      ap (λ found. choose found (Ok (a, token ∷ rest)) (λ operator. bound read (λ b left. Ok (expr.Two operator a b, left)) rest)) some

  beside_sound : (done : List Token) (a : Expr) → Operand done a → (tokens : List Token)
      → SoundAt (λ front x. Compared op Operand (done ++ front) x) (beside op read a) tokens (beside op read a tokens)
  beside_sound done a derived [] =
      done_sound (λ front x. Compared op Operand (done ++ front) x) (beside op read a) a
      (subst (λ list. Compared op Operand list a) (sym (append-nil done)) (single done a derived)) [] refl (λ token behind others is. cc)
  beside_sound done a derived (token ∷ rest) = by_operator (op token) refl
    where
      Beside : List Token → Expr → Type 0
      Beside front x = Compared op Operand (done ++ front) x

      by_operator : (found : Option Op) → op token ≡ found → SoundAt Beside (beside op read a) (token ∷ rest) (beside op read a (token ∷ rest))
      by_operator None is =
          done_sound Beside (beside op read a) a (subst (λ list. Compared op Operand list a) (sym (append-nil done)) (single done a derived)) (token ∷ rest)
          (beside-none a token rest is)
          (λ first behind others cut. let same : token ≡ first = cc in beside-none a first others (sym (ap op same) ∙ is))
      by_operator (Some operator) is =
          let both : (tokens : List Token) (b : Expr) → Operand tokens b → Compared op Operand (done ++ token ∷ (tokens ++ [])) (expr.Two operator a b) =
          λ tokens b operand. subst (λ list. Compared op Operand (done ++ token ∷ list) (expr.Two operator a b)) (sym (append-nil tokens)) (pair done a derived token operator is tokens b operand) in
          behind_sound Beside (beside op read a) (bound read (λ b left. Ok (expr.Two operator a b, left))) token
          (λ behind. beside-some a token operator behind is) rest
          (bound_sound Operand (λ front x. Beside (token ∷ front) x) read (λ b left. Ok (expr.Two operator a b, left))
          (λ tokens b operand. ([], expr.Two operator a b, both tokens b operand))
          lawful.sound
          (λ front b operand tokens.
          done_sound (λ list x. Beside (token ∷ (front ++ list)) x) (λ left. Ok (expr.Two operator a b, left)) (expr.Two operator a b)
          (both front b operand) tokens refl (λ first behind others cut. refl))
          rest)

  beside_stops : (a : Expr) (tokens : List Token) → Stops (goes_on op goes) tokens → beside op read a tokens ≡ Ok (a, tokens)
  beside_stops a [] stops = refl
  beside_stops a (token ∷ rest) stops = beside-none a token rest (no_operator op goes token stops)

  compared_complete : {tokens : List Token} {a : Expr} → Compared op Operand tokens a → (rest : List Token) → Stops (goes_on op goes) rest
      → compared op read (tokens ++ rest) ≡ Ok (a, rest)
  compared_complete (single tokens a derived) rest stops =
      bound-ok read (beside op read) _ rest a (lawful.complete tokens rest a derived (stops_operand op goes rest stops)) ∙ beside_stops a rest stops
  compared_complete (pair tokens a derived token operator is behind b operand) rest stops =
      ap (compared op read) (append_assoc tokens (token ∷ behind) rest)
      ∙ (bound-ok read (beside op read) _ _ a (lawful.complete tokens (token ∷ (behind ++ rest)) a derived (apart token operator is))
      ∙ (beside-some a token operator (behind ++ rest) is
      ∙ bound-ok read (λ b left. Ok (expr.Two operator a b, left)) _ rest b (lawful.complete behind rest b operand (stops_operand op goes rest stops))))

  pub compared_lawful : Lawful (Compared op Operand) (goes_on op goes) (compared op read)
  compared_lawful = record {
    sound = bound_sound Operand (Compared op Operand) read (beside op read)
        (λ tokens a operand. ([], a, subst (λ list. Compared op Operand list a) (sym (append-nil tokens)) (single tokens a operand)))
        lawful.sound beside_sound;
    complete = λ tokens rest a derived stops. compared_complete derived rest stops;
    sample = let some = lawful.sample in (some.0, some.1, single some.0 some.1 some.2);
  }

  pub compared_filled : ((tokens : List Token) (a : Expr) → Operand tokens a → 0 < length tokens) → (tokens : List Token) (a : Expr)
      → Compared op Operand tokens a → 0 < length tokens
  compared_filled filled tokens a (single list b operand) = filled list b operand
  compared_filled filled tokens a (pair list b operand token operator is behind c other) = omega (arith, length-append list (token ∷ behind))
