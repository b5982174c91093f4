-- A lawful reader of whole lists gives the one tree, or the place of the fault.
use Rattle.std.proofs.Common.{◌≡◌, ℕ, suc, ◌+◌, ◌-◌, ◌<◌, List, [], ◌∷◌, ◌++◌, length, take, Bool, Ok, Err, refl, sym, ap, ◌∙◌, subst, arith, append_assoc, append-nil, length-append}
use Rattle.std.proofs.lemmas.Grind.{common_steps}
use Rattle.task_lang.specs.declared.token.Token.{Token}
use Rattle.task_lang.specs.Words.{Scope}
use Rattle.task_lang.specs.Rules.{expr_rule, enclosed_by}
use Rattle.task_lang.specs.Faults.{Begins, IsFaultAt, Answers}
use Rattle.rcp_base.specs.Answers.{◌>>=◌}
use Rattle.task_lang.specs.ReaderParts.{Reader, Read}
use Rattle.task_lang.specs.Reader.{alone, whole, readers, expr_reader}
use Rattle.task_lang.specs.Readings.{ExpressionsAreRead}
use Rattle.task_lang.proofs.ReadingLaws.{Reads, SoundAt, Lawful}
use Rattle.task_lang.proofs.Levels.{expr_goes, expr_lawful}

take_front : (front rest : List Token) → take (length front) (front ++ rest) ≡ front
take_front [] rest = grind (arith, common_steps)
take_front (token ∷ front) rest = ap (λ list. token ∷ list) (take_front front rest)

take_next : (front : List Token) (token : Token) (rest : List Token) → take (length front + 1) (front ++ token ∷ rest) ≡ front ++ token ∷ []
take_next front token rest =
    let size : length (front ++ token ∷ []) ≡ length front + 1 = length-append front (token ∷ []) in
    ap (λ n. take n (front ++ token ∷ rest)) (sym size)
    ∙ (ap (take (length (front ++ token ∷ []))) (sym (append_assoc front (token ∷ []) rest)) ∙ take_front (front ++ token ∷ []) rest)

module _ {X : Type 0} (Permits : List Token → X → Type 0) (goes : Token → Bool) (read : Reader X) (lawful : Lawful Permits goes read) where
  whole_reads : (tokens : List Token) (x : X) → Permits tokens x → whole read tokens ≡ Ok x
  whole_reads tokens x derived = ap (whole read) (sym (append-nil tokens)) ∙ ap (λ y. y >>= alone) (lawful.complete tokens [] x derived tt)

  -- where no permitted list goes on, and that before is the front of one
  fault_behind : (tokens front rest more : List Token) (x : X) → tokens ≡ front ++ rest → Permits (front ++ more) x
      → ((token : Token) (behind others : List Token) (y : X) → rest ≡ token ∷ behind → Permits (front ++ token ∷ others) y → ⊥)
      → ((y : X) → Permits tokens y → ⊥) → IsFaultAt Permits tokens (length front)
  fault_behind tokens front rest more x cut derived blocked unread =
      record {
        within = omega (arith, ap length cut, length-append front rest);
        before = (more, x, subst (λ list. Permits (list ++ more) x) (sym (ap (take (length front)) cut ∙ take_front front rest)) derived);
        there = λ less begins. by_rest rest cut blocked less begins;
        unread = unread;
      }
    where
      by_rest : (rest : List Token) → tokens ≡ front ++ rest
          → ((token : Token) (behind others : List Token) (y : X) → rest ≡ token ∷ behind → Permits (front ++ token ∷ others) y → ⊥)
          → length front < length tokens → Begins Permits (take (length front + 1) tokens) → ⊥
      by_rest [] cut blocked less begins = let size : length tokens ≡ length front + 0 = ap length cut ∙ length-append front [] in omega arith
      by_rest (token ∷ behind) cut blocked less begins =
          let place : take (length front + 1) tokens ++ begins.0 ≡ front ++ token ∷ begins.0 =
          ap (λ list. take (length front + 1) list ++ begins.0) cut
          ∙ (ap (λ list. list ++ begins.0) (take_next front token behind) ∙ append_assoc front (token ∷ []) begins.0) in
          blocked token behind begins.0 begins.1 refl (subst (λ list. Permits list begins.1) place begins.2)

  -- the same, by how many tokens are left
  fault_left : (tokens front rest : List Token) (left : ℕ) → tokens ≡ front ++ rest → length rest ≡ left → IsFaultAt Permits tokens (length front)
      → Answers Permits tokens (Err left)
  fault_left tokens front rest left cut size fault =
      let all : length tokens ≡ length front + length rest = ap length cut ∙ length-append front rest in
      let place : length front ≡ length tokens - left = omega arith in
      (omega arith, subst (IsFaultAt Permits tokens) place fault)

  by_end : (tokens : List Token) (x : X) (rest : List Token) → Reads Permits read tokens x rest → read tokens ≡ Ok (x, rest) → Answers Permits tokens (alone (x, rest))
  by_end tokens x [] at is =
      let derived : Permits tokens x = subst (λ list. Permits list x) (sym (at.cut ∙ append-nil at.front)) at.derived in
      let here : whole read tokens ≡ Ok x = ap (λ y. y >>= alone) is in
      (derived, λ y other. let there : whole read tokens ≡ Ok y = whole_reads tokens y other in cc)
  by_end tokens x (token ∷ behind) at is =
      let here : whole read tokens ≡ Err (suc (length behind)) = ap (λ y. y >>= alone) is in
      fault_left tokens at.front (token ∷ behind) (suc (length behind)) at.cut refl
      (fault_behind tokens at.front (token ∷ behind) [] x at.cut (subst (λ list. Permits list x) (sym (append-nil at.front)) at.derived)
      (λ first later others y cut other.
      let again : read (at.front ++ first ∷ others) ≡ Ok (x, first ∷ others) = at.again first later others cut in
      let fault : whole read (at.front ++ first ∷ others) ≡ Err (suc (length others)) = ap (λ y. y >>= alone) again in
      let there : whole read (at.front ++ first ∷ others) ≡ Ok y = whole_reads (at.front ++ first ∷ others) y other in
      cc)
      (λ y other. let there : whole read tokens ≡ Ok y = whole_reads tokens y other in cc))

  pub whole_answers : (tokens : List Token) → Answers Permits tokens (whole read tokens)
  whole_answers tokens = by_answer (read tokens) refl (lawful.sound tokens)
    where
      by_answer : (y : Read X) → read tokens ≡ y → SoundAt Permits read tokens y → Answers Permits tokens (whole read tokens)
      by_answer (Ok got) is at = subst (Answers Permits tokens) (sym (ap (λ y. y >>= alone) is)) (by_end tokens got.0 got.1 at is)
      by_answer (Err left) is fault =
          let here : whole read tokens ≡ Err left = ap (λ y. y >>= alone) is in
          subst (Answers Permits tokens) (sym here)
          (fault_left tokens fault.front fault.rest left fault.cut fault.size
          (fault_behind tokens fault.front fault.rest fault.more fault.tree fault.cut fault.viable
          (λ first later others y cut other.
          let again : whole read (fault.front ++ first ∷ others) ≡ Err (suc (length others)) = ap (λ y. y >>= alone) (fault.again first later others cut) in
          let there : whole read (fault.front ++ first ∷ others) ≡ Ok y = whole_reads (fault.front ++ first ∷ others) y other in
          cc)
          (λ y other. let there : whole read tokens ≡ Ok y = whole_reads tokens y other in cc)))

-- with at most n brackets and prefixes round a token
pub expressions_answer : (n : ℕ) (scope : Scope) (tokens : List Token)
    → Answers (expr_rule scope (enclosed_by scope n)) tokens (whole (expr_reader scope (readers scope n)) tokens)
expressions_answer n scope tokens =
    whole_answers (expr_rule scope (enclosed_by scope n)) expr_goes (expr_reader scope (readers scope n)) (expr_lawful scope n) tokens

pub expressions_read : ExpressionsAreRead
expressions_read = expressions_answer 64
