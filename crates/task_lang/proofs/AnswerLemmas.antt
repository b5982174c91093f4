-- A text has one answer, unless memory runs out.
use Rattle.std.proofs.Common.{◌≡◌, ℕ, ◌+◌, ◌-◌, ◌<◌, ◌≤◌, inl, inr, List, ◌++◌, length, take, drop, Option, Some, None, Ok, Err, refl, sym, ap, ◌∙◌, subst, arith, append_assoc}
use Rattle.std.proofs.lemmas.Grind.{common_steps}
use Rattle.std.specs.Prelude.{slice_index_or}
use Rattle.task_lang.specs.declared.fault.LangFault.TheVariants.{Syntax, UnknownName, BadTarget, Memory}
use Rattle.task_lang.specs.declared.token.Token.{Token}
use Rattle.task_lang.specs.Tokens.{tokens_of, lefts_of}
use Rattle.task_lang.specs.Faults.{Begins, IsFaultAt, IsFaultAtByte}
use Rattle.task_lang.specs.NameFaults.{NameFault, IsUnknown, IsBadTarget}
use Rattle.task_lang.specs.Answers.{IsNameFaultAt, IsOnly, IsAnswer}
use Rattle.task_lang.specs.Readings.{HasOneAnswer}

-- what begins a permitted list has only such fronts
begins_sooner : {X : Type 0} (Permits : List Token → X → Type 0) (tokens : List Token) (n m : ℕ) → n ≤ m → Begins Permits (take m tokens) → Begins Permits (take n tokens)
begins_sooner Permits tokens n m less begins =
    let cut : take n (take m tokens) ++ drop n (take m tokens) ≡ take m tokens = grind (arith, common_steps) in
    let front : take n (take m tokens) ≡ take n tokens = grind (arith, common_steps) in
    let place : take m tokens ++ begins.0 ≡ take n tokens ++ (drop n (take m tokens) ++ begins.0) =
    ap (λ list. list ++ begins.0) (sym cut) ∙ (append_assoc (take n (take m tokens)) (drop n (take m tokens)) begins.0 ∙ ap (λ list. list ++ (drop n (take m tokens) ++ begins.0)) front) in
    (drop n (take m tokens) ++ begins.0, begins.1, subst (λ list. Permits list begins.1) place begins.2)

not_sooner : {X : Type 0} (Permits : List Token → X → Type 0) (tokens : List Token) (n m : ℕ) → IsFaultAt Permits tokens n → IsFaultAt Permits tokens m → n < m → ⊥
not_sooner Permits tokens n m first second less =
    first.there (omega (arith, second.within)) (begins_sooner Permits tokens (n + 1) m (omega arith) second.before)

-- a list has one fault
one_fault : {X : Type 0} (Permits : List Token → X → Type 0) (tokens : List Token) (n m : ℕ) → IsFaultAt Permits tokens n → IsFaultAt Permits tokens m → n ≡ m
one_fault Permits tokens n m first second =
    let after : n < m → ⊥ = not_sooner Permits tokens n m first second in
    let before : m < n → ⊥ = not_sooner Permits tokens m n second first in
    grind arith

one_byte : {X : Type 0} (Permits : List Token → X → Type 0) (text : List ℕ) (a b : ℕ) → IsFaultAtByte Permits text a → IsFaultAtByte Permits text b → a ≡ b
one_byte Permits text a b first second =
    let same : first.0 ≡ second.0 = one_fault Permits (tokens_of text) first.0 second.0 first.1 second.1 in
    let place : slice_index_or (lefts_of text) first.0 0 ≡ slice_index_or (lefts_of text) second.0 0 = ap (λ n. slice_index_or (lefts_of text) n 0) same in
    omega (arith, first.2, second.2, place)

-- the parts of what a scan found
left_of : Option (NameFault × ℕ) → ℕ
left_of None = 0
left_of (Some found) = found.1

fault_of : Option (NameFault × ℕ) → NameFault
fault_of None = IsUnknown
fault_of (Some found) = found.0

module _ {X : Type 0} (Permits : List Token → X → Type 0) (found : Option (NameFault × ℕ)) (text : List ℕ) where
  one_name_byte : (fault : NameFault) (a b : ℕ) → IsNameFaultAt Permits found fault text a → IsNameFaultAt Permits found fault text b → a ≡ b
  unfolding left_of
  one_name_byte fault a b first second =
      let same : first.left ≡ second.left = ap left_of (sym first.first ∙ second.first) in
      let place : slice_index_or (lefts_of text) (length (tokens_of text) - first.left) 0 ≡ slice_index_or (lefts_of text) (length (tokens_of text) - second.left) 0 =
      ap (λ left. slice_index_or (lefts_of text) (length (tokens_of text) - left) 0) same in
      omega (arith, first.place, second.place, place)

  no_two_faults : (a b : ℕ) → IsNameFaultAt Permits found IsUnknown text a → IsNameFaultAt Permits found IsBadTarget text b → ⊥
  unfolding fault_of
  no_two_faults a b first second = let same : IsUnknown ≡ IsBadTarget = ap fault_of (sym first.first ∙ second.first) in cc

  not_fine : (fault : NameFault) (byte : ℕ) (tree : X) → IsNameFaultAt Permits found fault text byte → IsOnly Permits found text tree → ⊥
  not_fine fault byte tree bad only =
      let here : found ≡ Some (fault, bad.left) = bad.first in
      let there : found ≡ None = only.fine in
      cc

  pub one_answer : HasOneAnswer (IsAnswer Permits found text)
  one_answer (Err Memory) b first second = inl (inl refl)
  one_answer a (Err Memory) first second = inl (inr refl)
  one_answer (Ok x) (Ok y) first second = inr (ap Ok (second.only x first.permitted))
  one_answer (Ok x) (Err (Syntax b)) first second = absurd (second.1.unread x first.permitted)
  one_answer (Ok x) (Err (UnknownName b)) first second = absurd (not_fine IsUnknown b x second first)
  one_answer (Ok x) (Err (BadTarget b)) first second = absurd (not_fine IsBadTarget b x second first)
  one_answer (Err (Syntax a)) (Ok y) first second = absurd (first.1.unread y second.permitted)
  one_answer (Err (Syntax a)) (Err (Syntax b)) first second = inr (ap (λ n. Err (Syntax n)) (one_byte Permits text a b first second))
  one_answer (Err (Syntax a)) (Err (UnknownName b)) first second = absurd (first.1.unread second.tree second.permitted)
  one_answer (Err (Syntax a)) (Err (BadTarget b)) first second = absurd (first.1.unread second.tree second.permitted)
  one_answer (Err (UnknownName a)) (Ok y) first second = absurd (not_fine IsUnknown a y first second)
  one_answer (Err (UnknownName a)) (Err (Syntax b)) first second = absurd (second.1.unread first.tree first.permitted)
  one_answer (Err (UnknownName a)) (Err (UnknownName b)) first second = inr (ap (λ n. Err (UnknownName n)) (one_name_byte IsUnknown a b first second))
  one_answer (Err (UnknownName a)) (Err (BadTarget b)) first second = absurd (no_two_faults a b first second)
  one_answer (Err (BadTarget a)) (Ok y) first second = absurd (not_fine IsBadTarget a y first second)
  one_answer (Err (BadTarget a)) (Err (Syntax b)) first second = absurd (second.1.unread first.tree first.permitted)
  one_answer (Err (BadTarget a)) (Err (UnknownName b)) first second = absurd (no_two_faults b a second first)
  one_answer (Err (BadTarget a)) (Err (BadTarget b)) first second = inr (ap (λ n. Err (BadTarget n)) (one_name_byte IsBadTarget a b first second))
