-- Marks, and what a rule writes between them.
use Rattle.std.proofs.Common.{◌≡◌, suc, List, [], ◌∷◌, ◌++◌, length, Bool, true, false, cond, Ok, Err, Result, ℕ, refl, sym, ap, ◌∙◌, subst, append_assoc}
use Rattle.rcp_model.specs.declared.expr.Expr.{Expr}
use Rattle.task_lang.specs.declared.token.Token.{Token}
use Rattle.task_lang.specs.declared.token.Token.TheVariants as token
use Rattle.task_lang.specs.declared.token.Mark.{Mark}
use Rattle.task_lang.specs.declared.token.Mark.TheVariants as mark
use Rattle.task_lang.specs.Words.{token_of_mark, is_mark}
use Rattle.task_lang.specs.Forms.{Part, Sign, Inside}
use Rattle.task_lang.specs.Rules.{Sequence}
use Rattle.rcp_base.specs.Answers.{◌>>=◌}
use Rattle.task_lang.specs.ReaderParts.{Reader, made, past, sequence}
use Rattle.task_lang.proofs.ReadingLaws.{Stops, SoundAt, Lawful}
use Rattle.task_lang.proofs.Combining.{bound-ok, bound_sound, sound_under, behind_sound, made_sound, done_sound, stop_sound}

-- nothing goes on with what is read
abbrev pub never : Token → Bool
never token = false

pub stops_never : (tokens : List Token) → Stops never tokens
stops_never [] = tt
stops_never (token ∷ rest) = refl

-- a mark comes first
abbrev pub BeginsMarked : List Part → Type 0
BeginsMarked [] = ⊥
BeginsMarked (Sign mark ∷ parts) = Unit {0}
BeginsMarked (Inside ∷ parts) = ⊥

-- a mark stands behind each expression
abbrev pub IsMarked : List Part → Type 0
IsMarked [] = Unit {0}
IsMarked (Sign mark ∷ parts) = IsMarked parts
IsMarked (Inside ∷ parts) = BeginsMarked parts × IsMarked parts

past-mark : (mark : Mark) (rest : List Token) → past mark (token_of_mark mark ∷ rest) ≡ Ok rest
past-mark mark.Open rest = refl
past-mark mark.Close rest = refl
past-mark mark.Comma rest = refl
past-mark mark.Assign rest = refl
past-mark mark.Equal rest = refl
past-mark mark.Semicolon rest = refl

past-other : (mark : Mark) (token : Token) (rest : List Token) → is_mark mark token ≡ false → past mark (token ∷ rest) ≡ Err (suc (length rest))
past-other mark token rest other = let P : Bool → Result (List Token) ℕ = λ b. cond b (Ok rest) (Err (suc (length rest))) in ap P other

token_of_mark_is : (mark : Mark) (token : Token) → is_mark mark token ≡ true → token ≡ token_of_mark mark
token_of_mark_is mark.Open token.Open is = refl
token_of_mark_is mark.Close token.Close is = refl
token_of_mark_is mark.Comma token.Comma is = refl
token_of_mark_is mark.Assign token.Assign is = refl
token_of_mark_is mark.Equal token.Equal is = refl
token_of_mark_is mark.Semicolon token.Semicolon is = refl
token_of_mark_is mark token is = cc

module _ (Enclosed : List Token → Expr → Type 0) (goes : Token → Bool) (read : Reader Expr) (lawful : Lawful Enclosed goes read)
    (ends : (mark : Mark) → goes (token_of_mark mark) ≡ false) where
  pub sequence_sample : (parts : List Part) → (tokens : List Token) × (trees : List Expr) × Sequence Enclosed parts tokens trees
  sequence_sample [] = ([], [], (refl, refl))
  sequence_sample (Sign mark ∷ parts) = let some = sequence_sample parts in (token_of_mark mark ∷ some.0, some.1, (some.0, refl, some.2))
  sequence_sample (Inside ∷ parts) =
      let some = sequence_sample parts in
      let first = lawful.sample in
      (first.0 ++ some.0, first.1 ∷ some.1, (first.0, some.0, first.1, some.1, refl, refl, first.2, some.2))

  marked_stops : (parts : List Part) → BeginsMarked parts → (tokens rest : List Token) (trees : List Expr) → Sequence Enclosed parts tokens trees → Stops goes (tokens ++ rest)
  marked_stops [] marked tokens rest trees derived = absurd marked
  marked_stops (Sign mark ∷ parts) marked tokens rest trees derived = subst (λ list. Stops goes (list ++ rest)) (sym derived.1) (ends mark)
  marked_stops (Inside ∷ parts) marked tokens rest trees derived = absurd marked

  pub sequence_complete : (parts : List Part) → IsMarked parts → (tokens rest : List Token) (trees : List Expr) → Sequence Enclosed parts tokens trees
      → sequence read parts (tokens ++ rest) ≡ Ok (trees, rest)
  sequence_complete [] marked tokens rest trees derived =
      let end : sequence read [] (tokens ++ rest) ≡ Ok ([], rest) = ap (λ list. Ok ([], list ++ rest)) derived.0 in
      end ∙ ap (λ list. Ok (list, rest)) (sym derived.1)
  sequence_complete (Sign mark ∷ parts) marked tokens rest trees derived =
      ap (λ list. sequence read (Sign mark ∷ parts) (list ++ rest)) derived.1
      ∙ (ap (λ y. y >>= sequence read parts) (past-mark mark (derived.0 ++ rest)) ∙ sequence_complete parts marked derived.0 rest trees derived.2)
  sequence_complete (Inside ∷ parts) marked tokens rest trees derived =
      let front = derived.0 in let behind = derived.1 in let first = derived.2 in let others = derived.3 in
      let place : tokens ++ rest ≡ front ++ (behind ++ rest) = ap (λ list. list ++ rest) derived.4 ∙ append_assoc front behind rest in
      let head : read (front ++ (behind ++ rest)) ≡ Ok (first, behind ++ rest) =
      lawful.complete front (behind ++ rest) first derived.6 (marked_stops parts marked.0 behind rest others derived.7) in
      ap (sequence read (Inside ∷ parts)) place
      ∙ (bound-ok read (λ first left. sequence read parts left >>= made (λ others. first ∷ others)) _ _ first head
      ∙ (ap (λ y. y >>= made (λ others. first ∷ others)) (sequence_complete parts marked.1 behind rest others derived.7)
      ∙ ap (λ list. Ok (list, rest)) (sym derived.5)))

  pub sequence_sound : (parts : List Part) → (tokens : List Token) → SoundAt (Sequence Enclosed parts) (sequence read parts) tokens (sequence read parts tokens)
  sequence_sound [] tokens = done_sound (Sequence Enclosed []) (sequence read []) [] (refl, refl) tokens refl (λ first behind others cut. refl)
  sequence_sound (Sign mark ∷ parts) [] =
      stop_sound (Sequence Enclosed (Sign mark ∷ parts)) (sequence read (Sign mark ∷ parts)) (sequence_sample (Sign mark ∷ parts)) [] refl (λ first behind others cut. cc)
  sequence_sound (Sign mark ∷ parts) (token ∷ rest) = by_mark (sequence_sound parts rest) (is_mark mark token) refl
    where
      by_mark : SoundAt (Sequence Enclosed parts) (sequence read parts) rest (sequence read parts rest) → (b : Bool) → is_mark mark token ≡ b
          → SoundAt (Sequence Enclosed (Sign mark ∷ parts)) (sequence read (Sign mark ∷ parts)) (token ∷ rest) (sequence read (Sign mark ∷ parts) (token ∷ rest))
      by_mark sound true is =
          let here : token ≡ token_of_mark mark = token_of_mark_is mark token is in
          behind_sound (Sequence Enclosed (Sign mark ∷ parts)) (sequence read (Sign mark ∷ parts)) (sequence read parts) token
          (λ behind. ap (λ first. sequence read (Sign mark ∷ parts) (first ∷ behind)) here ∙ ap (λ y. y >>= sequence read parts) (past-mark mark behind)) rest
          (sound_under (Sequence Enclosed parts) (λ front trees. Sequence Enclosed (Sign mark ∷ parts) (token ∷ front) trees) (sequence read parts) rest
          (λ front trees derived. (front, ap (λ first. first ∷ front) here, derived)) (sequence read parts rest) sound)
      by_mark sound false is =
          stop_sound (Sequence Enclosed (Sign mark ∷ parts)) (sequence read (Sign mark ∷ parts)) (sequence_sample (Sign mark ∷ parts)) (token ∷ rest)
          (ap (λ y. y >>= sequence read parts) (past-other mark token rest is))
          (λ first behind others cut.
          let head : token ≡ first = cc in
          ap (λ y. y >>= sequence read parts) (past-other mark first others (sym (ap (is_mark mark) head) ∙ is)))
  sequence_sound (Inside ∷ parts) tokens = by_parts (sequence_sound parts)
    where
      by_parts : ((rest : List Token) → SoundAt (Sequence Enclosed parts) (sequence read parts) rest (sequence read parts rest))
          → SoundAt (Sequence Enclosed (Inside ∷ parts)) (sequence read (Inside ∷ parts)) tokens (sequence read (Inside ∷ parts) tokens)
      by_parts others_sound =
          let some = sequence_sample parts in
          bound_sound Enclosed (Sequence Enclosed (Inside ∷ parts)) read (λ first rest. sequence read parts rest >>= made (λ others. first ∷ others))
          (λ front first derived. (some.0, first ∷ some.1, (front, some.0, first, some.1, refl, refl, derived, some.2)))
          lawful.sound
          (λ front first derived rest.
          made_sound (Sequence Enclosed parts) (λ behind trees. Sequence Enclosed (Inside ∷ parts) (front ++ behind) trees) (λ others. first ∷ others) (sequence read parts)
          (λ behind others sequence. (front, behind, first, others, refl, refl, derived, sequence)) rest (others_sound rest))
          tokens
