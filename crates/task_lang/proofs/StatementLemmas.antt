-- Statements and bodies are read as the grammar has them.
use Rattle.std.proofs.Common.{◌≡◌, ℕ, suc, ◌<◌, List, [], ◌∷◌, ◌++◌, length, Bool, true, false, Option, Some, None, Ok, Err, refl, sym, ap, ◌∙◌, subst, arith}
use Rattle.rcp_model.specs.declared.expr.Expr.{Expr}
use Rattle.task_lang.specs.declared.token.Token.{Token}
use Rattle.task_lang.specs.declared.token.Token.TheVariants as token
use Rattle.task_lang.specs.declared.token.Mark.{Mark}
use Rattle.task_lang.specs.declared.token.Mark.TheVariants as mark
use Rattle.task_lang.specs.Words.{is_let, token_of_mark}
use Rattle.task_lang.specs.Rules.{Sequence, plain, prefixed_by, expr_rule, enclosed_by}
use Rattle.rcp_base.specs.Answers.{◌>>=◌}
use Rattle.task_lang.specs.ReaderParts.{choose, Reader, made, sequence}
use Rattle.task_lang.specs.Reader.{whole, expr_reader, readers}
use Rattle.task_lang.specs.Faults.{Answers}
use Rattle.task_lang.specs.Statements.{Statement, Let, Set, IsNamed, named, IsStatement, parts_behind, word_of, scope_of, lets_behind, statements_rule}
use Rattle.task_lang.specs.StatementReaders.{only, named_reader, statement_reader, statements_reader}
use Rattle.task_lang.specs.Readings.{BodiesAreRead}
use Rattle.task_lang.proofs.ReadingLaws.{SoundAt, Lawful}
use Rattle.task_lang.proofs.Combining.{behind_sound, made_sound, stop_sound}
use Rattle.task_lang.proofs.Sequences.{never, sequence_sample, sequence_complete, sequence_sound}
use Rattle.task_lang.proofs.Prefixes.{prefix_lawful}
use Rattle.task_lang.proofs.Levels.{expr_goes, expr_lawful, mark_ends}
use Rattle.task_lang.proofs.Manies.{always, many_lawful}
use Rattle.task_lang.proofs.FaultLemmas.{whole_answers}

word_is : (first : Token) (name : List ℕ) → word_of first ≡ Some name → first ≡ token.Word name
word_is (token.Word other) name is = ap token.Word (let same : other ≡ name = cc in same)
word_is _ name is = cc

module _ (mark : Mark) (make : List ℕ → Expr → Statement) (Value : List Token → Expr → Type 0) (goes : Token → Bool) (read : Reader Expr)
    (lawful : Lawful Value goes read) (ends : (mark : Mark) → goes (token_of_mark mark) ≡ false) where
  one_value : (tokens : List Token) (trees : List Expr) → Sequence Value (parts_behind mark) tokens trees → trees ≡ only trees ∷ []
  one_value tokens trees derived =
      let inside = derived.2 in
      let one : trees ≡ inside.2 ∷ [] = inside.5 ∙ ap (λ others. inside.2 ∷ others) inside.7.2.1 in
      one ∙ ap (λ list. only list ∷ []) (sym one)

  named_derived : (name : List ℕ) (tokens : List Token) (trees : List Expr) → Sequence Value (parts_behind mark) tokens trees
      → IsNamed mark make Value (token.Word name ∷ tokens) (make name (only trees))
  named_derived name tokens trees derived = named name tokens (only trees) (subst (Sequence Value (parts_behind mark) tokens) (one_value tokens trees derived) derived)

  named_reader-some : (token : Token) (name : List ℕ) → word_of token ≡ Some name → (rest : List Token)
      → named_reader mark make read (token ∷ rest) ≡ (sequence read (parts_behind mark) rest >>= made (λ trees. make name (only trees)))
  named_reader-some token name is rest =
      ap (λ found. choose found (Err (suc (length rest))) (λ name. sequence read (parts_behind mark) rest >>= made (λ trees. make name (only trees)))) is

  named_reader-none : (token : Token) → word_of token ≡ None → (rest : List Token) → named_reader mark make read (token ∷ rest) ≡ Err (suc (length rest))
  named_reader-none token is rest =
      ap (λ found. choose found (Err (suc (length rest))) (λ name. sequence read (parts_behind mark) rest >>= made (λ trees. make name (only trees)))) is

  named_sample : (tokens : List Token) × (statement : Statement) × IsNamed mark make Value tokens statement
  named_sample =
      let some = sequence_sample Value goes read lawful ends (parts_behind mark) in
      (token.Word [] ∷ some.0, make [] (only some.1), named_derived [] some.0 some.1 some.2)

  named_sound : (tokens : List Token) → SoundAt (IsNamed mark make Value) (named_reader mark make read) tokens (named_reader mark make read tokens)
  named_sound [] = stop_sound (IsNamed mark make Value) (named_reader mark make read) named_sample [] refl (λ first behind others cut. cc)
  named_sound (token ∷ rest) = by_word (word_of token) refl
    where
      by_word : (found : Option (List ℕ)) → word_of token ≡ found
          → SoundAt (IsNamed mark make Value) (named_reader mark make read) (token ∷ rest) (named_reader mark make read (token ∷ rest))
      by_word None is =
          stop_sound (IsNamed mark make Value) (named_reader mark make read) named_sample (token ∷ rest) (named_reader-none token is rest)
          (λ first behind others cut. let head : token ≡ first = cc in named_reader-none first (sym (ap word_of head) ∙ is) others)
      by_word (Some name) is =
          behind_sound (IsNamed mark make Value) (named_reader mark make read)
          (λ list. sequence read (parts_behind mark) list >>= made (λ trees. make name (only trees))) token (named_reader-some token name is) rest
          (made_sound (Sequence Value (parts_behind mark)) (λ front statement. IsNamed mark make Value (token ∷ front) statement) (λ trees. make name (only trees))
          (sequence read (parts_behind mark))
          (λ tokens trees derived. subst (λ first. IsNamed mark make Value (first ∷ tokens) (make name (only trees))) (sym (word_is token name is)) (named_derived name tokens trees derived))
          rest (sequence_sound Value goes read lawful ends (parts_behind mark) rest))

  named_complete : {tokens : List Token} {statement : Statement} → IsNamed mark make Value tokens statement → (rest : List Token)
      → named_reader mark make read (tokens ++ rest) ≡ Ok (statement, rest)
  named_complete (named name tokens value derived) rest =
      ap (λ y. y >>= made (λ trees. make name (only trees)))
      (sequence_complete Value goes read lawful ends (parts_behind mark) (tt, tt) tokens rest (value ∷ []) derived)

  pub named_lawful : Lawful (IsNamed mark make Value) never (named_reader mark make read)
  named_lawful = record {
    sound = named_sound;
    complete = λ tokens rest statement derived stops. named_complete derived rest;
    sample = named_sample;
  }

  pub named_filled : (tokens : List Token) (statement : Statement) → IsNamed mark make Value tokens statement → 0 < length tokens
  named_filled tokens statement (named name rest value derived) = omega arith

module _ (Value : List Token → Expr → Type 0) (goes : Token → Bool) (read : Reader Expr) (lawful : Lawful Value goes read)
    (ends : (mark : Mark) → goes (token_of_mark mark) ≡ false) where
  let_refused : (token : Token) (rest : List Token) → is_let token ≡ true → named_reader mark.Assign Set read (token ∷ rest) ≡ Err (suc (length rest))
  let_refused token.Let rest is = refl
  let_refused _ rest is = cc

  pub statement_lawful : Lawful (IsStatement Value) never (statement_reader read)
  statement_lawful =
      prefix_lawful is_let (λ statement. statement) (IsNamed mark.Equal Let Value) (IsNamed mark.Assign Set Value) never (named_reader mark.Assign Set read)
      (named_lawful mark.Assign Set Value goes read lawful ends) let_refused
      (Some (named_reader mark.Equal Let read)) (named_lawful mark.Equal Let Value goes read lawful ends)

  pub statement_filled : (tokens : List Token) (statement : Statement) → IsStatement Value tokens statement → 0 < length tokens
  statement_filled tokens statement (plain list other derived) = named_filled mark.Assign Set Value goes read lawful ends list other derived
  statement_filled tokens statement (prefixed_by token list other is derived) = omega arith

-- with at most n brackets and prefixes round a token
pub statements_answer : (n : ℕ) (sensors cells : List (List ℕ)) (tokens : List Token)
    → Answers (statements_rule n sensors cells) tokens (whole (statements_reader n sensors cells) tokens)
statements_answer n sensors cells tokens =
    whole_answers (statements_rule n sensors cells) always (statements_reader n sensors cells)
    (many_lawful (λ lets. let scope = scope_of sensors cells lets in IsStatement (expr_rule scope (enclosed_by scope n))) lets_behind
    (λ lets. let scope = scope_of sensors cells lets in statement_reader (expr_reader scope (readers scope n)))
    (λ lets.
    let scope = scope_of sensors cells lets in
    statement_lawful (expr_rule scope (enclosed_by scope n)) expr_goes (expr_reader scope (readers scope n)) (expr_lawful scope n) mark_ends)
    (λ lets.
    let scope = scope_of sensors cells lets in
    statement_filled (expr_rule scope (enclosed_by scope n)) expr_goes (expr_reader scope (readers scope n)) (expr_lawful scope n) mark_ends)
    [])
    tokens

pub bodies_read : BodiesAreRead
bodies_read = statements_answer 64
