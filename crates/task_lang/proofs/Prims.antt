-- Numbers, names and forms.
use Rattle.std.proofs.Common.{◌≡◌, suc, ◌<◌, List, [], ◌∷◌, ◌++◌, length, Option, Some, None, Ok, Err, refl, sym, ap, ◌∙◌, arith}
use Rattle.std.specs.Prelude.{pos, Bool, false}
use Rattle.rcp_model.specs.declared.expr.Expr.{Expr}
use Rattle.rcp_model.specs.declared.expr.Expr.TheVariants as expr
use Rattle.task_lang.specs.declared.token.Token.{Token}
use Rattle.task_lang.specs.declared.token.Token.TheVariants as token
use Rattle.task_lang.specs.declared.token.Mark.{Mark}
use Rattle.task_lang.specs.declared.token.Form.{Form}
use Rattle.task_lang.specs.declared.token.Form.TheVariants as form
use Rattle.task_lang.specs.Words.{Scope, leaf_of, token_of_mark}
use Rattle.task_lang.specs.Forms.{form_of_token, parts_of_form, tree_of}
use Rattle.task_lang.specs.Rules.{Sequence, IsPrim, leaf, within}
use Rattle.rcp_base.specs.Answers.{◌>>=◌}
use Rattle.task_lang.specs.ReaderParts.{choose, Reader, enclosed, made, sequence}
use Rattle.task_lang.specs.Reader.{formed, prim}
use Rattle.task_lang.proofs.ReadingLaws.{SoundAt, Lawful}
use Rattle.task_lang.proofs.Combining.{behind_sound, made_sound, done_sound, stop_sound}
use Rattle.task_lang.proofs.Prefixes.{LawfulInside}
use Rattle.task_lang.proofs.Sequences.{never, IsMarked, sequence_complete, sequence_sound}

parts_of_marked : (form : Form) → IsMarked (parts_of_form form)
parts_of_marked form.Brackets = (tt, tt)
parts_of_marked form.Abs = (tt, tt)
parts_of_marked form.Min = (tt, (tt, tt))
parts_of_marked form.Max = (tt, (tt, tt))
parts_of_marked form.Clamp = (tt, (tt, (tt, tt)))
parts_of_marked form.If = (tt, (tt, (tt, tt)))

-- what begins a form is no leaf
leaf_of-form : (scope : Scope) (token : Token) (form : Form) → form_of_token token ≡ Some form → leaf_of scope token ≡ None
leaf_of-form scope (token.Number n) form is = cc
leaf_of-form scope (token.Word name) form is = cc
leaf_of-form scope _ form is = refl

module _ (scope : Scope) (Enclosed : List Token → Expr → Type 0) (goes : Token → Bool) (ends : (mark : Mark) → goes (token_of_mark mark) ≡ false) where
  -- each form encloses something
  form_encloses : (form : Form) (tokens : List Token) (trees : List Expr) → Sequence Enclosed (parts_of_form form) tokens trees
      → (front : List Token) × (a : Expr) × Enclosed front a
  form_encloses form.Brackets tokens trees derived = (derived.0, derived.2, derived.6)
  form_encloses form.Abs tokens trees derived = let inside = derived.2 in (inside.0, inside.2, inside.6)
  form_encloses form.Min tokens trees derived = let inside = derived.2 in (inside.0, inside.2, inside.6)
  form_encloses form.Max tokens trees derived = let inside = derived.2 in (inside.0, inside.2, inside.6)
  form_encloses form.Clamp tokens trees derived = let inside = derived.2 in (inside.0, inside.2, inside.6)
  form_encloses form.If tokens trees derived = let inside = derived.2 in (inside.0, inside.2, inside.6)

  prim-leaf : (inner : Option (Reader Expr)) (token : Token) (rest : List Token) (a : Expr) → leaf_of scope token ≡ Some a → prim scope inner (token ∷ rest) ≡ Ok (a, rest)
  prim-leaf inner token rest a is =
      ap (λ found. choose found (choose (form_of_token token) (Err (suc (length rest))) (λ form. enclosed inner (formed form) (suc (length rest)) rest)) (λ a. Ok (a, rest))) is

  prim-form : (inner : Option (Reader Expr)) (token : Token) (rest : List Token) (form : Form) → form_of_token token ≡ Some form
      → prim scope inner (token ∷ rest) ≡ enclosed inner (formed form) (suc (length rest)) rest
  prim-form inner token rest form is =
      ap (λ found. choose found (choose (form_of_token token) (Err (suc (length rest))) (λ form. enclosed inner (formed form) (suc (length rest)) rest)) (λ a. Ok (a, rest)))
      (leaf_of-form scope token form is)
      ∙ ap (λ found. choose found (Err (suc (length rest))) (λ form. enclosed inner (formed form) (suc (length rest)) rest)) is

  prim-none : (inner : Option (Reader Expr)) (token : Token) (rest : List Token) → leaf_of scope token ≡ None → form_of_token token ≡ None
      → prim scope inner (token ∷ rest) ≡ Err (suc (length rest))
  prim-none inner token rest no_leaf no_form =
      ap (λ found. choose found (choose (form_of_token token) (Err (suc (length rest))) (λ form. enclosed inner (formed form) (suc (length rest)) rest)) (λ a. Ok (a, rest))) no_leaf
      ∙ ap (λ found. choose found (Err (suc (length rest))) (λ form. enclosed inner (formed form) (suc (length rest)) rest)) no_form

  prim_complete : (inner : Option (Reader Expr)) → LawfulInside Enclosed goes inner → {tokens : List Token} {a : Expr} → IsPrim scope Enclosed tokens a
      → (rest : List Token) → prim scope inner (tokens ++ rest) ≡ Ok (a, rest)
  prim_complete inner law (leaf token a is) rest = prim-leaf inner token rest a is
  prim_complete None law (within token form is tokens trees derived) rest = let some = form_encloses form tokens trees derived in absurd (law some.0 some.1 some.2)
  prim_complete (Some read) law (within token form is tokens trees derived) rest =
      prim-form (Some read) token (tokens ++ rest) form is
      ∙ ap (λ y. y >>= made (tree_of form)) (sequence_complete Enclosed goes read law ends (parts_of_form form) (parts_of_marked form) tokens rest trees derived)

  prim_sample : (tokens : List Token) × (a : Expr) × IsPrim scope Enclosed tokens a
  prim_sample = (token.Number (pos 0) ∷ [], expr.Number (pos 0), leaf (token.Number (pos 0)) (expr.Number (pos 0)) refl)

  prim_sound : (inner : Option (Reader Expr)) → LawfulInside Enclosed goes inner → (tokens : List Token)
      → SoundAt (IsPrim scope Enclosed) (prim scope inner) tokens (prim scope inner tokens)
  prim_sound inner law [] = stop_sound (IsPrim scope Enclosed) (prim scope inner) prim_sample [] refl (λ first behind others cut. cc)
  prim_sound inner law (token ∷ rest) = by_leaf (leaf_of scope token) refl
    where
      by_inner : (form : Form) → form_of_token token ≡ Some form → (inner : Option (Reader Expr)) → LawfulInside Enclosed goes inner
          → SoundAt (IsPrim scope Enclosed) (prim scope inner) (token ∷ rest) (prim scope inner (token ∷ rest))
      by_inner form is None law =
          stop_sound (IsPrim scope Enclosed) (prim scope None) prim_sample (token ∷ rest) (prim-form None token rest form is)
          (λ first behind others cut. let head : token ≡ first = cc in prim-form None first others form (sym (ap form_of_token head) ∙ is))
      by_inner form is (Some read) law =
          behind_sound (IsPrim scope Enclosed) (prim scope (Some read)) (formed form read) token (λ behind. prim-form (Some read) token behind form is) rest
          (made_sound (Sequence Enclosed (parts_of_form form)) (λ front a. IsPrim scope Enclosed (token ∷ front) a) (tree_of form) (sequence read (parts_of_form form))
          (λ tokens trees derived. within token form is tokens trees derived) rest
          (sequence_sound Enclosed goes read law ends (parts_of_form form) rest))

      by_form : leaf_of scope token ≡ None → (found : Option Form) → form_of_token token ≡ found
          → SoundAt (IsPrim scope Enclosed) (prim scope inner) (token ∷ rest) (prim scope inner (token ∷ rest))
      by_form no_leaf (Some form) is = by_inner form is inner law
      by_form no_leaf None is =
          stop_sound (IsPrim scope Enclosed) (prim scope inner) prim_sample (token ∷ rest) (prim-none inner token rest no_leaf is)
          (λ first behind others cut.
          let head : token ≡ first = cc in
          prim-none inner first others (sym (ap (leaf_of scope) head) ∙ no_leaf) (sym (ap form_of_token head) ∙ is))

      by_leaf : (found : Option Expr) → leaf_of scope token ≡ found → SoundAt (IsPrim scope Enclosed) (prim scope inner) (token ∷ rest) (prim scope inner (token ∷ rest))
      by_leaf None is = by_form is (form_of_token token) refl
      by_leaf (Some a) is =
          behind_sound (IsPrim scope Enclosed) (prim scope inner) (λ left. Ok (a, left)) token (λ behind. prim-leaf inner token behind a is) rest
          (done_sound (λ front x. IsPrim scope Enclosed (token ∷ front) x) (λ left. Ok (a, left)) a (leaf token a is) rest refl (λ first behind others cut. refl))

  pub prim_lawful : (inner : Option (Reader Expr)) → LawfulInside Enclosed goes inner → Lawful (IsPrim scope Enclosed) never (prim scope inner)
  prim_lawful inner law = record {
    sound = prim_sound inner law;
    complete = λ tokens rest a derived stops. prim_complete inner law derived rest;
    sample = prim_sample;
  }

  pub prim_filled : (tokens : List Token) (a : Expr) → IsPrim scope Enclosed tokens a → 0 < length tokens
  prim_filled tokens a (leaf token b is) = omega arith
  prim_filled tokens a (within token form is rest trees derived) = omega arith
