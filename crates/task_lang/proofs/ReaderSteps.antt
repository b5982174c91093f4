-- One step of the code of the readers.
use Rattle.std.proofs.Common.{◌≡◌, ◌≢◌, ℕ, zero, suc, ◌+◌, ◌-◌, ◌<◌, List, [], ◌∷◌, length, Bool, true, false, cond, Option, Some, None, Result, Ok, Err, refl, sym, ap, ◌∙◌, subst, arith, length-append}
use Rattle.rcp_model.specs.declared.expr.Expr.{Expr}
use Rattle.rcp_model.specs.declared.expr.Expr.TheVariants as expr
use Rattle.rcp_model.specs.declared.expr.Op.{Op}
use Rattle.task_lang.specs.declared.token.Token.{Token}
use Rattle.task_lang.specs.declared.reader.Level.{Level}
use Rattle.task_lang.specs.declared.reader.ReadFault.{ReadFault}
use Rattle.task_lang.specs.declared.reader.ReadFault.TheVariants as fault
use Rattle.task_lang.specs.Faults.{Answers}
use Rattle.task_lang.proofs.FaultLemmas.{expressions_answer}
use Rattle.task_lang.specs.declared.reader.Level.TheVariants as level
use Rattle.task_lang.specs.Words.{Scope, or_op, and_op, comparison_op, sum_op, product_op}
use Rattle.task_lang.specs.Rules.{enclosed_by, prim_rule, unary_rule, product_rule, sum_rule, comparison_rule, inv_rule, conj_rule, expr_rule}
use Rattle.rcp_base.specs.Answers.{◌>>=◌}
use Rattle.task_lang.specs.ReaderParts.{Reader, Read, enclosed, made, chained, onward, compared, prefixed}
use Rattle.task_lang.specs.Reader.{prim, whole, readers, prim_reader, unary_reader, product_reader, sum_reader, comparison_reader, inv_reader, conj_reader, expr_reader}
use Rattle.task_lang.specs.inner.Levels.{Follows, IsReadResult, level_reader, inner_reader, below, operator_at, IsChain, HasPrefix, is_prefix, with_prefix}
use Rattle.task_lang.proofs.ReadingLaws.{Reads, SoundAt, Lawful}
use Rattle.task_lang.proofs.Combining.{bound-ok}
use Rattle.task_lang.proofs.Chains.{onward-some}
use Rattle.task_lang.proofs.Sequences.{never}
use Rattle.task_lang.proofs.Prims.{prim_filled}
use Rattle.task_lang.proofs.Levels.{readers_lawful, mark_ends, product_goes, sum_goes, comparison_goes, conj_goes, expr_goes, product_apart, sum_apart, and_apart, or_apart, prim_level, unary_level, product_level, sum_level, comparison_level, inv_level, conj_level, expr_level, unary_filled, product_filled, sum_filled, comparison_filled, inv_filled, conj_filled, expr_filled}

-- how much a level has below it
abbrev pub rank : Level → ℕ
rank level.Or = 24
rank level.And = 21
rank level.Inv = 18
rank level.Comparison = 15
rank level.Sum = 12
rank level.Product = 9
rank level.Unary = 6
rank level.Prim = 3

-- a reader takes a token
shrinks : (Permits : List Token → Expr → Type 0) (goes : Token → Bool) (read : Reader Expr) → Lawful Permits goes read
    → ((tokens : List Token) (a : Expr) → Permits tokens a → 0 < length tokens)
    → (tokens rest : List Token) (a : Expr) → read tokens ≡ Ok (a, rest) → length rest < length tokens
shrinks Permits goes read lawful filled tokens rest a is =
    let at : Reads Permits read tokens a rest = subst (SoundAt Permits read tokens) is (lawful.sound tokens) in
    let some : 0 < length at.front = filled at.front a at.derived in
    let all : length tokens ≡ length at.front + length rest = ap length at.cut ∙ length-append at.front rest in
    omega arith

level_shrinks : (at : Level) (scope : Scope) (n : ℕ) (tokens rest : List Token) (a : Expr) → level_reader at scope n tokens ≡ Ok (a, rest) → length rest < length tokens
unfolding level_reader
level_shrinks level.Or scope n = let g = enclosed_by scope n in let r = readers scope n in let law = readers_lawful scope n in
    shrinks (expr_rule scope g) expr_goes (expr_reader scope r) (expr_level scope g r law) (expr_filled scope g r law)
level_shrinks level.And scope n = let g = enclosed_by scope n in let r = readers scope n in let law = readers_lawful scope n in
    shrinks (conj_rule scope g) conj_goes (conj_reader scope r) (conj_level scope g r law) (conj_filled scope g r law)
level_shrinks level.Inv scope n = let g = enclosed_by scope n in let r = readers scope n in let law = readers_lawful scope n in
    shrinks (inv_rule scope g) comparison_goes (inv_reader scope r) (inv_level scope g r law) (inv_filled scope g r law)
level_shrinks level.Comparison scope n = let g = enclosed_by scope n in let r = readers scope n in let law = readers_lawful scope n in
    shrinks (comparison_rule scope g) comparison_goes (comparison_reader scope r) (comparison_level scope g r law) (comparison_filled scope g r law)
level_shrinks level.Sum scope n = let g = enclosed_by scope n in let r = readers scope n in let law = readers_lawful scope n in
    shrinks (sum_rule scope g) sum_goes (sum_reader scope r) (sum_level scope g r law) (sum_filled scope g r law)
level_shrinks level.Product scope n = let g = enclosed_by scope n in let r = readers scope n in let law = readers_lawful scope n in
    shrinks (product_rule scope g) product_goes (product_reader scope r) (product_level scope g r law) (product_filled scope g r law)
level_shrinks level.Unary scope n = let g = enclosed_by scope n in let r = readers scope n in let law = readers_lawful scope n in
    shrinks (unary_rule scope g) never (unary_reader scope r) (unary_level scope g r law) (unary_filled scope g r law)
level_shrinks level.Prim scope n = let g = enclosed_by scope n in let r = readers scope n in let law = readers_lawful scope n in
    shrinks (prim_rule scope g) never (prim_reader scope r) (prim_level scope g r law) (prim_filled scope g.expr expr_goes mark_ends)

-- the loop's list is shorter behind an operand
pub next_shorter : (at : Level) (scope : Scope) (n : ℕ) (rest behind next : List Token) (token : Token) (b : Expr)
    → rest ≡ token ∷ behind → level_reader at scope n behind ≡ Ok (b, next) → length next < length rest
next_shorter at scope n rest behind next token b is reads =
    let less : length next < length behind = level_shrinks at scope n behind next b reads in
    let all : length rest ≡ suc (length behind) = ap length is in
    omega arith

-- an operator and what is behind it
onward_step : (at : Level) → IsChain at → (scope : Scope) (n : ℕ) (a b : Expr) (token : Token) (operator : Op) (behind next : List Token) → operator_at at token ≡ Some operator
    → level_reader (below at) scope n behind ≡ Ok (b, next)
    → onward (operator_at at) (level_reader (below at) scope n) a (token ∷ behind) ≡ onward (operator_at at) (level_reader (below at) scope n) (expr.Two operator a b) next
unfolding level_reader
onward_step level.Or ok scope n a b token operator behind next is reads = let g = enclosed_by scope n in let r = readers scope n in let law = readers_lawful scope n in
    onward-some or_op (conj_rule scope g) conj_goes (conj_reader scope r) (conj_level scope g r law) or_apart (conj_filled scope g r law) a token operator behind is
    ∙ bound-ok (conj_reader scope r) (λ b. onward or_op (conj_reader scope r) (expr.Two operator a b)) behind next b reads
onward_step level.And ok scope n a b token operator behind next is reads = let g = enclosed_by scope n in let r = readers scope n in let law = readers_lawful scope n in
    onward-some and_op (inv_rule scope g) comparison_goes (inv_reader scope r) (inv_level scope g r law) and_apart (inv_filled scope g r law) a token operator behind is
    ∙ bound-ok (inv_reader scope r) (λ b. onward and_op (inv_reader scope r) (expr.Two operator a b)) behind next b reads
onward_step level.Sum ok scope n a b token operator behind next is reads = let g = enclosed_by scope n in let r = readers scope n in let law = readers_lawful scope n in
    onward-some sum_op (product_rule scope g) product_goes (product_reader scope r) (product_level scope g r law) sum_apart (product_filled scope g r law) a token operator behind is
    ∙ bound-ok (product_reader scope r) (λ b. onward sum_op (product_reader scope r) (expr.Two operator a b)) behind next b reads
onward_step level.Product ok scope n a b token operator behind next is reads = let g = enclosed_by scope n in let r = readers scope n in let law = readers_lawful scope n in
    onward-some product_op (unary_rule scope g) never (unary_reader scope r) (unary_level scope g r law) product_apart (unary_filled scope g r law) a token operator behind is
    ∙ bound-ok (unary_reader scope r) (λ b. onward product_op (unary_reader scope r) (expr.Two operator a b)) behind next b reads
onward_step level.Inv ok scope n a b token operator behind next is reads = absurd ok
onward_step level.Comparison ok scope n a b token operator behind next is reads = absurd ok
onward_step level.Unary ok scope n a b token operator behind next is reads = absurd ok
onward_step level.Prim ok scope n a b token operator behind next is reads = absurd ok

-- the loop goes on over an operator and its operand
pub one_more : (at low : Level) → IsChain at → (scope : Scope) (n : ℕ) (rest behind next : List Token) (token : Token) (operator : Op) (left operand a b : Expr)
    → rest ≡ token ∷ behind → Some operator ≡ operator_at at token → low ≡ below at → level_reader low scope n behind ≡ Ok (operand, next) → a ≡ left → b ≡ operand
    → onward (operator_at at) (level_reader (below at) scope n) (expr.Two operator a b) next ≡ onward (operator_at at) (level_reader (below at) scope n) left rest
one_more at low ok scope n rest behind next token operator left operand a b is_rest is_op is_low reads is_a is_b =
    let here : level_reader (below at) scope n behind ≡ Ok (operand, next) = ap (λ lower. level_reader lower scope n behind) (sym is_low) ∙ reads in
    let go : Expr → List Token → Read Expr = onward (operator_at at) (level_reader (below at) scope n) in
    ap (λ x. go (expr.Two operator x b) next) is_a
    ∙ (ap (λ x. go (expr.Two operator left x) next) is_b
    ∙ (sym (onward_step at ok scope n left operand token operator behind next (sym is_op) here) ∙ ap (go left) (sym is_rest)))

-- what is enclosed has one less round it
inner_reader-less : (at : Level) (scope : Scope) (n : ℕ) → n ≢ 0 → inner_reader at scope n ≡ Some (level_reader at scope (n - 1))
inner_reader-less at scope zero some = absurd (some refl)
inner_reader-less at scope (suc n) some = let same : n ≡ suc n - 1 = omega arith in ap (λ k. Some (level_reader at scope k)) same

inner_reader-none : (at : Level) (scope : Scope) (n : ℕ) → n ≡ 0 → inner_reader at scope n ≡ None
inner_reader-none at scope n none = ap (inner_reader at scope) none

module _ (is : Token → Bool) (make : Expr → Expr) (read : Reader Expr) where
  pub prefixed_empty : (inner : Option (Reader Expr)) (tokens : List Token) → tokens ≡ [] → read tokens ≡ prefixed is make inner read tokens
  prefixed_empty inner tokens none = ap read none ∙ ap (prefixed is make inner read) (sym none)

  pub prefixed_other : (inner : Option (Reader Expr)) (tokens behind : List Token) (token : Token) → tokens ≡ token ∷ behind → is token ≡ false
      → read tokens ≡ prefixed is make inner read tokens
  prefixed_other inner tokens behind token cut other =
      let P : Bool → Read Expr = λ b. cond b (enclosed inner (λ q us. q us >>= made make) (suc (length behind)) behind) (read (token ∷ behind)) in
      ap read cut ∙ (sym (ap P other) ∙ ap (prefixed is make inner read) (sym cut))

  pub prefixed_inner : (inner : Option (Reader Expr)) (tokens behind : List Token) (token : Token) → tokens ≡ token ∷ behind → is token ≡ true
      → prefixed is make inner read tokens ≡ enclosed inner (λ q us. q us >>= made make) (length tokens) behind
  prefixed_inner inner tokens behind token cut same =
      let P : Bool → Read Expr = λ b. cond b (enclosed inner (λ q us. q us >>= made make) (suc (length behind)) behind) (read (token ∷ behind)) in
      ap (prefixed is make inner read) cut ∙ (ap P same ∙ ap (λ n. enclosed inner (λ q us. q us >>= made make) n behind) (sym (ap length cut)))

  pub prefixed_limit : (at : Level) (scope : Scope) (n : ℕ) (tokens behind : List Token) (token : Token) → tokens ≡ token ∷ behind → is token ≡ true → n ≡ 0
      → prefixed is make (inner_reader at scope n) read tokens ≡ Err (length tokens)
  prefixed_limit at scope n tokens behind token cut same none =
      prefixed_inner (inner_reader at scope n) tokens behind token cut same
      ∙ ap (λ inner. enclosed inner (λ q us. q us >>= made make) (length tokens) behind) (inner_reader-none at scope n none)

  pub prefixed_read : (at : Level) (scope : Scope) (n : ℕ) (tokens behind : List Token) (token : Token) → tokens ≡ token ∷ behind → is token ≡ true → n ≢ 0
      → (y : Read Expr) → level_reader at scope (n - 1) behind ≡ y → prefixed is make (inner_reader at scope n) read tokens ≡ (y >>= made make)
  prefixed_read at scope n tokens behind token cut same some y reads =
      prefixed_inner (inner_reader at scope n) tokens behind token cut same
      ∙ (ap (λ inner. enclosed inner (λ q us. q us >>= made make) (length tokens) behind) (inner_reader-less at scope n some)
      ∙ ap (λ y. y >>= made make) reads)

-- the levels are made of those below
pub level_reader-chain : (at : Level) (scope : Scope) (n : ℕ) → IsChain at → chained (operator_at at) (level_reader (below at) scope n) ≡ level_reader at scope n
unfolding level_reader
level_reader-chain level.Or scope n ok = refl
level_reader-chain level.And scope n ok = refl
level_reader-chain level.Sum scope n ok = refl
level_reader-chain level.Product scope n ok = refl
level_reader-chain level.Inv scope n ok = absurd ok
level_reader-chain level.Comparison scope n ok = absurd ok
level_reader-chain level.Unary scope n ok = absurd ok
level_reader-chain level.Prim scope n ok = absurd ok

pub level_reader-prefixed : (at : Level) (scope : Scope) (n : ℕ) → HasPrefix at
    → prefixed (is_prefix at) (with_prefix at) (inner_reader at scope n) (level_reader (below at) scope n) ≡ level_reader at scope n
unfolding level_reader
level_reader-prefixed level.Inv scope zero ok = refl
level_reader-prefixed level.Inv scope (suc n) ok = refl
level_reader-prefixed level.Unary scope zero ok = refl
level_reader-prefixed level.Unary scope (suc n) ok = refl
level_reader-prefixed level.Or scope n ok = absurd ok
level_reader-prefixed level.And scope n ok = absurd ok
level_reader-prefixed level.Comparison scope n ok = absurd ok
level_reader-prefixed level.Sum scope n ok = absurd ok
level_reader-prefixed level.Product scope n ok = absurd ok
level_reader-prefixed level.Prim scope n ok = absurd ok

pub level_reader-comparison : (scope : Scope) (n : ℕ) → compared comparison_op (level_reader level.Sum scope n) ≡ level_reader level.Comparison scope n
unfolding level_reader
level_reader-comparison scope n = refl

pub level_reader-prim : (scope : Scope) (n : ℕ) → prim scope (inner_reader level.Or scope n) ≡ level_reader level.Prim scope n
unfolding level_reader
level_reader-prim scope zero = refl
level_reader-prim scope (suc n) = refl

-- an answer of the code is one of its level
pub at_level : {X : Type 0} (view : X → Expr × List Token) (result : Result X ReadFault) (at : Level) (scope : Scope) (n : ℕ) (read : Reader Expr) (tokens : List Token)
    → read ≡ level_reader at scope n → Follows view result (read tokens) → Follows view result (level_reader at scope n tokens)
at_level view result at scope n read tokens is = subst (λ r. Follows view result (r tokens)) is

-- the same of a level whose operands are grouped to the left
pub at_chain : {X : Type 0} (view : X → Expr × List Token) (result : Result X ReadFault) (at : Level) (scope : Scope) (n : ℕ) (tokens : List Token)
    → IsChain at → Follows view result (chained (operator_at at) (level_reader (below at) scope n) tokens)
    → Follows view result (level_reader at scope n tokens)
at_chain view result at scope n tokens chain =
    at_level view result at scope n (chained (operator_at at) (level_reader (below at) scope n)) tokens (level_reader-chain at scope n chain)

-- and of one where a prefix may stand
pub at_prefix : {X : Type 0} (view : X → Expr × List Token) (result : Result X ReadFault) (at : Level) (scope : Scope) (n : ℕ) (tokens : List Token)
    → HasPrefix at
    → Follows view result (prefixed (is_prefix at) (with_prefix at) (inner_reader at scope n) (level_reader (below at) scope n) tokens)
    → Follows view result (level_reader at scope n tokens)
at_prefix view result at scope n tokens has =
    at_level view result at scope n (prefixed (is_prefix at) (with_prefix at) (inner_reader at scope n) (level_reader (below at) scope n)) tokens
    (level_reader-prefixed at scope n has)

-- what follows the reader of whole lists is right by the grammar
scope_read : (scope : Scope) (n : ℕ) (tokens : List Token) (result : Result Expr ReadFault)
    → Follows (λ (tree : Expr). tree) result (whole (level_reader level.Or scope n) tokens) → IsReadResult (expr_rule scope (enclosed_by scope n)) tokens result
unfolding level_reader
scope_read scope n tokens (Ok tree) is = subst (Answers (expr_rule scope (enclosed_by scope n)) tokens) is (expressions_answer n scope tokens)
scope_read scope n tokens (Err fault.Memory) is = tt
scope_read scope n tokens (Err (fault.At left)) is = subst (Answers (expr_rule scope (enclosed_by scope n)) tokens) is (expressions_answer n scope tokens)

pub expr_read : (names scope : Scope) (n : ℕ) (tokens : List Token) (result : Result Expr ReadFault) → names ≡ scope
    → Follows (λ (tree : Expr). tree) result (whole (level_reader level.Or names n) tokens) → IsReadResult (expr_rule scope (enclosed_by scope n)) tokens result
expr_read names scope n tokens result same is =
    scope_read scope n tokens result (subst (λ scope. Follows (λ (tree : Expr). tree) result (whole (level_reader level.Or scope n) tokens)) same is)
