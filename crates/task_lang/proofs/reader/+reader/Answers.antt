use Rattle.std.proofs.Common.{sym, ap, subst, ◌∙◌}
use Rattle.task_lang.specs.declared.reader.Level.TheVariants as level
use Rattle.task_lang.specs.Words.{comparison_op}
use Rattle.task_lang.specs.ReaderParts.{compared}
use Rattle.task_lang.specs.Reader.{prim}
use Rattle.task_lang.specs.inner.Levels.{IsChain, HasPrefix, inner_reader, level_reader}
use Rattle.task_lang.proofs.ReaderSteps.{at_level, at_chain, at_prefix, level_reader-comparison, level_reader-prim, next_shorter, one_more}
use Rattle.task_lang.proofs.reader.+reader.Goals as goal

pub expr_at-returns-in-Or : goal.expr_at-returns-in-Or
expr_at-returns-in-Or t c =
    at_chain (λ x. (x.0, x.1.now)) c.chained.result c.args.level c.args.names.now c.args.depth c.args.tokens.now
    (subst IsChain (sym c.in-Or.is) tt) c.chained.ensures

pub expr_at-returns-in-And : goal.expr_at-returns-in-And
expr_at-returns-in-And t c =
    at_chain (λ x. (x.0, x.1.now)) c.chained-in-And.result c.args.level c.args.names.now c.args.depth c.args.tokens.now
    (subst IsChain (sym c.in-And.is) tt) c.chained-in-And.ensures

pub expr_at-returns-in-Sum : goal.expr_at-returns-in-Sum
expr_at-returns-in-Sum t c =
    at_chain (λ x. (x.0, x.1.now)) c.chained-in-Sum.result c.args.level c.args.names.now c.args.depth c.args.tokens.now
    (subst IsChain (sym c.in-Sum.is) tt) c.chained-in-Sum.ensures

pub expr_at-returns-in-Product : goal.expr_at-returns-in-Product
expr_at-returns-in-Product t c =
    at_chain (λ x. (x.0, x.1.now)) c.chained-in-Product.result c.args.level c.args.names.now c.args.depth c.args.tokens.now
    (subst IsChain (sym c.in-Product.is) tt) c.chained-in-Product.ensures

pub expr_at-returns-in-Inv : goal.expr_at-returns-in-Inv
expr_at-returns-in-Inv t c =
    at_prefix (λ x. (x.0, x.1.now)) c.prefixed.result c.args.level c.args.names.now c.args.depth c.args.tokens.now
    (subst HasPrefix (sym c.in-Inv.is) tt) c.prefixed.ensures

pub expr_at-returns-in-Unary : goal.expr_at-returns-in-Unary
expr_at-returns-in-Unary t c =
    at_prefix (λ x. (x.0, x.1.now)) c.prefixed-in-Unary.result c.args.level c.args.names.now c.args.depth c.args.tokens.now
    (subst HasPrefix (sym c.in-Unary.is) tt) c.prefixed-in-Unary.ensures

pub expr_at-returns-in-Comparison : goal.expr_at-returns-in-Comparison
expr_at-returns-in-Comparison t c =
    at_level (λ x. (x.0, x.1.now)) c.compared.result c.args.level c.args.names.now c.args.depth (compared comparison_op (level_reader level.Sum c.args.names.now c.args.depth)) c.args.tokens.now
    (level_reader-comparison c.args.names.now c.args.depth ∙ ap (λ at. level_reader at c.args.names.now c.args.depth) (sym c.in-Comparison.is)) c.compared.ensures

pub expr_at-returns-in-Prim : goal.expr_at-returns-in-Prim
expr_at-returns-in-Prim t c =
    at_level (λ x. (x.0, x.1.now)) c.prim.result c.args.level c.args.names.now c.args.depth (prim c.args.names.now (inner_reader level.Or c.args.names.now c.args.depth)) c.args.tokens.now
    (level_reader-prim c.args.names.now c.args.depth ∙ ap (λ at. level_reader at c.args.names.now c.args.depth) (sym c.in-Prim.is)) c.prim.ensures

pub onward-loop-token-smaller : goal.onward-loop-token-smaller
onward-loop-token-smaller t c =
    next_shorter c.operands.result c.args.names.now c.args.depth c.loop-token.rest.now c.in-Some.behind.now c.in_ok-operand.next.now
    c.in-Some.token.now c.in_ok-operand.operand c.in-Some.ensures c.in_ok-operand.ensures

pub onward-loop-token-preserved : goal.onward-loop-token-preserved
onward-loop-token-preserved t c =
    one_more c.args.level c.operands.result c.requires c.args.names.now c.args.depth c.loop-token.rest.now c.in-Some.behind.now c.in_ok-operand.next.now
    c.in-Some.token.now c.in-Some-operator.op c.loop-token.left c.in_ok-operand.operand c.in_ok-a.a c.in_ok-b.b
    c.in-Some.ensures c.in-Some-operator.ensures c.operands.ensures c.in_ok-operand.ensures c.in_ok-a.ensures c.in_ok-b.ensures
    ∙ c.loop-token.invariant
