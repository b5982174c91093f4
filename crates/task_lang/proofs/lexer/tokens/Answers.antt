use Rattle.std.proofs.Common.{arith}
use Rattle.std.proofs.lemmas.Grind.{common_steps}
use Rattle.task_lang.specs.Tokens.{tokens_of, lefts_of}
use Rattle.task_lang.proofs.TokenLemmas.{tokens_after_blank, tokens_after_token, tokens_at_end, lefts_after_blank, lefts_after_token, lefts_at_end}
use Rattle.task_lang.proofs.lexer.tokens.Goals as goal

pub loop-first-preserved-then-is_blank : goal.loop-first-preserved-then-is_blank
loop-first-preserved-then-is_blank c = record {
  tokens =
      tokens_after_blank c.loop-first.list (tokens_of c.args.text.now) c.loop-first.rest.now c.in-Some.behind.now c.in-Some.first.now
      c.in-Some.ensures.cases.0 (cc) c.loop-first.invariant.tokens;
  lefts =
      lefts_after_blank c.loop-first.lefts (lefts_of c.args.text.now) c.loop-first.rest.now c.in-Some.behind.now c.in-Some.first.now
      c.in-Some.ensures.cases.0 (cc) c.loop-first.invariant.lefts;
}

pub loop-first-preserved : goal.loop-first-preserved
loop-first-preserved c = record {
  tokens =
      tokens_after_token c.loop-first.list c.push.new.self (tokens_of c.args.text.now) c.loop-first.rest.now c.in-Some.behind.now _
      c.in-Some.first.now c.tail_len-size.result c.token_of.result
      c.in-Some.ensures.cases.0 (cc) c.tail_len-size.ensures c.token_of.ensures (grind (arith, common_steps)) c.in_ok-push.ensures.ok c.loop-first.invariant.tokens;
  lefts =
      lefts_after_token c.loop-first.lefts c.push-else-is_blank.new.self (lefts_of c.args.text.now) c.loop-first.rest.now c.in-Some.behind.now _
      c.in-Some.first.now c.tail_len-size.result
      c.in-Some.ensures.cases.0 (cc) c.tail_len-size.ensures (grind (arith, common_steps)) c.in_ok-push-2.ensures.ok c.loop-first.invariant.lefts;
}

pub returns : goal.returns
returns c = record {
  tokens = tokens_at_end c.loop-first.list (tokens_of c.args.text.now) c.loop-first.rest.now c.in_default.ensures.cases c.loop-first.invariant.tokens;
  lefts = lefts_at_end c.loop-first.lefts (lefts_of c.args.text.now) c.loop-first.rest.now c.in_default.ensures.cases c.loop-first.invariant.lefts;
}
