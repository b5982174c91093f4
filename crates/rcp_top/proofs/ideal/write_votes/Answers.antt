-- The line of an actuator is the next one that is to be written.
use Rattle.std.proofs.Common.{ℕ, List, ◌∷◌, ◌++◌, take, ◌≡◌, ◌<◌, ℤ, pos, ◌∙◌, ap, map, length, get_or, Option, Some, sym, subst, arith}
use Rattle.std.proofs.lemmas.List.{get_or-map, take_all}
use Rattle.rcp_base.specs.Adding.{Adds}
use Rattle.rcp_base.proofs.AddingLaws.{adds_then}
use Rattle.rcp_model.specs.Uniprocessor.{ideal_command}
use Rattle.rcp_model.specs.declared.plan.ActuatorRow.{ActuatorRow}
use Rattle.trace_text.specs.Lines.{vote_line}
use Rattle.rcp_top.specs.Ideal.{vote_lines}
use Rattle.rcp_top.proofs.LineLemmas.{lines_more}
use Rattle.rcp_top.proofs.ideal.write_votes.Goals as goal

pub loop-number-preserved : goal.loop-number-preserved
loop-number-preserved g c sensors past stands =
    let plan = c.args.plan.now in
    let number = c.loop-number.number in
    let actuator = c.index-actuators-number.result in
    let value : ActuatorRow → ℤ = λ a. ideal_command plan a sensors past in
    let command : ActuatorRow → Option ℤ = λ a. Some (value a) in
    let line : ActuatorRow → List ℕ = λ a. vote_line a.name (command a) in
    let below : number < length plan.actuators = omega (arith, ap length c.as_slice-actuators.ensures) in
    let item : actuator ≡ get_or plan.actuators number actuator =
    c.index-actuators-number.is ∙ ap (λ actuators. get_or actuators number actuator) c.as_slice-actuators.ensures in
    let gave : c.command-command.result ≡ Some (get_or (map value plan.actuators) number (pos 0)) = c.command-command.ensures plan (sensors ∷ past) stands in
    let same : c.command-command.result ≡ command actuator = gave ∙ ap Some (get_or-map value plan.actuators number actuator (pos 0) below ∙ ap value (sym item)) in
    let next : c.vote.result.now ≡ line actuator =
    c.vote.ensures ∙ ap (λ (a : ActuatorRow). vote_line a.name c.command-command.result) (sym c.index-actuators-number.is) ∙ ap (vote_line actuator.name) same in
    let Q : List ℕ → Type 0 = Adds (g.S.Sink.state c.args.out.now) (g.S.Sink.state c.add-so_far.new.out) c.args.so_far c.add-so_far.result in
    subst Q (ap (λ a. vote_lines (take number plan.actuators) command ++ line a) item ∙ lines_more line plan.actuators number actuator below)
    (adds_then _ _ _ _ _ _ (vote_lines (take number plan.actuators) command) (line actuator)
    (c.loop-number.invariant sensors past stands) (rw next at c.add-so_far.ensures))

pub returns : goal.returns
returns g c sensors past stands =
    let plan = c.args.plan.now in
    let all : take c.loop-number.number plan.actuators ≡ plan.actuators =
    take_all c.loop-number.number plan.actuators (omega (arith, c.loop-number-test.false, ap length c.as_slice-actuators.ensures)) in
    let P : List ActuatorRow → Type 0 = λ actuators. Adds (g.S.Sink.state c.args.out.now) (g.S.Sink.state c.loop-number.out) c.args.so_far c.loop-number.so_far
    (vote_lines actuators (λ actuator. Some (ideal_command plan actuator sensors past))) in
    subst P all (c.loop-number.invariant sensors past stands)
