use Rattle.std.proofs.Common.{SFits, ap, rules, w64, ◌≡◌, ◌∙◌}
use Rattle.std.proofs.lemmas.Int.{to_z-of_z}
use Rattle.clocked_layer.specs.Opening.{tick_of}
use Rattle.clocked_layer.specs.declared.ticks.Moment.TheVariants.{Begins, Sends, Syncs, Votes}
use Rattle.clocked_layer.proofs.ticks.tick_of.Goals as goal

pub returns-in-Begins : goal.returns-in-Begins
returns-in-Begins c plan timing =
    let fits : SFits w64 c.begin_of.result = search rules in
    let is = c.in-Begins.is in
    let moment : Begins ≡ c.args.moment = cc in
    to_z-of_z w64 c.begin_of.result fits ∙ c.begin_of.ensures plan timing
    ∙ ap (λ m. tick_of plan c.args.frame c.args.input.now m c.args.replica) moment

pub returns-in-Sends : goal.returns-in-Sends
returns-in-Sends c plan timing =
    let fits : SFits w64 c.send_of.result = search rules in
    let is = c.in-Sends.is in
    let moment : Sends ≡ c.args.moment = cc in
    to_z-of_z w64 c.send_of.result fits ∙ c.send_of.ensures plan timing
    ∙ ap (λ m. tick_of plan c.args.frame c.args.input.now m c.args.replica) moment

pub returns-in-Votes : goal.returns-in-Votes
returns-in-Votes c plan timing =
    let fits : SFits w64 c.vote_of.result = search rules in
    let is = c.in-Votes.is in
    let moment : Votes ≡ c.args.moment = cc in
    to_z-of_z w64 c.vote_of.result fits ∙ c.vote_of.ensures plan timing
    ∙ ap (λ m. tick_of plan c.args.frame c.args.input.now m c.args.replica) moment

pub returns-in-Syncs : goal.returns-in-Syncs
returns-in-Syncs c plan timing =
    let fits : SFits w64 c.sync_of.result = search rules in
    let is = c.in-Syncs.is in
    let moment : Syncs ≡ c.args.moment = cc in
    to_z-of_z w64 c.sync_of.result fits ∙ c.sync_of.ensures plan timing
    ∙ ap (λ m. tick_of plan c.args.frame c.args.input.now m c.args.replica) moment
