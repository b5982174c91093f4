use Rattle.std.proofs.Common.{◌∙◌, ap}
use Rattle.rcp_model.specs.Uniprocessor.{ProcessorState}
use Rattle.replica_layer.proofs.AtLemmas.{held_is}
use Rattle.replica_layer.proofs.replicated.ReplicatedLayer.slot.Goals as goal

pub returns : goal.returns
returns c = λ plan state h lt. c.slot.ensures ∙ ap (λ (x : ProcessorState). x.slot) (held_is c.args.self.now plan state h c.args.replica lt c.index.result.now c.index.ensures)
