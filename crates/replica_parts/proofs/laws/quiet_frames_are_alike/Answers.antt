use Rattle.replica_parts.proofs.QuietLemmas.{all_alike}
use Rattle.replica_parts.proofs.laws.quiet_frames_are_alike.Goals as goal

pub returns : goal.returns
returns c = λ plan frame rows quiet. all_alike rows quiet plan frame
