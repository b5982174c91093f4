-- What follows from the definition of the verdict, for all graphs. This project's own.
use Rattle.rcp_model.specs.Walk.{Graph}
use Rattle.recovery_analysis.specs.Verdict.{IsVerdict, verdict_of}

-- the verdict on a graph is right: the cycle that is shown is one, and the one of the definition; or there is none,
-- and the length is the least and the walk that of the definition
abbrev pub TheVerdictIsRight : Type 0
TheVerdictIsRight = (g : Graph) → IsVerdict g (verdict_of g)
