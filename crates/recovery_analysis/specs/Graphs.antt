-- The graph of rows and votes. This project's own.
use Rattle.std.specs.Prelude.{◌≡◌}
use Rattle.task_graph.specs.Rows.{Rows, needs_in}
use Rattle.vote_pattern.specs.Votes.{Votes, is_in}
use Rattle.rcp_model.specs.Walk.{Graph}

-- the cell that is fed needs the one that feeds it
abbrev pub graph_of : Rows → Votes → Graph
graph_of rows votes = record {
  slots = rows.slots;
  cells = rows.cells;
  feeds = λ slot from to. needs_in rows slot to from;
  votes = is_in votes;
}

-- as many slots and cells
pub record IsOneSize (rows : Rows) (votes : Votes) : Type 0 where
  pub slots : rows.slots ≡ votes.slots
  pub cells : rows.cells ≡ votes.cells
