use Rattle.hc_run.proofs.VoteRows.{vote_rows}
use Rattle.hc_run.proofs.rows.votes_are_rules.Goals as goal

pub returns : goal.returns
returns c = vote_rows
