use Rattle.hc_run.proofs.VoteRows.{vote_request_rows}
use Rattle.hc_run.proofs.rows.vote_requests_are_rules.Goals as goal

pub returns : goal.returns
returns c = vote_request_rows
