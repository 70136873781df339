use Rattle.hc_log.proofs.Changes.{changes_lead_there}
use Rattle.hc_log.proofs.laws.changes_are_records.Goals as goal

pub returns : goal.returns
returns c = changes_lead_there
