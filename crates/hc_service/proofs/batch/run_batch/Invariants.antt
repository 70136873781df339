-- What is left of the batch leads to the whole one, and no more was counted than there were requests.
use Rattle.std.proofs.Common.{◌-◌, take}
use Rattle.hc_log.specs.Log.{requests_of}
use Rattle.hc_service.specs.Batch.{entries_between, run_all}
use Rattle.hc_service.proofs.Running.{CountsMost, LeadsTo}
use Rattle.hc_service.proofs.batch.run_batch.Given as goal

abbrev pub invariant-entries : goal.invariant-entries
invariant-entries g l = record {
  counts : CountsMost (g.V.Service.state l.initial.service) (g.V.Service.state l.service) (requests_of (take (l.index - 1) l.log));
  leads : LeadsTo l.me l.index l.to l.log (g.V.Service.state l.service) l.answers.items
      (run_all l.me l.from (entries_between l.log l.from l.to) (g.V.Service.state l.initial.service));
}
