use Rattle.std.proofs.Common.{◌≡◌, ap}
use Rattle.hc_log.specs.Durable.{replay, IsNext}
use Rattle.hc_log.proofs.Replays.{IsHistory-push}
use Rattle.hc_journal.specs.MemJournal.{JournalState}
use Rattle.hc_journal.proofs.mem_journal.MemJournalJournal.append.Goals as goal

pub invariant_of-self-in-Ok : goal.invariant_of-self-in-Ok
invariant_of-self-in-Ok c =
    let told : c.self.inside.records ≡ c.args.self.now.records = ap (λ (s : JournalState). s.records) c.self.view_is in
    let next : IsNext (replay c.self.inside.records) c.args.r.now = rw told c.requires.next in
    rw c.in-Ok.ensures.ok (IsHistory-push c.self.inside.records c.args.r.now c.self.invariant next)
