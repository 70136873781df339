-- From the bytes that were stored to the records.
use Rattle.std.proofs.Common.{◌∙◌, Some}
use Rattle.hc_journal.specs.declared.journal.First.TheVariants.{Disk, Memory}
use Rattle.hc_file_journal.specs.Since.{ran_nothing}
use Rattle.hc_file_journal.proofs.Appending as appending
use Rattle.hc_file_journal.proofs.Stretches.{ran_stored, ran_tried}
use Rattle.hc_file_journal.proofs.file_journal.FileJournalJournal.append.Goals as goal

pub invariant_of-self : goal.invariant_of-self
invariant_of-self g c = record {
  limit = c.in-Ok-store.ensures.limit;
  settled = λ none. appending.settled (g.D.Disk.told c.args.self.now.disk) (g.D.Disk.told c.store.new.disk) c.args.self.now.end c.args.r.now (appending.ready (g.D.Disk.told c.args.self.now.disk) c.args.self.now.end c.args.r.now (c.args.self.now.settled c.in-None.is) c.requires.next) c.in-Ok.ensures.read_back c.as_slice.result.now (c.as_slice.ensures ∙ c.in-Ok.ensures.written) c.in-Ok-store.end c.in-Ok-store.ensures.end c.in-Ok-store.ensures.stored;
}

pub returns-in-Ok-store-clause-stored : goal.returns-in-Ok-store-clause-stored
returns-in-Ok-store-clause-stored g c = appending.gains (g.D.Disk.told c.args.self.now.disk) (g.D.Disk.told c.store.new.disk) c.args.self.now.end c.args.r.now (appending.ready (g.D.Disk.told c.args.self.now.disk) c.args.self.now.end c.args.r.now (c.args.self.now.settled c.in-None.is) c.requires.next) c.in-Ok.ensures.read_back c.as_slice.result.now (c.as_slice.ensures ∙ c.in-Ok.ensures.written) c.in-Ok-store.end c.in-Ok-store.ensures.end c.in-Ok-store.ensures.stored

pub returns-in-Ok-store-clause-any_moment : goal.returns-in-Ok-store-clause-any_moment
returns-in-Ok-store-clause-any_moment g c = appending.any_moment (g.D.Disk.told c.args.self.now.disk) (g.D.Disk.told c.store.new.disk) c.args.self.now.end c.args.r.now (appending.ready (g.D.Disk.told c.args.self.now.disk) c.args.self.now.end c.args.r.now (c.args.self.now.settled c.in-None.is) c.requires.next) c.in-Ok.ensures.read_back c.as_slice.result.now (c.as_slice.ensures ∙ c.in-Ok.ensures.written) c.store.ensures.any_moment

pub returns-in-Ok-clause-any_moment : goal.returns-in-Ok-clause-any_moment
returns-in-Ok-clause-any_moment g c = appending.any_moment (g.D.Disk.told c.args.self.now.disk) (g.D.Disk.told c.store.new.disk) c.args.self.now.end c.args.r.now (appending.ready (g.D.Disk.told c.args.self.now.disk) c.args.self.now.end c.args.r.now (c.args.self.now.settled c.in-None.is) c.requires.next) c.in-Ok.ensures.read_back c.as_slice.result.now (c.as_slice.ensures ∙ c.in-Ok.ensures.written) c.store.ensures.any_moment

-- what happened to the disk
pub returns-in-Some-clause-since : goal.returns-in-Some-clause-since
returns-in-Some-clause-since g c = ran_nothing c.args.self.now.end c.args.self.now.ended (g.D.Disk.told c.args.self.now.disk)

pub returns-clause-since : goal.returns-clause-since
returns-clause-since g c = ran_nothing c.args.self.now.end (Some Memory) (g.D.Disk.told c.args.self.now.disk)

pub returns-in-Ok-clause-since : goal.returns-in-Ok-clause-since
returns-in-Ok-clause-since g c =
    ran_tried c.args.self.now.end c.args.self.now.end c.args.r.now Disk (g.D.Disk.told c.args.self.now.disk) (g.D.Disk.told c.store.new.disk)
    (appending.kept (g.D.Disk.told c.args.self.now.disk) (g.D.Disk.told c.store.new.disk) c.args.self.now.end c.store.ensures.kept)
    (returns-in-Ok-clause-any_moment g c)

pub returns-in-Ok-store-clause-since : goal.returns-in-Ok-store-clause-since
returns-in-Ok-store-clause-since g c =
    ran_stored c.args.self.now.end c.in-Ok-store.end c.args.r.now (g.D.Disk.told c.args.self.now.disk) (g.D.Disk.told c.store.new.disk)
    (returns-in-Ok-store-clause-stored g c) (returns-in-Ok-store-clause-any_moment g c)
    (appending.acknowledged (g.D.Disk.told c.store.new.disk) c.in-Ok-store.end
    (appending.settled (g.D.Disk.told c.args.self.now.disk) (g.D.Disk.told c.store.new.disk) c.args.self.now.end c.args.r.now (appending.ready (g.D.Disk.told c.args.self.now.disk) c.args.self.now.end c.args.r.now (c.args.self.now.settled c.in-None.is) c.requires.next) c.in-Ok.ensures.read_back c.as_slice.result.now (c.as_slice.ensures ∙ c.in-Ok.ensures.written) c.in-Ok-store.end c.in-Ok-store.ensures.end c.in-Ok-store.ensures.stored))
