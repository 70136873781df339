-- The cut, and the sync after it.
use Rattle.hc_file_journal.proofs.CutFile as file
use Rattle.hc_file_journal.proofs.recovering.cut_to.Goals as goal

pub returns-in_err-cut-clause-any_moment : goal.returns-in_err-cut-clause-any_moment
returns-in_err-cut-clause-any_moment g c = file.not_cut c.args.end (g.D.Disk.told c.args.disk.now) c.requires.ends _ _ c.in_err-cut.ensures.told

pub returns-in_err-sync-clause-any_moment : goal.returns-in_err-sync-clause-any_moment
returns-in_err-sync-clause-any_moment g c = file.not_synced c.args.end (g.D.Disk.told c.args.disk.now) c.requires.ends _ _ _ (file.was_cut c.args.end (g.D.Disk.told c.args.disk.now) c.requires.ends _ c.in_ok-cut.ensures.told) c.in_err-sync.ensures.told

pub returns-clause-any_moment : goal.returns-clause-any_moment
returns-clause-any_moment g c = file.was_all c.args.end (g.D.Disk.told c.args.disk.now) c.requires.ends _ (file.was_synced c.args.end (g.D.Disk.told c.args.disk.now) c.requires.ends _ _ (file.was_cut c.args.end (g.D.Disk.told c.args.disk.now) c.requires.ends _ c.in_ok-cut.ensures.told) c.in_ok-sync.ensures.told)

pub returns-clause-recovers : goal.returns-clause-recovers
returns-clause-recovers g c = file.recovers c.args.end (g.D.Disk.told c.args.disk.now) c.requires.ends _ (file.was_synced c.args.end (g.D.Disk.told c.args.disk.now) c.requires.ends _ _ (file.was_cut c.args.end (g.D.Disk.told c.args.disk.now) c.requires.ends _ c.in_ok-cut.ensures.told) c.in_ok-sync.ensures.told)
