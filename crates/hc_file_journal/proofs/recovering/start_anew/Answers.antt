-- The four calls, each from what those before it did.
use Rattle.hc_file_journal.proofs.NewFile as file
use Rattle.hc_file_journal.proofs.recovering.start_anew.Goals as goal

pub returns-in_err-cut-clause-any_moment : goal.returns-in_err-cut-clause-any_moment
returns-in_err-cut-clause-any_moment g c = file.not_cut (g.D.Disk.told c.args.disk.now) c.requires _ _ c.in_err-cut.ensures.told

pub returns-in_err-sync-clause-any_moment : goal.returns-in_err-sync-clause-any_moment
returns-in_err-sync-clause-any_moment g c = file.not_synced (g.D.Disk.told c.args.disk.now) c.requires _ _ _ _ (file.was_cut (g.D.Disk.told c.args.disk.now) c.requires _ c.in_ok-cut.ensures.told) c.in_err-sync.ensures.told

pub returns-in_err-write_at-clause-any_moment : goal.returns-in_err-write_at-clause-any_moment
returns-in_err-write_at-clause-any_moment g c = file.not_written (g.D.Disk.told c.args.disk.now) c.requires _ _ _ (file.was_synced (g.D.Disk.told c.args.disk.now) c.requires _ _ (file.was_cut (g.D.Disk.told c.args.disk.now) c.requires _ c.in_ok-cut.ensures.told) c.in_ok-sync.ensures.told) c.in_err-write_at.ensures.told

pub returns-in_err-sync-2-clause-any_moment : goal.returns-in_err-sync-2-clause-any_moment
returns-in_err-sync-2-clause-any_moment g c = file.not_synced (g.D.Disk.told c.args.disk.now) c.requires _ _ _ _ (file.was_written (g.D.Disk.told c.args.disk.now) c.requires _ _ (file.was_synced (g.D.Disk.told c.args.disk.now) c.requires _ _ (file.was_cut (g.D.Disk.told c.args.disk.now) c.requires _ c.in_ok-cut.ensures.told) c.in_ok-sync.ensures.told) c.in_ok-write_at.ensures.told) c.in_err-sync-2.ensures.told

pub returns-clause-any_moment : goal.returns-clause-any_moment
returns-clause-any_moment g c = file.was_all (g.D.Disk.told c.args.disk.now) c.requires _ (file.was_synced_again (g.D.Disk.told c.args.disk.now) c.requires _ _ (file.was_written (g.D.Disk.told c.args.disk.now) c.requires _ _ (file.was_synced (g.D.Disk.told c.args.disk.now) c.requires _ _ (file.was_cut (g.D.Disk.told c.args.disk.now) c.requires _ c.in_ok-cut.ensures.told) c.in_ok-sync.ensures.told) c.in_ok-write_at.ensures.told) c.in_ok-sync-2.ensures.told)

pub returns-clause-recovers : goal.returns-clause-recovers
returns-clause-recovers g c = file.recovers (g.D.Disk.told c.args.disk.now) c.requires _ (file.was_synced_again (g.D.Disk.told c.args.disk.now) c.requires _ _ (file.was_written (g.D.Disk.told c.args.disk.now) c.requires _ _ (file.was_synced (g.D.Disk.told c.args.disk.now) c.requires _ _ (file.was_cut (g.D.Disk.told c.args.disk.now) c.requires _ c.in_ok-cut.ensures.told) c.in_ok-sync.ensures.told) c.in_ok-write_at.ensures.told) c.in_ok-sync-2.ensures.told)
