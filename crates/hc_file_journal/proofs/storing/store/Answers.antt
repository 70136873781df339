-- The four calls, each from what those before it did.
use Rattle.hc_file_journal.proofs.PieceStored as stored
use Rattle.hc_file_journal.proofs.storing.store.Goals as goal

pub returns-in_err-write_at-clause-any_moment : goal.returns-in_err-write_at-clause-any_moment
returns-in_err-write_at-clause-any_moment g c = stored.was_failing c.args.end c.args.piece.now (g.D.Disk.told c.args.disk.now) c.requires.rest _ (stored.not_written c.args.end c.args.piece.now (g.D.Disk.told c.args.disk.now) c.requires.rest _ _ c.in_err-write_at.ensures.told)

pub returns-in_err-write_at-clause-kept : goal.returns-in_err-write_at-clause-kept
returns-in_err-write_at-clause-kept g c = stored.kept_failing c.args.end c.args.piece.now (g.D.Disk.told c.args.disk.now) c.requires.rest _ (stored.not_written c.args.end c.args.piece.now (g.D.Disk.told c.args.disk.now) c.requires.rest _ _ c.in_err-write_at.ensures.told)

pub returns-in_err-sync-clause-any_moment : goal.returns-in_err-sync-clause-any_moment
returns-in_err-sync-clause-any_moment g c = stored.was_failing c.args.end c.args.piece.now (g.D.Disk.told c.args.disk.now) c.requires.rest _ (stored.not_synced_piece c.args.end c.args.piece.now (g.D.Disk.told c.args.disk.now) c.requires.rest _ _ _ (stored.written c.args.end c.args.piece.now (g.D.Disk.told c.args.disk.now) c.requires.rest _ c.in_ok-write_at.ensures.told) c.in_err-sync.ensures.told)

pub returns-in_err-sync-clause-kept : goal.returns-in_err-sync-clause-kept
returns-in_err-sync-clause-kept g c = stored.kept_failing c.args.end c.args.piece.now (g.D.Disk.told c.args.disk.now) c.requires.rest _ (stored.not_synced_piece c.args.end c.args.piece.now (g.D.Disk.told c.args.disk.now) c.requires.rest _ _ _ (stored.written c.args.end c.args.piece.now (g.D.Disk.told c.args.disk.now) c.requires.rest _ c.in_ok-write_at.ensures.told) c.in_err-sync.ensures.told)

pub returns-in_err-write_at-2-clause-any_moment : goal.returns-in_err-write_at-2-clause-any_moment
returns-in_err-write_at-2-clause-any_moment g c = stored.was_failing c.args.end c.args.piece.now (g.D.Disk.told c.args.disk.now) c.requires.rest _ (stored.not_opened c.args.end c.args.piece.now (g.D.Disk.told c.args.disk.now) c.requires.rest _ _ _ (stored.synced_piece c.args.end c.args.piece.now (g.D.Disk.told c.args.disk.now) c.requires.rest _ _ (stored.written c.args.end c.args.piece.now (g.D.Disk.told c.args.disk.now) c.requires.rest _ c.in_ok-write_at.ensures.told) c.in_ok-sync.ensures.told) c.in_err-write_at-2.ensures.told)

pub returns-in_err-write_at-2-clause-kept : goal.returns-in_err-write_at-2-clause-kept
returns-in_err-write_at-2-clause-kept g c = stored.kept_failing c.args.end c.args.piece.now (g.D.Disk.told c.args.disk.now) c.requires.rest _ (stored.not_opened c.args.end c.args.piece.now (g.D.Disk.told c.args.disk.now) c.requires.rest _ _ _ (stored.synced_piece c.args.end c.args.piece.now (g.D.Disk.told c.args.disk.now) c.requires.rest _ _ (stored.written c.args.end c.args.piece.now (g.D.Disk.told c.args.disk.now) c.requires.rest _ c.in_ok-write_at.ensures.told) c.in_ok-sync.ensures.told) c.in_err-write_at-2.ensures.told)

pub returns-in_err-sync-2-clause-any_moment : goal.returns-in_err-sync-2-clause-any_moment
returns-in_err-sync-2-clause-any_moment g c = stored.was_failing c.args.end c.args.piece.now (g.D.Disk.told c.args.disk.now) c.requires.rest _ (stored.not_synced_gate c.args.end c.args.piece.now (g.D.Disk.told c.args.disk.now) c.requires.rest _ _ _ (stored.opened c.args.end c.args.piece.now (g.D.Disk.told c.args.disk.now) c.requires.rest _ _ (stored.synced_piece c.args.end c.args.piece.now (g.D.Disk.told c.args.disk.now) c.requires.rest _ _ (stored.written c.args.end c.args.piece.now (g.D.Disk.told c.args.disk.now) c.requires.rest _ c.in_ok-write_at.ensures.told) c.in_ok-sync.ensures.told) c.in_ok-write_at-2.ensures.told) c.in_err-sync-2.ensures.told)

pub returns-in_err-sync-2-clause-kept : goal.returns-in_err-sync-2-clause-kept
returns-in_err-sync-2-clause-kept g c = stored.kept_failing c.args.end c.args.piece.now (g.D.Disk.told c.args.disk.now) c.requires.rest _ (stored.not_synced_gate c.args.end c.args.piece.now (g.D.Disk.told c.args.disk.now) c.requires.rest _ _ _ (stored.opened c.args.end c.args.piece.now (g.D.Disk.told c.args.disk.now) c.requires.rest _ _ (stored.synced_piece c.args.end c.args.piece.now (g.D.Disk.told c.args.disk.now) c.requires.rest _ _ (stored.written c.args.end c.args.piece.now (g.D.Disk.told c.args.disk.now) c.requires.rest _ c.in_ok-write_at.ensures.told) c.in_ok-sync.ensures.told) c.in_ok-write_at-2.ensures.told) c.in_err-sync-2.ensures.told)

pub returns-clause-any_moment : goal.returns-clause-any_moment
returns-clause-any_moment g c = stored.was_failing c.args.end c.args.piece.now (g.D.Disk.told c.args.disk.now) c.requires.rest _ (stored.keeps c.args.end c.args.piece.now (g.D.Disk.told c.args.disk.now) c.requires.rest _ (stored.synced_gate c.args.end c.args.piece.now (g.D.Disk.told c.args.disk.now) c.requires.rest _ _ (stored.opened c.args.end c.args.piece.now (g.D.Disk.told c.args.disk.now) c.requires.rest _ _ (stored.synced_piece c.args.end c.args.piece.now (g.D.Disk.told c.args.disk.now) c.requires.rest _ _ (stored.written c.args.end c.args.piece.now (g.D.Disk.told c.args.disk.now) c.requires.rest _ c.in_ok-write_at.ensures.told) c.in_ok-sync.ensures.told) c.in_ok-write_at-2.ensures.told) c.in_ok-sync-2.ensures.told))

pub returns-clause-kept : goal.returns-clause-kept
returns-clause-kept g c = stored.kept_failing c.args.end c.args.piece.now (g.D.Disk.told c.args.disk.now) c.requires.rest _ (stored.keeps c.args.end c.args.piece.now (g.D.Disk.told c.args.disk.now) c.requires.rest _ (stored.synced_gate c.args.end c.args.piece.now (g.D.Disk.told c.args.disk.now) c.requires.rest _ _ (stored.opened c.args.end c.args.piece.now (g.D.Disk.told c.args.disk.now) c.requires.rest _ _ (stored.synced_piece c.args.end c.args.piece.now (g.D.Disk.told c.args.disk.now) c.requires.rest _ _ (stored.written c.args.end c.args.piece.now (g.D.Disk.told c.args.disk.now) c.requires.rest _ c.in_ok-write_at.ensures.told) c.in_ok-sync.ensures.told) c.in_ok-write_at-2.ensures.told) c.in_ok-sync-2.ensures.told))

pub returns-clause-stored : goal.returns-clause-stored
returns-clause-stored g c = stored.has_stored c.args.end c.args.piece.now (g.D.Disk.told c.args.disk.now) c.requires.rest _ (stored.synced_gate c.args.end c.args.piece.now (g.D.Disk.told c.args.disk.now) c.requires.rest _ _ (stored.opened c.args.end c.args.piece.now (g.D.Disk.told c.args.disk.now) c.requires.rest _ _ (stored.synced_piece c.args.end c.args.piece.now (g.D.Disk.told c.args.disk.now) c.requires.rest _ _ (stored.written c.args.end c.args.piece.now (g.D.Disk.told c.args.disk.now) c.requires.rest _ c.in_ok-write_at.ensures.told) c.in_ok-sync.ensures.told) c.in_ok-write_at-2.ensures.told) c.in_ok-sync-2.ensures.told)

pub write_at-requires-2 : goal.write_at-requires-2
write_at-requires-2 g c = stored.may_open c.args.end c.args.piece.now (g.D.Disk.told c.args.disk.now) c.requires.rest _ (stored.synced_piece c.args.end c.args.piece.now (g.D.Disk.told c.args.disk.now) c.requires.rest _ _ (stored.written c.args.end c.args.piece.now (g.D.Disk.told c.args.disk.now) c.requires.rest _ c.in_ok-write_at.ensures.told) c.in_ok-sync.ensures.told)
