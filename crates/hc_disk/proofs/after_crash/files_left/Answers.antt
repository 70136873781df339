use Rattle.std.proofs.Common.{[], ◌∷◌, map, subst, sym}
use Rattle.hc_disk.specs.declared.stored.StoredFile.{StoredFile}
use Rattle.hc_disk.specs.Crash.{AreLeft}
use Rattle.hc_disk.specs.MemDisk.{call_of}
use Rattle.hc_disk.specs.Names.{HasName, left_file}
use Rattle.hc_disk.specs.Replay.{moments_at}
use Rattle.std.proofs.lemmas.List.Elements.{All-weaker}
use Rattle.hc_disk.proofs.Outcomes.{left_may}
use Rattle.hc_disk.proofs.Crashed.{all_left, has_pushed, has_still}
use Rattle.hc_disk.proofs.after_crash.files_left.Goals as goal

pub returns-clause-left : goal.returns-clause-left
returns-clause-left c =
    let M = (moments_at c.args.first.now c.args.pieces.now c.args.steps.now) in
    let empty = left_file c.args.pick M [] in
    let files = c.push_first.new.files.items in
    let more = c.push_file.new.files.items in
    let last = c.push_selected.new.files.items in
    subst (AreLeft c.args.pick M) (sym c.from_vec.ensures)
    (all_left c.args.pick c.args.first.now last c.args.pieces.now c.args.steps.now c.in_ok-push_selected.ensures.left
    (c.in_ok-push_selected.ensures.more [] (has_pushed files more empty c.in_ok-push_file.ensures))
    (All-weaker (λ (s : StoredFile). HasName files s.name) (λ (s : StoredFile). HasName last s.name)
    (λ s h. c.in_ok-push_selected.ensures.more s.name (has_still files more (empty ∷ []) s.name c.in_ok-push_file.ensures h)) c.args.first.now c.in_ok-push_first.ensures.all)
    c.in_ok-push_selected.ensures.all)

pub returns-clause-may : goal.returns-clause-may
returns-clause-may c =
    left_may c.args.pick c.args.first.now c.from_vec.result (map (call_of c.args.pieces.now) c.args.steps.now) c.requires.sound (returns-clause-left c)
