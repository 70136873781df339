use Rattle.std.proofs.Common.{◌∙◌, ◌∷◌, ◌++◌, [], List, ℕ, ap}
use Rattle.hc_disk.specs.Names.{left_file}
use Rattle.hc_disk.specs.Replay.{moments_at}
use Rattle.hc_disk.proofs.Crashed.{all_named, are_more, has_pushed, has_still}
use Rattle.hc_disk.proofs.after_crash.push_first.Goals as goal

pub files-preserved : goal.files-preserved
files-preserved c =
    let M = (moments_at c.args.first.now c.args.pieces.now c.args.steps.now) in
    let pushed = c.in_ok-push_file.ensures ∙ ap (λ (n : List ℕ). c.files.files.items ++ left_file c.args.pick M n ∷ []) c.as_slice-name.ensures in (
      are_more c.args.pick M c.files.files.items c.push_file.new.files.items c.file-item.result.name c.files.invariant.0 pushed,
      all_named c.args.first.now c.files.files.items c.push_file.new.files.items c.files.file-index c.file-item.result c.files-test.true c.file-item.is
          (λ name h. has_still c.files.files.items c.push_file.new.files.items (left_file c.args.pick M c.file-item.result.name ∷ []) name pushed h)
          (has_pushed c.files.files.items c.push_file.new.files.items (left_file c.args.pick M c.file-item.result.name) pushed) c.files.invariant.1,
    )
