use Rattle.std.proofs.Common.{[], ◌∷◌, subst, sym}
use Rattle.std.proofs.lemmas.Result.{on_ok_weaker}
use Rattle.hc_disk.specs.Names.{HasName, HasSelected, left_file}
use Rattle.hc_disk.specs.Replay.{moments_at}
use Rattle.hc_disk.proofs.Crashed.{has_pushed, has_still}
use Rattle.hc_disk.proofs.after_crash.push_step.Goals as goal

pub returns-in-Select-clause-more : goal.returns-in-Select-clause-more
returns-in-Select-clause-more c =
    on_ok_weaker c.push_file.result
    (λ pushed name h. has_still c.args.files.now.items c.push_file.new.files.items (left_file c.args.pick (moments_at c.args.first.now c.args.pieces.now c.args.steps.now) c.bytes_at.result.now ∷ []) name pushed h)
    c.push_file.ensures

pub returns-in-Select-clause-all : goal.returns-in-Select-clause-all
returns-in-Select-clause-all c =
    on_ok_weaker c.push_file.result
    (λ pushed. subst (HasSelected c.args.pieces.now c.push_file.new.files.items) (sym c.in-Select.is) (subst (HasName c.push_file.new.files.items) c.bytes_at.ensures (has_pushed c.args.files.now.items c.push_file.new.files.items (left_file c.args.pick (moments_at c.args.first.now c.args.pieces.now c.args.steps.now) c.bytes_at.result.now) pushed)))
    c.push_file.ensures
