use Rattle.std.proofs.Common.{◌∷◌, [], ◌∙◌, map, ap}
use Rattle.std.proofs.lemmas.List.{map-append}
use Rattle.hc_disk.specs.declared.steps.Step.TheVariants as step
use Rattle.hc_disk.specs.MemDisk.{Shortened, call_of}
use Rattle.hc_disk.proofs.GoneOver.{told_kept}
use Rattle.hc_disk.proofs.mem_disk.MemDiskDisk.cut.Goals as goal

pub returns-clause-told : goal.returns-clause-told
returns-clause-told c = told_kept _ c.args.self.now _ (Shortened c.args.len) c.self.view_is (ap (map (call_of c.self.inside.pieces.items)) c.keep_step.ensures.steps ∙ map-append (call_of c.self.inside.pieces.items) c.self.inside.steps.items (step.Cut c.args.len ∷ []))
