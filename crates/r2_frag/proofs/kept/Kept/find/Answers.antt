use Rattle.std.proofs.Common.{◌≡◌, List, None, refl, rules, subst}
use Rattle.r2_frag.specs.declared.kept.KeptReply.{KeptReply}
use Rattle.r2_frag.specs.Kept.{newest}
use Rattle.r2_frag.proofs.Counted.{indexed-absent}
use Rattle.r2_frag.proofs.kept.Kept.find.Goals as goal

pub returns-then-index-eq0 : goal.returns-then-index-eq0
returns-then-index-eq0 c =
    let absent = indexed-absent c.self.inside.replies c.self.inside.counts.items c.args.rid.now c.bucket_of.result c.self.invariant c.bucket_of.ensures.bucket (search rules) in
    let none : newest c.args.rid.now c.args.self.now ≡ None =
    subst (λ (xs : List KeptReply). newest c.args.rid.now xs ≡ None) c.self.view_is absent in
    rw none refl
