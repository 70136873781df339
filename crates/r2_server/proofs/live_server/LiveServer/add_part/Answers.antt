use Rattle.std.proofs.Common.{subst}
use Rattle.r2_frag.specs.declared.class.Class.{Class}
use Rattle.r2_frag.specs.Sizes.{IsBodyWithin}
use Rattle.r2_server.proofs.live_server.LiveServer.add_part.Goals as goal

pub take_answer-requires-clause-body : goal.take_answer-requires-clause-body
take_answer-requires-clause-body g c =
    subst (λ (class : Class). IsBodyWithin class c.in_ok-added.added) c.requires.part.request c.in_ok-added.ensures.body
