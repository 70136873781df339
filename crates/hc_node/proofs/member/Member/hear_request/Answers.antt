use Rattle.hc_node.proofs.Again.{kept-replies}
use Rattle.hc_node.proofs.member.Member.hear_request.Goals as goal

pub answer_again-requires-clause-replies : goal.answer_again-requires-clause-replies
answer_again-requires-clause-replies g c κs within = kept-replies c.args.setup.now c.args.self.now c.requires.sound
