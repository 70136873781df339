use Rattle.hc_member.proofs.Received.{received_good}
use Rattle.hc_member.proofs.Turned.{sound-received}
use Rattle.hc_node.proofs.member.Member.react.Goals as goal

pub react_to-requires-clause-sound : goal.react_to-requires-clause-sound
react_to-requires-clause-sound g c κs within =
    let good = received_good c.args.self.now.unfinished c.args.event.now c.in_ok-said.ensures.bytes c.requires.sound.unfinished in
    rw c.in_ok-said.ensures.state (sound-received c.args.setup.now c.requires.setup c.args.self.now c.args.event.now good.1 c.requires.sound)

pub react_to-requires-clause-sayable : goal.react_to-requires-clause-sayable
react_to-requires-clause-sayable g c κs within =
    let good = received_good c.args.self.now.unfinished c.args.event.now c.in_ok-said.ensures.bytes c.requires.sound.unfinished in
    rw c.in_ok-said.ensures.said good.0
