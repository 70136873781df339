use Rattle.r2_jbsq.proofs.Turns.{turn_turns}
use Rattle.r2_desk.proofs.turning.plain.Goals as goal

pub returns-clause-turn : goal.returns-clause-turn
returns-clause-turn c =
    let turn = c.in_ok-sends.ensures in
    record {
      exact = turn.exact;
      setup = turn.setup;
      turns = turn_turns _ _ c.args.event.now c.in_ok-sends.sends turn.exact;
      grows = turn.grows;
      packets = turn.packets;
      few = turn.few;
    }
