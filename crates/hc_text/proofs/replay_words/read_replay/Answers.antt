-- What is said of the member and its group is what was read of them.
use Rattle.std.proofs.Common.{rules}
use Rattle.hc_text.proofs.replay_words.read_replay.Goals as goal

pub returns-in_err-group-clause-only : goal.returns-in_err-group-clause-only
returns-in_err-group-clause-only c = λ members me aggregator bounds election says.
    search (rules, c.in_err-group.ensures.only members me aggregator bounds election says)
