use Rattle.r2_desk.proofs.Passes.{passes-count}
use Rattle.r2_desk.proofs.laws.passes_count_their_turns.Goals as goal

pub returns : goal.returns
returns c = passes-count
