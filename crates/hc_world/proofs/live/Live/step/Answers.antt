use Rattle.std.proofs.Common.{refl}
use Rattle.hc_world.specs.Steps.{seen_after}
use Rattle.hc_world.proofs.Worlds.{counted-shows}
use Rattle.hc_world.proofs.live.Live.step.Goals as goal

pub returns : goal.returns
unfolding seen_after
returns c =
    counted-shows c.happen.new.self _ _ c.in_ok-happen.ensures (record { group = record { members = refl; address = refl; bounds = refl }; aggregator = refl; seats = refl })
    refl refl refl refl refl refl c.saturating_add-self.ensures
