-- What holds of a plain server, whatever comes.
use Rattle.std.specs.Prelude.{◌≤◌, List, length, Option}
use Rattle.r2_base.specs.declared.addr.Addr.{Addr}
use Rattle.r2_base.specs.declared.event.Event.{Event}
use Rattle.r2_frag.specs.Assembly.{most_unfinished}
use Rattle.r2_frag.specs.Kept.{most_kept}
use Rattle.r2_server.specs.State.{ServerState, begin}
use Rattle.r2_server.specs.Turn.{turned_all}

-- no more replies are kept, and no more messages are unfinished, than may be
pub record IsWithinLimits (s : ServerState) : Type 0 where
  pub kept : length s.kept ≤ most_kept
  pub unfinished : length s.unfinished ≤ most_unfinished

abbrev pub StaysWithinLimits : Type 0
StaysWithinLimits = (me : Addr) (router : Option Addr) (events : List Event) → IsWithinLimits (turned_all (begin me router) events).server
