-- What passes between a client and the objects around it while it talks with its servers.
use Rattle.std.specs.Prelude.{◌≡◌, ◌≤◌, ℕ, suc, zero, List, [], ◌∷◌, ◌++◌, Option, None}
use Rattle.r2_base.specs.declared.datagram.Datagram.{Datagram}
use Rattle.r2_link.specs.declared.lane.Item.{Item}
use Rattle.r2_link.specs.declared.lane.Item.TheVariants.{Quiet as NoDatagram}
use Rattle.r2_link.specs.Links.{LinkPasses, LinkTold}
use Rattle.r2_link.specs.Told.{RanDry}
use Rattle.cmd_loop.specs.Ends.{Ends, Passage, Passes}

-- so often nothing comes
abbrev pub silence : ℕ → List Item
silence zero = []
silence (suc n) = NoDatagram ∷ silence n

-- these items were heard: those that came, and after the end of the link that nothing comes
pub record AreHeard (left left' : Option (List Item)) (came items : List Item) : Type 0 where
  pub quiets : ℕ
  pub heard : items ≡ came ++ silence quiets
  pub dry : 1 ≤ quiets → RanDry left left'

-- over a link these items were heard, these datagrams were sent, and nothing else passed
pub record LinkTalks (old new : LinkTold) (items : List Item) (sends : List Datagram) : Type 0 where
  pub came : List Item
  pub heard : AreHeard old.left new.left came items
  pub passed : LinkPasses old new came sends

-- what passes in a talk: nothing is read, and nothing stored
abbrev pub talking : List Item → List ℕ → List Datagram → List ℕ → Passage
talking came moments sends text =
    record { taken = []; text = text; items = came; moments = moments; stored = []; sends = sends }

-- these items were heard, the clock gave these moments, these datagrams were sent, this was written, and nothing else passed
pub record Talks (old new : Ends) (items : List Item) (moments : List ℕ) (sends : List Datagram) (text : List ℕ) : Type 0 where
  pub came : List Item
  pub heard : AreHeard old.link.left new.link.left came items
  pub passed : Passes old new (talking came moments sends text)

-- among all ends, what a sink, a link and a clock tell
abbrev pub around : Ends → Option (List ℕ) → LinkTold → Option (List ℕ) → Ends
around o written link clock = record o { written = written; link = link; clock = clock }

-- all ends but the source, of which what is taken is said by itself
abbrev pub beside : Ends → Ends
beside o = record o { source = None }
