-- What the objects around a party tell, and what passed between two moments of them.
use Rattle.std.specs.Prelude.{ℕ, List, [], ◌++◌, Option}
use Rattle.std.specs.Io.KnownBytes.{Appends, Consumes}
use Rattle.r2_base.specs.declared.datagram.Datagram.{Datagram}
use Rattle.r2_link.specs.declared.lane.Item.{Item}
use Rattle.r2_link.specs.Links.{LinkPasses, LinkTold}
use Rattle.r2_link.specs.Moments.{Tells}
use Rattle.r2_link.specs.Told.{Gains}
use Rattle.hc_log.specs.declared.record.Record.{Record}

-- where they tell it: the bytes that are left to read, the bytes that were written, what a link tells, the moments that are left,
-- and the records that were stored
pub record Ends : Type 0 where
  pub source : Option (List ℕ)
  pub written : Option (List ℕ)
  pub link : LinkTold
  pub clock : Option (List ℕ)
  pub records : Option (List Record)

-- what passes: bytes that are read and bytes that are written, items that are received, moments that are told, records that are
-- stored, and datagrams that are sent
pub record Passage : Type 0 where
  pub taken : List ℕ
  pub text : List ℕ
  pub items : List Item
  pub moments : List ℕ
  pub stored : List Record
  pub sends : List Datagram

-- this passed, and nothing else
pub record Passes (old new : Ends) (p : Passage) : Type 0 where
  pub source : Consumes old.source new.source p.taken
  pub sink : Appends old.written new.written p.text
  pub link : LinkPasses old.link new.link p.items p.sends
  pub clock : Tells old.clock new.clock p.moments
  pub journal : Gains old.records new.records p.stored

-- no byte is read or written
abbrev pub passing : List Item → List ℕ → List Record → List Datagram → Passage
passing items moments stored sends =
    record { taken = []; text = []; items = items; moments = moments; stored = stored; sends = sends }

-- nothing passes
abbrev pub nothing : Passage
nothing = passing [] [] [] []

-- one after the other
abbrev pub joined : Passage → Passage → Passage
joined p q = record {
  taken = p.taken ++ q.taken;
  text = p.text ++ q.text;
  items = p.items ++ q.items;
  moments = p.moments ++ q.moments;
  stored = p.stored ++ q.stored;
  sends = p.sends ++ q.sends;
}
