-- What the parties of a group do where each is run by a loop of its own, one step after another.
use Rattle.std.specs.Prelude.{ℕ, List, [], ◌∷◌, ◌==◌, if◌then◌else◌}
use Rattle.r2_base.specs.declared.addr.Addr.{Addr}
use Rattle.r2_base.specs.declared.datagram.Datagram.{Datagram}
use Rattle.r2_base.specs.declared.event.Event.{Event}
use Rattle.hc_rules.specs.Message.{Request}

-- what the loop of a member does
pub data Act : Type 0 where
  -- it makes a turn at an event: the turn's record is stored, and then its datagrams are sent
  Turns : Event → Act
  -- it makes a turn at an event, stores the turn's record, sends the first of the turn's datagrams, and is over
  Breaks : Event → (sent : List Datagram) → Act
  -- it is over between two turns, or within one of which nothing stays
  Stops : Act
  -- it has come to the end of its link: it makes so many turns more at which nothing comes, sends the first of their datagrams, and
  -- is over
  Closes : (times : ℕ) → (sent : List Datagram) → Act
  -- a new loop begins with what the journal leads to
  Begins : Act

-- a step
pub data Step : Type 0 where
  -- a client sends a request for the first time: from then on its datagrams may come, to each member and however often
  Asks : Request → Step
  -- the loop of member v does something
  Acts : (v : ℕ) → Act → Step
  -- the loop of the aggregator at this address makes a turn at an event, and sends the first of the turn's datagrams; where they
  -- aren't all of them, it is over
  Aggregates : Addr → Event → (sent : List Datagram) → Step
  -- a new loop of an aggregator begins
  BeginsAnew : Addr → Step

-- the requests that clients send in some steps, in the order of their first sending
abbrev pub asked_in : List Step → List Request
asked_in [] = []
asked_in (Asks q ∷ more) = q ∷ asked_in more
asked_in (_ ∷ more) = asked_in more

-- what the loop of member v does over some steps
abbrev pub acts_at : ℕ → List Step → List Act
acts_at v [] = []
acts_at v (Acts u act ∷ more) = if u == v then act ∷ acts_at v more else acts_at v more
acts_at v (_ ∷ more) = acts_at v more

-- and what those of aggregators do
abbrev pub of_aggregators : List Step → List Step
of_aggregators [] = []
of_aggregators (Aggregates me e sent ∷ more) = Aggregates me e sent ∷ of_aggregators more
of_aggregators (BeginsAnew me ∷ more) = BeginsAnew me ∷ of_aggregators more
of_aggregators (_ ∷ more) = of_aggregators more
