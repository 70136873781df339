-- The unfinished requests that age: those under JBSQ, which a server gives up at the tick of `patience`.
use Rattle.std.specs.Prelude.{ℕ, ◌+◌, ◌==◌, Bool, not, nat_le, if◌then◌else◌, List, [], ◌∷◌, ◌++◌}
use Rattle.std.specs.List.{filter, list_any}
use Rattle.r2_base.specs.declared.rid.Rid.{Rid}
use Rattle.r2_base.specs.Names.{same_rid}
use Rattle.r2_header.specs.Policy.{jbsq}
use Rattle.r2_frag.specs.declared.class.Class.TheVariants.{Request}
use Rattle.r2_frag.specs.declared.key.Key.{Key}
use Rattle.r2_frag.specs.declared.unfinished.Unfinished.{Unfinished}
use Rattle.r2_frag.specs.Assembly.{without}
use Rattle.r2_server.specs.declared.timers.Timer.{Timer}

-- at which tick since the part that began it a request is given up
abbrev pub patience : ℕ
patience = 200

-- whether this is the timer of a request
abbrev pub is_for : Rid → Timer → Bool
is_for rid t = same_rid t.rid rid

-- a request ages from the part that begins it, at this tick
unfoldable pub started : Rid → ℕ → List Timer → List Timer
started rid tick timers = if list_any (is_for rid) timers then timers else timers ++ record { rid = rid; began = tick } ∷ []

-- a request ages no more
unfoldable pub stopped : Rid → List Timer → List Timer
stopped rid timers = filter (λ t. not (is_for rid t)) timers

-- only requests under JBSQ age
abbrev pub started_for : Key → ℕ → List Timer → List Timer
started_for key tick timers = if key.policy == jbsq then started key.rid tick timers else timers

abbrev pub stopped_for : Key → List Timer → List Timer
stopped_for key timers = if key.policy == jbsq then stopped key.rid timers else timers

-- whether a request has been unfinished for long enough at this tick
abbrev pub is_due : ℕ → Timer → Bool
is_due tick t = nat_le (t.began + patience) tick

-- the requests that are given up at this tick, in the order in which they were begun
unfoldable pub due : ℕ → List Timer → List Timer
due tick timers = filter (is_due tick) timers

-- the requests that go on
unfoldable pub not_due : ℕ → List Timer → List Timer
not_due tick timers = filter (λ t. not (is_due tick t)) timers

-- the key of a request under JBSQ
abbrev pub key_for : Rid → Key
key_for rid = record { class = Request; policy = jbsq; from = rid.client; rid = rid }

-- the messages without these requests
unfoldable pub given_up : List Timer → List Unfinished → List Unfinished
given_up [] messages = messages
given_up (t ∷ more) messages = given_up more (without (key_for t.rid) messages)
