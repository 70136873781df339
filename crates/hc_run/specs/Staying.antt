-- What happened stays: as a group goes on, all that was sent, asked, applied, replied and learnt is kept. So what came first in a run
-- can be said by its moments.
use Rattle.std.specs.Prelude.{◌≡◌, ℕ, ◌<◌, ◌≤◌, List, ◌++◌, length}
use Rattle.r2_base.specs.declared.datagram.Datagram.{Datagram}
use Rattle.hc_rules.specs.Log.{In}
use Rattle.hc_rules.specs.Message.{Reply, Request}
use Rattle.hc_rules.specs.Requests.{IsKnown}
use Rattle.hc_run.specs.Group.{Group, IsGroup}
use Rattle.hc_run.specs.State.{GroupState}
use Rattle.hc_run.specs.Events.{GroupEvent}
use Rattle.hc_run.specs.AsOne.{IsEntryOf}
use Rattle.hc_run.specs.OneList.{applied_list}
use Rattle.hc_run.specs.ReplyParts.{IsReplyPart, ReadsAsReply}
use Rattle.hc_run.specs.Runs.{IsRun, run}

-- a list is extended: further items come after those before
pub record IsExtendedTo {A : Type 0} (before now : List A) : Type 0 where
  pub later : List A
  pub split : now ≡ before ++ later

-- and so is a list that has its newest item first
pub record IsExtendedNewestFirst {A : Type 0} (before now : List A) : Type 0 where
  pub newer : List A
  pub split : now ≡ newer ++ before

-- what happened in s stays in t: the datagrams keep their numbers and the requests their places; what was applied, the replies with
-- their places and what leaders learnt are kept in their order; and no count is smaller
pub record StaysIn (s t : GroupState) : Type 0 where
  pub datagrams : IsExtendedTo s.datagrams t.datagrams
  pub table : IsExtendedTo s.table t.table
  pub passed : IsExtendedNewestFirst s.passed t.passed
  pub replied : IsExtendedNewestFirst s.replied t.replied
  pub reports : IsExtendedNewestFirst s.reports t.reports
  pub events : s.events ≤ t.events
  pub crashes : s.crashes ≤ t.crashes

-- what happened after some events stays after more of them
abbrev pub WhatHappenedStays : Type 0
WhatHappenedStays = (g : Group) (events more : List GroupEvent) → StaysIn (run g events) (run g (events ++ more))

-- each reply was made when the table had no more requests than it has
abbrev pub ArePlaced : GroupState → Type 0
ArePlaced s = (r : Reply) → In r s.replied → r.place ≤ length s.table

-- the places of replies tell what came first: those of s have places within its table, and those that t has beside them have places
-- from its end on
pub record HavePlaces (s t : GroupState) : Type 0 where
  pub before : ArePlaced s
  pub newer : List Reply
  pub split : t.replied ≡ newer ++ s.replied
  pub after : (r : Reply) → In r newer → length s.table ≤ r.place

-- so they do after some events, and after more
abbrev pub RepliesHavePlaces : Type 0
RepliesHavePlaces = (g : Group) (events more : List GroupEvent) → HavePlaces (run g events) (run g (events ++ more))

-- a reply that was made before a request was first sent has a smaller index than the request's entry, whether that is answered or not
abbrev pub EarlierRepliesComeFirst : Type 0
EarlierRepliesComeFirst =
    (g : Group) (events more : List GroupEvent) (r : Reply) (index : ℕ) (q : Request) → IsGroup g → IsRun g (events ++ more)
    → In r (run g events).replied → (IsKnown (run g events).table q.rid → ⊥) → IsEntryOf (applied_list (run g (events ++ more))) index q
    → r.index < index

-- and than each reply that is ever made to the request
abbrev pub EarlierRepliesAreSmaller : Type 0
EarlierRepliesAreSmaller =
    (g : Group) (events more : List GroupEvent) (earlier later : Reply) → IsGroup g → IsRun g (events ++ more)
    → In earlier (run g events).replied → (IsKnown (run g events).table later.request → ⊥) → In later (run g (events ++ more)).replied
    → earlier.index < later.index

-- a datagram is a part of one of these replies, which has an index below this one
pub record IsPartBelow (g : Group) (replied : List Reply) (index : ℕ) (d : Datagram) : Type 0 where
  pub is : IsReplyPart g replied d
  pub below : is.reply.index < index

-- so it is with what is seen of replies: a datagram that was sent before a request was first sent, and reads as a part of a reply, is a
-- part of a reply with a smaller index than the request's entry
abbrev pub EarlierPartsComeFirst : Type 0
EarlierPartsComeFirst =
    (g : Group) (events more : List GroupEvent) (d : Datagram) (index : ℕ) (q : Request) → IsGroup g → IsRun g (events ++ more)
    → In d (run g events).datagrams → ReadsAsReply d → (IsKnown (run g events).table q.rid → ⊥)
    → IsEntryOf (applied_list (run g (events ++ more))) index q → IsPartBelow g (run g events).replied index d
