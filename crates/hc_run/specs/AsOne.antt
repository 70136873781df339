-- A group that runs serves as one thread: whatever happens, there is one list of entries, which only grows, and members, replies and
-- services are by it.
use Rattle.std.specs.Prelude.{◌≡◌, ℕ, ◌<◌, ◌≤◌, true, List, ◌++◌, length, take, Some, All}
use Rattle.r2_base.specs.Entry.{is_request}
use Rattle.hc_log.specs.declared.stored.Stored.{Stored}
use Rattle.hc_log.specs.Log.{metas_of, stored_at}
use Rattle.hc_store.specs.Replies.{reply_at}
use Rattle.hc_service.specs.Entries.{IsReplayed, operations}
use Rattle.hc_member.specs.declared.role.Role.TheVariants.{Leader}
use Rattle.hc_member.specs.Member.{Member}
use Rattle.hc_rules.specs.Agreed.{HasNoneTwice}
use Rattle.hc_rules.specs.Laws.{AreGiven}
use Rattle.hc_rules.specs.Log.{In}
use Rattle.hc_rules.specs.Message.{Report, Reply, Request}
use Rattle.hc_rules.specs.Requests.{At}
use Rattle.hc_run.specs.Group.{Group, IsGroup}
use Rattle.hc_run.specs.State.{GroupState, Passed, member_at}
use Rattle.hc_run.specs.Events.{GroupEvent}
use Rattle.hc_run.specs.Held.{IsWhole, owed}
use Rattle.hc_run.specs.ReplyParts.{AreReplyParts}
use Rattle.hc_run.specs.OneList.{EachWasApplied, IsItsEntry, ListGrows, applied_list}
use Rattle.hc_run.specs.Runs.{IsRun, run}
use Rattle.hc_run.specs.StepLaws.{bounds_of}

-- a reply is to the request at its index of a list, and is what one thread replies there that serves the list from its beginning
pub record IsReplyOf (list : List Stored) (r : Reply) : Type 0 where
  pub first : 1 ≤ r.index
  pub within : r.index ≤ length list
  pub asks : is_request (stored_at list r.index).entry.kind ≡ true
  pub named : (stored_at list r.index).entry.rid ≡ r.request
  pub right : reply_at (operations list) r.index ≡ Some r.payload

-- a reply that went out before a request was first sent has a smaller index than each reply to that request
abbrev pub AreInOrder : List Request → List Reply → Type 0
AreInOrder table replied =
    (earlier later : Reply) (place : ℕ) (q : Request) → In earlier replied → In later replied → At table place q → later.request ≡ q.rid
    → earlier.place ≤ place → earlier.index < later.index

-- the entry at an index of a list is of a request
pub record IsEntryOf (list : List Stored) (index : ℕ) (q : Request) : Type 0 where
  pub first : 1 ≤ index
  pub within : index ≤ length list
  pub asks : is_request (stored_at list index).entry.kind ≡ true
  pub named : (stored_at list index).entry.rid ≡ q.rid

-- the entry of each request, whether that was answered or not, is after the index of each reply that went out before the request was
-- first sent
abbrev pub AreAfterReplies : List Request → List Stored → List Reply → Type 0
AreAfterReplies table list replied =
    (r : Reply) (place index : ℕ) (q : Request) → In r replied → At table place q → r.place ≤ place → IsEntryOf list index q
    → r.index < index

-- what member v has applied since it began is a prefix of a list, and its service is what one thread's is after that
pub record Serves (list : List Stored) (v : ℕ) (m : Member) : Type 0 where
  pub within : m.applied ≤ length list
  pub prefix : take m.applied m.log ≡ take m.applied list
  pub service : IsReplayed v (take m.applied list) m.service

-- as a leader member v has given no member more entries of its term above what that reported to it than the member's bound, and each
-- request of its log is given to a member whose bound is above 0 (HovercRaft, on bounded queues)
pub record IsBounded (g : Group) (reports : List Report) (v : ℕ) (m : Member) : Type 0 where
  pub owes : m.role ≡ Leader → (p : ℕ) → length (owed reports v m p) ≤ bounds_of g p
  pub given : AreGiven (length g.members) (bounds_of g) (metas_of m.log)

-- a group serves as one thread by the list of what was applied in it: all that any member applied in any of its lives is the list's at
-- its index, with its body, and each entry of the list was applied; the list's requests are those that clients sent, none of them
-- twice; replies are one thread's, each datagram that a client reads as a part of a reply is a part of one of them, and they and the
-- entries are in the order of the requests; and each member that is up has applied a prefix of the list
pub record ServesAsOne (g : Group) (s : GroupState) : Type 0 where
  pub entries : (x : Passed) → In x s.passed → IsItsEntry (applied_list s) x
  pub only : EachWasApplied s
  pub bodies : All (IsWhole s.table) (applied_list s)
  pub once : HasNoneTwice (metas_of (applied_list s))
  pub replies : (r : Reply) → In r s.replied → IsReplyOf (applied_list s) r
  pub parts : AreReplyParts g s.replied s.datagrams
  pub order : AreInOrder s.table s.replied
  pub entries_in_order : AreAfterReplies s.table (applied_list s) s.replied
  pub services : (v : ℕ) (m : Member) → member_at s v ≡ Some m → Serves (applied_list s) v m
  pub bounds : (v : ℕ) (m : Member) → member_at s v ≡ Some m → IsBounded g s.reports v m

-- so each group does after each run
abbrev pub GroupsServeAsOne : Type 0
GroupsServeAsOne = (g : Group) (events : List GroupEvent) → IsGroup g → IsRun g events → ServesAsOne g (run g events)

-- and after further events the list begins with what it was
abbrev pub TheListGrows : Type 0
TheListGrows =
    (g : Group) (events more : List GroupEvent) → IsGroup g → IsRun g (events ++ more)
    → ListGrows (run g events) (run g (events ++ more))
