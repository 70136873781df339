-- The laws of the protocol, over the rules alone.
use Rattle.std.specs.Prelude.{◌≡◌, ℕ, suc, ◌<◌, ◌≤◌, true, List, [], ◌∷◌, length, Some}
use Rattle.r2_base.specs.declared.entry.Entry.{Entry}
use Rattle.r2_base.specs.Entry.{blank_entry, is_request}
use Rattle.hc_store.specs.Replies.{reply_at}
use Rattle.hc_rules.specs.Agreed.{AppliesTheSame, HasAt, HasNoneTwice, IsAgreed, agreed}
use Rattle.hc_rules.specs.Conditions.{Allowed}
use Rattle.hc_rules.specs.Kept.{AcknowledgedIsTheLeaders, AggregatesAreCommitted, EachLog, Kept}
use Rattle.hc_rules.specs.Log.{In, Share, entry_at}
use Rattle.hc_rules.specs.Examples.{IsAnsweredInOrder, IsCut, IsInherited, IsMadeOfAll, IsServed}
use Rattle.hc_rules.specs.Loose.{AllowedButAggregate, AllowedButTake, IsBroken}
use Rattle.hc_rules.specs.Message.{Passed, Reply, Request}
use Rattle.hc_rules.specs.Parts.{Grows, IsOther, Leaves, member_of}
use Rattle.hc_rules.specs.Replies.{Answered, IsGiven}
use Rattle.hc_rules.specs.Requests.{At, IsListed, operations}
use Rattle.hc_rules.specs.Rules.{Rule, after}
use Rattle.hc_rules.specs.Runs.{IsRun, state_after}
use Rattle.hc_rules.specs.Protocol.{ProtocolState, Leader, Committed, beginning, is_to, reported, unreported}

-- The first law --

-- a rule leaves each part of the state that it doesn't name
abbrev pub RulesLeaveTheRest : Type 0
RulesLeaveTheRest = (w : ProtocolState) (r : Rule) → Leaves w r (after w r)

-- what was sent, granted, won, learnt, applied or answered stays, and terms, books and the table only grow
abbrev pub RulesOnlyAdd : Type 0
RulesOnlyAdd = (w : ProtocolState) (r : Rule) → Kept w → Allowed w r → Grows w (after w r)

-- a step of one member, of the aggregator or of a client leaves all other members as they were
abbrev pub RulesSpareOthers : Type 0
RulesSpareOthers = (w : ProtocolState) (r : Rule) (u : ℕ) → IsOther u r → member_of (after w r) u ≡ member_of w u

-- What every step keeps --

-- a group that begins has every fact
abbrev pub BeginningIsKept : Type 0
BeginningIsKept = (members : ℕ) (bounds : ℕ → ℕ) → Kept (beginning members bounds)

-- each step keeps every fact
abbrev pub StepsKeep : Type 0
StepsKeep = (w : ProtocolState) (r : Rule) → Kept w → Allowed w r → Kept (after w r)

-- so every run does
abbrev pub RunsKeep : Type 0
RunsKeep = (members : ℕ) (bounds : ℕ → ℕ) (rules : List Rule) → IsRun members bounds rules → Kept (state_after members bounds rules)

-- Agreement --

-- what was committed is in the log of each later leader (Raft, section 5.4.3)
abbrev pub LaterLeadersHaveIt : Type 0
LaterLeadersHaveIt =
    (w : ProtocolState) → Kept w → (t m u c : ℕ) → Committed w t m → t < u → w.winner u ≡ Some c → Share m (w.base u) (w.book t)

-- an index is committed by one term alone
abbrev pub OneTermCommits : Type 0
OneTermCommits = (w : ProtocolState) → Kept w → (t u m : ℕ) → Committed w t m → Committed w u m → t ≡ u

-- the agreed list is what its definition calls it
abbrev pub AgreedIsAgreed : Type 0
AgreedIsAgreed = (w : ProtocolState) → Kept w → IsAgreed w (agreed w)

-- it only grows
abbrev pub AgreedGrows : Type 0
AgreedGrows = (w : ProtocolState) (r : Rule) → Kept w → Allowed w r → Share (length (agreed w)) (agreed w) (agreed (after w r))

-- members apply its entries alone, each at its index (Raft, section 5.4.3)
abbrev pub AppliedIsAgreed : Type 0
AppliedIsAgreed =
    (members : ℕ) (bounds : ℕ → ℕ) (rules : List Rule) → IsRun members bounds rules → (x : Passed) → In x (state_after members bounds rules).passed
    → HasAt (agreed (state_after members bounds rules)) x.index x.entry

-- so what two members, or one at two times, apply at an index is the same entry
abbrev pub MembersApplyTheSame : Type 0
MembersApplyTheSame =
    (members : ℕ) (bounds : ℕ → ℕ) (rules : List Rule) → IsRun members bounds rules → AppliesTheSame (state_after members bounds rules)

-- what a member knows to be committed is the agreed list's
abbrev pub CommittedIsAgreed : Type 0
CommittedIsAgreed = (w : ProtocolState) → Kept w → (v : ℕ) → Share (w.commit v) (w.log v) (agreed w)

-- each request in it was asked for: it is one of the table, under its kind
abbrev pub AgreedWasAsked : Type 0
AgreedWasAsked =
    (members : ℕ) (bounds : ℕ → ℕ) (rules : List Rule) → IsRun members bounds rules → (index : ℕ) → 1 ≤ index
    → index ≤ length (agreed (state_after members bounds rules))
    → is_request (entry_at (agreed (state_after members bounds rules)) index).kind ≡ true
    → IsListed (state_after members bounds rules).table (entry_at (agreed (state_after members bounds rules)) index)

-- and no request id is found twice in it
abbrev pub NoRequestTwice : Type 0
NoRequestTwice =
    (members : ℕ) (bounds : ℕ → ℕ) (rules : List Rule) → IsRun members bounds rules → HasNoneTwice (agreed (state_after members bounds rules))

-- Replies and bounds --

-- a group that begins has every fact on replies and bounds
abbrev pub BeginningIsAnswered : Type 0
BeginningIsAnswered = (members : ℕ) (bounds : ℕ → ℕ) → Answered (beginning members bounds)

-- each step keeps them
abbrev pub StepsAnswer : Type 0
StepsAnswer = (w : ProtocolState) (r : Rule) → Kept w → Answered w → Allowed w r → Answered (after w r)

-- so every run does
abbrev pub RunsAnswer : Type 0
RunsAnswer = (members : ℕ) (bounds : ℕ → ℕ) (rules : List Rule) → IsRun members bounds rules → Answered (state_after members bounds rules)

-- a reply's request is at its index of the agreed list, and its payload is the one-thread service's there
pub record IsAnswer (w : ProtocolState) (r : Reply) : Type 0 where
  pub stands : HasAt (agreed w) r.index (entry_at (agreed w) r.index)
  pub named : (entry_at (agreed w) r.index).rid ≡ r.request
  pub right : reply_at (operations w.table (agreed w)) r.index ≡ Some r.payload

-- each reply of a run is such an answer
abbrev pub RepliesAreTheServices : Type 0
RepliesAreTheServices =
    (members : ℕ) (bounds : ℕ → ℕ) (rules : List Rule) → IsRun members bounds rules → (r : Reply) → In r (state_after members bounds rules).replied
    → IsAnswer (state_after members bounds rules) r

-- a reply from before a request was first sent has a smaller index than each reply to that request
abbrev pub RepliesAreInOrder : Type 0
RepliesAreInOrder =
    (members : ℕ) (bounds : ℕ → ℕ) (rules : List Rule) → IsRun members bounds rules → (earlier later : Reply) (place : ℕ) (q : Request)
    → In earlier (state_after members bounds rules).replied → In later (state_after members bounds rules).replied
    → At (state_after members bounds rules).table place q → later.request ≡ q.rid → earlier.place ≤ place → earlier.index < later.index

-- an index above those that a member reported, of an entry of the leader's term that is given to it
pub record IsUnreported (w : ProtocolState) (v p index : ℕ) : Type 0 where
  pub above : reported w.reports v (w.term v) p < index
  pub within : index ≤ length (w.log v)
  pub given : is_to (w.term v) p (entry_at (w.log v) index) ≡ true

-- each number is less than those after it
abbrev pub IsRising : List ℕ → Type 0
IsRising [] = Unit {0}
IsRising (x ∷ more) = ((y : ℕ) → In y more → x < y) × IsRising more

-- these are all such indexes and no others, in their order
pub record AreTheUnreported (w : ProtocolState) (v p : ℕ) (indexes : List ℕ) : Type 0 where
  pub each : (index : ℕ) → IsUnreported w v p index → In index indexes
  pub only : (index : ℕ) → In index indexes → IsUnreported w v p index
  pub rising : IsRising indexes

-- a leader's unreported entries for a member are what they are called
abbrev pub UnreportedAreThese : Type 0
UnreportedAreThese = (w : ProtocolState) (v p : ℕ) → AreTheUnreported w v p (unreported w v p)

-- they are at most the member's bound
abbrev pub LeadersKeepTheBound : Type 0
LeadersKeepTheBound =
    (members : ℕ) (bounds : ℕ → ℕ) (rules : List Rule) → IsRun members bounds rules → (v p : ℕ) → (state_after members bounds rules).role v ≡ Leader
    → length (unreported (state_after members bounds rules) v p) ≤ bounds p

-- each request of a log is given to a member of the group whose bound is above 0
abbrev pub AreGiven : ℕ → (ℕ → ℕ) → List Entry → Type 0
AreGiven members bounds log =
    (k : ℕ) → k < length log → is_request (entry_at log (suc k)).kind ≡ true → IsGiven members bounds (entry_at log (suc k))

-- so is each of the members' logs, the bases, the books and the logs of voters
abbrev pub GivenWithinBounds : Type 0
GivenWithinBounds =
    (members : ℕ) (bounds : ℕ → ℕ) (rules : List Rule) → IsRun members bounds rules
    → EachLog (AreGiven members bounds) (state_after members bounds rules).log (state_after members bounds rules).base
    (state_after members bounds rules).book (state_after members bounds rules).granted

-- What the conditions are for --

-- an aggregator that counts before its leader's own first entry calls committed what isn't
abbrev pub CountingAnywhereBreaks : Type 0
CountingAnywhereBreaks = IsBroken AllowedButAggregate AggregatesAreCommitted

-- and different entries are applied at one index (Raft, section 5.4.2, figure 8)
abbrev pub CountingAnywhereDivides : Type 0
CountingAnywhereDivides = IsBroken AllowedButAggregate AppliesTheSame

-- a member that cuts its log where it agrees with the Order loses what it acknowledged
abbrev pub CuttingAnywhereBreaks : Type 0
CuttingAnywhereBreaks = IsBroken AllowedButTake AcknowledgedIsTheLeaders

-- and different entries are applied at one index
abbrev pub CuttingAnywhereDivides : Type 0
CuttingAnywhereDivides = IsBroken AllowedButTake AppliesTheSame

-- a member does cut what conflicts: a leader's entry that no majority had gives way to a later leader's
abbrev pub ConflictsAreCut : Type 0
ConflictsAreCut = IsCut (blank_entry 1 ∷ []) (blank_entry 2 ∷ [])

-- a request is ordered, committed by way of the aggregator, applied, answered by the member that it was given to, and reported
abbrev pub RequestsAreAnswered : Type 0
RequestsAreAnswered = IsServed

-- a committed entry is in the log with which another member begins to lead
abbrev pub EntriesAreInherited : Type 0
EntriesAreInherited = IsInherited

-- two requests are answered, the second first sent when the first had its reply
abbrev pub RequestsAreAnsweredInOrder : Type 0
RequestsAreAnsweredInOrder = IsAnsweredInOrder

-- no rule is empty: some run has a step by each of them
abbrev pub EveryRuleIsMade : Type 0
EveryRuleIsMade = IsMadeOfAll
