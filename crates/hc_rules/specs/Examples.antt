-- Runs that exist: the rules are not empty.
use Rattle.std.specs.Prelude.{◌≡◌, ◌≢◌, ℕ, zero, suc, Bool, true, false, ◌==◌, ◌&&◌, ◌||◌, List, [], ◌∷◌, ◌++◌, Some, None}
use Rattle.r2_base.specs.declared.entry.Entry.{Entry}
use Rattle.r2_base.specs.declared.entry.Kind.TheVariants.{Write, Read}
use Rattle.r2_base.specs.Entry.{blank_entry}
use Rattle.hc_store.specs.Replies.{payload_of}
use Rattle.hc_rules.specs.Agreed.{agreed}
use Rattle.hc_rules.specs.Log.{In}
use Rattle.hc_rules.specs.Message.{Order, Reply, Request}
use Rattle.hc_rules.specs.Rules.{Rule, Rise, Stand, AskVotes, GrantVote, SendVote, CountVote, Win, OrderRequest, SendOrder, Confirm, Take, Acknowledge, CommitByCount, CommitByOrder, CommitByAggregate, Aggregate, Apply, Answer, AnswerAgain, AskBody, GiveBody, Yield, NoteReport, NoteOwnReport, NoteAck, Hold, Refuse, RejectOrder, Follow, NoteOrder, Collect, Forget, Crash, Restart, SendRequest, entry_of}
use Rattle.hc_rules.specs.Runs.{AllAllowed, state_after}
use Rattle.hc_rules.specs.Protocol.{ProtocolState, Committed, Leader, beginning, unreported}

-- some run ends in a step by which a member takes an Order and has another log than before
pub record IsCut (before behind : List Entry) : Type 0 where
  pub members : ℕ
  pub bounds : ℕ → ℕ
  pub rules : List Rule
  pub member : ℕ
  pub order : Order
  pub stand : ℕ
  pub count : ℕ
  pub allowed : AllAllowed (beginning members bounds) (rules ++ Take member order stand count ∷ [])
  pub had : (state_after members bounds rules).log member ≡ before
  pub has : (state_after members bounds (rules ++ Take member order stand count ∷ [])).log member ≡ behind

-- a reply to a request's entry at an index, which went out when the table had so many requests
abbrev pub reply_to : Request → ℕ → ℕ → List ℕ → Reply
reply_to q index place payload = record { request = q.rid; index = index; payload = payload; place = place }

-- member 0 leads the first term
abbrev pub LeadsFirst : ProtocolState → Type 0
LeadsFirst w = (w.role 0 ≡ Leader) × (w.term 0 ≡ 1)

-- some run answers a request. First member 0 orders it for another member, which leaves the entry
-- unreported. Then the aggregator says that the entry is committed; the other member learns it from
-- there, applies the entry and answers. In the end the entry comes after the leader's first one in
-- the agreed list, has one reply, and nothing is unreported
pub record IsServed : Type 0 where
  pub members : ℕ
  pub bounds : ℕ → ℕ
  pub front : List Rule
  pub back : List Rule
  pub allowed : AllAllowed (beginning members bounds) (front ++ back)
  pub request : Request
  pub replier : ℕ
  pub payload : List ℕ
  pub leads : LeadsFirst (state_after members bounds front)
  pub other : replier ≢ 0
  pub ordered : unreported (state_after members bounds front) 0 replier ≡ 2 ∷ []
  pub told : In (record { term = 1; index = 2 }) (state_after members bounds (front ++ back)).aggregates
  pub learnt : In (CommitByAggregate replier (record { term = 1; index = 2 }) 2) back
  pub applied : In (record { member = replier; index = 2; entry = entry_of 1 request replier }) (state_after members bounds (front ++ back)).passed
  pub answers : In (Answer replier 2 payload) back
  pub stands : agreed (state_after members bounds (front ++ back)) ≡ blank_entry 1 ∷ entry_of 1 request replier ∷ []
  pub answered : (state_after members bounds (front ++ back)).replied ≡ reply_to request 2 1 payload ∷ []
  pub still_leads : LeadsFirst (state_after members bounds (front ++ back))
  pub reported : unreported (state_after members bounds (front ++ back)) 0 replier ≡ []

-- some run of three members commits a request's entry in the first term, whose leader is member 0. Then another member wins
-- the second term, and begins with the entry in its log
pub record IsInherited : Type 0 where
  pub bounds : ℕ → ℕ
  pub front : List Rule
  pub back : List Rule
  pub allowed : AllAllowed (beginning 3 bounds) (front ++ back)
  pub request : Request
  pub replier : ℕ
  pub leads : LeadsFirst (state_after 3 bounds front)
  pub committed : Committed (state_after 3 bounds front) 1 2
  pub before : (state_after 3 bounds front).winner 2 ≡ None
  pub winner : ℕ
  pub other : winner ≢ 0
  pub won : (state_after 3 bounds (front ++ back)).winner 2 ≡ Some winner
  pub still : Committed (state_after 3 bounds (front ++ back)) 1 2
  pub has : (state_after 3 bounds (front ++ back)).base 2 ≡ blank_entry 1 ∷ entry_of 1 request replier ∷ []

-- a client sets the key a, which is the byte 0x61, to 1, and then reads it
abbrev pub sets_a : Request
sets_a =
    record { rid = record { id = 1; client = record { ip = 1; port = 1 } }; kind = Write; body = 0x50 ∷ 0 ∷ 1 ∷ 0x61 ∷ 1 ∷ [] }

abbrev pub reads_a : Request
reads_a = record { rid = record { id = 2; client = record { ip = 1; port = 1 } }; kind = Read; body = 0x47 ∷ 0 ∷ 1 ∷ 0x61 ∷ [] }

-- some run of one member with the bound 1 answers both: the reading is first sent when the setting has its reply, so that its
-- place in the table, 1, is no less than that reply's
pub record IsAnsweredInOrder : Type 0 where
  pub rules : List Rule
  pub allowed : AllAllowed (beginning 1 (λ p. 1)) rules
  pub table : (state_after 1 (λ p. 1) rules).table ≡ sets_a ∷ reads_a ∷ []
  pub replied : (state_after 1 (λ p. 1) rules).replied
      ≡ reply_to reads_a 3 2 (payload_of 3 0 (1 ∷ [])) ∷ reply_to sets_a 2 1 (payload_of 2 0 []) ∷ []

-- the number of a rule among all rules
abbrev pub rule_number : Rule → ℕ
rule_number (Rise v s) = 0
rule_number (Stand v) = 1
rule_number (AskVotes v) = 2
rule_number (GrantVote v q) = 3
rule_number (SendVote v c) = 4
rule_number (CountVote v c) = 5
rule_number (Win v) = 6
rule_number (OrderRequest v q p) = 7
rule_number (SendOrder v previous count) = 8
rule_number (Confirm v o k) = 9
rule_number (Take v o i k) = 10
rule_number (Acknowledge v m) = 11
rule_number (CommitByCount v m) = 12
rule_number (CommitByOrder v o m) = 13
rule_number (CommitByAggregate v a m) = 14
rule_number (Aggregate o m) = 15
rule_number (Apply v) = 16
rule_number (Answer v index payload) = 17
rule_number (AnswerAgain v r e) = 18
rule_number (AskBody v rid) = 19
rule_number (GiveBody v rid) = 20
rule_number (Yield v o) = 21
rule_number (NoteReport v a) = 22
rule_number (NoteOwnReport v) = 23
rule_number (NoteAck v a) = 24
rule_number (Hold v rids) = 25
rule_number (Refuse v) = 26
rule_number (RejectOrder v hint) = 27
rule_number (Follow o) = 28
rule_number (NoteOrder o) = 29
rule_number (Collect a) = 30
rule_number Forget = 31
rule_number (Crash v) = 32
rule_number (Restart v) = 33
rule_number (SendRequest q) = 34

-- a step by the rule with this number is among these
abbrev pub has_step : ℕ → List Rule → Bool
has_step n [] = false
has_step n (r ∷ more) = (n == rule_number r) || has_step n more

-- steps by all rules with numbers below n are
abbrev pub has_steps : ℕ → List Rule → Bool
has_steps zero rules = true
has_steps (suc n) rules = has_step n rules && has_steps n rules

-- some run has a step by each of the rules
pub record IsMadeOfAll : Type 0 where
  pub members : ℕ
  pub bounds : ℕ → ℕ
  pub rules : List Rule
  pub allowed : AllAllowed (beginning members bounds) rules
  pub each : has_steps 35 rules ≡ true
