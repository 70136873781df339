-- What a member holds is what clients asked for, what was replied, and what it has to answer.
use Rattle.std.specs.Prelude.{◌≡◌, ◌≤◌, ◌⊎◌, ℕ, true, false, List, [], ◌∷◌, drop, length, All, Some}
use Rattle.r2_base.specs.Entry.{is_request}
use Rattle.r2_base.specs.Limits.{most_body}
use Rattle.r2_base.specs.Names.{FitsRid}
use Rattle.r2_frag.specs.declared.class.Class.{Class}
use Rattle.r2_frag.specs.declared.class.Class.TheVariants as class
use Rattle.r2_frag.specs.declared.kept.KeptReply.{KeptReply}
use Rattle.r2_frag.specs.declared.unfinished.Unfinished.{Unfinished}
use Rattle.r2_frag.specs.Bodies.{HasPartsOf, IsUnfinished}
use Rattle.hc_log.specs.declared.stored.Stored.{Stored}
use Rattle.hc_log.specs.Log.{metas_of}
use Rattle.hc_message.specs.declared.msg.Msg.TheVariants.{RecoverBody}
use Rattle.hc_message.specs.Message.{message_bytes}
use Rattle.hc_pool.specs.declared.request.Request.{Request as PoolRequest}
use Rattle.hc_replier.specs.Queues.{row_at}
use Rattle.hc_member.specs.declared.role.Role.TheVariants.{Leader}
use Rattle.hc_member.specs.Heard.{kind_under}
use Rattle.hc_member.specs.Member.{Member}
use Rattle.hc_rules.specs.Log.{In}
use Rattle.hc_rules.specs.Message.{Report, Reply, Request}
use Rattle.hc_rules.specs.Protocol.{indexes_of, is_to, reported}
use Rattle.hc_run.specs.Steps.{reply_from}
use Rattle.hc_run.specs.Tied.{request_in, request_of}

-- a request is as a client may send it
pub record IsAsked (q : Request) : Type 0 where
  pub fits : FitsRid q.rid
  pub asks : is_request q.kind ≡ true
  pub short : length q.body ≤ most_body

-- an entry of a log is a request of the table, with its kind and its body; a blank one asks for nothing
abbrev pub IsStoredOf : List Request → Stored → Type 0
IsStoredOf table s = is_request s.entry.kind ≡ true → In (request_of s.entry.rid s.entry.kind s.body) table

-- and has the request's body; a blank one has none
pub record IsWhole (table : List Request) (x : Stored) : Type 0 where
  pub listed : IsStoredOf table x
  pub blank : is_request x.entry.kind ≡ false → x.body ≡ []

-- a request that waits is one of the table
abbrev pub IsAskedIn : List Request → PoolRequest → Type 0
IsAskedIn table r = In (request_in r) table

-- a kept reply was made, with the same bytes
pub record WasReplied (replied : List Reply) (reply : KeptReply) : Type 0 where
  pub place : ℕ
  pub made : In (reply_from place reply) replied

-- the parts of an unfinished message are those of a request's body, by the message's class: a client's request, or a body that was
-- asked for
abbrev pub HasPartsBy : Request → Unfinished → Class → Type 0
HasPartsBy q m class.Request = (kind_under m.key.policy ≡ Some q.kind) × HasPartsOf q.body m
HasPartsBy q m class.Recover = HasPartsOf (message_bytes (RecoverBody q.kind q.body)) m
HasPartsBy q m class.Reply = ⊥

-- an unfinished message has parts of a request of the table, whose id is its own, and waits for further ones
pub record HasTablesParts (table : List Request) (m : Unfinished) : Type 0 where
  pub request : Request
  pub sent : In request table
  pub named : request.rid ≡ m.key.rid
  pub parts : HasPartsBy request m m.key.class
  pub waits : IsUnfinished m

-- the items of one list are in the other, in their order
abbrev pub IsAmong : List ℕ → List ℕ → Type 0
IsAmong [] ys = Unit {0}
IsAmong (x ∷ xs) [] = ⊥
IsAmong (x ∷ xs) (y ∷ ys) = ((x ≡ y) × IsAmong xs ys) ⊎ IsAmong (x ∷ xs) ys

-- the indexes of the entries of a leader's term that a member has to answer and hasn't reported to it, by what leaders learnt
abbrev pub owed : List Report → ℕ → Member → ℕ → List ℕ
owed reports v m p =
    let before = reported reports v m.term p in indexes_of (is_to m.term p) before (drop before (metas_of m.log))

-- a leader's log is all its own, and what the bound counts is in its queues
abbrev pub IsLed : List Report → ℕ → Member → Type 0
IsLed reports v m =
    m.role ≡ Leader
    → (m.matched ≡ length m.log) × ((p : ℕ) → IsAmong (owed reports v m p) (row_at m.lead.queues p).given)

-- what member v holds, by the table, the replies and the reports
pub record Holds (table : List Request) (replied : List Reply) (reports : List Report) (v : ℕ) (m : Member) : Type 0 where
  pub bodies : All (IsStoredOf table) m.log
  pub pool : All (IsAskedIn table) m.pool
  pub kept : All (WasReplied replied) m.kept
  pub led : IsLed reports v m
  pub unfinished : All (HasTablesParts table) m.unfinished
