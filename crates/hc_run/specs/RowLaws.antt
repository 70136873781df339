-- The rows of a member's turn, one by one: each is a list of the protocol's rules.
use Rattle.std.specs.Prelude.{ℕ, Bool, List}
use Rattle.r2_base.specs.declared.addr.Addr.{Addr}
use Rattle.r2_base.specs.declared.entry.Entry.{Entry}
use Rattle.r2_base.specs.declared.rid.Rid.{Rid}
use Rattle.hc_message.specs.declared.msg.Msg.{Msg}
use Rattle.hc_message.specs.declared.msg.Msg.TheVariants.{VoteReq, Vote, Order, Ack, Nack, AggCommit}
use Rattle.hc_pool.specs.declared.request.Request.{Request}
use Rattle.hc_member.specs.declared.heard.Heard.{Heard}
use Rattle.hc_member.specs.declared.heard.Heard.TheVariants.{Nothing, Whole, Told, Recovered, Time}
use Rattle.hc_run.specs.Rows.{RowIsRules}

-- nothing is heard: it is quiet, or what came is refused, or isn't whole yet
abbrev pub QuietIsRules : Type 0
QuietIsRules = RowIsRules Nothing

-- a client's request is whole
abbrev pub RequestsAreRules : Type 0
RequestsAreRules = (r : Request) → RowIsRules (Whole r)

-- messages that come in one datagram, each from any address: also where its sender doesn't fit

abbrev pub VoteRequestsAreRules : Type 0
VoteRequestsAreRules = (from : Addr) (term candidate last_index last_term : ℕ) → RowIsRules (Told from (VoteReq term candidate last_index last_term))

abbrev pub VotesAreRules : Type 0
VotesAreRules = (from : Addr) (term voter : ℕ) (granted : Bool) → RowIsRules (Told from (Vote term voter granted))

-- an Order is refused, or taken
abbrev pub OrdersAreRules : Type 0
OrdersAreRules =
    (from : Addr) (term leader prev_index prev_term term_start commit : ℕ) (via : Bool) (entries : List Entry)
    → RowIsRules (Told from (Order term leader prev_index prev_term term_start commit via entries))

abbrev pub AcksAreRules : Type 0
AcksAreRules = (from : Addr) (term member index applied : ℕ) → RowIsRules (Told from (Ack term member index applied))

abbrev pub NacksAreRules : Type 0
NacksAreRules = (from : Addr) (term member hint : ℕ) → RowIsRules (Told from (Nack term member hint))

abbrev pub AggregateCommitsAreRules : Type 0
AggregateCommitsAreRules = (from : Addr) (term index : ℕ) → RowIsRules (Told from (AggCommit term index))

-- a message about the body of a request is whole: it is asked for, or given
abbrev pub RecoveriesAreRules : Type 0
RecoveriesAreRules = (from : Addr) (rid : Rid) (message : Msg) → RowIsRules (Recovered from rid message)

-- a tick goes by, at a leader or at another member
abbrev pub TicksAreRules : Type 0
TicksAreRules = RowIsRules Time

-- so each row is
abbrev pub RowsAreRules : Type 0
RowsAreRules = (said : Heard) → RowIsRules said
