-- The dispatch of the rows: which leave the whole log, and which send nothing.
use Rattle.std.proofs.Common.{◌≡◌, ℕ, Bool, true, false, List, [], length, refl, sym, ap, ◌∙◌, append-nil}
use Rattle.std.specs.Prelude.{Result, Ok, Err, OnOk}
use Rattle.r2_base.specs.declared.addr.Addr.{Addr}
use Rattle.r2_base.specs.declared.datagram.Datagram.{Datagram}
use Rattle.r2_base.specs.declared.entry.Kind.{Kind}
use Rattle.r2_base.specs.declared.rid.Rid.{Rid}
use Rattle.hc_message.specs.declared.msg.Msg.{Msg}
use Rattle.hc_message.specs.declared.msg.Msg.TheVariants.{VoteReq, Vote, Order, Ack, Nack, AggCommit, RecoverAsk, RecoverBody}
use Rattle.hc_member.specs.declared.setup.Setup.{Setup}
use Rattle.hc_member.specs.declared.heard.Heard.{Heard}
use Rattle.hc_member.specs.declared.heard.Heard.TheVariants.{Nothing, Whole, Told, Recovered, Time}
use Rattle.hc_member.specs.Bodies.{give_body, is_from_another, take_body}
use Rattle.hc_member.specs.Member.{Member}
use Rattle.hc_member.specs.Outcome.{Outcome}
use Rattle.hc_member.specs.Reports.{hear_ack, hear_commit, hear_nack}
use Rattle.hc_member.specs.Sending.{Sending}
use Rattle.hc_member.specs.Setup.{is_from_aggregator, is_from_member}
use Rattle.hc_member.specs.Turn.{recovered, row, told, where_fits}
use Rattle.hc_member.specs.Votes.{hear_vote, hear_vote_request}
use Rattle.hc_node.specs.Sends.{AreSent}
use Rattle.hc_node.proofs.Keeps.{keeps-give_body, keeps-hear_ack, keeps-hear_commit, keeps-hear_nack, keeps-hear_request, keeps-hear_vote, keeps-hear_vote_request, keeps-take_body, keeps-ticked, quiet-hear_ack, quiet-hear_commit, quiet-hear_vote, quiet-take_body}

keeps-fits : (b : Bool) (m : Member) (o : Outcome) → o.keep ≡ length m.log → (where_fits b m o).keep ≡ length m.log
keeps-fits true m o e = e
keeps-fits false m o e = refl

quiet-fits : (b : Bool) (m : Member) (o : Outcome) → o.sends ≡ [] → (where_fits b m o).sends ≡ []
quiet-fits true m o e = e
quiet-fits false m o e = refl

abbrev pub is_order : Msg → Bool
is_order (Order a b c d e f g h) = true
is_order _ = false

abbrev pub is_quiet : Msg → Bool
is_quiet (Vote a b c) = true
is_quiet (Ack a b c d) = true
is_quiet (AggCommit a b) = true
is_quiet _ = false

-- only an Order has entries of the log cut
pub keeps-told : (s : Setup) (m : Member) (from : Addr) (message : Msg) → is_order message ≡ false → (told s m from message).keep ≡ length m.log
keeps-told s m from (VoteReq term member last_index last_term) e =
    keeps-fits (is_from_member s from member) m (hear_vote_request s m term member last_index last_term) (keeps-hear_vote_request s m term member last_index last_term)
keeps-told s m from (Vote term member granted) e =
    keeps-fits (is_from_member s from member) m (hear_vote s m term member granted) (keeps-hear_vote s m term member granted)
keeps-told s m from (Order a b c d e f g h) is = cc
keeps-told s m from (Ack term member index applied) e =
    keeps-fits (is_from_member s from member) m (hear_ack m term member index applied) (keeps-hear_ack m term member index applied)
keeps-told s m from (Nack term member hint) e =
    keeps-fits (is_from_member s from member) m (hear_nack s m term member hint) (keeps-hear_nack s m term member hint)
keeps-told s m from (AggCommit term index) e =
    keeps-fits (is_from_aggregator s.aggregator from) m (hear_commit m term index) (keeps-hear_commit m term index)
keeps-told s m from (RecoverAsk member) e = refl
keeps-told s m from (RecoverBody kind body) e = refl

-- a vote, an Ack and what the aggregator found are answered by nothing
pub quiet-told : (s : Setup) (m : Member) (from : Addr) (message : Msg) → is_quiet message ≡ true → (told s m from message).sends ≡ []
quiet-told s m from (VoteReq a b c d) e = cc
quiet-told s m from (Vote term member granted) e =
    quiet-fits (is_from_member s from member) m (hear_vote s m term member granted) (quiet-hear_vote s m term member granted)
quiet-told s m from (Order a b c d f g h i) e = cc
quiet-told s m from (Ack term member index applied) e =
    quiet-fits (is_from_member s from member) m (hear_ack m term member index applied) (quiet-hear_ack m term member index applied)
quiet-told s m from (Nack a b c) e = cc
quiet-told s m from (AggCommit term index) e =
    quiet-fits (is_from_aggregator s.aggregator from) m (hear_commit m term index) (quiet-hear_commit m term index)
quiet-told s m from (RecoverAsk a) e = cc
quiet-told s m from (RecoverBody a b) e = cc

-- nor has a message about a body
pub keeps-recovered : (s : Setup) (m : Member) (from : Addr) (rid : Rid) (message : Msg) → (recovered s m from rid message).keep ≡ length m.log
keeps-recovered s m from rid (RecoverAsk member) = keeps-fits (is_from_member s from member) m (give_body s m member rid) (keeps-give_body s m member rid)
keeps-recovered s m from rid (RecoverBody kind body) = keeps-fits (is_from_another s from) m (take_body m rid kind body) (keeps-take_body m rid kind body)
keeps-recovered s m from rid (VoteReq a b c d) = refl
keeps-recovered s m from rid (Vote a b c) = refl
keeps-recovered s m from rid (Order a b c d e f g h) = refl
keeps-recovered s m from rid (Ack a b c d) = refl
keeps-recovered s m from rid (Nack a b c) = refl
keeps-recovered s m from rid (AggCommit a b) = refl

abbrev pub is_told : Heard → Bool
is_told (Told from message) = true
is_told _ = false

pub keeps-row : (s : Setup) (m : Member) (said : Heard) → is_told said ≡ false → (row s m said).keep ≡ length m.log
unfolding row
keeps-row s m Nothing e = refl
keeps-row s m (Whole r) e = keeps-hear_request m r
keeps-row s m (Told from message) e = cc
keeps-row s m (Recovered from rid message) e = keeps-recovered s m from rid message
keeps-row s m Time e = keeps-ticked s m m.role

-- what holds anyhow
pub always : {A E : Type 0} (r : Result A E) (P : Type 0) → P → OnOk r P
always (Ok x) P p = p
always (Err e) P p = tt

-- nothing is sent
pub none-sent : (s : Setup) (sends : List Sending) (ds : List Datagram) → sends ≡ [] → AreSent s sends ds ds
none-sent s sends ds e = rw e (sym (append-nil ds))

-- a member that is asked for a body stays as it is
stays-fits : (b : Bool) (m : Member) (o : Outcome) → o.member ≡ m → (where_fits b m o).member ≡ m
stays-fits true m o e = e
stays-fits false m o e = refl

stays-give_body : (s : Setup) (m : Member) (member : ℕ) (rid : Rid) → (give_body s m member rid).member ≡ m
unfolding give_body
stays-give_body s m member rid = refl

pub stays-asked : (s : Setup) (m : Member) (from : Addr) (rid : Rid) (message : Msg) (member : ℕ) → message ≡ RecoverAsk member → m ≡ (recovered s m from rid message).member
stays-asked s m from rid message member e =
    sym (ap (λ (x : Msg). (recovered s m from rid x).member) e ∙ stays-fits (is_from_member s from member) m (give_body s m member rid) (stays-give_body s m member rid))

-- one that is given a body sends nothing
pub quiet-given : (s : Setup) (m : Member) (from : Addr) (rid : Rid) (message : Msg) (kind : Kind) (body : List ℕ) → message ≡ RecoverBody kind body
    → (recovered s m from rid message).sends ≡ []
quiet-given s m from rid message kind body e =
    ap (λ (x : Msg). (recovered s m from rid x).sends) e
    ∙ quiet-fits (is_from_another s from) m (take_body m rid kind body) (quiet-take_body m rid kind body)
