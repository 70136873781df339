-- Each row of the table leaves a sound member and sends what it may.
use Rattle.std.proofs.Common.{◌≡◌, ℕ, ◌<◌, ◌==◌, Bool, true, false, length, refl}
use Rattle.std.specs.Prelude.{not, nat_lt}
use Rattle.std.proofs.lemmas.Bool.{and_parts, ltb-true}
use Rattle.r2_base.specs.Names.{same_addr}
use Rattle.r2_base.specs.declared.addr.Addr.{Addr}
use Rattle.r2_base.specs.declared.rid.Rid.{Rid}
use Rattle.hc_message.specs.declared.msg.Msg.{Msg}
use Rattle.hc_message.specs.declared.msg.Msg.TheVariants.{VoteReq, Vote, Order, Ack, Nack, AggCommit, RecoverAsk, RecoverBody}
use Rattle.hc_message.specs.Message.{IsValid}
use Rattle.hc_member.specs.declared.setup.Setup.{Setup}
use Rattle.hc_member.specs.declared.heard.Heard.{Heard}
use Rattle.hc_member.specs.declared.heard.Heard.TheVariants.{Nothing, Whole, Told, Recovered, Time}
use Rattle.hc_member.specs.Setup.{IsSetup, address_of, is_from_aggregator, is_from_member, is_other}
use Rattle.hc_member.specs.Bodies.{give_body, is_from_another, take_body}
use Rattle.hc_member.specs.Heard.{IsSayable}
use Rattle.hc_member.specs.Member.{Member}
use Rattle.hc_member.specs.Orders.{HeardOrder, hear_order, is_from_leader}
use Rattle.hc_member.specs.Outcome.{Outcome}
use Rattle.hc_member.specs.Reports.{hear_ack, hear_commit, hear_nack}
use Rattle.hc_member.specs.Sound.{IsSound}
use Rattle.hc_member.specs.Turn.{recovered, row, told, where_fits}
use Rattle.hc_member.specs.Votes.{hear_vote, hear_vote_request}
use Rattle.hc_member.proofs.BodyRows.{goes-give_body, goes-hear_request, goes-take_body}
use Rattle.hc_member.proofs.Goes.{Goes, goes-nothing}
use Rattle.hc_member.proofs.OrderRows.{goes-hear_order}
use Rattle.hc_member.proofs.ReportRows.{goes-hear_ack, goes-hear_commit, goes-hear_nack}
use Rattle.hc_member.proofs.TickRows.{goes-ticked}
use Rattle.hc_member.proofs.VoteRows.{goes-hear_vote, goes-hear_vote_request}

module _ (s : Setup) (is : IsSetup s) where
  goes-fits : (b : Bool) (m : Member) (o : Outcome) → IsSound s m → (b ≡ true → Goes s m o) → Goes s m (where_fits b m o)
  goes-fits true m o sound goes = goes refl
  goes-fits false m o sound goes = goes-nothing s m sound

  -- a sender that fits is a member
  from-member : (from : Addr) (member : ℕ) → is_from_member s from member ≡ true → member < length s.members
  from-member from member e =
      let outer = and_parts (is_other s member) (same_addr from (address_of s member)) e in
      let inner = and_parts (nat_lt member (length s.members)) (not (member == s.me)) outer.0 in
      ltb-true member (length s.members) inner.0

  goes-told : (m : Member) (from : Addr) (message : Msg) → IsValid message → IsSound s m → Goes s m (told s m from message)
  goes-told m from (VoteReq term member last_index last_term) valid sound =
      goes-fits (is_from_member s from member) m (hear_vote_request s m term member last_index last_term) sound
      (λ fits. goes-hear_vote_request s is m term member last_index last_term valid.0 valid.1 sound)
  goes-told m from (Vote term member granted) valid sound =
      goes-fits (is_from_member s from member) m (hear_vote s m term member granted) sound (λ fits. goes-hear_vote s is m term member granted valid.0 sound)
  goes-told m from (Order term leader prev_index prev_term term_start commit via entries) valid sound =
      let o : HeardOrder = record { leader = leader; prev_index = prev_index; prev_term = prev_term; commit = commit; entries = entries } in
      let head = valid.0 in
      goes-fits (is_from_leader s from leader via) m (hear_order s m from term o) sound (λ fits. goes-hear_order s is term m from o head.own sound valid.1)
  goes-told m from (Ack term member index applied) valid sound =
      goes-fits (is_from_member s from member) m (hear_ack m term member index applied) sound
      (λ fits. goes-hear_ack s is m term member index applied valid.0 (from-member from member fits) sound)
  goes-told m from (Nack term member hint) valid sound =
      goes-fits (is_from_member s from member) m (hear_nack s m term member hint) sound
      (λ fits. goes-hear_nack s is m term member hint valid.0 (from-member from member fits) sound)
  goes-told m from (AggCommit term index) valid sound =
      goes-fits (is_from_aggregator s.aggregator from) m (hear_commit m term index) sound (λ fits. goes-hear_commit s is m term index sound)
  goes-told m from (RecoverAsk member) valid sound = goes-nothing s m sound
  goes-told m from (RecoverBody kind body) valid sound = goes-nothing s m sound

  goes-recovered : (m : Member) (from : Addr) (rid : Rid) (message : Msg) → IsValid message → IsSound s m → Goes s m (recovered s m from rid message)
  goes-recovered m from rid (RecoverAsk member) valid sound =
      goes-fits (is_from_member s from member) m (give_body s m member rid) sound (λ fits. goes-give_body s m member rid sound)
  goes-recovered m from rid (RecoverBody kind body) valid sound =
      goes-fits (is_from_another s from) m (take_body m rid kind body) sound (λ fits. goes-take_body s m rid kind body sound valid.0 valid.1)
  goes-recovered m from rid (VoteReq a b c d) valid sound = goes-nothing s m sound
  goes-recovered m from rid (Vote a b c) valid sound = goes-nothing s m sound
  goes-recovered m from rid (Order a b c d e f g h) valid sound = goes-nothing s m sound
  goes-recovered m from rid (Ack a b c d) valid sound = goes-nothing s m sound
  goes-recovered m from rid (Nack a b c) valid sound = goes-nothing s m sound
  goes-recovered m from rid (AggCommit a b) valid sound = goes-nothing s m sound

  pub goes-row : (m : Member) (said : Heard) → IsSayable said → IsSound s m → Goes s m (row s m said)
  unfolding row
  goes-row m Nothing sayable sound = goes-nothing s m sound
  goes-row m (Whole r) sayable sound = goes-hear_request s m r sound sayable
  goes-row m (Told from message) sayable sound = goes-told m from message sayable sound
  goes-row m (Recovered from rid message) sayable sound = goes-recovered m from rid message sayable sound
  goes-row m Time sayable sound = goes-ticked s is m m.role refl sound
