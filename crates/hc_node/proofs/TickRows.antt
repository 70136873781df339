-- What the rows on ticks rest on.
use Rattle.std.proofs.Common.{◌≡◌, ◌<◌, true, length}
use Rattle.r2_base.specs.Limits.{greatest_number}
use Rattle.hc_log.specs.Log.{MayFollow, blank_of}
use Rattle.hc_log.proofs.Formed.{IsFormed-from_steps}
use Rattle.hc_message.specs.Message.{IsValid}
use Rattle.hc_member.specs.declared.setup.Setup.{Setup}
use Rattle.hc_member.specs.Member.{Member, durable_of}
use Rattle.hc_member.specs.Setup.{IsSetup, own_address}
use Rattle.hc_member.specs.Sound.{IsSound}
use Rattle.hc_member.specs.Ticks.{is_impatient, waited}
use Rattle.hc_member.specs.Votes.{stands, vote_request}
use Rattle.hc_member.proofs.Grows.{blank-follows}
use Rattle.hc_member.proofs.Sends.{last_term-most, own-fits, sent-vote_request}
use Rattle.hc_member.proofs.TickRows.{impatient-low, sound-waited, stood}
use Rattle.hc_log.specs.Log.{last_term}

-- a new candidate may append the entry of a winner, or ask for votes
pub record MayCampaign (s : Setup) (m : Member) : Type 0 where
  pub room : length m.log < greatest_number
  pub follows : MayFollow m.log (blank_of m.term)
  pub message : IsValid (vote_request s m)

pub may-campaign : (s : Setup) (m : Member) → IsSetup s → IsSound s m → is_impatient s (waited m) ≡ true → MayCampaign s (stands s (waited m))
may-campaign s m is sound e =
    let low = impatient-low s is (waited m) e in
    let new = stood s is (waited m) low.0 low.1 (sound-waited s is m sound) in
    let n = stands s (waited m) in
    let now = new.stood in
    let valid = (new.sound).durable in
    let limits = (IsFormed-from_steps n.log valid.log).limits in
    record {
      room = now.has_index;
      follows = blank-follows (durable_of n) valid now.term_is_set now.has_index;
      message =
          (sent-vote_request (own_address s) n.term s.me (length n.log) (last_term n.log) (record { least = now.term_is_set; most = valid.term }) (own-fits s is)
          limits.entries (last_term-most n.term n.log valid.terms)).0;
    }
