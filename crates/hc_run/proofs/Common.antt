-- Parts of every row: nothing happens, and what a member holds goes on.
use Rattle.std.proofs.Common.{◌≡◌, ℕ, Bool, true, false, List, [], None, refl}
use Rattle.std.proofs.lemmas.List.Elements.{All-nil, All-weaker}
use Rattle.hc_member.specs.declared.setup.Setup.{Setup}
use Rattle.hc_member.specs.declared.heard.Heard.{Heard}
use Rattle.hc_member.specs.declared.role.Role.TheVariants as member
use Rattle.hc_member.specs.Member.{Member}
use Rattle.hc_member.specs.Outcome.{Outcome, nothing}
use Rattle.hc_member.specs.Reports.{report_in}
use Rattle.hc_member.specs.Sound.{IsSound}
use Rattle.hc_member.specs.Turn.{where_fits}
use Rattle.hc_rules.specs.Conditions.{CanAct}
use Rattle.hc_rules.specs.Log.{In}
use Rattle.hc_rules.specs.Message.{Report, Reply, Request}
use Rattle.hc_rules.specs.Protocol.{ProtocolState}
use Rattle.hc_run.specs.Backed.{IsBacked}
use Rattle.hc_run.specs.Held.{Holds, IsLed, WasReplied}
use Rattle.hc_run.specs.Rows.{HearsSent, IsRow}

-- what a member holds goes on where nothing of it changes but its queues, and replies are only added
pub holds-on : (table : List Request) (replied replied' : List Reply) (reports reports' : List Report) (v : ℕ) (m n : Member) → Holds table replied reports v m
    → n.log ≡ m.log → n.pool ≡ m.pool → n.kept ≡ m.kept → n.unfinished ≡ m.unfinished → ((r : Reply) → In r replied → In r replied')
    → IsLed reports' v n → Holds table replied' reports' v n
holds-on table replied replied' reports reports' v m n h log pool kept unfinished more led =
    record {
      bodies = rw log h.bodies;
      pool = rw pool h.pool;
      kept = rw kept (All-weaker (WasReplied replied) (WasReplied replied') (λ k was. record { place = was.place; made = more _ was.made }) m.kept h.kept);
      led = led;
      unfinished = rw unfinished h.unfinished;
    }

-- a follower has no queues
pub led-follower : (reports : List Report) (v : ℕ) (n : Member) → n.role ≡ member.Follower → IsLed reports v n
led-follower reports v n e f = absurd cc

pub led-candidate : (reports : List Report) (v : ℕ) (n : Member) → n.role ≡ member.Candidate → IsLed reports v n
led-candidate reports v n e f = absurd cc

module _ (s : Setup) (w : ProtocolState) (m : Member) (said : Heard) (h : HearsSent s w m said) where
  -- the member may act
  pub can-act : CanAct w s.me
  can-act =
      let shown = h.shown in
      let tied = shown.tied in
      let group = shown.group in
      let setup = h.setup in
      record { member = rw group.size setup.own; runs = tied.up }

  pub nothing-row : report_in s m said ≡ None → IsRow s w m said (nothing m)
  nothing-row none =
      record {
        rules = [];
        are =
            record {
              own = tt;
              allowed = tt;
              shown = h.shown;
              backed = All-nil (IsBacked s w);
              passed = refl;
              reports = rw none refl;
            };
      }

  -- a message whose sender doesn't fit changes nothing
  pub by-fits : (outcome : Outcome) (b : Bool) → IsSound s (where_fits b m outcome).member → (b ≡ true → IsSound s outcome.member → IsRow s w m said outcome)
      → (b ≡ false → report_in s m said ≡ None) → IsRow s w m said (where_fits b m outcome)
  by-fits outcome true sound fitting other = fitting refl sound
  by-fits outcome false sound fitting other = nothing-row (other refl)
