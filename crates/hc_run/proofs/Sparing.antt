-- Whom steps spare.
use Rattle.std.proofs.Common.{◌≡◌, ◌≢◌, ℕ, List, [], ◌∷◌, drop, Option, None, Some, refl, sym, ap, subst, ◌∙◌, inl, inr}
use Rattle.std.proofs.lemmas.Bool.{ne_eqb}
use Rattle.std.proofs.lemmas.List.Elements.{All-weaker}
use Rattle.r2_base.specs.declared.addr.Addr.{Addr}
use Rattle.r2_base.specs.declared.rid.Rid.{Rid}
use Rattle.r2_frag.specs.declared.kept.KeptReply.{KeptReply}
use Rattle.r2_frag.specs.declared.unfinished.Unfinished.{Unfinished}
use Rattle.hc_log.specs.declared.record.Record.{Record}
use Rattle.hc_log.specs.declared.stored.Stored.{Stored}
use Rattle.hc_log.specs.Durable.{replay}
use Rattle.hc_log.specs.Log.{metas_of}
use Rattle.hc_message.specs.declared.msg.Msg.{Msg}
use Rattle.hc_message.specs.declared.msg.Msg.TheVariants.{VoteReq, Vote, Order, Ack, Nack, AggCommit, RecoverAsk, RecoverBody}
use Rattle.hc_pool.specs.declared.request.Request.{Request as PoolRequest}
use Rattle.hc_replier.specs.Queues.{row_at}
use Rattle.hc_member.specs.declared.setup.Setup.{Setup}
use Rattle.hc_member.specs.Member.{Member}
use Rattle.hc_rules.specs.Kept.{Kept}
use Rattle.hc_rules.specs.Log.{In}
use Rattle.hc_rules.specs.Message.{Report, Request}
use Rattle.hc_rules.specs.Parts.{Grows, IsOther, MemberOf, member_of}
use Rattle.hc_rules.specs.Protocol.{ProtocolState, indexes_of, is_to, reported}
use Rattle.hc_rules.specs.Requests.{IsKnown}
use Rattle.hc_rules.specs.Rules.{Rule, SendRequest, Acknowledge, Aggregate, Answer, AnswerAgain, Apply, AskBody, AskVotes, Collect, CommitByAggregate, CommitByCount, CommitByOrder, Confirm, CountVote, Crash, Follow, Forget, GiveBody, GrantVote, Hold, NoteAck, NoteOrder, NoteOwnReport, NoteReport, OrderRequest, Refuse, RejectOrder, Restart, Rise, SendOrder, SendVote, Stand, Take, Win, Yield, after}
use Rattle.hc_rules.specs.Runs.{AllAllowed, after_rules}
use Rattle.hc_rules.specs.Sequences.{AreOthers, IsSameGroup}
use Rattle.hc_rules.proofs.Logs.{in_behind}
use Rattle.hc_rules.proofs.RuleLists.{rules_only_add, rules_spare, same_group}
use Rattle.hc_run.specs.Backed.{IsAbout}
use Rattle.hc_run.specs.Held.{HasTablesParts, Holds, IsAmong, IsAskedIn, IsLed, IsStoredOf, WasReplied}
use Rattle.hc_run.specs.Rows.{AreBy, ByAggregator, ByClient, ByMember, Maker, maker}
use Rattle.hc_run.specs.Shows.{IsShown, ShowsMember}
use Rattle.hc_run.specs.Sparing.{AggregatorsSpareMembers, ClientsSpareMembers, KeepsDatagrams, MembersSpareOthers, SparesMember, TurnsSpareOthers}
use Rattle.hc_run.specs.Tied.{IsTied, IsTiedDown}
use Rattle.hc_run.proofs.Composed.{leave-table, sent-grows}

-- Who makes a step --

other-maker : (x v u : ℕ) → u ≢ v → ByMember x ≡ ByMember v → u ≢ x
other-maker x v u apart e = let same : x ≡ v = cc in subst (λ (y : ℕ). u ≢ y) (sym same) apart

other-of : (r : Rule) (by u : ℕ) → u ≢ by → maker r ≡ ByMember by → IsOther u r
other-of (Rise v s) by u apart is = other-maker v by u apart is
other-of (Stand v) by u apart is = other-maker v by u apart is
other-of (AskVotes v) by u apart is = other-maker v by u apart is
other-of (GrantVote v q) by u apart is = other-maker v by u apart is
other-of (SendVote v c) by u apart is = other-maker v by u apart is
other-of (CountVote v c) by u apart is = other-maker v by u apart is
other-of (Win v) by u apart is = other-maker v by u apart is
other-of (OrderRequest v q p) by u apart is = other-maker v by u apart is
other-of (SendOrder v previous count) by u apart is = other-maker v by u apart is
other-of (Confirm v o k) by u apart is = other-maker v by u apart is
other-of (Take v o i k) by u apart is = other-maker v by u apart is
other-of (Acknowledge v m) by u apart is = other-maker v by u apart is
other-of (CommitByCount v m) by u apart is = other-maker v by u apart is
other-of (CommitByOrder v o m) by u apart is = other-maker v by u apart is
other-of (CommitByAggregate v a m) by u apart is = other-maker v by u apart is
other-of (Apply v) by u apart is = other-maker v by u apart is
other-of (Answer v index payload) by u apart is = other-maker v by u apart is
other-of (AnswerAgain v r e) by u apart is = other-maker v by u apart is
other-of (AskBody v rid) by u apart is = other-maker v by u apart is
other-of (GiveBody v rid) by u apart is = other-maker v by u apart is
other-of (Yield v o) by u apart is = other-maker v by u apart is
other-of (NoteReport v a) by u apart is = other-maker v by u apart is
other-of (NoteOwnReport v) by u apart is = other-maker v by u apart is
other-of (NoteAck v a) by u apart is = other-maker v by u apart is
other-of (Hold v rids) by u apart is = other-maker v by u apart is
other-of (Refuse v) by u apart is = other-maker v by u apart is
other-of (RejectOrder v hint) by u apart is = other-maker v by u apart is
other-of (Crash v) by u apart is = other-maker v by u apart is
other-of (Restart v) by u apart is = other-maker v by u apart is
other-of (Aggregate o m) by u apart is = absurd cc
other-of (Follow o) by u apart is = absurd cc
other-of (NoteOrder o) by u apart is = absurd cc
other-of (Collect a) by u apart is = absurd cc
other-of Forget by u apart is = absurd cc
other-of (SendRequest q) by u apart is = absurd cc

others-of : (rules : List Rule) (v u : ℕ) → u ≢ v → AreBy (ByMember v) rules → AreOthers u rules
others-of [] v u apart own = tt
others-of (r ∷ more) v u apart own = (other-of r v u apart own.0, others-of more v u apart own.1)

-- no member makes a step of the aggregator, nor of a client
aggregators-of : (r : Rule) (u : ℕ) → maker r ≡ ByAggregator → IsOther u r
aggregators-of (Rise v s) u is = absurd cc
aggregators-of (Stand v) u is = absurd cc
aggregators-of (AskVotes v) u is = absurd cc
aggregators-of (GrantVote v q) u is = absurd cc
aggregators-of (SendVote v c) u is = absurd cc
aggregators-of (CountVote v c) u is = absurd cc
aggregators-of (Win v) u is = absurd cc
aggregators-of (OrderRequest v q p) u is = absurd cc
aggregators-of (SendOrder v previous count) u is = absurd cc
aggregators-of (Confirm v o k) u is = absurd cc
aggregators-of (Take v o i k) u is = absurd cc
aggregators-of (Acknowledge v m) u is = absurd cc
aggregators-of (CommitByCount v m) u is = absurd cc
aggregators-of (CommitByOrder v o m) u is = absurd cc
aggregators-of (CommitByAggregate v a m) u is = absurd cc
aggregators-of (Apply v) u is = absurd cc
aggregators-of (Answer v index payload) u is = absurd cc
aggregators-of (AnswerAgain v r e) u is = absurd cc
aggregators-of (AskBody v rid) u is = absurd cc
aggregators-of (GiveBody v rid) u is = absurd cc
aggregators-of (Yield v o) u is = absurd cc
aggregators-of (NoteReport v a) u is = absurd cc
aggregators-of (NoteOwnReport v) u is = absurd cc
aggregators-of (NoteAck v a) u is = absurd cc
aggregators-of (Hold v rids) u is = absurd cc
aggregators-of (Refuse v) u is = absurd cc
aggregators-of (RejectOrder v hint) u is = absurd cc
aggregators-of (Crash v) u is = absurd cc
aggregators-of (Restart v) u is = absurd cc
aggregators-of (SendRequest q) u is = absurd cc
aggregators-of (Aggregate o m) u is = tt
aggregators-of (Follow o) u is = tt
aggregators-of (NoteOrder o) u is = tt
aggregators-of (Collect a) u is = tt
aggregators-of Forget u is = tt

clients-of : (r : Rule) (u : ℕ) → maker r ≡ ByClient → IsOther u r
clients-of (Rise v s) u is = absurd cc
clients-of (Stand v) u is = absurd cc
clients-of (AskVotes v) u is = absurd cc
clients-of (GrantVote v q) u is = absurd cc
clients-of (SendVote v c) u is = absurd cc
clients-of (CountVote v c) u is = absurd cc
clients-of (Win v) u is = absurd cc
clients-of (OrderRequest v q p) u is = absurd cc
clients-of (SendOrder v previous count) u is = absurd cc
clients-of (Confirm v o k) u is = absurd cc
clients-of (Take v o i k) u is = absurd cc
clients-of (Acknowledge v m) u is = absurd cc
clients-of (CommitByCount v m) u is = absurd cc
clients-of (CommitByOrder v o m) u is = absurd cc
clients-of (CommitByAggregate v a m) u is = absurd cc
clients-of (Apply v) u is = absurd cc
clients-of (Answer v index payload) u is = absurd cc
clients-of (AnswerAgain v r e) u is = absurd cc
clients-of (AskBody v rid) u is = absurd cc
clients-of (GiveBody v rid) u is = absurd cc
clients-of (Yield v o) u is = absurd cc
clients-of (NoteReport v a) u is = absurd cc
clients-of (NoteOwnReport v) u is = absurd cc
clients-of (NoteAck v a) u is = absurd cc
clients-of (Hold v rids) u is = absurd cc
clients-of (Refuse v) u is = absurd cc
clients-of (RejectOrder v hint) u is = absurd cc
clients-of (Crash v) u is = absurd cc
clients-of (Restart v) u is = absurd cc
clients-of (Aggregate o m) u is = absurd cc
clients-of (Follow o) u is = absurd cc
clients-of (NoteOrder o) u is = absurd cc
clients-of (Collect a) u is = absurd cc
clients-of Forget u is = absurd cc
clients-of (SendRequest q) u is = tt

all-others : (by : Maker) (rules : List Rule) (u : ℕ) → ((r : Rule) → maker r ≡ by → IsOther u r) → AreBy by rules → AreOthers u rules
all-others by [] u of own = tt
all-others by (r ∷ more) u of own = (of r own.0, all-others by more u of own.1)

tally-left : (w : ProtocolState) (r : Rule) (v : ℕ) → maker r ≡ ByMember v → (after w r).aggregator ≡ w.aggregator
tally-left w (Follow o) v is = absurd cc
tally-left w (NoteOrder o) v is = absurd cc
tally-left w (Collect a) v is = absurd cc
tally-left w Forget v is = absurd cc
tally-left w r v is = refl

tallies-left : (w : ProtocolState) (rules : List Rule) (v : ℕ) → AreBy (ByMember v) rules → (after_rules w rules).aggregator ≡ w.aggregator
tallies-left w [] v own = refl
tallies-left w (r ∷ more) v own = tallies-left (after w r) more v own.1 ∙ tally-left w r v own.0

tally-clients : (w : ProtocolState) (r : Rule) → maker r ≡ ByClient → (after w r).aggregator ≡ w.aggregator
tally-clients w (Follow o) is = absurd cc
tally-clients w (NoteOrder o) is = absurd cc
tally-clients w (Collect a) is = absurd cc
tally-clients w Forget is = absurd cc
tally-clients w r is = refl

tallies-clients : (w : ProtocolState) (rules : List Rule) → AreBy ByClient rules → (after_rules w rules).aggregator ≡ w.aggregator
tallies-clients w [] own = refl
tallies-clients w (r ∷ more) own = tallies-clients (after w r) more own.1 ∙ tally-clients w r own.0

table-aggregators : (w : ProtocolState) (r : Rule) → maker r ≡ ByAggregator → (after w r).table ≡ w.table
table-aggregators w (SendRequest q) is = absurd cc
table-aggregators w r is = refl

tables-aggregators : (w : ProtocolState) (rules : List Rule) → AreBy ByAggregator rules → (after_rules w rules).table ≡ w.table
tables-aggregators w [] own = refl
tables-aggregators w (r ∷ more) own = tables-aggregators (after w r) more own.1 ∙ table-aggregators w r own.0

-- Reports --

-- reports to one leader are no other's
reports-left : (w : ProtocolState) (r : Rule) (u t p : ℕ) → IsOther u r → reported (after w r).reports u t p ≡ reported w.reports u t p
reports-left w (NoteReport v a) u t p other = rw (ne_eqb u v other) refl
reports-left w (NoteOwnReport v) u t p other = rw (ne_eqb u v other) refl
reports-left w r u t p other = refl

all-reports-left : (w : ProtocolState) (rules : List Rule) (u t p : ℕ) → AreOthers u rules → reported (after_rules w rules).reports u t p ≡ reported w.reports u t p
all-reports-left w [] u t p others = refl
all-reports-left w (r ∷ more) u t p others = all-reports-left (after w r) more u t p others.1 ∙ reports-left w r u t p others.0

led-other : (before now : List Report) (u : ℕ) (n : Member) → ((t p : ℕ) → reported now u t p ≡ reported before u t p) → IsLed before u n → IsLed now u n
led-other before now u n same led role =
    let was = led role in (
      was.0,
      λ p. subst (λ (b : ℕ). IsAmong (indexes_of (is_to n.term p) b (drop b (metas_of n.log))) (row_at n.lead.queues p).given) (sym (same n.term p)) (was.1 p),
    )

-- What only grows --

module _ (w x : ProtocolState) (grows : Grows w x) where
  -- a request of the table stays one
  pub requests-stay : (q : Request) → In q w.table → In q x.table
  requests-stay q there =
      let table = grows.table in subst (λ (t : List Request). In q t) (sym table.1) (in_behind q w.table table.0 there)

  pub stored-stays : (y : Stored) → IsStoredOf w.table y → IsStoredOf x.table y
  stored-stays y is asks = requests-stay _ (is asks)

  asked-stays : (y : PoolRequest) → IsAskedIn w.table y → IsAskedIn x.table y
  asked-stays y is = requests-stay _ is

  pub replied-stays : (y : KeptReply) → WasReplied w.replied y → WasReplied x.replied y
  replied-stays y was = record { place = was.place; made = grows.replied _ was.made }

  parts-stay : (m : Unfinished) → HasTablesParts w.table m → HasTablesParts x.table m
  parts-stay m has = record { request = has.request; sent = requests-stay has.request has.sent; named = has.named; parts = has.parts; waits = has.waits }

  known-stays : (rid : Rid) → IsKnown w.table rid → IsKnown x.table rid
  known-stays rid known = record { request = known.request; sent = requests-stay known.request known.sent; named = known.named }

  about-stays : (rid : Rid) (m : Msg) → IsAbout w.table rid m → IsAbout x.table rid m
  about-stays rid (RecoverAsk a) about = known-stays rid about
  about-stays rid (RecoverBody a b) about = requests-stay _ about
  about-stays rid (VoteReq a b c d) about = absurd about
  about-stays rid (Vote a b c) about = absurd about
  about-stays rid (Order a b c d e f g h) about = absurd about
  about-stays rid (Ack a b c d) about = absurd about
  about-stays rid (Nack a b c) about = absurd about
  about-stays rid (AggCommit a b) about = absurd about

  -- a datagram that was sent stays so
  pub datagrams-stay : (members : List Addr) → KeepsDatagrams members w x
  datagrams-stay members d (inl is) = inl (record { request = is.request; sent = requests-stay is.request is.sent; part = is.part })
  datagrams-stay members d (inr (inl is)) =
      inr (inl (record { message = is.message; valid = is.valid; fits = is.fits; same = is.same; sent = sent-grows members w x grows d.to is.message is.sent }))
  datagrams-stay members d (inr (inr (inl is))) =
      inr (inr (inl (record { rid = is.rid; message = is.message; valid = is.valid; about = about-stays is.rid is.message is.about; part = is.part })))
  datagrams-stay members d (inr (inr (inr is))) =
      inr (inr (inr (record { reply = is.reply; right = is.right; fits = is.fits; made = replied-stays is.reply is.made; part = is.part })))

  -- what a member holds stays known
  pub holds-stay : (v : ℕ) (n : Member) → ((t p : ℕ) → reported x.reports v t p ≡ reported w.reports v t p) → Holds w.table w.replied w.reports v n → Holds x.table x.replied x.reports v n
  holds-stay v n same holds =
      record {
        bodies = All-weaker (IsStoredOf w.table) (IsStoredOf x.table) stored-stays n.log holds.bodies;
        pool = All-weaker (IsAskedIn w.table) (IsAskedIn x.table) asked-stays n.pool holds.pool;
        kept = All-weaker (WasReplied w.replied) (WasReplied x.replied) replied-stays n.kept holds.kept;
        led = led-other w.reports x.reports v n same holds.led;
        unfinished = All-weaker (HasTablesParts w.table) (HasTablesParts x.table) parts-stay n.unfinished holds.unfinished;
      }

  module _ (s : Setup) (group : IsSameGroup w x) (same : member_of x s.me ≡ member_of w s.me) (told : (t p : ℕ) → reported x.reports s.me t p ≡ reported w.reports s.me t p) where
    member-stays : (n : Member) → IsShown s w n → IsShown s x n
    member-stays n shown =
        let old = shown.group in
        record {
          group = record { size = group.size ∙ old.size; bound = λ p. ap (λ (f : ℕ → ℕ). f p) group.bound ∙ old.bound p };
          tied = subst (λ (y : MemberOf). IsTied y n) (sym same) shown.tied;
          sound = shown.sound;
          holds = holds-stay s.me n told shown.holds;
        }

    shows-stays : (journal : List Record) (n : Option Member) → ShowsMember s w journal n → ShowsMember s x journal n
    shows-stays journal (Some n) shown = (member-stays n shown.0, shown.1)
    shows-stays journal None down = subst (λ (y : MemberOf). IsTiedDown y (replay journal)) (sym same) down

    spares-member : SparesMember s w x
    spares-member =
        record {
          same = same;
          shown = member-stays;
          place = λ r shown.
              record {
                history = shown.history;
                bodies = All-weaker (IsStoredOf w.table) (IsStoredOf x.table) stored-stays (replay r.journal).log shown.bodies;
                member = shows-stays r.journal r.member shown.member;
              };
        }

-- Lists of steps --

-- steps of others spare a member
pub others-spare : (s : Setup) (w : ProtocolState) (rules : List Rule) → Kept w → AllAllowed w rules → AreOthers s.me rules → SparesMember s w (after_rules w rules)
others-spare s w rules kept allowed others =
    spares-member w (after_rules w rules) (rules_only_add w rules kept allowed) s (same_group w rules) (rules_spare w rules s.me others) (λ t p. all-reports-left w rules s.me t p others)

pub members_spare : MembersSpareOthers
members_spare s w rules kept own allowed =
    record {
      others = λ u apart. others-spare (record s { me = u }) w rules kept allowed (others-of rules s.me u apart own);
      aggregator = tallies-left w rules s.me own;
      table = leave-table w rules s.me own;
      datagrams = datagrams-stay w (after_rules w rules) (rules_only_add w rules kept allowed) s.members;
    }

pub turns_spare : TurnsSpareOthers
turns_spare s w m e kept turn = let are = turn.are in members_spare s w turn.rules kept are.own are.allowed

pub aggregators_spare : AggregatorsSpareMembers
aggregators_spare s w rules kept own allowed = (
  record {
    members = λ u. others-spare (record s { me = u }) w rules kept allowed (all-others ByAggregator rules u (λ r is. aggregators-of r u is) own);
    datagrams = datagrams-stay w (after_rules w rules) (rules_only_add w rules kept allowed) s.members;
  },
  tables-aggregators w rules own,
)

pub clients_spare : ClientsSpareMembers
clients_spare s w rules kept own allowed = (
  record {
    members = λ u. others-spare (record s { me = u }) w rules kept allowed (all-others ByClient rules u (λ r is. clients-of r u is) own);
    datagrams = datagrams-stay w (after_rules w rules) (rules_only_add w rules kept allowed) s.members;
  },
  tallies-clients w rules own,
)
