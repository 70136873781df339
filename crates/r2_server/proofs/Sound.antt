-- A turn leaves a sound server sound.
use Rattle.std.proofs.Common.{◌≡◌, ◌≤◌, ◌<◌, ◌+◌, ℕ, true, List, [], ◌∷◌, drop, length, Option, Some, None, refl, subst, ap, arith}
use Rattle.std.specs.Prelude.{Result, Ok, Err}
use Rattle.r2_base.specs.Limits.{most_body}
use Rattle.r2_base.specs.declared.addr.Addr.{Addr}
use Rattle.r2_base.specs.declared.datagram.Datagram.{Datagram}
use Rattle.r2_base.specs.declared.entry.Kind.TheVariants.{Write}
use Rattle.r2_base.specs.declared.event.Event.{Event}
use Rattle.r2_base.specs.declared.event.Event.TheVariants.{Datagram as DatagramEvent, Tick, Quiet}
use Rattle.r2_header.specs.declared.header.Header.{Header}
use Rattle.r2_header.specs.declared.header_fault.HeaderFault.{HeaderFault}
use Rattle.r2_header.specs.declared.packet.Packet.{Packet}
use Rattle.r2_header.specs.declared.packet.Packet.TheVariants as packet
use Rattle.r2_header.specs.Policy.{jbsq}
use Rattle.r2_header.specs.Reading.{header_at}
use Rattle.r2_header.proofs.Begun.{read_is_valid}
use Rattle.r2_frag.specs.declared.added.Added.{Added}
use Rattle.r2_frag.specs.declared.added.Added.TheVariants.{Bad, Dropped, More, Repeat, Whole}
use Rattle.r2_frag.specs.declared.class.Class.{Class}
use Rattle.r2_frag.specs.declared.class.Class.TheVariants.{Request}
use Rattle.r2_frag.specs.declared.kept.KeptReply.{KeptReply}
use Rattle.r2_frag.specs.declared.key.Key.{Key}
use Rattle.r2_frag.specs.declared.unfinished.Unfinished.{Unfinished}
use Rattle.r2_frag.specs.Assembly.{added, without}
use Rattle.r2_frag.specs.Keys.{key_at}
use Rattle.r2_frag.specs.Kept.{newest}
use Rattle.r2_frag.specs.Pending.{ArePending}
use Rattle.r2_frag.specs.Replies.{IsReply}
use Rattle.r2_frag.specs.Sizes.{IsBodyWithin}
use Rattle.r2_frag.proofs.Pending.{pending-added, pending-none, pending-without}
use Rattle.r2_frag.proofs.Sizes.{added-short}
use Rattle.hc_store.specs.Service.{serve}
use Rattle.hc_store.proofs.Short.{no_values, payload_short, served_short}
use Rattle.r2_server.specs.declared.timers.Timer.{Timer}
use Rattle.r2_server.specs.Sound.{CanServe, HadTurns, IsPartOfRequest, IsSound, IsSoundWithin, turn_limit}
use Rattle.r2_server.specs.Laws.{StaysWithinLimits}
use Rattle.r2_server.specs.State.{ServerState, begin}
use Rattle.r2_server.specs.Timers.{due, given_up, key_for}
use Rattle.r2_server.specs.Turn.{answered, by_answer, first_part, is_taken, part_added, part_taken, received, received_as, received_part, repeated, replied, ticked, turned, turned_all, turned_by, unchanged}
use Rattle.r2_server.proofs.Choices.{branch}
use Rattle.r2_server.proofs.KeptReplies.{kept_with-few, kept_with-is}
use Rattle.r2_server.proofs.Taken.{taken}

-- a new server
pub begin_sound : (me : Addr) (router : Option Addr) → IsSound (begin me router)
begin_sound me router =
    record {
      most_kept = omega arith;
      kept = λ k d h. absurd (omega arith);
      unfinished = pending-none;
      contents = no_values;
      writes = omega arith;
      ticks = omega arith;
    }

-- a sound server can serve a request
pub can_serve : (s : ServerState) → IsSound s → s.turns < turn_limit → CanServe s
can_serve s is h = record { kept = is.kept; contents = is.contents; writes = omega (arith, is.writes, h) }

module _ (n : ℕ) where
  same : (s : ServerState) → IsSoundWithin n s → IsSoundWithin (n + 1) s
  same s is =
      record {
        most_kept = is.most_kept;
        kept = is.kept;
        unfinished = is.unfinished;
        contents = is.contents;
        writes = omega (arith, is.writes);
        ticks = omega (arith, is.ticks);
      }

  -- how requests age is no matter
  aged : (s : ServerState) (timers : List Timer) → IsSoundWithin n s → IsSoundWithin n (record s { timers = timers })
  aged s timers is =
      record {
        most_kept = is.most_kept;
        kept = is.kept;
        unfinished = is.unfinished;
        contents = is.contents;
        writes = is.writes;
        ticks = is.ticks;
      }

  repeated_sound : (s : ServerState) (key : Key) (reply : KeptReply) → IsSoundWithin n s → IsSoundWithin (n + 1) (repeated s key reply).server
  unfolding repeated
  repeated_sound s key reply is = same s is

  replied_sound : (s : ServerState) (key : Key) (body : List ℕ) → IsSoundWithin n s → key.policy ≤ jbsq → length body ≤ most_body
      → IsSoundWithin (n + 1) (replied s key (serve s.service.contents Write body)).server
  unfolding replied
  replied_sound s key body is policy short =
      let served = served_short s.service.contents Write body is.contents short in
      record {
        most_kept = kept_with-few s.kept _;
        kept = kept_with-is IsReply s.kept _ is.kept (record { policy = omega (arith, policy); payload = payload_short _ _ _ served.value });
        unfinished = is.unfinished;
        contents = served.contents;
        writes = omega (arith, is.writes);
        ticks = omega (arith, is.ticks);
      }

  answered_sound : (s : ServerState) (key : Key) (body : List ℕ) (o : Option KeptReply) → IsSoundWithin n s → key.policy ≤ jbsq → length body ≤ most_body
      → IsSoundWithin (n + 1) (answered s key body o).server
  answered_sound s key body None is policy short = replied_sound s key body is policy short
  answered_sound s key body (Some reply) is policy short = repeated_sound s key reply is

  by_answer_sound : (s : ServerState) (type : Packet) (key : Key) (a : Added) → IsSoundWithin n s → key.policy ≤ jbsq → IsBodyWithin Request a
      → IsSoundWithin (n + 1) (by_answer s type key a).server
  by_answer_sound s type key More is policy short = same _ (aged s _ is)
  by_answer_sound s type key Repeat is policy short = same s is
  by_answer_sound s type key (Dropped oldest) is policy short = same _ (aged s _ is)
  by_answer_sound s type key (Whole body) is policy short = answered_sound _ key body (newest key.rid s.kept) (aged s _ is) policy short
  by_answer_sound s type key (Bad why) is policy short = same s is

  part_added_sound : (s : ServerState) (h : Header) (payload : List ℕ) (key : Key) → IsSoundWithin n s → IsPartOfRequest h key
      → IsSoundWithin (n + 1) (part_added s h payload key).server
  unfolding part_added
  part_added_sound s h payload key is part =
      by_answer_sound (record s { unfinished = (added s.unfinished key h payload).1 }) h.packet key (added s.unfinished key h payload).0
      (record {
        most_kept = is.most_kept;
        kept = is.kept;
        unfinished = pending-added s.unfinished key h payload is.unfinished part.valid part.class;
        contents = is.contents;
        writes = is.writes;
        ticks = is.ticks;
      })
      part.policy (subst (λ (c : Class). IsBodyWithin c (added s.unfinished key h payload).0) part.request (added-short s.unfinished key h payload is.unfinished.short part.valid part.class).answer)

  first_part_sound : (s : ServerState) (h : Header) (payload : List ℕ) (key : Key) (o : Option KeptReply) → IsSoundWithin n s → IsPartOfRequest h key
      → IsSoundWithin (n + 1) (first_part s h payload key o).server
  first_part_sound s h payload key None is part = part_added_sound s h payload key is part
  first_part_sound s h payload key (Some reply) is part = repeated_sound s key reply is

  part_taken_sound : (s : ServerState) (h : Header) (payload : List ℕ) (key : Key) (type : Packet) → IsSoundWithin n s → IsPartOfRequest h key
      → IsSoundWithin (n + 1) (part_taken s h payload key type).server
  part_taken_sound s h payload key packet.Req0 is part = first_part_sound s h payload key (newest key.rid s.kept) is part
  part_taken_sound s h payload key packet.ReqN is part = part_added_sound s h payload key is part
  part_taken_sound s h payload key packet.Reply is part = part_added_sound s h payload key is part
  part_taken_sound s h payload key packet.ReqRdy is part = part_added_sound s h payload key is part
  part_taken_sound s h payload key packet.Feedback is part = part_added_sound s h payload key is part
  part_taken_sound s h payload key packet.Reject is part = part_added_sound s h payload key is part
  part_taken_sound s h payload key packet.Ordering is part = part_added_sound s h payload key is part
  part_taken_sound s h payload key packet.Recover is part = part_added_sound s h payload key is part

  received_part_sound : (s : ServerState) (from : Addr) (h : Header) (payload : List ℕ) (o : Option Key) → IsSoundWithin n s
      → ((key : Key) → o ≡ Some key → is_taken s.router from h h.packet ≡ true → IsPartOfRequest h key) → IsSoundWithin (n + 1) (received_part s from h payload o).server
  received_part_sound s from h payload None is part = same s is
  received_part_sound s from h payload (Some key) is part =
      branch (λ t. IsSoundWithin (n + 1) t.server) (is_taken s.router from h h.packet) (part_taken s h payload key h.packet) (unchanged s)
      (λ e. part_taken_sound s h payload key h.packet is (part key refl e)) (λ e. same s is)

  received_as_sound : (s : ServerState) (d : Datagram) (r : Result (Header × ℕ) HeaderFault) → IsSoundWithin n s → header_at d.bytes ≡ r
      → IsSoundWithin (n + 1) (received_as s d r).server
  received_as_sound s d (Err fault) is e = same s is
  received_as_sound s d (Ok (h, size)) is e =
      received_part_sound s d.from h (drop size d.bytes) (key_at d.from d.to h) is
      (λ key f t. taken s.router d.from d.to h key (read_is_valid h size d.bytes e) f t)

  received_sound : (s : ServerState) (d : Datagram) → IsSoundWithin n s → IsSoundWithin (n + 1) (received s d).server
  unfolding received
  received_sound s d is = received_as_sound s d (header_at d.bytes) is refl

given_up_pending : (late : List Timer) (messages : List Unfinished) → ArePending messages → ArePending (given_up late messages)
unfolding given_up
given_up_pending [] messages all = all
given_up_pending (t ∷ late) messages all = given_up_pending late (without (key_for t.rid) messages) (pending-without (key_for t.rid) messages all)

ticked_sound : (n : ℕ) (s : ServerState) → IsSoundWithin n s → IsSoundWithin (n + 1) (ticked s).server
unfolding ticked
ticked_sound n s is =
    record {
      most_kept = is.most_kept;
      kept = is.kept;
      unfinished = given_up_pending (due (s.ticks + 1) s.timers) s.unfinished is.unfinished;
      contents = is.contents;
      writes = omega (arith, is.writes);
      ticks = omega (arith, is.ticks);
    }

turned_by_sound : (n : ℕ) (s : ServerState) (event : Event) → IsSoundWithin n s → IsSoundWithin (n + 1) (turned_by s event).server
turned_by_sound n s (DatagramEvent d) is = received_sound n s d is
turned_by_sound n s Tick is = ticked_sound n s is
turned_by_sound n s Quiet is = same n s is

pub turned_sound : (s : ServerState) (event : Event) → IsSound s → IsSound (turned s event).server
unfolding turned
turned_sound s event is =
    let next = turned_by_sound s.turns s event is in
    record {
      most_kept = next.most_kept;
      kept = next.kept;
      unfinished = next.unfinished;
      contents = next.contents;
      writes = next.writes;
      ticks = next.ticks;
    }

-- and so do the turns of a list of events
pub turned_all_sound : (s : ServerState) (events : List Event) → IsSound s → IsSound (turned_all s events).server
unfolding turned_all
turned_all_sound s [] is = is
turned_all_sound s (event ∷ more) is = turned_all_sound (turned s event).server more (turned_sound s event is)

-- one turn is counted
pub one_turn : (s : ServerState) (event : Event) (before : Option ServerState) (n : ℕ) → Some s ≡ before → HadTurns n before → (turned s event).server.turns ≤ n + 1
unfolding turned
one_turn s event None n e h = absurd h
one_turn s event (Some t) n e h = let same : s ≡ t = cc in let turns = ap (λ (x : ServerState). x.turns) same in omega (arith, h, turns)

pub limits : StaysWithinLimits
limits me router events =
    let is = turned_all_sound (begin me router) events (begin_sound me router) in
    record { kept = is.most_kept; unfinished = is.unfinished.most }
