-- A world that shows a run shows the run that goes on.
use Rattle.std.proofs.Common.{◌≡◌, ℕ, ◌<◌, Bool, true, false, List, [], ◌∷◌, ◌++◌, length, Option, None, Some, refl, sym, ap, subst, ◌∙◌, arith, inl, inr, length-append}
use Rattle.std.specs.Prelude.{◌⊎◌, IfSome, if◌then◌else◌, slice_get}
use Rattle.std.proofs.lemmas.List.Sums.{fold-append}
use Rattle.r2_base.specs.declared.datagram.Datagram.{Datagram}
use Rattle.r2_base.specs.declared.entry.Kind.{Kind}
use Rattle.r2_base.specs.declared.event.Event.{Event}
use Rattle.r2_base.specs.declared.event.Event.TheVariants as event
use Rattle.r2_base.specs.declared.rid.Rid.{Rid}
use Rattle.r2_base.specs.Limits.{id_limit}
use Rattle.hc_member.specs.Member.{Member as MemberState}
use Rattle.hc_member.specs.Turn.{turned}
use Rattle.hc_rules.specs.Log.{In}
use Rattle.hc_rules.specs.Message.{Request}
use Rattle.hc_run.specs.Group.{Group, Receiver, Member, Aggregator, Outside, receiver_at, setup_of}
use Rattle.hc_run.specs.State.{GroupState, beginning, journal_at, member_at}
use Rattle.hc_run.specs.Events as group
use Rattle.hc_run.specs.Events.{GroupEvent, IsDeliverable, MayCrashInTurn, WasSentTo as WasSentThere, CanReceive}
use Rattle.hc_run.specs.Steps as steps
use Rattle.hc_run.specs.Steps.{step}
use Rattle.hc_run.specs.Runs.{ArePossible, IsRun, after_events, run}
use Rattle.hc_world.specs.declared.event.WorldEvent.{WorldEvent}
use Rattle.hc_world.specs.declared.event.WorldEvent.TheVariants.{ClientSend, Deliver, Tick, Quiet, Crash, Restart, CrashInTurn, Forget}
use Rattle.hc_world.specs.Events.{MayHappen, MaySend, MayTake, WasSentTo, event_of, events_of, request_at, sent_after}
use Rattle.hc_world.specs.Notes.{capped}
use Rattle.hc_world.specs.Runs.{ShowsRun, run_of}
use Rattle.hc_world.specs.Seen.{Seen, seen}
use Rattle.hc_world.specs.Steps.{seen_after}
use Rattle.hc_world.proofs.Exact.{seen-step}
use Rattle.hc_world.proofs.Numbers.{capped-small}

-- Events of the world as those of the group --

-- how many requests were sent
abbrev pub sent_all : ℕ → List WorldEvent → ℕ
sent_all sent [] = sent
sent_all sent (e ∷ more) = sent_all (sent_after sent e) more

pub events-append : (sent : ℕ) (events more : List WorldEvent) → events_of sent (events ++ more) ≡ events_of sent events ++ events_of (sent_all sent events) more
events-append sent [] more = refl
events-append sent (x ∷ events) more = ap (λ (rest : List GroupEvent). event_of sent x ∷ rest) (events-append (sent_after sent x) events more)

-- The table --

table-where : (found : Option MemberState) (does : MemberState → GroupState → GroupState) (s : GroupState) → ((m : MemberState) → (does m s).table ≡ s.table) → (steps.where_up found does s).table ≡ s.table
table-where (Some m) does s each = each m
table-where None does s each = refl

table-turn : (g : Group) (v : ℕ) (e : Event) (m : MemberState) (s : GroupState) → (steps.makes_turn g v e m s).table ≡ s.table
unfolding steps.makes_turn steps.with_sent steps.with_heard steps.with_finished
table-turn g v e m s = refl

table-within : (g : Group) (v : ℕ) (e : Event) (kept : Bool) (m : MemberState) (s : GroupState) → (steps.crashes_in_turn g v e kept m s).table ≡ s.table
unfolding steps.crashes_in_turn steps.with_heard steps.with_finished
table-within g v e kept m s = by (steps.lasts kept (turned (setup_of g v) m e).stored)
  where
    by : (b : Bool) → (if b then steps.crashes (steps.stops v (steps.with_stored (journal_at s v) (turned (setup_of g v) m e).stored) (steps.with_facts g v m e s))
        else steps.crashes (steps.stops v (journal_at s v) (steps.with_finished g v m s))).table ≡ s.table
    by true = refl
    by false = refl

table-comes : (g : Group) (to : Receiver) (d : Datagram) (s : GroupState) → (steps.comes_to g to d s).table ≡ s.table
table-comes g (Member v) d s = table-where (member_at s v) (steps.makes_turn g v (event.Datagram d)) s (λ m. table-turn g v (event.Datagram d) m s)
table-comes g Aggregator d s = refl
table-comes g Outside d s = refl

table-delivered : (g : Group) (packet : Option Datagram) (s : GroupState) → (steps.delivered g packet s).table ≡ s.table
table-delivered g (Some d) s = table-comes g (receiver_at g d.to) d s
table-delivered g None s = refl

-- the table after an event
abbrev table_after : List Request → ℕ → WorldEvent → List Request
table_after table sent (ClientSend kind body) = table ++ request_at sent kind body ∷ []
table_after table sent _ = table

table-step : (g : Group) (s : GroupState) (sent : ℕ) (e : WorldEvent) → (step g s (event_of sent e)).table ≡ table_after s.table sent e
unfolding step steps.asked
table-step g s sent (ClientSend kind body) = refl
table-step g s sent (Deliver packet) = table-delivered g (slice_get s.datagrams packet) s
table-step g s sent (Tick v) = table-where (member_at s v) (steps.makes_turn g v event.Tick) s (λ m. table-turn g v event.Tick m s)
table-step g s sent (Quiet v) = table-where (member_at s v) (steps.makes_turn g v event.Quiet) s (λ m. table-turn g v event.Quiet m s)
table-step g s sent (Crash v) = table-where (member_at s v) (λ m s. steps.crashes (steps.stops v (journal_at s v) s)) s (λ m. refl)
table-step g s sent (Restart v) = refl
table-step g s sent (CrashInTurn v packet kept) =
    table-where (member_at s v) (steps.crashes_in_turn g v (steps.event_of (steps.packet_at s packet)) kept) s (λ m. table-within g v (steps.event_of (steps.packet_at s packet)) kept m s)
table-step g s sent Forget = refl

-- the client numbered its requests from 0
pub record IsNumbered (table : List Request) (sent : ℕ) : Type 0 where
  pub size : length table ≡ sent
  pub below : (q : Request) → In q table → q.rid.id < sent

in-push : (table : List Request) (x q : Request) → In q (table ++ x ∷ []) → In q table ⊎ (q ≡ x)
in-push [] x q (inl same) = inr same
in-push [] x q (inr none) = absurd none
in-push (y ∷ table) x q (inl same) = inl (inl same)
in-push (y ∷ table) x q (inr there) = elim (in-push table x q there) [ inl before ↦ inl (inr before) | inr same ↦ inr same ]

numbered-after : (table : List Request) (sent : ℕ) (e : WorldEvent) → IsNumbered table sent → IsNumbered (table_after table sent e) (sent_after sent e)
numbered-after table sent (ClientSend kind body) is =
    let size = is.size in
    let long = length-append table (request_at sent kind body ∷ []) in
    record {
      size = omega (arith, size, long);
      below = λ q there.
          elim (in-push table (request_at sent kind body) q there) [
            | inl before ↦ (let less = is.below q before in omega (arith, less))
            | inr same ↦ (let id = ap (λ (x : Request). x.rid.id) same in omega (arith, id))
          ];
    }
numbered-after table sent (Deliver packet) is = is
numbered-after table sent (Tick v) is = is
numbered-after table sent (Quiet v) is = is
numbered-after table sent (Crash v) is = is
numbered-after table sent (Restart v) is = is
numbered-after table sent (CrashInTurn v packet kept) is = is
numbered-after table sent Forget is = is

pub numbered-events : (g : Group) (s : GroupState) (sent : ℕ) (events : List WorldEvent) → IsNumbered s.table sent → IsNumbered (after_events g s (events_of sent events)).table (sent_all sent events)
numbered-events g s sent [] is = is
numbered-events g s sent (e ∷ more) is =
    numbered-events g (step g s (event_of sent e)) (sent_after sent e) more
    (subst (λ (t : List Request). IsNumbered t (sent_after sent e)) (sym (table-step g s sent e)) (numbered-after s.table sent e is))

pub numbered-run : (g : Group) (events : List WorldEvent) → IsNumbered (run_of g events).table (sent_all 0 events)
numbered-run g events = numbered-events g (beginning g) 0 events (record { size = refl; below = λ q none. absurd none })

-- What is possible --

sent-there : (g : Group) (s : GroupState) (packet : ℕ) (to : Receiver) → WasSentTo (seen g s) packet to → WasSentThere g s packet to
unfolding seen
sent-there g s packet to was = record { datagram = was.datagram; sent = was.sent; to = was.to }

takes-there : (g : Group) (s : GroupState) (to : Receiver) → MayTake (seen g s) to → CanReceive s to
unfolding seen
takes-there g s (Member v) takes = takes
takes-there g s Aggregator takes = takes
takes-there g s Outside takes = takes

all-sent : (g : Group) (s : GroupState) (v : ℕ) (packet : Option ℕ) → IfSome packet (λ number. WasSentTo (seen g s) number (Member v)) → IfSome packet (λ number. WasSentThere g s number (Member v))
all-sent g s v (Some number) was = sent-there g s number (Member v) was
all-sent g s v None was = tt

-- what may happen where a state is seen is possible in it
pub possible-there : (g : Group) (s : GroupState) (sent : ℕ) (e : WorldEvent) → IsNumbered s.table sent → MayHappen (seen g s) e → group.IsPossible g s (event_of sent e)
unfolding seen
possible-there g s sent (ClientSend kind body) is may =
    let size = is.size in
    let left = may.left in
    record {
      fits = record { id = small sent (length s.table) size left; client = record { ip = omega arith; port = omega arith } };
      fresh = λ known.
          (let below = is.below known.request known.sent in
          let id = ap (λ (r : Rid). r.id) known.named in
          absurd (omega (arith, below, id)));
      asks = may.asks;
      short = may.short;
      bytes = may.bytes;
    }
  where
    small : (sent size : ℕ) → size ≡ sent → capped size < id_limit → sent < id_limit
    small sent size same less = (let n = capped-small size id_limit (omega arith) less in omega (arith, n, same, less))
possible-there g s sent (Deliver packet) is may =
    record { receiver = may.receiver; sent = sent-there g s packet may.receiver may.sent; takes = takes-there g s may.receiver may.takes }
possible-there g s sent (Tick v) is may = may
possible-there g s sent (Quiet v) is may = may
possible-there g s sent (Crash v) is may = may
possible-there g s sent (Restart v) is may = record { member = may.member; down = may.down }
possible-there g s sent (CrashInTurn v packet kept) is may = record { runs = may.runs; sent = all-sent g s v packet may.sent }
possible-there g s sent Forget is may = may

-- the requests that are seen
requests-there : (g : Group) (s : GroupState) (sent : ℕ) (kind : Kind) (body : List ℕ) → IsNumbered s.table sent → MaySend (seen g s) kind body → sent ≡ (seen g s).requests
unfolding seen
requests-there g s sent kind body is may = sym is.size ∙ sym (capped-small (length s.table) id_limit (omega arith) may.left)

-- an event makes of what is seen what it makes of the state
step-there : (g : Group) (s : GroupState) (sent : ℕ) (e : WorldEvent) → IsNumbered s.table sent → MayHappen (seen g s) e → seen g (step g s (event_of sent e)) ≡ seen_after (seen g s) e
step-there g s sent (ClientSend kind body) is may = seen-step g (ClientSend kind body) sent s (requests-there g s sent kind body is may)
step-there g s sent (Deliver packet) is may = seen-step g (Deliver packet) (seen g s).requests s refl
step-there g s sent (Tick v) is may = seen-step g (Tick v) (seen g s).requests s refl
step-there g s sent (Quiet v) is may = seen-step g (Quiet v) (seen g s).requests s refl
step-there g s sent (Crash v) is may = seen-step g (Crash v) (seen g s).requests s refl
step-there g s sent (Restart v) is may = seen-step g (Restart v) (seen g s).requests s refl
step-there g s sent (CrashInTurn v packet kept) is may = seen-step g (CrashInTurn v packet kept) (seen g s).requests s refl
step-there g s sent Forget is may = seen-step g Forget (seen g s).requests s refl

-- Runs --

possible-more : (g : Group) (s : GroupState) (events : List GroupEvent) (e : GroupEvent) → ArePossible g s events → group.IsPossible g (after_events g s events) e → ArePossible g s (events ++ e ∷ [])
possible-more g s [] e may later = (later, tt)
possible-more g s (x ∷ events) e may later = (may.0, possible-more g (step g s x) events e may.1 later)

pub shows-more : (g : Group) (events : List WorldEvent) (e : WorldEvent) (w : Seen) (world new : Option Seen) → ShowsRun g events world → world ≡ Some w → MayHappen w e → new ≡ Some (seen_after w e)
    → ShowsRun g (events ++ e ∷ []) new
shows-more g events e w world new shows here may after =
    let s = run_of g events in
    let sent = sent_all 0 events in
    let numbered = numbered-run g events in
    let same : w ≡ seen g s = some_is _ _ _ here shows.seen in
    let may_there : MayHappen (seen g s) e = subst (λ (x : Seen). MayHappen x e) same may in
    let may_group = possible-there g s sent e numbered may_there in
    let list = events-append 0 events (e ∷ []) in
    let longer : run_of g (events ++ e ∷ []) ≡ step g s (event_of sent e) =
    ap (run g) list ∙ fold-append (step g) (beginning g) (events_of 0 events) (event_of sent e ∷ []) in
    let possible = shows.possible in
    record {
      possible =
          subst (λ (es : List GroupEvent). IsRun g es) (sym list)
          (record { possible = possible-more g (beginning g) (events_of 0 events) (event_of sent e) possible.possible may_group });
      seen =
          after ∙ ap (λ (x : Seen). Some (seen_after x e)) same ∙ ap Some (sym (step-there g s sent e numbered may_there)) ∙ ap (λ (x : GroupState). Some (seen g x)) (sym longer);
    }
  where
    some_is : (o : Option Seen) (a b : Seen) → o ≡ Some a → o ≡ Some b → a ≡ b
    some_is o a b e f = cc
