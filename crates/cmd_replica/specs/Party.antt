-- A replica as the party of a loop: what it runs, what is left for it to apply, and what its halves of a turn make of it.
use Rattle.std.specs.Prelude.{◌≡◌, ◌-◌, ◌≤◌, List, [], ◌∷◌, ◌++◌, Option, Some, None, Result, IfOk, refl}
use Rattle.std.proofs.Common.{sym, ap, ◌∙◌, subst, append-nil}
use Rattle.std.proofs.lemmas.List.Sums.{fold_push}
use Rattle.r2_base.specs.declared.datagram.Datagram.{Datagram}
use Rattle.r2_base.specs.declared.event.Event.{Event}
use Rattle.r2_base.specs.declared.fault.NoMemory.{NoMemory}
use Rattle.hc_log.specs.declared.record.Record.{Record}
use Rattle.hc_member.specs.declared.setup.Setup.{Setup}
use Rattle.hc_member.specs.Finish.{finished}
use Rattle.hc_member.specs.Laws.{IsStored}
use Rattle.hc_member.specs.Member.{Member, durable_of}
use Rattle.hc_member.specs.Sending.{datagrams_of_all}
use Rattle.hc_member.specs.Turn.{Reacted, reacted}
use Rattle.hc_node.specs.Node.{IsLive, NodeState}
use Rattle.cmd_loop.specs.Happenings.{Happening, Closing}
use Rattle.cmd_replica.specs.declared.halves.Half.{Half}
use Rattle.cmd_replica.specs.declared.halves.Left.{Left}
use Rattle.cmd_replica.specs.Replica.{LeadTo, Served, only_finished, serve_one, served, unserved}
use denote.Ref.{Bor, MutBor}

-- what is left for a member to apply
abbrev pub left_of : Member → Left
left_of m = record { pending = m.pending; unapplied = m.commit - m.applied }

-- a replica is this one, with so much left to apply
pub record IsAt (n : NodeState) (now : Option NodeState) (left : Left) : Type 0 where
  pub node : now ≡ Some n
  pub is_left : left ≡ left_of n.member
  pub within : n.member.applied ≤ n.member.commit

-- it runs the member that turns left, which stored and sent this
pub record HasServed (s : Setup) (turns : Served) (records : List Record) (gone : List Datagram) (now : Option NodeState) (left : Left) : Type 0 where
  pub at : IsAt (record { setup = s; member = turns.member }) now left
  pub stored : records ≡ turns.stored
  pub sent : gone ≡ turns.sent

-- a replica became that other one over what happened
abbrev pub Becomes : Option NodeState → Left → List Happening → List Record → List Datagram → Option NodeState → Left → Type 0
Becomes old before happened stored sent new after =
    (n : NodeState) → IsAt n old before → HasServed n.setup (served n.setup n.member happened) stored sent new after

-- turns were made, and then what was pending was finished, which gave these replies
pub record HasFinished (s : Setup) (turns : Served) (records : List Record) (gone answers : List Datagram) (now : Option NodeState) (left : Left) : Type 0 where
  pub at : IsAt (record { setup = s; member = (finished s turns.member).member }) now left
  pub stored : records ≡ turns.stored
  pub sent : gone ≡ turns.sent
  pub replies : answers ≡ datagrams_of_all s (finished s turns.member).sends

abbrev pub Finishes : Option NodeState → Left → List Happening → List Record → List Datagram → List Datagram → Option NodeState → Left → Type 0
Finishes old before happened stored sent replies new after =
    (n : NodeState) → IsAt n old before → HasFinished n.setup (served n.setup n.member happened) stored sent replies new after

-- where a journal tells its records, they lead to what the replica's member keeps over a crash
abbrev pub LedTo : Option (List Record) → Option NodeState → Type 0
LedTo told (Some n) = LeadTo told (durable_of n.member)
LedTo told None = Unit {0}

-- a half of a turn of this replica came to that, and gave this
pub record HasMade (n : NodeState) (r : Reacted) (new : Option NodeState) (half : Half) : Type 0 where
  pub at : IsAt (record { setup = n.setup; member = r.member }) new half.left
  pub stored : half.turn.stored ≡ r.stored
  pub sends : half.turn.sends ≡ datagrams_of_all n.setup r.sends
  pub changed : IsStored (durable_of n.member) half.turn.stored (durable_of r.member)

-- the first half of a turn, of a replica that isn't spent
abbrev pub MakesFirst : Option NodeState → Option NodeState → Half → Type 0
MakesFirst old new half = (n : NodeState) → old ≡ Some n → HasMade n (only_finished n.setup n.member) new half

-- and the second one, at an event
abbrev pub MakesSecond : Event → Option NodeState → Option NodeState → Half → Type 0
MakesSecond event old new half = (n : NodeState) → old ≡ Some n → HasMade n (reacted n.setup n.member event) new half

-- a closure that makes the first half of a turn of any replica that isn't spent
abbrev pub CallsFirst : {N F : Type 0} → (N → Option NodeState) → (F → MutBor N → Type 0) → (F → MutBor N → Result Half NoMemory → MutBor N → Type 0) → F → Type 0
CallsFirst {N} seen pre post f = (node : MutBor N) → IsLive (seen node.now)
    → pre f node × ((result : Result Half NoMemory) (after : MutBor N) → post f node result after → IfOk result (MakesFirst (seen node.now) (seen after.now)))

-- and one that makes the second half
abbrev pub CallsSecond : {N F : Type 0} → (N → Option NodeState) → (F → MutBor N → Bor Event → Type 0)
    → (F → MutBor N → Bor Event → Result Half NoMemory → MutBor N → Type 0) → F → Type 0
CallsSecond {N} seen pre post f = (node : MutBor N) (event : Bor Event) → IsLive (seen node.now)
    → pre f node event × ((result : Result Half NoMemory) (after : MutBor N) → post f node event result after
    → IfOk result (MakesSecond event.now (seen node.now) (seen after.now)))

-- a replica that isn't spent, and knows what is left to apply
abbrev pub IsReady : Option NodeState → Left → Type 0
IsReady now left = (n : NodeState) × IsAt n now left

-- one happening more is one turn more
pub served-push : (s : Setup) (m : Member) (happened : List Happening) (next : Happening)
    → served s m (happened ++ next ∷ []) ≡ serve_one s (served s m happened) next
unfolding served
served-push s m happened next = fold_push (serve_one s) (unserved m) happened next

-- before anything happened a replica is as it is, and nothing is stored or sent
pub becomes_none : (now : Option NodeState) (left : Left) → Becomes now left [] [] [] now left
unfolding served
becomes_none now left n at = record { at = at; stored = refl; sent = refl }

-- to finish what is pending is the turn after the end of the link
pub becomes_closed : (old : Option NodeState) (before : Left) (happened : List Happening) (records : List Record) (sent replies : List Datagram) (new : Option NodeState) (after : Left)
    → Finishes old before happened records sent replies new after → Becomes old before (happened ++ Closing ∷ []) records (sent ++ replies) new after
becomes_closed old before happened records sent replies new after finishes n at =
    let turns = served n.setup n.member happened in
    let done = finishes n at in
    let one : serve_one n.setup turns Closing ≡ served n.setup n.member (happened ++ Closing ∷ []) = sym (served-push n.setup n.member happened Closing) in
    record {
      at = subst (λ (t : Served). IsAt (record { setup = n.setup; member = t.member }) new after) one done.at;
      stored = done.stored ∙ sym (append-nil turns.stored) ∙ ap (λ (t : Served). t.stored) one;
      sent =
          ap (λ (ds : List Datagram). ds ++ replies) done.sent ∙ ap (λ (ds : List Datagram). turns.sent ++ ds) done.replies
          ∙ ap (λ (t : Served). t.sent) one;
    }
