-- A replica's turns, one half after the other.
use Rattle.std.proofs.Common.{◌≡◌, ◌<◌, List, [], ◌∷◌, ◌++◌, Option, Some, None, refl, sym, ap, ◌∙◌, subst, arith}
use Rattle.std.proofs.lemmas.List.Concat.{flat_map-append}
use Rattle.r2_base.specs.declared.datagram.Datagram.{Datagram}
use Rattle.r2_base.specs.declared.event.Event.{Event}
use Rattle.r2_link.specs.Told.{Gains}
use Rattle.hc_log.specs.declared.record.Record.{Record}
use Rattle.hc_log.specs.Durable.{State}
use Rattle.hc_member.specs.declared.setup.Setup.{Setup}
use Rattle.hc_member.specs.Finish.{finished}
use Rattle.hc_member.specs.Laws.{IsStored}
use Rattle.hc_member.specs.Member.{Member, durable_of}
use Rattle.hc_member.specs.Sending.{datagrams_of, datagrams_of_all}
use Rattle.hc_member.specs.Turn.{reacted, turned}
use Rattle.hc_node.specs.Node.{NodeState}
use Rattle.cmd_loop.specs.Happenings.{Happening, Came}
use Rattle.cmd_loop.specs.Party.{MayStore, records_of}
use Rattle.cmd_replica.specs.declared.halves.Half.{Half}
use Rattle.cmd_replica.specs.declared.halves.Left.{Left}
use Rattle.cmd_replica.specs.Party.{Becomes, Finishes, IsAt, IsReady, LedTo, MakesFirst, MakesSecond, served-push}
use Rattle.cmd_replica.specs.Replica.{LeadTo, Served, serve_one, served}
use Rattle.cmd_replica.proofs.Led.{leads-on, may-store}
use Rattle.hc_member.proofs.Progress.{finished-nearer}

-- a replica that is ready is so after each half
pub first-ready : (old new : Option NodeState) (left : Left) (half : Half) → IsReady old left → MakesFirst old new half → IsReady new half.left
first-ready old new left half ready makes = let at = ready.1 in let made = makes ready.0 at.node in (_, made.at)

pub second-ready : (old new : Option NodeState) (left : Left) (event : Event) (half : Half) → IsReady old left → MakesSecond event old new half → IsReady new half.left
second-ready old new left event half ready makes = let at = ready.1 in let made = makes ready.0 at.node in (_, made.at)

-- the first half of a turn
pub finishes-next : (first old new : Option NodeState) (begin left : Left) (half : Half) (happened : List Happening) (records : List Record) (sent : List Datagram)
    → MakesFirst old new half → Becomes first begin happened records sent old left → Finishes first begin happened records sent half.turn.sends new half.left
finishes-next first old new begin left half happened records sent makes becomes n is =
    let has = becomes n is in
    let at = has.at in
    let made = makes _ at.node in
    record { at = made.at; stored = has.stored; sent = has.sent; replies = made.sends }

-- a whole turn of a member, by its halves
turned-is : (s : Setup) (m : Member) (event : Event)
    → ((turned s m event).member ≡ (reacted s (finished s m).member event).member)
    × ((turned s m event).stored ≡ (reacted s (finished s m).member event).stored)
    × (datagrams_of_all s (turned s m event).sends ≡ datagrams_of_all s (finished s m).sends ++ datagrams_of_all s (reacted s (finished s m).member event).sends)
unfolding turned
turned-is s m event = (refl, refl, flat_map-append (datagrams_of s) (finished s m).sends (reacted s (finished s m).member event).sends)

-- the second half, whatever the replies of the first
pub reacts-next : (first old new : Option NodeState) (begin left : Left) (event : Event) (half : Half) (happened : List Happening) (records : List Record) (sent replies : List Datagram)
    → MakesSecond event old new half → Finishes first begin happened records sent replies old left
    → Becomes first begin (happened ++ Came event ∷ []) (records ++ records_of half.turn.stored) (sent ++ (replies ++ half.turn.sends)) new half.left
reacts-next first old new begin left event half happened records sent replies makes finishes n is =
    let done = finishes n is in
    let at = done.at in
    let made = makes _ at.node in
    let s = n.setup in
    let turns = served s n.member happened in
    let whole = turned-is s turns.member event in
    let one : serve_one s turns (Came event) ≡ served s n.member (happened ++ Came event ∷ []) = sym (served-push s n.member happened (Came event)) in
    record {
      at =
          subst (λ (t : Served). IsAt (record { setup = s; member = t.member }) new half.left) one
          (subst (λ (m : Member). IsAt (record { setup = s; member = m }) new half.left) (sym whole.0) made.at);
      stored =
          ap (λ (rs : List Record). rs ++ records_of half.turn.stored) done.stored
          ∙ ap (λ (r : Option Record). turns.stored ++ records_of r) (made.stored ∙ sym whole.1)
          ∙ ap (λ (t : Served). t.stored) one;
      sent =
          ap (λ (ds : List Datagram). ds ++ (replies ++ half.turn.sends)) done.sent
          ∙ ap (λ (ds : List Datagram). turns.sent ++ (ds ++ half.turn.sends)) done.replies
          ∙ ap (λ (ds : List Datagram). turns.sent ++ (datagrams_of_all s (finished s turns.member).sends ++ ds)) made.sends
          ∙ ap (λ (ds : List Datagram). turns.sent ++ ds) (sym whole.2)
          ∙ ap (λ (t : Served). t.sent) one;
    }

-- what is led to, at a replica that is known
led-at : (told : Option (List Record)) (n : NodeState) (now : Option NodeState) → now ≡ Some n → LedTo told now → LeadTo told (durable_of n.member)
led-at told n now is led = subst (LedTo told) is led

at-led : (told : Option (List Record)) (n : NodeState) (now : Option NodeState) → now ≡ Some n → LeadTo told (durable_of n.member) → LedTo told now
at-led told n now is leads = subst (LedTo told) (sym is) leads

-- to finish what is pending changes nothing that a journal has to tell
pub first-led : (told : Option (List Record)) (old new : Option NodeState) (left : Left) (half : Half) → IsReady old left → MakesFirst old new half → LedTo told old → LedTo told new
first-led told old new left half ready makes led =
    let at = ready.1 in
    let made = makes ready.0 at.node in
    let after = made.at in
    at-led told _ new after.node (leads-still told (durable_of ready.0.member) _ half.turn.stored made.stored made.changed (led-at told ready.0 old at.node led))
  where
    leads-still : (told : Option (List Record)) (d e : State) (stored : Option Record) → stored ≡ None → IsStored d stored e → LeadTo told d → LeadTo told e
    leads-still told d e None none changed leads = subst (LeadTo told) (sym changed) leads
    leads-still told d e (Some r) none changed leads = absurd (cc none)

-- what the second half stores may be stored
pub second-fits : (told : Option (List Record)) (old new : Option NodeState) (left : Left) (event : Event) (half : Half) → IsReady old left → MakesSecond event old new half
    → LedTo told old → MayStore told half.turn.stored
second-fits told old new left event half ready makes led =
    let at = ready.1 in
    let made = makes ready.0 at.node in
    may-store told (durable_of ready.0.member) _ half.turn.stored made.changed (led-at told ready.0 old at.node led)

-- and then the journal's records lead to what it left
pub second-led : (told told' : Option (List Record)) (old new : Option NodeState) (left : Left) (event : Event) (half : Half) → IsReady old left → MakesSecond event old new half
    → LedTo told old → Gains told told' (records_of half.turn.stored) → (told ≡ None → told' ≡ None) → LedTo told' new
second-led told told' old new left event half ready makes led gains silent =
    let at = ready.1 in
    let made = makes ready.0 at.node in
    let after = made.at in
    at-led told' _ new after.node (leads-on told told' (durable_of ready.0.member) _ half.turn.stored made.changed (led-at told ready.0 old at.node led) gains silent)

-- where something is left to apply, less is after it was finished
pub first-lowers : (old new : Option NodeState) (left : Left) (half : Half) → IsReady old left → MakesFirst old new half → 0 < left.unapplied → half.left.unapplied < left.unapplied
first-lowers old new left half ready makes waits =
    let at = ready.1 in
    let made = makes ready.0 at.node in
    let after = made.at in
    let m = ready.0.member in
    let before = ap (λ (l : Left). l.unapplied) at.is_left in
    let now = ap (λ (l : Left). l.unapplied) after.is_left in
    let nearer = finished-nearer ready.0.setup m (omega (arith, waits, before)) in
    let commit = nearer.commit in
    let applied = nearer.applied in
    omega (arith, before, now, commit, applied, waits)
