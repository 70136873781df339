use Rattle.std.proofs.Common.{◌≡◌, ℕ, true, get_or, List, length, refl, sym, ap, subst, ◌<◌, Option, Some, None, arith, ◌∙◌}
use Rattle.std.specs.Prelude.{position, slice_get}
use Rattle.std.proofs.lemmas.Option.{slice_get_read, slice_get_within}
use Rattle.r2_base.specs.declared.addr.Addr.{Addr}
use Rattle.r2_base.specs.declared.datagram.Datagram.{Datagram}
use Rattle.r2_base.specs.Names.{same_addr}
use Rattle.hc_run.specs.Group.{Member, receiver_at}
use Rattle.hc_world.specs.declared.live.Live.{Live}
use Rattle.hc_world.specs.Events.{MayCome}
use Rattle.hc_world.specs.Live.{ShowsWorld, group_of, seen_of}
use Rattle.hc_world.specs.Seen.{Seen, is_up}
use Rattle.hc_world.specs.Steps.{acts, aggregates, delivers, turns}
use Rattle.r2_base.specs.declared.event.Event.TheVariants as event
use Rattle.hc_world.proofs.Worlds.{ComesAs, comes-as, delivers-aggregator, delivers-member, on-ok, takes-member, takes-other, to-member}
use Rattle.hc_world.proofs.live.Live.deliver.Goals as goal

within : (l : Live) (packet : ℕ) → MayCome (seen_of l) packet → packet < length l.datagrams.items
unfolding seen_of
within l packet may = let sent = may.sent in slice_get_within l.datagrams.items packet sent.datagram sent.sent

comes : (l : Live) (packet : ℕ) (first d : Datagram) → MayCome (seen_of l) packet → first ≡ get_or l.datagrams.items packet first → d ≡ first → ComesAs (seen_of l) packet d
unfolding seen_of
comes l packet first d may at same =
    let there = slice_get_read l.datagrams.items (length l.datagrams.items) packet first refl (within l packet may) at in
    comes-as (seen_of l) packet d may (there ∙ ap Some (sym same))

up : (l : Live) (packet v : ℕ) (d : Datagram) (found : Option ℕ) (members : List Addr) → ComesAs (seen_of l) packet d → found ≡ position (same_addr d.to) members → members ≡ l.members → found ≡ Some v
    → (is_up (seen_of l) v ≡ true) × (receiver_at (seen_of l).group d.to ≡ Member v)
unfolding seen_of
up l packet v d found members came is same at =
    let to = to-member (group_of l) d.to v (ap (position (same_addr d.to)) (sym same) ∙ sym is ∙ at) in
    (takes-member (seen_of l) (receiver_at (group_of l) d.to) v came.takes to, to)

shows-as : (v w : Seen) (k : Live) → ShowsWorld v k → w ≡ v → ShowsWorld w k
shows-as v w k shows same = subst (λ (x : Seen). ShowsWorld x k) (sym same) shows

some-way : (l : Live) (packet v : ℕ) (d : Datagram) → ComesAs (seen_of l) packet d → receiver_at (seen_of l).group d.to ≡ Member v
    → delivers (slice_get l.datagrams.items packet) (seen_of l) ≡ acts v (turns v (event.Datagram d)) (seen_of l)
unfolding seen_of
some-way l packet v d came to = delivers-member (seen_of l) packet v d came.there to

none-way : (l : Live) (packet : ℕ) (d : Datagram) (found : Option ℕ) (members : List Addr) → ComesAs (seen_of l) packet d → found ≡ position (same_addr d.to) members → members ≡ l.members → found ≡ None
    → (l.address ≡ Some d.to) × (delivers (slice_get l.datagrams.items packet) (seen_of l) ≡ aggregates d.to (event.Datagram d) (seen_of l))
unfolding seen_of
none-way l packet d found members came is same at =
    let none : position (same_addr d.to) l.members ≡ None = ap (position (same_addr d.to)) (sym same) ∙ sym is ∙ at in
    let other = takes-other (seen_of l) d.to none came.takes in
    (other.address, delivers-aggregator (seen_of l) packet d came.there other.receiver)

pub index-requires : goal.index-requires
index-requires c =
    let inside = within c.args.self.now c.args.packet c.requires.may in
    let long = c.args.self.now.datagrams.ok.0 in
    omega (arith, inside, long)

pub turn-requires-clause-up : goal.turn-requires-clause-up
turn-requires-clause-up c =
    let came = comes c.args.self.now c.args.packet c.index.result.now c.in_ok-datagram.datagram c.requires.may c.index.ensures c.in_ok-datagram.ensures in
    let here = up c.args.self.now c.args.packet c.in-Some.member c.in_ok-datagram.datagram c.place_of.result c.as_slice.result.now came c.place_of.ensures c.as_slice.ensures c.in-Some.is in
    here.0

pub returns-in-Some : goal.returns-in-Some
returns-in-Some c =
    let came = comes c.args.self.now c.args.packet c.index.result.now c.in_ok-datagram.datagram c.requires.may c.index.ensures c.in_ok-datagram.ensures in
    let here = up c.args.self.now c.args.packet c.in-Some.member c.in_ok-datagram.datagram c.place_of.result c.as_slice.result.now came c.place_of.ensures c.as_slice.ensures c.in-Some.is in
    on-ok _ _ c.turn.result (λ did. shows-as _ _ _ did (some-way c.args.self.now c.args.packet c.in-Some.member c.in_ok-datagram.datagram came here.1)) c.turn.ensures

pub returns-in-None : goal.returns-in-None
returns-in-None c =
    let came = comes c.args.self.now c.args.packet c.index.result.now c.in_ok-datagram.datagram c.requires.may c.index.ensures c.in_ok-datagram.ensures in
    let other = none-way c.args.self.now c.args.packet c.in_ok-datagram.datagram c.place_of.result c.as_slice.result.now came c.place_of.ensures c.as_slice.ensures c.in-None.is in
    on-ok _ _ c.aggregate.result (λ did. shows-as _ _ _ (did c.in_ok-datagram.datagram.to other.0) other.1) c.aggregate.ensures
