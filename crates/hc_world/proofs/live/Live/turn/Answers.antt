use Rattle.std.proofs.Common.{refl, ap, max, arith, ◌∙◌}
use Rattle.hc_world.proofs.Worlds.{on-ok, stands-at, turn-places, turn-shows, up-inside}
use Rattle.hc_world.proofs.live.Live.turn.Goals as goal

pub index_mut-requires : goal.index_mut-requires
index_mut-requires c =
    let inside = up-inside c.args.self.now c.args.member c.requires.up in
    let long = c.args.self.now.seats.ok.0 in
    omega (arith, inside, long)

pub turn-requires : goal.turn-requires
turn-requires c =
    let stands = stands-at c.args.self.now c.args.member c.index_mut.result.now c.requires.world c.requires.up c.index_mut.ensures.value in
    stands.runs

pub send-requires : goal.send-requires
send-requires c =
    let stands = stands-at c.args.self.now c.args.member c.index_mut.result.now c.requires.world c.requires.up c.index_mut.ensures.value in
    let e = c.in_ok-replies.ensures in
    let placed = turn-places c.args.self.now c.args.member c.index_mut.result.now c.requires.world stands _ c.turn.new.self c.args.event.now e.runs e.records
    (record { group = record { members = refl; address = refl; bounds = refl }; aggregator = refl; ids = refl; seats = refl })
    (record { datagrams = refl; events = refl; requests = refl; replies = refl }) (c.max-self.ensures ∙ ap (max c.args.self.now.passed) e.reach) refl in
    placed.is

pub returns : goal.returns
returns c =
    let stands = stands-at c.args.self.now c.args.member c.index_mut.result.now c.requires.world c.requires.up c.index_mut.ensures.value in
    let e = c.in_ok-replies.ensures in
    let second = c.in_ok-send.ensures in
    on-ok _ _ c.send-2.result
    (λ third.
    turn-shows c.args.self.now c.args.member c.index_mut.result.now c.requires.world stands _ c.send.new.self c.send-2.new.self c.args.event.now _ _
    (turn-places c.args.self.now c.args.member c.index_mut.result.now c.requires.world stands _ c.turn.new.self c.args.event.now e.runs e.records
    (record { group = record { members = refl; address = refl; bounds = refl }; aggregator = refl; ids = refl; seats = refl })
    (record { datagrams = refl; events = refl; requests = refl; replies = refl }) (c.max-self.ensures ∙ ap (max c.args.self.now.passed) e.reach) refl) second third e.sends)
    c.send-2.ensures
