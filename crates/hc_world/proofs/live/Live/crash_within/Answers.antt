use Rattle.std.proofs.Common.{◌∙◌, max, ℕ, length, refl, ap, ◌<◌, Option, Some, None, arith}
use Rattle.std.specs.Prelude.{IfSome}
use Rattle.std.proofs.lemmas.Option.{slice_get_within}
use Rattle.hc_run.specs.Group.{Member}
use Rattle.hc_world.specs.Events.{WasSentTo}
use Rattle.hc_world.specs.Live.{seen_of}
use Rattle.hc_world.specs.Seen.{Seen}
use Rattle.hc_world.proofs.Worlds.{stands-at, up-inside, within-shows}
use Rattle.hc_world.proofs.live.Live.crash_within.Goals as goal

inside-sent : (w : Seen) (v : ℕ) (packet : Option ℕ) → IfSome packet (λ number. WasSentTo w number (Member v)) → IfSome packet (λ number. number < length w.datagrams)
inside-sent w v (Some number) was = slice_get_within w.datagrams number was.datagram was.sent
inside-sent w v None was = tt

pub event_at-requires : goal.event_at-requires
unfolding seen_of
event_at-requires c = inside-sent (seen_of c.args.self.now) c.args.member c.args.packet c.requires.may.sent

pub index_mut-requires : goal.index_mut-requires
index_mut-requires c =
    let inside = up-inside c.args.self.now c.args.member c.requires.may.runs in
    let long = c.args.self.now.seats.ok.0 in
    omega (arith, inside, long)

pub stop_within-requires : goal.stop_within-requires
stop_within-requires c =
    let stands = stands-at c.args.self.now c.args.member c.index_mut.result.now c.requires.world c.requires.may.runs c.index_mut.ensures.value in
    stands.runs

pub returns : goal.returns
returns c =
    let stands = stands-at c.args.self.now c.args.member c.index_mut.result.now c.requires.world c.requires.may.runs c.index_mut.ensures.value in
    within-shows c.args.self.now c.args.member c.index_mut.result.now c.requires.world stands _ c.stop_within.new.self c.in_ok-event.event _ c.args.kept c.in_ok-event.ensures c.in_ok-reach.ensures.rests
    c.in_ok-reach.ensures.records
    (record { group = record { members = refl; address = refl; bounds = refl }; aggregator = refl; ids = refl; seats = refl })
    (record { datagrams = refl; events = refl; requests = refl; replies = refl }) (c.max-self.ensures ∙ ap (max c.args.self.now.passed) c.in_ok-reach.ensures.reach) c.saturating_add-self.ensures
