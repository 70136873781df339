use Rattle.std.proofs.Common.{◌<◌, ℕ, List, refl, ap, ◌∙◌, arith}
use Rattle.r2_base.specs.declared.entry.Kind.{Kind}
use Rattle.r2_base.specs.Limits.{id_limit}
use Rattle.hc_world.specs.declared.live.Live.{Live}
use Rattle.hc_world.specs.Events.{MaySend, request_at}
use Rattle.hc_world.specs.Live.{seen_of, group_of}
use Rattle.hc_run.specs.Steps.{request_parts}
use Rattle.hc_world.proofs.Worlds.{ask-shows, on-ok, world-same}
use Rattle.hc_world.proofs.live.Live.ask.Goals as goal

left : (l : Live) (kind : Kind) (body : List ℕ) → MaySend (seen_of l) kind body → l.requests < id_limit
unfolding seen_of
left l kind body may = may.left

pub overflow_cast-self : goal.overflow_cast-self
overflow_cast-self c =
    let small = left c.args.self.now c.args.kind c.args.body.now c.requires.may in
    record { fits = omega (arith, small) }

pub send-requires : goal.send-requires
send-requires c =
    world-same c.args.self.now _ c.requires.world (record { group = record { members = refl; address = refl; bounds = refl }; aggregator = refl; seats = refl }) c.requires.world.ids

pub returns : goal.returns
returns c =
    on-ok _ _ c.send.result
    (λ did. ask-shows c.args.self.now _ c.send.new.self c.args.kind c.args.body.now c.in_ok-more.more
    (c.in_ok-more.ensures (group_of c.args.self.now) refl
    ∙ ap (λ (b : List ℕ). request_parts (group_of c.args.self.now) (request_at c.args.self.now.requests c.args.kind b)) c.as_slice.ensures)
    (record { group = record { members = refl; address = refl; bounds = refl }; aggregator = refl; seats = refl }) refl refl c.saturating_add-self.ensures refl refl refl refl did)
    c.send.ensures
