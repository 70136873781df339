use Rattle.std.proofs.Common.{◌<◌, ℕ, length, refl, sym, ap, ◌∙◌, arith}
use Rattle.std.specs.Prelude.{position}
use Rattle.std.proofs.lemmas.Option.{slice_get_read}
use Rattle.r2_base.specs.Names.{same_addr}
use Rattle.hc_world.specs.declared.live.Live.{Live}
use Rattle.hc_world.specs.Live.{seen_of}
use Rattle.hc_world.proofs.Worlds.{for-member, for-other}
use Rattle.hc_world.proofs.live.Live.is_for_group.Goals as goal

inside : (l : Live) (packet : ℕ) → packet < length (seen_of l).datagrams → packet < length l.datagrams.items
unfolding seen_of
inside l packet less = less

pub index-requires : goal.index-requires
index-requires c =
    let less = inside c.args.self.now c.args.number c.requires in
    let long = c.args.self.now.datagrams.ok.0 in
    omega (arith, less, long)

pub returns-in-Some : goal.returns-in-Some
returns-in-Some c =
    let there = slice_get_read c.args.self.now.datagrams.items _ c.args.number c.index.result.now refl (inside c.args.self.now c.args.number c.requires) c.index.ensures in
    for-member c.args.self.now c.args.number _ c.index.result.now there (ap (position (same_addr c.index.result.now.to)) (sym c.as_slice.ensures) ∙ sym c.place_of.ensures ∙ c.in-Some.is)

pub returns-in-None : goal.returns-in-None
returns-in-None c =
    let there = slice_get_read c.args.self.now.datagrams.items _ c.args.number c.index.result.now refl (inside c.args.self.now c.args.number c.requires) c.index.ensures in
    c.is_aggregator.ensures ∙ for-other c.args.self.now c.args.number c.index.result.now there (ap (position (same_addr c.index.result.now.to)) (sym c.as_slice.ensures) ∙ sym c.place_of.ensures ∙ c.in-None.is)
