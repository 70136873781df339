use Rattle.std.proofs.Common.{sym, ◌∙◌, arith}
use Rattle.hc_world.proofs.Worlds.{down-past, own-seat, up-there}
use Rattle.hc_world.proofs.live.Live.is_up.Goals as goal

pub returns-then-place-len : goal.returns-then-place-len
returns-then-place-len c =
    let past = c.if-place-len.true in
    let long = c.args.self.now.seats.ok.0 in
    let same = c.from-place.ensures in
    let size = c.len.ensures in
    down-past c.args.self.now c.args.member (omega (arith, past, long, same, size))

pub is_up-requires : goal.is_up-requires
is_up-requires c =
    let inside = c.if-place-len.false in
    let long = c.args.self.now.seats.ok.0 in
    let same = c.from-place.ensures in
    let size = c.len.ensures in
    let here = up-there c.args.self.now c.args.member c.from-place.result c.index.result.now c.requires same (omega (arith, inside, long, same, size)) c.index.ensures in
    own-seat _ c.index.result.now here.0

pub returns : goal.returns
returns c =
    let inside = c.if-place-len.false in
    let long = c.args.self.now.seats.ok.0 in
    let same = c.from-place.ensures in
    let size = c.len.ensures in
    let here = up-there c.args.self.now c.args.member c.from-place.result c.index.result.now c.requires same (omega (arith, inside, long, same, size)) c.index.ensures in
    c.is_up.ensures ∙ sym here.1
