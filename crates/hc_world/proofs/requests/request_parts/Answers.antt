use Rattle.std.proofs.Common.{◌≡◌, ◌++◌, ◌<◌, List, length, get_or, take, sym, ap, subst, ◌∙◌, arith}
use Rattle.r2_base.specs.declared.addr.Addr.{Addr}
use Rattle.r2_base.specs.declared.datagram.Datagram.{Datagram}
use Rattle.r2_frag.specs.declared.part_spec.PartSpec.{PartSpec}
use Rattle.r2_frag.specs.Parts.{IsSendable, parts_of}
use Rattle.hc_world.specs.Events.{request_at}
use Rattle.hc_world.proofs.Asked.{parts-all, parts-more, parts_to, sendable}
use Rattle.hc_world.proofs.requests.request_parts.Goals as goal

pub members-preserved : goal.members-preserved
members-preserved c =
    let q = request_at c.args.id c.args.kind c.args.body.now in
    let members = c.args.members.now in
    let i = c.members.to-index in
    let none : Addr = record { ip = 0; port = 0 } in
    let x = get_or c.as_slice-to-items.result.now i none in
    let same = c.as_slice-to-items.ensures in
    let at : x ≡ get_or members i none = ap (λ (xs : List Addr). get_or xs i none) same in
    let inside : i < length members = subst (λ (xs : List Addr). i < length xs) same c.members-test.true in
    let made = c.in_ok-parts.ensures ∙ ap (λ (s : PartSpec). parts_of s c.args.body.now) (c.part_spec-spec.ensures c.args.body.now) in
    c.in_ok-append.ensures ∙ ap (λ (ds : List Datagram). ds ++ c.in_ok-parts.field-0) c.members.invariant ∙ ap (λ (ds : List Datagram). parts_to q (take i members) ++ ds) made
    ∙ sym (parts-more q members i x none inside at)

pub parts-requires : goal.parts-requires
parts-requires c =
    subst (λ (s : PartSpec). IsSendable s c.args.body.now) (sym (c.part_spec-spec.ensures c.args.body.now))
    (sendable c.args.id c.args.kind c.args.body.now _ c.requires.asks c.requires.short)

pub returns : goal.returns
returns c =
    λ g same.
    let long : length c.args.members.now ≡ length c.as_slice-to-items.result.now = ap (λ (xs : List Addr). length xs) (sym c.as_slice-to-items.ensures) in
    let past = c.members-test.false in
    parts-all g (request_at c.args.id c.args.kind c.args.body.now) c.args.members.now c.members.to-index c.from_vec.result same (omega (arith, past, long)) (c.from_vec.ensures ∙ c.members.invariant)
