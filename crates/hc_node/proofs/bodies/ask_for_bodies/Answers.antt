use Rattle.std.proofs.Common.{◌++◌, List, sym, ap, ◌∙◌, arith}
use Rattle.std.specs.List.{flat_map}
use Rattle.std.proofs.lemmas.List.{take_all}
use Rattle.r2_base.specs.declared.datagram.Datagram.{Datagram}
use Rattle.hc_node.proofs.Asked.{asked-all, asked_of}
use Rattle.hc_node.proofs.bodies.ask_for_bodies.Goals as goal

pub returns : goal.returns
returns c =
    let s = c.args.setup.now in
    let missing = c.args.missing.now in
    let all = ap (flat_map (asked_of s c.args.leader)) (take_all c.ids.rid-index missing (omega arith)) in
    c.ids.invariant ∙ ap (λ (ds : List Datagram). c.args.sends.now.items ++ ds) (all ∙ sym (asked-all s c.args.leader missing))
