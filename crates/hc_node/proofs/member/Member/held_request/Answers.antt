use Rattle.std.proofs.Common.{◌≡◌, List, Some, true, sym, ap, ◌∙◌}
use Rattle.r2_base.specs.declared.entry.Entry.{Entry}
use Rattle.hc_log.specs.declared.stored.Stored.{Stored}
use Rattle.hc_log.specs.Log.{place_of, stands_in, stored_at}
use Rattle.hc_member.specs.Member.{Member}
use Rattle.hc_node.proofs.Held.{held, held-request}
use Rattle.hc_node.proofs.member.Member.held_request.Goals as goal

pub entry-requires-clause-first : goal.entry-requires-clause-first
entry-requires-clause-first g c = (held c.args.rid.now c.self.inside.log c.in-Some.index (sym c.in-Some.ensures.index)).low

pub entry-requires-clause-last : goal.entry-requires-clause-last
entry-requires-clause-last g c = (held c.args.rid.now c.self.inside.log c.in-Some.index (sym c.in-Some.ensures.index)).high

pub body-requires-clause-first : goal.body-requires-clause-first
body-requires-clause-first g c = (held c.args.rid.now c.self.inside.log c.in-Some.index (sym c.in-Some.ensures.index)).low

pub body-requires-clause-last : goal.body-requires-clause-last
body-requires-clause-last g c = (held c.args.rid.now c.self.inside.log c.in-Some.index (sym c.in-Some.ensures.index)).high

pub returns-in-Some : goal.returns-in-Some
returns-in-Some g c =
    let m : Member = c.args.self.now in
    let index = c.in-Some.index in
    let same : c.self.inside.log ≡ m.log = ap (λ (x : Member). x.log) c.self.view_is in
    let e : place_of c.args.rid.now m.log ≡ Some index = ap (place_of c.args.rid.now) (sym same) ∙ sym c.in-Some.ensures.index in
    let stands : stands_in c.args.rid.now m.log ≡ true = ap (stands_in c.args.rid.now) (sym same) ∙ sym c.in-Some.ensures.stands in
    let kind : c.entry.result.kind ≡ (stored_at m.log index).entry.kind =
    ap (λ (x : Entry). x.kind) c.entry.ensures ∙ ap (λ (l : List Stored). (stored_at l index).entry.kind) same in
    let body : c.body.result.now ≡ (stored_at m.log index).body = c.body.ensures ∙ ap (λ (l : List Stored). (stored_at l index).body) same in
    rw (kind, body) (held-request m c.args.rid.now index e stands)
