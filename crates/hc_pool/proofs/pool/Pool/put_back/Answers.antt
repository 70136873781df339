use Rattle.std.proofs.Common.{◌≡◌, ◌++◌, ◌∷◌, [], sym, subst, ap, ◌∙◌, false}
use Rattle.std.specs.Map.{values_of}
use Rattle.indexmap.proofs.CallerLemmas.{insert_entry-new}
use Rattle.r2_base.specs.Names.{same_rid}
use Rattle.hc_pool.specs.declared.request.Request.{Request}
use Rattle.hc_pool.specs.Pool.{waits_in, MayWait, IsPool}
use Rattle.hc_pool.specs.Keys.{AreUnderTheirIds}
use Rattle.hc_pool.proofs.Keyed.{nothing_under, values-push, IsKeyedPool-push}
use Rattle.hc_pool.proofs.pool.Pool.put_back.Goals as goal

pub invariant_of-self-2 : goal.invariant_of-self-2
invariant_of-self-2 c =
    let request : Request = record { rid = c.args.rid; kind = c.args.kind; body = c.args.body } in
    let es = c.self.inside.requests.entries in
    let may : MayWait request = record { asks = c.requires.asks; body = c.requires.body } in
    let new : waits_in c.args.rid (values_of es) ≡ false = rw c.self.view_is c.requires.is_new in
    let more : c.insert.new.self.entries ≡ es ++ (c.args.rid, request) ∷ [] =
    c.in_ok-insert.ensures.entries ∙ insert_entry-new same_rid c.self.inside.requests c.args.rid request (nothing_under c.args.rid es c.self.invariant.1 new) in
    subst (λ all. IsPool (values_of all) × AreUnderTheirIds all) (sym more) (IsKeyedPool-push es request c.self.invariant.0 c.self.invariant.1 new may)

pub returns-clause-ok : goal.returns-clause-ok
returns-clause-ok c =
    let request : Request = record { rid = c.args.rid; kind = c.args.kind; body = c.args.body } in
    let es = c.self.inside.requests.entries in
    let new : waits_in c.args.rid (values_of es) ≡ false = rw c.self.view_is c.requires.is_new in
    let more : c.insert.new.self.entries ≡ es ++ (c.args.rid, request) ∷ [] =
    c.in_ok-insert.ensures.entries ∙ insert_entry-new same_rid c.self.inside.requests c.args.rid request (nothing_under c.args.rid es c.self.invariant.1 new) in
    ap values_of more ∙ values-push es request ∙ ap (λ rs. rs ++ request ∷ []) c.self.view_is
