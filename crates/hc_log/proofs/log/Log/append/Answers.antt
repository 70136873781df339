use Rattle.std.proofs.Common.{◌≡◌, ◌<◌, ◌∙◌, ◌++◌, ◌∷◌, [], ℕ, ap}
use Rattle.hc_log.specs.Rows.{row_of}
use Rattle.hc_log.specs.Runs.{term_in}
use Rattle.hc_log.proofs.Kept.{counts_one_more, Put, put_kept}
use Rattle.hc_log.proofs.log.Log.append.Goals as goal

pub with-totals-requires-clause-requests : goal.with-totals-requires-clause-requests
with-totals-requires-clause-requests c = (counts_one_more _ c.args.self.now c.args.s c.self.inside.totals c.self.view_is c.self.invariant.counted c.requires).requests

pub with-totals-requires-clause-body_bytes : goal.with-totals-requires-clause-body_bytes
with-totals-requires-clause-body_bytes c = (counts_one_more _ c.args.self.now c.args.s c.self.inside.totals c.self.view_is c.self.invariant.counted c.requires).body_bytes

put : (c : goal.After-totals-1) → Put c.args.self.now c.args.s c.put_term.new.runs.items c.push_reserved.new.self.items c.note_place.new.places c.with-totals.result
put c =
    let rows = c.self.inside.rows.items in
    let more : c.push_reserved.new.self.items ≡ rows ++ row_of c.args.s ∷ [] =
    c.push_reserved.ensures.items ∙ ap (λ rs. rs ++ c.of.result ∷ []) c.in_ok-reserve.ensures.items ∙ ap (λ r. rows ++ r ∷ []) c.of.ensures in
    let before : (i : ℕ) → i < c.with-totals.result.entries → term_in c.put_term.new.runs.items i ≡ term_in c.self.inside.runs.items i =
    (λ i h. c.put_term.ensures.before i h ∙ ap (λ rs. term_in rs i) c.in_ok-reserve-2.ensures.items) in
    put_kept c.args.self.now c.self.inside.runs.items c.put_term.new.runs.items rows c.push_reserved.new.self.items c.args.s c.self.inside.places c.note_place.new.places
    c.self.inside.totals c.with-totals.result c.self.view_is c.self.invariant c.requires c.with-totals.ensures more
    c.put_term.ensures.runs c.put_term.ensures.there before c.in_ok-note_place.ensures.ok

pub invariant_of-self-2 : goal.invariant_of-self-2
invariant_of-self-2 c = (put c).kept

pub returns-clause-ok : goal.returns-clause-ok
returns-clause-ok c = (put c).entries
