use Rattle.std.proofs.Common.{◌≡◌, ◌-◌, ◌∙◌, ◌++◌, ◌∷◌, [], ap, sym, arith}
use Rattle.std.specs.Option.{option_to_list}
use Rattle.hc_log.specs.Rows.{entries_of, stored_of}
use Rattle.hc_log.specs.Runs.{term_in}
use Rattle.hc_log.proofs.Rows.{within_rows, popped_entries}
use Rattle.hc_log.proofs.Kept.{counted_rows, can_take_popped, popped_kept}
use Rattle.hc_log.proofs.log.Log.pop.Goals as goal

pub unwrap-row-requires : goal.unwrap-row-requires
unwrap-row-requires c =
    let within = within_rows c.self.inside.runs.items c.self.inside.rows.items c.args.self.now 1 c.self.view_is c.requires in
    c.pop.ensures.variant.1 (omega (arith, within))

pub without-self-inside-requires-clause-requests : goal.without-self-inside-requires-clause-requests
without-self-inside-requires-clause-requests c =
    let rest = c.pop.new.self.items in
    let whole : c.self.inside.rows.items ≡ rest ++ c.unwrap-row.result ∷ [] = c.pop.ensures.items ∙ ap (λ o. rest ++ option_to_list o) c.unwrap-row.ensures in
    (can_take_popped c.self.inside.runs.items c.self.inside.rows.items rest c.unwrap-row.result c.self.inside.places c.self.inside.totals c.self.invariant whole).requests

pub without-self-inside-requires-clause-body_bytes : goal.without-self-inside-requires-clause-body_bytes
without-self-inside-requires-clause-body_bytes c =
    let rest = c.pop.new.self.items in
    let whole : c.self.inside.rows.items ≡ rest ++ c.unwrap-row.result ∷ [] = c.pop.ensures.items ∙ ap (λ o. rest ++ option_to_list o) c.unwrap-row.ensures in
    (can_take_popped c.self.inside.runs.items c.self.inside.rows.items rest c.unwrap-row.result c.self.inside.places c.self.inside.totals c.self.invariant whole).body_bytes

rest_and_last : (c : goal.After-forget_place) → c.self.inside.rows.items ≡ c.pop.new.self.items ++ c.unwrap-row.result ∷ []
rest_and_last c = c.pop.ensures.items ∙ ap (λ o. c.pop.new.self.items ++ option_to_list o) c.unwrap-row.ensures

made : (c : goal.After-forget_place) → c.into_stored-s.result ≡ stored_of (term_in c.self.inside.runs.items c.self.inside.totals.entries) c.unwrap-row.result
made c =
    c.into_stored-s.ensures
    ∙ ap (λ t. stored_of t c.unwrap-row.result) (c.term_in-term.ensures ∙ ap (λ rs. term_in rs c.self.inside.totals.entries) c.as_slice.ensures.value)

pub invariant_of-self : goal.invariant_of-self
invariant_of-self c =
    popped_kept c.self.inside.runs.items c.drop_term.new.runs.items c.self.inside.rows.items c.pop.new.self.items c.unwrap-row.result c.into_stored-s.result
    c.self.inside.places c.forget_place.new.places c.self.inside.totals c.without-self-inside.result c.term_in-before.result
    c.self.invariant (rest_and_last c) (made c) c.drop_term.ensures.runs c.drop_term.ensures.before c.forget_place.ensures
    (c.term_in-before.ensures ∙ ap (λ rs. term_in rs (c.self.inside.totals.entries - 1)) c.as_slice-2.ensures.value) c.without-self-inside.ensures

pub returns : goal.returns
returns c =
    let long = counted_rows c.self.inside.runs.items c.self.inside.rows.items c.self.inside.places c.self.inside.totals c.self.invariant in
    sym c.self.view_is
    ∙ popped_entries c.self.inside.runs.items c.drop_term.new.runs.items c.self.inside.rows.items c.pop.new.self.items c.unwrap-row.result c.self.inside.totals.entries long (rest_and_last c) c.drop_term.ensures.before
    ∙ ap (λ s. entries_of c.drop_term.new.runs.items c.pop.new.self.items ++ s ∷ []) (sym (made c))
