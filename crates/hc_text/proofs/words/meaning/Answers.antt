-- Words mean what the options of their command say, and words of no command mean nothing.
use Rattle.std.proofs.Common.{◌≡◌, List, ℕ, ap, map, rules, subst, sym, ◌∙◌, IfErr}
use Rattle.std.specs.String.{string_bytes}
use Rattle.clap.specs.Words.{App, Row}
use Rattle.cmd_script.specs.declared.text_fault.TextFault.TheVariants.{Memory}
use Rattle.hc_text.specs.declared.meant.Meant.{Meant}
use Rattle.hc_text.specs.Options.{AreTaken, IsSimpleCommand, rows_of_words}
use Rattle.hc_text.specs.Words.{Says, name_of}
use Rattle.hc_text.proofs.Commands.{is_simple, picks, said}
use Rattle.hc_text.proofs.OneMeaning.{found_by, not_outside, only_meant}
use Rattle.hc_text.proofs.Somes.{none_is_not_some}
use Rattle.hc_text.proofs.words.meaning.Goals as goal

-- the command that was built is the one that is picked
simple_along : (made command : App) → made ≡ command → IsSimpleCommand command → IsSimpleCommand made
simple_along made command is simple = subst IsSimpleCommand (sym is) simple

taken_along : (made command : App) (words : List (List ℕ)) → made ≡ command → AreTaken command words → AreTaken made words
taken_along made command words is taken = subst (λ (a : App). AreTaken a words) (sym is) taken

says_along : (made command : App) (words : List (List ℕ)) (rows : List Row) (m : Meant) → made ≡ command → rows ≡ rows_of_words made words
    → Says m (rows_of_words command words) → Says m rows
says_along made command words rows m is are says = subst (Says m) (sym (are ∙ ap (λ (a : App). rows_of_words a words) is)) says

pub returns-in_default-clause-only : goal.returns-in_default-clause-only
returns-in_default-clause-only c = λ m means. absurd (none_is_not_some (name_of m) (c.in_default.ensures.only (name_of m) (picks _ m means)))

pub returns-in_default-clause-outside : goal.returns-in_default-clause-outside
returns-in_default-clause-outside c = λ outside m means. none_is_not_some (name_of m) (c.in_default.ensures.only (name_of m) (picks _ m means))

pub returns-in_err-options-clause-only : goal.returns-in_err-options-clause-only
returns-in_err-options-clause-only c = λ m means.
    let it = said _ m _ c.in-Some.ensures.found means in
    let made = c.in_ok-command.ensures in
    search (rules, c.in_err-options.ensures.only (simple_along _ _ made (is_simple _)) (taken_along _ _ _ made it.taken))

pub returns-in_err-options-clause-outside : goal.returns-in_err-options-clause-outside
returns-in_err-options-clause-outside c = λ outside m means.
    let it = said _ m _ c.in-Some.ensures.found means in
    let made = c.in_ok-command.ensures in
    let fails = c.in_err-options.ensures.only (simple_along _ _ made (is_simple _)) (taken_along _ _ _ made it.taken) in
    let only : IfErr c.from_residual-in_err-options.result (λ e. e ≡ Memory) = search (rules, fails) in
    not_outside _ only outside

pub returns-clause-found : goal.returns-clause-found
returns-clause-found c =
    let made = c.in_ok-command.ensures in
    let simple = simple_along _ _ made (is_simple _) in
    let words = map (λ w. string_bytes w) c.args.words.now in
    found_by _ words _ _ c.in-Some.ensures.found (subst (λ (a : App). AreTaken a words) made (c.in_ok-options.ensures.taken simple))
    (c.in_ok-options.ensures.rows simple ∙ ap (λ (a : App). rows_of_words a words) made) c.read_options.ensures.name c.read_options.ensures.found

pub returns-clause-only : goal.returns-clause-only
returns-clause-only c = λ m means.
    let made = c.in_ok-command.ensures in
    let rows = c.in_ok-options.ensures.rows (simple_along _ _ made (is_simple _)) in
    let it = said _ m _ c.in-Some.ensures.found means in
    only_meant _ _ m (returns-clause-found c) (c.read_options.ensures.only m it.is_of (says_along _ _ _ _ m made rows it.says)) means

pub returns-clause-outside : goal.returns-clause-outside
returns-clause-outside c = λ outside m means.
    let made = c.in_ok-command.ensures in
    let rows = c.in_ok-options.ensures.rows (simple_along _ _ made (is_simple _)) in
    let it = said _ m _ c.in-Some.ensures.found means in
    not_outside _ (c.read_options.ensures.only m it.is_of (says_along _ _ _ _ m made rows it.says)) outside
