use Rattle.std.proofs.Common.{◌≡◌, ℕ, ◌+◌, ◌<◌, List, [], ◌∷◌, length, map, take, get_or, ap, ap₂, sym, ◌∙◌}
use Rattle.std.proofs.lemmas.List.{map-append, take_more}
use Rattle.clap.specs.Words.{with_rule}
use Rattle.hc_text.specs.declared.options.OptionRule.{OptionRule}
use Rattle.hc_text.specs.Options.{command_with, told}
use Rattle.hc_text.proofs.options.command_with.Goals as goal

one_more : (name : List ℕ) (rules : List OptionRule) (i : ℕ) (d : OptionRule) → i < length rules
    → with_rule (command_with name (map told (take i rules))) (told (get_or rules i d)) ≡ command_with name (map told (take (i + 1) rules))
one_more name rules i d inside =
    ap (command_with name) (sym (ap (map told) (take_more rules i d inside) ∙ map-append told (take i rules) (get_or rules i d ∷ [])))

pub rules-preserved : goal.rules-preserved
rules-preserved c =
    c.in_ok-command.ensures c.told.ensures.local ∙ ap₂ with_rule c.rules.invariant c.told.ensures.rule ∙ one_more _ _ _ _ c.rules-test.true
