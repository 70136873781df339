use Rattle.std.proofs.Common.{sym, ◌∙◌}
use Rattle.std.specs.Cmp.Lexicographic.{other_text, same_text}
use Rattle.r2_desk.proofs.sameness.same_bytes.Goals as goal

pub returns-clause-yes : goal.returns-clause-yes
returns-clause-yes c = λ e. same_text _ _ (sym e ∙ c.eq.ensures)

pub returns-clause-no : goal.returns-clause-no
returns-clause-no c = λ e. other_text _ _ (sym e ∙ c.eq.ensures)
