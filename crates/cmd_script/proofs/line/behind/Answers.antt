use Rattle.std.proofs.Common.{◌≡◌, ◌≢◌, ℕ, List, ◌++◌, Option, Some, None, IfSome, IsSomeAnd, MatchOption, Bor, sym, ◌∙◌}
use Rattle.std.proofs.lemmas.List.{append_cancel_left}
use Rattle.std.proofs.lemmas.Slice.Eq.{strip_prefix_is}
use Rattle.std.proofs.lemmas.Bool.Decides.{Decides-eqb}
use Rattle.cmd_script.proofs.line.behind.Goals as goal

found_by : (text front : List ℕ) (r : Option (Bor (List ℕ))) → MatchOption r ((rest : List ℕ) → text ≢ front ++ rest) (λ x. text ≡ front ++ x.now) → IfSome r (λ x. text ≡ front ++ x.now)
found_by text front None h = tt
found_by text front (Some x) h = h

only_by : (text front rest : List ℕ) (r : Option (Bor (List ℕ))) → MatchOption r ((rest : List ℕ) → text ≢ front ++ rest) (λ x. text ≡ front ++ x.now) → text ≡ front ++ rest → IsSomeAnd r (λ x. x.now ≡ rest)
only_by text front rest None h spelled = absurd (h rest spelled)
only_by text front rest (Some x) h spelled = append_cancel_left front x.now rest (sym h ∙ spelled)

pub returns-clause-found : goal.returns-clause-found
returns-clause-found c = found_by _ _ _ (strip_prefix_is Decides-eqb _ _ _ c.strip_prefix.ensures.cases)

pub returns-clause-only : goal.returns-clause-only
returns-clause-only c = λ rest spelled. only_by _ _ rest _ (strip_prefix_is Decides-eqb _ _ _ c.strip_prefix.ensures.cases) spelled
