-- Texts, and how a source has them as lines.
use Rattle.std.specs.Prelude.{◌≢◌, ℕ, ◌≤◌, List, [], ◌∷◌, ◌++◌, length, All}
use Rattle.std.specs.List.{flat_map}

-- the text of a line, without its end: so many bytes at most
pub record IsText (longest : ℕ) (text : List ℕ) : Type 0 where
  pub one_line : All (λ b. b ≢ 10) text
  pub short : length text ≤ longest

-- texts as a source has them, each with its end
unfoldable pub fed : List (List ℕ) → List ℕ
fed texts = flat_map (λ text. text ++ 10 ∷ []) texts
