-- What holds of the messages that an assembly keeps.
use Rattle.std.specs.Prelude.{◌≡◌, ◌≤◌, List, [], ◌∷◌, length, None}
use Rattle.std.specs.List.{All, find}
use Rattle.r2_frag.specs.declared.unfinished.Unfinished.{Unfinished}
use Rattle.r2_frag.specs.Assembly.{is_of, most_unfinished}
use Rattle.r2_frag.specs.Bodies.{IsUnfinished}
use Rattle.r2_frag.specs.Sizes.{IsShort}

-- no key has two messages
abbrev pub AreDistinct : List Unfinished → Type 0
AreDistinct [] = Unit {0}
AreDistinct (m ∷ rest) = (find (is_of m.key) rest ≡ None) × AreDistinct rest

-- there are no more than may be, and no two have one key; each has short pieces and a count that its class allows, and waits
-- for further parts
pub record ArePending (messages : List Unfinished) : Type 0 where
  pub most : length messages ≤ most_unfinished
  pub distinct : AreDistinct messages
  pub short : All IsShort messages
  pub unfinished : All IsUnfinished messages
