-- The moments that a clock tells.
use Rattle.std.specs.Prelude.{◌≡◌, ℕ, List, [], ◌∷◌, ⊤, Option, Some, None}

-- the next moment, or 0 where there is none
abbrev pub moment_of : List ℕ → ℕ
moment_of [] = 0
moment_of (n ∷ rest) = n

-- the moments after it: the last one stays
abbrev pub moments_after : List ℕ → List ℕ
moments_after [] = []
moments_after (n ∷ []) = n ∷ []
moments_after (n ∷ m ∷ rest) = m ∷ rest

-- a clock gave these moments, one after another, and nothing else
abbrev pub Tells : Option (List ℕ) → Option (List ℕ) → List ℕ → Type 0
Tells None new moments = ⊤
Tells (Some left) None moments = ⊥
Tells (Some left) (Some after) [] = after ≡ left
Tells (Some left) (Some after) (moment ∷ more) = (moment ≡ moment_of left) × Tells (Some (moments_after left)) (Some after) more
