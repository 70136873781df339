-- The words of small readers of bytes.
use Rattle.std.specs.Prelude.{◌≡◌, ◌≢◌, ℕ, List, ◌∷◌, ◌++◌, All}

-- the text is a prefix, the byte and the rest, and the byte isn't in the prefix
pub record IsSplit (byte : ℕ) (text front rest : List ℕ) : Type 0 where
  pub joined : text ≡ front ++ byte ∷ rest
  pub first : All (λ b. b ≢ byte) front
