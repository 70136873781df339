-- What calls that were cut short have done to the bytes that a sink tells.
use Rattle.std.specs.Prelude.{◌≡◌, ℕ, List, ◌++◌, Option}
use Rattle.std.specs.Io.KnownBytes.{Appends}

-- some prefix of the piece was appended
pub record AppendsPrefix (old new : Option (List ℕ)) (piece : List ℕ) : Type 0 where
  pub prefix : List ℕ
  pub rest : List ℕ
  pub split : piece ≡ prefix ++ rest
  pub gave : Appends old new prefix
