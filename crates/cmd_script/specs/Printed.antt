-- The lines that are printed.
use Rattle.std.specs.Prelude.{ℕ, List, [], ◌∷◌, ◌++◌, codes}
use Rattle.hex.specs.Hex.{encode_upper}
use Rattle.r2_base.specs.declared.datagram.Datagram.{Datagram}
use Rattle.r2_base.specs.Addr.{addr_text}

-- the line of a record's bytes
unfoldable pub rec_text : List ℕ → List ℕ
rec_text bytes = codes "rec " ++ encode_upper bytes ++ 10 ∷ []

-- the line of a datagram that goes out
unfoldable pub out_text : Datagram → List ℕ
out_text d = codes "out " ++ addr_text d.to ++ codes " " ++ encode_upper d.bytes ++ 10 ∷ []
