-- The lines of a script.
use Rattle.std.specs.Prelude.{◌≡◌, ℕ, List, ◌++◌, codes, Ok}
use Rattle.hex.specs.Hex.{decode_of}
use Rattle.r2_base.specs.declared.addr.Addr.{Addr}
use Rattle.r2_base.specs.Addr.{IsAddrText}
use Rattle.cmd_script.specs.declared.line.Line.{Line}
use Rattle.cmd_script.specs.declared.line.Line.TheVariants.{Tick, Quiet, In, Restart}

-- the line of a datagram that comes in: whence, and its bytes in hexadecimal of either case
pub record IsIncoming (text : List ℕ) (from : Addr) (bytes : List ℕ) : Type 0 where
  pub address : List ℕ
  pub digits : List ℕ
  pub named : IsAddrText from address
  pub decoded : decode_of digits ≡ Ok bytes
  pub spelled : text ≡ codes "in " ++ address ++ codes " " ++ digits

-- the line of a datagram that came from there, with these digits after the address
pub record IsSentBy (text : List ℕ) (from : Addr) (digits : List ℕ) : Type 0 where
  pub address : List ℕ
  pub named : IsAddrText from address
  pub spelled : text ≡ codes "in " ++ address ++ codes " " ++ digits

-- what a line says
abbrev pub IsLine : List ℕ → Line → Type 0
IsLine text Tick = text ≡ codes "tick"
IsLine text Quiet = text ≡ codes "quiet"
IsLine text (In from bytes) = IsIncoming text from bytes
IsLine text Restart = text ≡ codes "restart"
