-- The text of an address.
use Rattle.std.specs.Prelude.{◌≡◌, ℕ, ◌^◌, ◌<◌, List, ◌++◌, codes}
use Rattle.std.specs.Fmt.{decimal}
use Rattle.std.specs.Int.{byte_at}
use Rattle.r2_base.specs.declared.addr.Addr.{Addr}

-- the four bytes of the number in decimal, joined by dots, the greatest first
unfoldable pub ip_text : ℕ → List ℕ
ip_text ip = decimal (byte_at 3 ip) ++ codes "." ++ decimal (byte_at 2 ip) ++ codes "." ++ decimal (byte_at 1 ip) ++ codes "." ++ decimal (byte_at 0 ip)

-- the four bytes, a colon and the port in decimal
unfoldable pub addr_text : Addr → List ℕ
addr_text a = ip_text a.ip ++ codes ":" ++ decimal a.port

-- the text is that of the address, whose port isn't 0
pub record IsAddrText (a : Addr) (text : List ℕ) : Type 0 where
  pub ip_fits : a.ip < 2 ^ 32
  pub port_is_set : 0 < a.port
  pub port_fits : a.port < 2 ^ 16
  pub spelled : text ≡ addr_text a
