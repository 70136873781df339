-- Who sent what is heard.
use Rattle.std.proofs.Common.{◌≡◌, ℕ, ◌<◌, true, length}
use Rattle.std.specs.Prelude.{nat_lt, not, ◌==◌}
use Rattle.std.proofs.lemmas.Bool.{and_parts, ltb-true}
use Rattle.r2_base.specs.declared.addr.Addr.{Addr}
use Rattle.r2_base.specs.Names.{same_addr}
use Rattle.hc_member.specs.declared.setup.Setup.{Setup}
use Rattle.hc_member.specs.Setup.{address_of, is_from_member, is_other}

-- the sender is a member
pub sender-inside : (s : Setup) (from : Addr) (member : ℕ) → is_from_member s from member ≡ true → member < length s.members
sender-inside s from member fits =
    let outer = and_parts (is_other s member) (same_addr from (address_of s member)) fits in
    let inner = and_parts (nat_lt member (length s.members)) (not (member == s.me)) outer.0 in
    ltb-true member (length s.members) inner.0
