-- The bodies that a member asks for, one after another.
use Rattle.std.proofs.Common.{◌≡◌, ℕ, List}
use Rattle.std.proofs.lemmas.List.Folds.{flat_map-map}
use Rattle.std.specs.List.{flat_map}
use Rattle.r2_base.specs.declared.datagram.Datagram.{Datagram}
use Rattle.r2_base.specs.declared.rid.Rid.{Rid}
use Rattle.hc_message.specs.declared.msg.Msg.TheVariants.{RecoverAsk}
use Rattle.hc_member.specs.declared.setup.Setup.{Setup}
use Rattle.hc_member.specs.Orders.{bodies_asked}
use Rattle.hc_member.specs.Sending.{Recover, datagrams_of, datagrams_of_all}
use Rattle.hc_member.specs.Setup.{address_of}

-- the datagrams that ask for one
abbrev pub asked_of : Setup → ℕ → Rid → List Datagram
asked_of s leader rid = datagrams_of s (Recover (address_of s leader) rid (RecoverAsk s.me))

-- those that ask for all
pub asked-all : (s : Setup) (leader : ℕ) (missing : List Rid) → datagrams_of_all s (bodies_asked s leader missing) ≡ flat_map (asked_of s leader) missing
asked-all s leader missing = flat_map-map (datagrams_of s) (λ rid. Recover (address_of s leader) rid (RecoverAsk s.me)) missing
