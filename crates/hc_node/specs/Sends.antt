-- What a call sends.
use Rattle.std.specs.Prelude.{◌≡◌, List, ◌++◌}
use Rattle.r2_base.specs.declared.datagram.Datagram.{Datagram}
use Rattle.hc_member.specs.declared.setup.Setup.{Setup}
use Rattle.hc_member.specs.Sending.{Sending, datagrams_of_all}

-- the datagrams of what is sent come after those that were there
abbrev pub AreSent : Setup → List Sending → List Datagram → List Datagram → Type 0
AreSent s sends old new = new ≡ old ++ datagrams_of_all s sends
