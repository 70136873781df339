-- What a row of the table of reactions gives.
use Rattle.std.specs.Prelude.{ℕ, List, [], length}
use Rattle.hc_member.specs.Member.{Member}
use Rattle.hc_member.specs.Sending.{Sending}

-- the member after the row, how much of its log is left from before it, and what is sent
pub record Outcome : Type 0 where
  pub member : Member
  pub keep : ℕ
  pub sends : List Sending

-- each entry of the log is left, and this is sent
abbrev pub stays : Member → Member → List Sending → Outcome
stays old new sends = record { member = new; keep = length old.log; sends = sends }

-- nothing happens
abbrev pub nothing : Member → Outcome
nothing m = stays m m []
