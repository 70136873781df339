-- What was put so far, and then what the servers from here on get, are all.
use Rattle.std.proofs.Common.{◌≡◌, ◌++◌, drop}
use Rattle.r2_jbsq.specs.Answer.{repeats}
use Rattle.r2_jbsq.proofs.sending.repeats.Given as goal

abbrev pub invariant-servers : goal.invariant-servers
invariant-servers l = repeats l.me l.servers l.rows ≡ l.sends ++ repeats l.me (drop l.i l.servers) (drop l.i l.rows)
