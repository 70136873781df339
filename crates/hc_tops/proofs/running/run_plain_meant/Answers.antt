-- A command that is plain, after a bind, beside a disk that it doesn't use.
use Rattle.std.proofs.Common.{inr}
use Rattle.hc_tops.proofs.running.run_plain_meant.Goals as goal

pub returns-clause-did : goal.returns-clause-did
returns-clause-did g c = λ disk. inr (g.L.Link.told c.bind_first.new.link, rw (← c.listens_at.ensures) c.in_default.ensures.bound, c.run_bound.ensures.did disk)
