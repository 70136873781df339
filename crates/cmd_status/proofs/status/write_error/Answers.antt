use Rattle.cmd_status.proofs.Reports.{done_says_nothing, error_text-line}
use Rattle.cmd_status.proofs.status.write_error.Goals as goal

pub returns-in-Done-clause-whole : goal.returns-in-Done-clause-whole
returns-in-Done-clause-whole g c = done_says_nothing _ c.args.status c.in-Done.is

pub returns-in_default : goal.returns-in_default
returns-in_default g c = rw (error_text-line c.args.status c.in_default.not-Done) c.write_error_line.ensures
