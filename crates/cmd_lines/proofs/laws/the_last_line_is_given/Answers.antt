-- The last line is handed out.
use Rattle.cmd_lines.proofs.Orders.{last_line_is_given}
use Rattle.cmd_lines.proofs.laws.the_last_line_is_given.Goals as goal

pub returns : goal.returns
returns c = last_line_is_given
