-- The next line is handed out.
use Rattle.cmd_lines.proofs.Orders.{next_line_is_given}
use Rattle.cmd_lines.proofs.laws.the_next_line_is_given.Goals as goal

pub returns : goal.returns
returns c = next_line_is_given
