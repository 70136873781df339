-- The grammar of a script.
use Rattle.std.specs.Prelude.{ℕ, List}
use Rattle.cmd_lines.specs.Limits.{most_line}
use Rattle.cmd_lines.specs.Script as scripts
use Rattle.cmd_script.specs.Line.{IsLine}

-- the bytes are a script: each of its texts is empty, or a line's
abbrev pub IsScript : List ℕ → Type 0
IsScript script = scripts.IsScript most_line IsLine script
