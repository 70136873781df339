-- What is printed: the lines of a turn.
use Rattle.std.specs.Prelude.{ℕ, List, [], ◌++◌, Option, Some, None}
use Rattle.std.specs.List.{flat_map}
use Rattle.r2_base.specs.declared.datagram.Datagram.{Datagram}
use Rattle.cmd_script.specs.Printed.{rec_text, out_text}
use Rattle.hc_log.specs.declared.record.Record.{Record}
use Rattle.hc_journal.specs.Record.{record_bytes}

-- the line of a record, where there is one
abbrev pub stored_text : Option Record → List ℕ
stored_text (Some r) = rec_text (record_bytes r)
stored_text None = []

-- the lines of a turn: what is stored comes before what goes out
unfoldable pub turn_text : Option Record → List Datagram → List ℕ
turn_text stored sends = stored_text stored ++ flat_map out_text sends
