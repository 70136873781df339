-- The command has the options so far.
use Rattle.std.proofs.Common.{◌≡◌, map, take}
use Rattle.clap.specs.Words.{app_of}
use Rattle.hc_text.specs.Options.{command_with, told}
use Rattle.hc_text.proofs.options.command_with.Given as goal

abbrev pub invariant-rules : goal.invariant-rules
invariant-rules l = app_of l.command ≡ command_with l.name (map told (take l.rule-index l.rules))
