-- What holds of lines and of printed ends.
use Rattle.std.specs.Prelude.{◌≡◌, ◌^◌, ◌<◌, ℕ, List, [], ◌∷◌, ◌++◌, length, Some, codes}
use Rattle.clap.specs.Words.{first_of}
use Rattle.r2_client.specs.declared.call_end.CallEnd.TheVariants.{Reply}
use Rattle.hc_store.specs.Command.{Command, command_of}
use Rattle.hc_store.specs.Replies.{payload_of}
use Rattle.hc_text.specs.declared.meant.Meant.{Meant}
use Rattle.hc_text.specs.Call.{Says, IsCallLine, call_of}
use Rattle.hc_text.specs.End.{end_text, served_text}
use Rattle.hc_text.specs.Options.{AreTaken, rows_of_words}
use Rattle.hc_text.specs.Commands.{server_command}
use Rattle.hc_text.specs.Words.{Means}

-- the service reads a body that a command's line asks for as that command; a line of 8,192 bytes is short enough for its fields
abbrev pub LinesAreServed : Type 0
LinesAreServed = (line : List ℕ) (command : Command) → Says command line → length line < 2 ^ 16
    → IsCallLine line (call_of command) × (command_of (call_of command).body ≡ Some command)

-- the end of a call that the service answered has the answer's index, status and value
abbrev pub AnswersArePrinted : Type 0
AnswersArePrinted = (index status : ℕ) (value : List ℕ) → index < 2 ^ 64
    → end_text (Reply (payload_of index status value)) ≡ served_text index status value ++ 10 ∷ []

-- no words mean two things
abbrev pub WordsMeanOneThing : Type 0
WordsMeanOneThing = (words : List (List ℕ)) (a b : Meant) → Means words a → Means words b → a ≡ b

-- the words mean nothing
abbrev pub MeanNothing : List (List ℕ) → Type 0
MeanNothing words = (meant : Meant) → Means words meant → ⊥

-- no words, words of no command, and options that are missing, doubled, without a value, unknown or without a name
pub record SomeMeanNothing : Type 0 where
  pub none : MeanNothing []
  pub unknown_command : MeanNothing (codes "fly" ∷ [])
  pub missing : MeanNothing (codes "server" ∷ [])
  pub doubled : MeanNothing (codes "server" ∷ codes "--listen=10.0.0.1:9000" ∷ codes "--listen" ∷ codes "10.0.0.1:9000" ∷ [])
  pub without_value : MeanNothing (codes "server" ∷ codes "--listen" ∷ [])
  pub unknown_option : MeanNothing (codes "server" ∷ codes "--listen" ∷ codes "10.0.0.1:9000" ∷ codes "--help" ∷ [])
  pub without_name : MeanNothing (codes "server" ∷ codes "10.0.0.1:9000" ∷ [])

-- a value after a space or after `=`, and the text of an option that is left out
pub record SomeAreTaken : Type 0 where
  pub spaced : AreTaken server_command (codes "server" ∷ codes "--listen" ∷ codes "10.0.0.1:9000" ∷ [])
  pub spaced_text : first_of (codes "listen") (rows_of_words server_command (codes "server" ∷ codes "--listen" ∷ codes "10.0.0.1:9000" ∷ [])) ≡ Some (codes "10.0.0.1:9000")
  pub equal : AreTaken server_command (codes "server" ∷ codes "--listen=10.0.0.1:9000" ∷ [])
  pub equal_text : first_of (codes "listen") (rows_of_words server_command (codes "server" ∷ codes "--listen=10.0.0.1:9000" ∷ [])) ≡ Some (codes "10.0.0.1:9000")
  pub left_out : first_of (codes "tick-ms") (rows_of_words server_command (codes "server" ∷ codes "--listen=10.0.0.1:9000" ∷ [])) ≡ Some (codes "10")
