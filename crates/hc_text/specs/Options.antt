-- The options of a command, as `clap` takes them from the words.
use Rattle.std.specs.Prelude.{◌≡◌, ◌≢◌, ℕ, Bool, List, [], ◌∷◌, Option, Some, None, true, false, slice_get, codes}
use Rattle.clap.specs.Words.{App, Row, Rule, first_of, fault_of, is_simple, is_simple_and_free, matches_of, new_rule}
use Rattle.clap.specs.Simple.{new_shape}
use Rattle.clap.specs.declared.builder.action.ArgAction.TheVariants.{SetTrue}
use Rattle.r2_base.specs.declared.addr.Addr.{Addr}
use Rattle.r2_base.specs.Addr.{IsAddrText}
use Rattle.hc_text.specs.declared.options.OptionRule.{OptionRule}
use Rattle.hc_text.specs.declared.options.OptionRule.TheVariants.{Required, Optional, Defaulted, Flag}

-- an option that must be given
abbrev pub required : List ℕ → Rule
required name = record (new_rule name) { long = Some name; required = true }

-- an option that may be left out
abbrev pub optional : List ℕ → Rule
optional name = record (new_rule name) { long = Some name }

-- an option that has this text where it is left out
abbrev pub defaulted : List ℕ → List ℕ → Rule
defaulted name text = record (new_rule name) { long = Some name; defaults = text ∷ [] }

-- an option without a value
abbrev pub flag : List ℕ → Rule
flag name = record (new_rule name) { long = Some name; action = Some SetTrue }

-- what `clap` is told of an option
abbrev pub told : OptionRule → Rule
told (Required name) = required name.now
told (Optional name) = optional name.now
told (Defaulted name text) = defaulted name.now text.now
told (Flag name) = flag name.now

-- a command with these options, and no flags for help and version
abbrev pub command_with : List ℕ → List Rule → App
command_with name options = record {
  top = record (new_shape name) {
    rules = options;
    disable_help_flag = true;
    disable_version_flag = true;
  };
  subs = [];
}

-- the option has a text, given or its own, and this holds of it
pub record HasOption (rows : List Row) (name : List ℕ) (Holds : List ℕ → Type 0) : Type 0 where
  pub text : List ℕ
  pub given : first_of name rows ≡ Some text
  pub holds : Holds text

-- the option is left out, or names this address
abbrev pub MayHaveAddr : List Row → List ℕ → Option Addr → Type 0
MayHaveAddr rows name None = first_of name rows ≡ None
MayHaveAddr rows name (Some a) = HasOption rows name (IsAddrText a)

-- whether the option without a value is given, which `clap` says by a text
abbrev pub HasFlag : List Row → List ℕ → Bool → Type 0
HasFlag rows name true = first_of name rows ≡ Some (codes "true")
HasFlag rows name false = first_of name rows ≢ Some (codes "true")

-- `clap` takes the words after the first as options of the command
unfoldable pub AreTaken : App → List (List ℕ) → Type 0
AreTaken command words = fault_of command words ≡ []

-- what the options are then
unfoldable pub rows_of_words : App → List (List ℕ) → List Row
rows_of_words command words = matches_of command words

-- the first word is the command's, and the others are options of it, of which this holds
pub record AreOptions (command : App) (words : List (List ℕ)) (Hold : List Row → Type 0) : Type 0 where
  pub named : slice_get words 0 ≡ Some command.top.name
  pub taken : AreTaken command words
  pub hold : Hold (rows_of_words command words)

-- a command whose parse `clap` says exactly
pub record IsSimpleCommand (command : App) : Type 0 where
  pub simple : is_simple command ≡ true
  pub free : is_simple_and_free command ≡ true
