-- A client's script: the calls that its lines ask for.
use Rattle.std.specs.Prelude.{◌≡◌, ℕ, List}
use Rattle.cmd_lines.specs.Limits.{most_line}
use Rattle.cmd_lines.specs.Script as scripts
use Rattle.hc_text.specs.declared.call.Call.{Call}
use Rattle.hc_text.specs.declared.policy.Policy.{Policy}
use Rattle.hc_text.specs.Call.{IsCallLine}
use Rattle.hc_text.specs.Policy.{policy_number}
use Rattle.cmd_client.specs.Talk.{Asked}

-- a call as it is asked under a policy
abbrev pub asked_of : Policy → Call → Asked
asked_of policy call = record { policy = policy_number policy call.read; body = call.body }

-- a line asks for this call
pub record AsksFor (policy : Policy) (text : List ℕ) (asked : Asked) : Type 0 where
  pub call : Call
  pub said : IsCallLine text call
  pub is : asked ≡ asked_of policy call

-- no call is asked for by the line
abbrev pub IsOutside : List ℕ → Type 0
IsOutside line = scripts.IsOutside IsCallLine line

-- the bytes are a script: each of its texts is empty, or asks for a call
abbrev pub IsScript : List ℕ → Type 0
IsScript script = scripts.IsScript most_line IsCallLine script
