-- A client as its talk with the servers has it.
use Rattle.std.specs.Prelude.{true, false}
use Rattle.cmd_client.specs.declared.caller.Caller.{Caller}
use Rattle.cmd_client.specs.Talk.{Talk, talk}

-- the talk, where the clock was asked after each item
abbrev pub talk_of : Caller → Talk
talk_of client = talk client.session client.ticker false

-- the talk, where the clock wasn't asked yet after the last item
abbrev pub heard_of : Caller → Talk
heard_of client = talk client.session client.ticker true
