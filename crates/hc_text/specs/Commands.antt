-- The commands: the word of each, and its options.
use Rattle.std.specs.Prelude.{ℕ, List, [], ◌∷◌, codes}
use Rattle.clap.specs.Words.{App}
use Rattle.hc_text.specs.declared.command_name.CommandName.{CommandName}
use Rattle.hc_text.specs.declared.command_name.CommandName.TheVariants.{Replica, Router, Aggregator, Server, Client, Replay, Simulate}
use Rattle.hc_text.specs.Options.{command_with, defaulted, flag, optional, required}

-- the word that picks a command
abbrev pub word_of : CommandName → List ℕ
word_of Replica = codes "replica"
word_of Router = codes "router"
word_of Aggregator = codes "aggregator"
word_of Server = codes "server"
word_of Client = codes "client"
word_of Replay = codes "replay"
word_of Simulate = codes "simulate"

unfoldable pub replica_command : App
replica_command =
    command_with (word_of Replica)
    (required (codes "members")
    ∷ required (codes "me")
    ∷ required (codes "journal")
    ∷ optional (codes "aggregator")
    ∷ defaulted (codes "bound") (codes "64")
    ∷ defaulted (codes "election") (codes "10")
    ∷ defaulted (codes "tick-ms") (codes "10")
    ∷ defaulted (codes "turns") (codes "72057594037927936")
    ∷ [])

unfoldable pub router_command : App
router_command =
    command_with (word_of Router)
    (required (codes "listen")
    ∷ required (codes "servers")
    ∷ defaulted (codes "n") (codes "2")
    ∷ defaulted (codes "workers") (codes "1")
    ∷ defaulted (codes "tick-ms") (codes "100")
    ∷ defaulted (codes "turns") (codes "72057594037927936")
    ∷ [])

unfoldable pub aggregator_command : App
aggregator_command =
    command_with (word_of Aggregator)
    (required (codes "listen")
    ∷ required (codes "members")
    ∷ defaulted (codes "turns") (codes "72057594037927936")
    ∷ [])

unfoldable pub server_command : App
server_command =
    command_with (word_of Server)
    (required (codes "listen")
    ∷ optional (codes "router")
    ∷ defaulted (codes "tick-ms") (codes "10")
    ∷ defaulted (codes "turns") (codes "72057594037927936")
    ∷ [])

unfoldable pub client_command : App
client_command =
    command_with (word_of Client)
    (required (codes "listen")
    ∷ required (codes "to")
    ∷ required (codes "policy")
    ∷ defaulted (codes "wait") (codes "20")
    ∷ defaulted (codes "tries") (codes "5")
    ∷ defaulted (codes "tick-ms") (codes "10")
    ∷ defaulted (codes "turns") (codes "72057594037927936")
    ∷ [])

unfoldable pub replay_command : App
replay_command =
    command_with (word_of Replay)
    (required (codes "members")
    ∷ required (codes "me")
    ∷ optional (codes "aggregator")
    ∷ defaulted (codes "bound") (codes "64")
    ∷ defaulted (codes "election") (codes "10")
    ∷ [])

unfoldable pub simulate_command : App
simulate_command =
    command_with (word_of Simulate)
    (defaulted (codes "seed") (codes "1")
    ∷ defaulted (codes "members") (codes "3")
    ∷ defaulted (codes "requests") (codes "100")
    ∷ defaulted (codes "loss") (codes "0")
    ∷ defaulted (codes "repeat") (codes "0")
    ∷ defaulted (codes "crash") (codes "0")
    ∷ defaulted (codes "bound") (codes "64")
    ∷ flag (codes "aggregator")
    ∷ [])

-- a command with its options
abbrev pub command_of : CommandName → App
command_of Replica = replica_command
command_of Router = router_command
command_of Aggregator = aggregator_command
command_of Server = server_command
command_of Client = client_command
command_of Replay = replay_command
command_of Simulate = simulate_command
