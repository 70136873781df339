-- A meaning of a command is made of what that command is told.
use Rattle.std.proofs.Common.{◌∙◌}
use Rattle.hc_text.specs.declared.command_name.CommandName.TheVariants.{Replica, Router, Aggregator, Server, Client, Replay, Simulate}
use Rattle.hc_text.proofs.Commands.{of_name, says_made}
use Rattle.hc_text.proofs.words.read_options.Goals as goal

pub returns-in-Replica-clause-only : goal.returns-in-Replica-clause-only
returns-in-Replica-clause-only c = λ m is says.
    let q = of_name m Replica (is ∙ c.in-Replica.is) in
    let f = q.fields in
    c.read_replica.ensures.only f.0 f.1 f.2 f.3 f.4 f.5 f.6 f.7 (says_made Replica m _ q says)

pub returns-in-Router-clause-only : goal.returns-in-Router-clause-only
returns-in-Router-clause-only c = λ m is says.
    let q = of_name m Router (is ∙ c.in-Router.is) in
    let f = q.fields in
    c.read_router.ensures.only f.0 f.1 f.2 f.3 f.4 f.5 (says_made Router m _ q says)

pub returns-in-Aggregator-clause-only : goal.returns-in-Aggregator-clause-only
returns-in-Aggregator-clause-only c = λ m is says.
    let q = of_name m Aggregator (is ∙ c.in-Aggregator.is) in
    let f = q.fields in
    c.read_aggregator.ensures.only f.0 f.1 f.2 (says_made Aggregator m _ q says)

pub returns-in-Server-clause-only : goal.returns-in-Server-clause-only
returns-in-Server-clause-only c = λ m is says.
    let q = of_name m Server (is ∙ c.in-Server.is) in
    let f = q.fields in
    c.read_server.ensures.only f.0 f.1 f.2 f.3 (says_made Server m _ q says)

pub returns-in-Client-clause-only : goal.returns-in-Client-clause-only
returns-in-Client-clause-only c = λ m is says.
    let q = of_name m Client (is ∙ c.in-Client.is) in
    let f = q.fields in
    c.read_client.ensures.only f.0 f.1 f.2 f.3 f.4 f.5 f.6 (says_made Client m _ q says)

pub returns-in-Replay-clause-only : goal.returns-in-Replay-clause-only
returns-in-Replay-clause-only c = λ m is says.
    let q = of_name m Replay (is ∙ c.in-Replay.is) in
    let f = q.fields in
    c.read_replay.ensures.only f.0 f.1 f.2 f.3 f.4 (says_made Replay m _ q says)

pub returns-in-Simulate-clause-only : goal.returns-in-Simulate-clause-only
returns-in-Simulate-clause-only c = λ m is says.
    let q = of_name m Simulate (is ∙ c.in-Simulate.is) in
    let f = q.fields in
    c.read_simulate.ensures.only f.0 f.1 f.2 f.3 f.4 f.5 f.6 f.7 (says_made Simulate m _ q says)
