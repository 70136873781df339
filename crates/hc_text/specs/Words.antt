-- What the words of a command line mean.
use Rattle.std.specs.Prelude.{◌≢◌, ℕ, Bool, List, Option, Some, All, IfSome, length, codes}
use Rattle.clap.specs.Words.{Row}
use Rattle.r2_base.specs.declared.addr.Addr.{Addr}
use Rattle.r2_base.specs.Addr.{IsAddrText}
use Rattle.hc_text.specs.declared.command_name.CommandName.{CommandName}
use Rattle.hc_text.specs.declared.command_name.CommandName.TheVariants as names
use Rattle.hc_text.specs.declared.meant.Meant.{Meant}
use Rattle.hc_text.specs.declared.meant.Meant.TheVariants.{Replica, Router, Aggregator, Server, Client, Replay, Simulate}
use Rattle.hc_text.specs.declared.policy.Policy.{Policy}
use Rattle.hc_text.specs.Commands.{command_of}
use Rattle.hc_text.specs.Options.{AreOptions, HasFlag, HasOption, MayHaveAddr}
use Rattle.hc_text.specs.Texts.{IsAddrList, IsBoundsText, IsMemberText, IsNameText, IsNumberText, IsPolicyText, IsTickText, IsTurnsText, IsWorkersText}

-- ---- what the options of a command say

-- the aggregator's address isn't a member's
abbrev pub IsApart : Option Addr → List Addr → Type 0
IsApart aggregator members = IfSome aggregator (λ a. All (λ member. member ≢ a) members)

-- a member of a group, and how its group runs
pub record SaysGroup (members : List Addr) (me : ℕ) (aggregator : Option Addr) (bounds : List ℕ) (election : ℕ) (rows : List Row) : Type 0 where
  pub group : HasOption rows (codes "members") (IsAddrList 7 members)
  pub own : HasOption rows (codes "me") (IsMemberText members me)
  pub aggregated : MayHaveAddr rows (codes "aggregator") aggregator
  pub apart : IsApart aggregator members
  pub bounded : HasOption rows (codes "bound") (IsBoundsText (length members) bounds)
  pub elects : HasOption rows (codes "election") (IsNumberText 1 1000 election)

-- a member that keeps a journal
pub record SaysReplica (members : List Addr) (me : ℕ) (journal : List ℕ) (aggregator : Option Addr) (bounds : List ℕ) (election tick_ms turns : ℕ) (rows : List Row) : Type 0 where
  pub member : SaysGroup members me aggregator bounds election rows
  pub keeps : HasOption rows (codes "journal") (IsNameText journal)
  pub ticks : HasOption rows (codes "tick-ms") (IsTickText tick_ms)
  pub ends : HasOption rows (codes "turns") (IsTurnsText turns)

pub record SaysRouter (listen : Addr) (servers : List Addr) (n workers tick_ms turns : ℕ) (rows : List Row) : Type 0 where
  pub listens : HasOption rows (codes "listen") (IsAddrText listen)
  pub targets : HasOption rows (codes "servers") (IsAddrList 64 servers)
  pub bounded : HasOption rows (codes "n") (IsNumberText 1 16 n)
  pub works : HasOption rows (codes "workers") (IsWorkersText workers)
  pub ticks : HasOption rows (codes "tick-ms") (IsTickText tick_ms)
  pub ends : HasOption rows (codes "turns") (IsTurnsText turns)

pub record SaysAggregator (listen : Addr) (members : List Addr) (turns : ℕ) (rows : List Row) : Type 0 where
  pub listens : HasOption rows (codes "listen") (IsAddrText listen)
  pub group : HasOption rows (codes "members") (IsAddrList 7 members)
  pub apart : IsApart (Some listen) members
  pub ends : HasOption rows (codes "turns") (IsTurnsText turns)

pub record SaysServer (listen : Addr) (router : Option Addr) (tick_ms turns : ℕ) (rows : List Row) : Type 0 where
  pub listens : HasOption rows (codes "listen") (IsAddrText listen)
  pub routed : MayHaveAddr rows (codes "router") router
  pub ticks : HasOption rows (codes "tick-ms") (IsTickText tick_ms)
  pub ends : HasOption rows (codes "turns") (IsTurnsText turns)

pub record SaysClient (listen : Addr) (to : List Addr) (policy : Policy) (wait tries tick_ms turns : ℕ) (rows : List Row) : Type 0 where
  pub listens : HasOption rows (codes "listen") (IsAddrText listen)
  pub targets : HasOption rows (codes "to") (IsAddrList 7 to)
  pub by_policy : HasOption rows (codes "policy") (IsPolicyText policy)
  pub waits : HasOption rows (codes "wait") (IsNumberText 1 100000 wait)
  pub tried : HasOption rows (codes "tries") (IsNumberText 1 1000 tries)
  pub ticks : HasOption rows (codes "tick-ms") (IsTickText tick_ms)
  pub ends : HasOption rows (codes "turns") (IsTurnsText turns)

-- a group that is simulated: so many members, a request in each of so many rounds, how many of 100 packets are lost and come again,
-- and how often of 1,000 times a member crashes
pub record SaysSimulate (seed members requests loss repeat crash : ℕ) (bounds : List ℕ) (aggregator : Bool) (rows : List Row) : Type 0 where
  pub seeded : HasOption rows (codes "seed") (IsNumberText 0 18446744073709551615 seed)
  pub group : HasOption rows (codes "members") (IsNumberText 1 7 members)
  pub asked : HasOption rows (codes "requests") (IsNumberText 0 60000 requests)
  pub loses : HasOption rows (codes "loss") (IsNumberText 0 90 loss)
  pub repeats : HasOption rows (codes "repeat") (IsNumberText 0 90 repeat)
  pub crashes : HasOption rows (codes "crash") (IsNumberText 0 500 crash)
  pub bounded : HasOption rows (codes "bound") (IsBoundsText members bounds)
  pub aggregated : HasFlag rows (codes "aggregator") aggregator

-- ---- what the words mean

-- the command of a meaning
abbrev pub name_of : Meant → CommandName
name_of (Replica members me journal aggregator bounds election tick_ms turns) = names.Replica
name_of (Router listen servers n workers tick_ms turns) = names.Router
name_of (Aggregator listen members turns) = names.Aggregator
name_of (Server listen router tick_ms turns) = names.Server
name_of (Client listen to policy wait tries tick_ms turns) = names.Client
name_of (Replay members me aggregator bounds election) = names.Replay
name_of (Simulate seed members requests loss repeat crash bounds aggregator) = names.Simulate

-- what its options say
abbrev pub Says : Meant → List Row → Type 0
Says (Replica members me journal aggregator bounds election tick_ms turns) = SaysReplica members me journal aggregator bounds election tick_ms turns
Says (Router listen servers n workers tick_ms turns) = SaysRouter listen servers n workers tick_ms turns
Says (Aggregator listen members turns) = SaysAggregator listen members turns
Says (Server listen router tick_ms turns) = SaysServer listen router tick_ms turns
Says (Client listen to policy wait tries tick_ms turns) = SaysClient listen to policy wait tries tick_ms turns
Says (Replay members me aggregator bounds election) = SaysGroup members me aggregator bounds election
Says (Simulate seed members requests loss repeat crash bounds aggregator) = SaysSimulate seed members requests loss repeat crash bounds aggregator

-- the words mean this: they name its command, and the options say it
abbrev pub Means : List (List ℕ) → Meant → Type 0
Means words meant = AreOptions (command_of (name_of meant)) words (Says meant)
