-- The commands: `clap` reads each, each has a word of its own, and a meaning is of one of them.
use Rattle.std.proofs.Common.{◌≡◌, ℕ, ◌+◌, Bool, List, get_or, Option, Some, refl, sym, ap, subst, ◌∙◌, ◌==◌}
use Rattle.std.specs.Prelude.{slice_get, if◌then◌else◌}
use Rattle.clap.specs.Words.{Row}
use Rattle.clap.proofs.OnLiterals.{clap_on_literals}
use Rattle.r2_base.specs.declared.addr.Addr.{Addr}
use Rattle.hc_text.specs.declared.command_name.CommandName.{CommandName}
use Rattle.hc_text.specs.declared.command_name.CommandName.TheVariants.{Replica, Router, Aggregator, Server, Client, Replay, Simulate}
use Rattle.hc_text.specs.declared.meant.Meant.{Meant}
use Rattle.hc_text.specs.declared.meant.Meant.TheVariants as meant
use Rattle.hc_text.specs.declared.policy.Policy.{Policy}
use Rattle.hc_text.specs.Commands.{aggregator_command, client_command, command_of, replay_command, replica_command, router_command, server_command, simulate_command, word_of}
use Rattle.hc_text.specs.Options.{AreTaken, IsSimpleCommand, rows_of_words}
use Rattle.hc_text.specs.Words.{Means, Says, name_of}
use Rattle.hc_text.proofs.Somes.{some_same}

-- ---- each command

pub is_simple : (name : CommandName) → IsSimpleCommand (command_of name)
unfolding replica_command router_command aggregator_command server_command client_command replay_command simulate_command clap_on_literals
is_simple Replica = record { simple = refl; free = refl }
is_simple Router = record { simple = refl; free = refl }
is_simple Aggregator = record { simple = refl; free = refl }
is_simple Server = record { simple = refl; free = refl }
is_simple Client = record { simple = refl; free = refl }
is_simple Replay = record { simple = refl; free = refl }
is_simple Simulate = record { simple = refl; free = refl }

pub named : (name : CommandName) → (command_of name).top.name ≡ word_of name
unfolding replica_command router_command aggregator_command server_command client_command replay_command simulate_command
named Replica = refl
named Router = refl
named Aggregator = refl
named Server = refl
named Client = refl
named Replay = refl
named Simulate = refl

-- the words of the commands differ by twice their third letter and the sixth
letter : List ℕ → ℕ
letter word = get_or word 2 0 + get_or word 2 0 + get_or word 5 0

picked : ℕ → CommandName
picked n =
    if n == 348 then Router
    else (if n == 309 then Aggregator else (if n == 342 then Server else (if n == 326 then Client else (if n == 345 then Replay else (if n == 315 then Simulate else Replica)))))

picked-letter : (name : CommandName) → picked (letter (word_of name)) ≡ name
unfolding letter picked
picked-letter Replica = refl
picked-letter Router = refl
picked-letter Aggregator = refl
picked-letter Server = refl
picked-letter Client = refl
picked-letter Replay = refl
picked-letter Simulate = refl

pub same_name : (a b : CommandName) → word_of a ≡ word_of b → a ≡ b
same_name a b same = sym (picked-letter a) ∙ ap (λ word. picked (letter word)) same ∙ picked-letter b

-- ---- what a command is told

abbrev pub Fields : CommandName → Type 0
Fields Replica = List Addr × ℕ × List ℕ × Option Addr × List ℕ × ℕ × ℕ × ℕ
Fields Router = Addr × List Addr × ℕ × ℕ × ℕ × ℕ
Fields Aggregator = Addr × List Addr × ℕ
Fields Server = Addr × Option Addr × ℕ × ℕ
Fields Client = Addr × List Addr × Policy × ℕ × ℕ × ℕ × ℕ
Fields Replay = List Addr × ℕ × Option Addr × List ℕ × ℕ
Fields Simulate = ℕ × ℕ × ℕ × ℕ × ℕ × ℕ × List ℕ × Bool

abbrev pub made : (name : CommandName) → Fields name → Meant
made Replica (members, me, journal, aggregator, bounds, election, tick_ms, turns) = meant.Replica members me journal aggregator bounds election tick_ms turns
made Router (listen, servers, n, workers, tick_ms, turns) = meant.Router listen servers n workers tick_ms turns
made Aggregator (listen, members, turns) = meant.Aggregator listen members turns
made Server (listen, router, tick_ms, turns) = meant.Server listen router tick_ms turns
made Client (listen, to, policy, wait, tries, tick_ms, turns) = meant.Client listen to policy wait tries tick_ms turns
made Replay (members, me, aggregator, bounds, election) = meant.Replay members me aggregator bounds election
made Simulate (seed, members, requests, loss, repeat, crash, bounds, aggregator) = meant.Simulate seed members requests loss repeat crash bounds aggregator

-- a meaning of this command
pub record IsOf (name : CommandName) (m : Meant) : Type 0 where
  pub fields : Fields name
  pub is : m ≡ made name fields

of_own : (m : Meant) → IsOf (name_of m) m
of_own (meant.Replica members me journal aggregator bounds election tick_ms turns) =
    record { fields = (members, me, journal, aggregator, bounds, election, tick_ms, turns); is = refl }
of_own (meant.Router listen servers n workers tick_ms turns) = record { fields = (listen, servers, n, workers, tick_ms, turns); is = refl }
of_own (meant.Aggregator listen members turns) = record { fields = (listen, members, turns); is = refl }
of_own (meant.Server listen router tick_ms turns) = record { fields = (listen, router, tick_ms, turns); is = refl }
of_own (meant.Client listen to policy wait tries tick_ms turns) = record { fields = (listen, to, policy, wait, tries, tick_ms, turns); is = refl }
of_own (meant.Replay members me aggregator bounds election) = record { fields = (members, me, aggregator, bounds, election); is = refl }
of_own (meant.Simulate seed members requests loss repeat crash bounds aggregator) =
    record { fields = (seed, members, requests, loss, repeat, crash, bounds, aggregator); is = refl }

pub of_name : (m : Meant) (name : CommandName) → name_of m ≡ name → IsOf name m
of_name m name is = subst (λ n. IsOf n m) is (of_own m)

pub says_made : (name : CommandName) (m : Meant) (rows : List Row) (of : IsOf name m) → Says m rows → Says (made name of.fields) rows
says_made name m rows of says = subst (λ x. Says x rows) of.is says

-- ---- what words mean

pub picks : (words : List (List ℕ)) (m : Meant) → Means words m → slice_get words 0 ≡ Some (word_of (name_of m))
picks words m means = means.named ∙ ap Some (named (name_of m))

-- words that mean something are taken as options of the command that the first of them picks, and say it
pub record IsSaid (name : CommandName) (words : List (List ℕ)) (m : Meant) : Type 0 where
  pub is_of : name_of m ≡ name
  pub taken : AreTaken (command_of name) words
  pub says : Says m (rows_of_words (command_of name) words)

pub said : (words : List (List ℕ)) (m : Meant) (name : CommandName) → slice_get words 0 ≡ Some (word_of name) → Means words m → IsSaid name words m
said words m name first means =
    let own : IsSaid (name_of m) words m = record { is_of = refl; taken = means.taken; says = means.hold } in
    subst (λ n. IsSaid n words m) (same_name (name_of m) name (some_same _ _ (sym (picks words m means) ∙ first))) own

pub means_said : (words : List (List ℕ)) (m : Meant) (name : CommandName) → slice_get words 0 ≡ Some (word_of name) → IsSaid name words m → Means words m
means_said words m name first it =
    let own : IsSaid (name_of m) words m = subst (λ n. IsSaid n words m) (sym it.is_of) it in
    record {
      named = first ∙ ap Some (ap word_of (sym it.is_of)) ∙ ap Some (sym (named (name_of m)));
      taken = own.taken;
      hold = own.says;
    }
