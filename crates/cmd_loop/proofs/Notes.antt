-- A replica of the tests, whose records raise the term one by one.
use Rattle.std.proofs.Common.{◌≡◌, ℕ, ◌+◌, ◌<◌, List, [], ◌∷◌, ◌++◌, Option, Some, None, refl, sym, ap, ◌∙◌, subst, append-nil, arith}
use Rattle.std.specs.Prelude.{MatchOption, ⊤, ◌^◌, ◌≤◌}
use Rattle.std.proofs.lemmas.List.Elements.{All-nil}
use Rattle.r2_link.specs.Told.{Gains}
use Rattle.hc_log.specs.declared.record.Record.{Record}
use Rattle.hc_log.specs.declared.stored.Stored.{Stored}
use Rattle.hc_log.specs.Durable.{IsNext, State, after, replay}
use Rattle.hc_log.specs.Ranges.{IsInRange, IsStored}
use Rattle.hc_log.proofs.Logs.{FollowEach-none}
use Rattle.hc_log.proofs.Replays.{replay_push}
use Rattle.cmd_loop.specs.Party.{MayStore}

-- the record of a term in which nothing else changes, and what such records lead to
abbrev pub noted : ℕ → Record
noted term = record { term = term; vote = None; keep = 0; entries = [] }

abbrev pub leads_to : ℕ → State
leads_to n = record { term = n; vote = None; log = [] }

abbrev pub HasNoted : ℕ → Option (List Record) → Type 0
HasNoted n told = MatchOption told ⊤ (λ (records : List Record). replay records ≡ leads_to n)

noted-range : (n : ℕ) → n < 2 ^ 60 → IsInRange (noted (n + 1))
noted-range n few = record {
  term_is_set = omega arith;
  term_fits = omega (arith, few);
  vote = tt;
  keep = omega arith;
  count = omega arith;
  entries = All-nil IsStored;
}

noted-next : (n : ℕ) → n < 2 ^ 60 → IsNext (leads_to n) (noted (n + 1))
noted-next n few = record {
  in_range = noted-range n few;
  term = omega arith;
  vote = λ same. tt;
  keep = omega arith;
  entries = FollowEach-none [];
  terms = All-nil (λ (s : Stored). s.entry.term ≤ n + 1);
}

-- one more may be stored, and leads to the next term
pub noted-fits : (n : ℕ) (told : Option (List Record)) → n < 2 ^ 60 → HasNoted n told → MayStore told (Some (noted (n + 1)))
noted-fits n None few has = (noted-range n few, tt)
noted-fits n (Some records) few has = (noted-range n few, subst (λ (d : State). IsNext d (noted (n + 1))) (sym has) (noted-next n few))

pub noted-follows : (n : ℕ) (told told' : Option (List Record)) → HasNoted n told → Gains told told' (noted (n + 1) ∷ []) → (told ≡ None → told' ≡ None) → HasNoted (n + 1) told'
noted-follows n None None has gains silent = tt
noted-follows n None (Some ys) has gains silent = absurd (cc (silent refl))
noted-follows n (Some xs) None has gains silent = absurd gains
noted-follows n (Some xs) (Some ys) has gains silent =
    ap replay gains ∙ replay_push xs (noted (n + 1)) ∙ ap (λ (d : State). after d (noted (n + 1))) has

-- and where none is stored, nothing changes
pub noted-stays : (n : ℕ) (told told' : Option (List Record)) → HasNoted n told → Gains told told' [] → (told ≡ None → told' ≡ None) → HasNoted n told'
noted-stays n None None has gains silent = tt
noted-stays n None (Some ys) has gains silent = absurd (cc (silent refl))
noted-stays n (Some xs) None has gains silent = absurd gains
noted-stays n (Some xs) (Some ys) has gains silent = ap replay (gains ∙ append-nil xs) ∙ has

pub ruleset note_steps = (noted-fits, noted-follows, noted-stays)
