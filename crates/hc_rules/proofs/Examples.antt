-- Runs that exist: under looser rules, and under the rules.
use Rattle.std.proofs.Common.{◌≡◌, ℕ, ◌+◌, zero, suc, ◌<◌, inl, inr, true, List, [], ◌∷◌, Some, refl, sym, ap, ◌∙◌, arith}
use Rattle.std.proofs.lemmas.Bool.{true≢false}
use Rattle.r2_base.specs.declared.rid.Rid.{Rid}
use Rattle.r2_base.specs.declared.entry.Entry.{Entry}
use Rattle.r2_base.specs.Entry.{blank_entry, is_request}
use Rattle.hc_rules.specs.Log.{In, entry_at, term_at}
use Rattle.hc_rules.specs.Message.{VoteRequest, Order, Ack, Request}
use Rattle.r2_base.specs.declared.entry.Kind.TheVariants.{Write}
use Rattle.hc_store.specs.Command.{command_of}
use Rattle.hc_store.specs.Service.{Served, serve}
use Rattle.hc_store.specs.Replies.{after_all, payload_of, reply_at, reply_of}
use Rattle.hc_store.proofs.InOrder.{found, requests_in_order}
use Rattle.r2_base.specs.declared.entry.Kind.TheVariants.{Read}
use Rattle.hc_rules.specs.Agreed.{AppliesTheSame, agreed}
use Rattle.hc_rules.specs.Conditions.{Holds}
use Rattle.hc_rules.specs.Kept.{AggregatesAreCommitted, AcknowledgedIsTheLeaders}
use Rattle.hc_rules.specs.Log.{Lacks}
use Rattle.hc_rules.specs.Rules.{Rise, Stand, AskVotes, GrantVote, SendVote, CountVote, Win, OrderRequest, SendOrder, Confirm, Take, Acknowledge, CommitByCount, CommitByOrder, CommitByAggregate, Aggregate, Apply, Answer, AnswerAgain, AskBody, GiveBody, Yield, NoteReport, NoteOwnReport, NoteAck, Hold, Refuse, RejectOrder, Follow, NoteOrder, Collect, Forget, Crash, Restart, SendRequest, entry_of}
use Rattle.hc_rules.specs.Examples.{IsAnsweredInOrder, IsCut, IsInherited, IsMadeOfAll, IsServed, reads_a, reply_to, sets_a}
use Rattle.hc_rules.specs.Loose.{AllowedButAggregate, AllowedButTake, IsBroken}
use Rattle.hc_rules.specs.Requests.{IsKnown, operations}

infixr 10 ◌▸◌
-- what holds of a step, and of the steps after it
◌▸◌ : {A B : Type 0} → A → B → A × B
◌▸◌ a b = (a, b)

-- nothing needs a body where all entries are blank
blank_held : {A : Type 0} (t j : ℕ) → j < 1 → is_request (entry_at (blank_entry t ∷ []) (suc j)).kind ≡ true → A
blank_held t zero h e = absurd (true≢false (sym e))
blank_held t (suc j) h e = absurd (omega (arith, h))

both_held : {A : Type 0} (j : ℕ) → j < 2 → is_request (entry_at (blank_entry 2 ∷ blank_entry 4 ∷ []) (suc j)).kind ≡ true → A
both_held zero h e = absurd (true≢false (sym e))
both_held (suc zero) h e = absurd (true≢false (sym e))
both_held (suc (suc j)) h e = absurd (omega (arith, h))

-- the Order of a leader whose log is its own first entry
abbrev first_order : ℕ → ℕ → Order
first_order t v =
    record { term = t; leader = v; previous = 0; previous_term = 0; start = 1; commit = 0; entries = blank_entry t ∷ [] }

-- a request for votes, and that of a candidate whose log is empty
abbrev request_of : ℕ → ℕ → ℕ → ℕ → VoteRequest
request_of t v index term = record { term = t; candidate = v; last_index = index; last_term = term }

abbrev empty_request : ℕ → ℕ → VoteRequest
empty_request t v = request_of t v 0 0

-- the Orders of leaders whose logs begin with an older entry
abbrev second_order : Order
second_order =
    record { term = 3; leader = 0; previous = 0; previous_term = 0; start = 2; commit = 0; entries = blank_entry 1 ∷ blank_entry 3 ∷ [] }

abbrev old_order : Order
old_order = record { term = 3; leader = 0; previous = 0; previous_term = 0; start = 2; commit = 0; entries = blank_entry 1 ∷ [] }

abbrev new_order : Order
new_order =
    record { term = 4; leader = 2; previous = 0; previous_term = 0; start = 2; commit = 0; entries = blank_entry 2 ∷ blank_entry 4 ∷ [] }

-- a client's request, whose body is no command
abbrev the_rid : Rid
the_rid = record { id = 7; client = record { ip = 167772169; port = 7001 } }

abbrev the_request : Request
the_request = record { rid = the_rid; kind = Write; body = [] }

abbrev the_order : Order
the_order =
    record { term = 1; leader = 0; previous = 0; previous_term = 0; start = 1; commit = 0; entries = blank_entry 1 ∷ entry_of 1 the_request 1 ∷ [] }

-- member 1 acknowledges both entries, and says how many it has applied
abbrev ack_at : ℕ → Ack
ack_at applied = record { term = 1; member = 1; index = 2; applied = applied }

known : (rid : Rid) → In rid (the_rid ∷ []) → IsKnown (the_request ∷ []) rid
known rid (inl e) = record { request = the_request; sent = inl refl; named = sym e }
known rid (inr h) = absurd h

lacks : Lacks the_rid (blank_entry 1 ∷ [])
lacks zero h p = absurd (true≢false (sym p))
lacks (suc j) h p = absurd (omega (arith, h))

body_held : (log : List Entry) (j : ℕ) → j < 2 → is_request (entry_at (blank_entry 1 ∷ entry_of 1 the_request 1 ∷ []) (suc j)).kind ≡ true
    → Holds (the_rid ∷ []) log (entry_at (blank_entry 1 ∷ entry_of 1 the_request 1 ∷ []) (suc j)).rid
body_held log zero h e = absurd (true≢false (sym e))
body_held log (suc zero) h e = inl (inl refl)
body_held log (suc (suc j)) h e = absurd (omega (arith, h))

abbrev committed_order : Order
committed_order = record the_order { commit = 2 }

same_terms : (j : ℕ) → j < 2 → term_at (blank_entry 1 ∷ entry_of 1 the_request 1 ∷ []) (suc (0 + j)) ≡ term_at (blank_entry 1 ∷ entry_of 1 the_request 1 ∷ []) (suc j)
same_terms zero h = refl
same_terms (suc zero) h = refl
same_terms (suc (suc j)) h = absurd (omega (arith, h))

right : reply_at (operations (the_request ∷ []) (blank_entry 1 ∷ entry_of 1 the_request 1 ∷ [])) 2 ≡ Some (payload_of 2 3 [])
unfolding reply_at after_all serve command_of
right = refl

-- a group of one wins two terms, and at the second its log begins with the first term's entry
pub counting_anywhere_breaks : IsBroken AllowedButAggregate AggregatesAreCommitted
counting_anywhere_breaks =
    record {
      members = 1;
      bounds = λ p. 1;
      rules =
          Stand 0 ∷ Win 0 ∷ Rise 0 2 ∷ Stand 0 ∷ Win 0 ∷ SendOrder 0 0 2 ∷ Aggregate second_order 1 ∷ [];
      allowed =
          record { acts = record { member = omega arith; runs = refl }; follows = λ e. cc }
          ▸ record { competes = record { acts = record { member = omega arith; runs = refl }; competes = refl }; majority = omega arith }
          ▸ record { acts = record { member = omega arith; runs = refl }; higher = omega arith }
          ▸ record { acts = record { member = omega arith; runs = refl }; follows = λ e. cc }
          ▸ record { competes = record { acts = record { member = omega arith; runs = refl }; competes = refl }; majority = omega arith }
          ▸ record { leads = record { acts = record { member = omega arith; runs = refl }; leads = refl }; within = omega arith }
          ▸ record { sent = inl refl; here = omega arith; backed = omega arith }
          ▸ tt;
      fails = λ h. let own = (h (record { term = 3; index = 1 }) (inl refl)).own in absurd (omega (arith, own));
    }

-- a group of two: member 0 wins, and member 1 takes its Order, acknowledges it, stops, begins again and takes the Order again
pub cutting_anywhere_breaks : IsBroken AllowedButTake AcknowledgedIsTheLeaders
cutting_anywhere_breaks =
    record {
      members = 2;
      bounds = λ p. 1;
      rules =
          Stand 0 ∷ AskVotes 0 ∷ Rise 1 1 ∷ GrantVote 1 (empty_request 1 0) ∷ SendVote 1 0 ∷ CountVote 0 1 ∷ Win 0 ∷ SendOrder 0 0 1
          ∷ Take 1 (first_order 1 0) 0 1 ∷ Acknowledge 1 1 ∷ Crash 1 ∷ Restart 1 ∷ Take 1 (first_order 1 0) 0 0 ∷ [];
      allowed =
          record { acts = record { member = omega arith; runs = refl }; follows = λ e. cc }
          ▸ record { acts = record { member = omega arith; runs = refl }; competes = refl }
          ▸ record { acts = record { member = omega arith; runs = refl }; higher = omega arith }
          ▸ record { acts = record { member = omega arith; runs = refl }; follows = refl; sent = inl refl; current = refl; free = inl refl; recent = inr (refl, omega arith) }
          ▸ record { acts = record { member = omega arith; runs = refl }; voted = refl }
          ▸ record { competes = record { acts = record { member = omega arith; runs = refl }; competes = refl }; sent = inl refl }
          ▸ record { competes = record { acts = record { member = omega arith; runs = refl }; competes = refl }; majority = omega arith }
          ▸ record { leads = record { acts = record { member = omega arith; runs = refl }; leads = refl }; within = omega arith }
          ▸ record {
            hears = record { acts = record { member = omega arith; runs = refl }; follows = λ e. cc; sent = inl refl; current = refl };
            fits = record { count = omega arith; within = omega arith; previous = refl; entries = λ j h. absurd (omega (arith, h)) };
            order = omega arith;
            count = omega arith;
            cut = inl refl;
            bodies = λ j l h e. blank_held 1 j h e;
          }
          ▸ record { acts = record { member = omega arith; runs = refl }; follows = λ e. cc; within = omega arith }
          ▸ record { member = omega arith; runs = refl }
          ▸ record { member = omega arith; stopped = refl }
          ▸ record {
            hears = record { acts = record { member = omega arith; runs = refl }; follows = λ e. cc; sent = inl refl; current = refl };
            fits = record { count = omega arith; within = omega arith; previous = refl; entries = λ j h. absurd (omega (arith, h)) };
            order = omega arith;
            count = omega arith;
            cut = inr (record { told = omega arith; committed = omega arith; matched = omega arith });
            bodies = λ j l h e. absurd (omega (arith, h));
          }
          ▸ tt;
      fails = λ h. let kept = ((h 1 1).held refl).here in absurd (omega (arith, kept));
    }

-- members 0 and 2 lead by turns with the vote of member 1; the aggregator counts the entry of term 1 in term 3, member 1
-- applies it, and the leader of term 4 has its own entry there (Raft, section 5.4.2)
pub counting_anywhere_divides : IsBroken AllowedButAggregate AppliesTheSame
counting_anywhere_divides =
    record {
      members = 3;
      bounds = λ p. 1;
      rules =
          Stand 0 ∷ AskVotes 0 ∷ Rise 1 1 ∷ GrantVote 1 (empty_request 1 0) ∷ SendVote 1 0 ∷ CountVote 0 1 ∷ Win 0 ∷ Rise 2 1
          ∷ Stand 2 ∷ AskVotes 2 ∷ Rise 1 2 ∷ GrantVote 1 (empty_request 2 2) ∷ SendVote 1 2 ∷ CountVote 2 1 ∷ Win 2 ∷ Rise 0 2
          ∷ Stand 0 ∷ AskVotes 0 ∷ Rise 1 3 ∷ GrantVote 1 (request_of 3 0 1 1) ∷ SendVote 1 0 ∷ CountVote 0 1 ∷ Win 0 ∷ SendOrder 0 0 1
          ∷ Take 1 old_order 0 1 ∷ Acknowledge 1 1 ∷ Aggregate old_order 1 ∷ CommitByAggregate 1 (record { term = 3; index = 1 }) 1 ∷ Apply 1 ∷ Rise 2 3 ∷ Stand 2 ∷ AskVotes 2
          ∷ Rise 1 4 ∷ GrantVote 1 (request_of 4 2 1 2) ∷ SendVote 1 2 ∷ CountVote 2 1 ∷ Win 2 ∷ SendOrder 2 0 2 ∷ Rise 0 4 ∷ Take 0 new_order 0 2
          ∷ Acknowledge 0 2 ∷ CommitByCount 2 2 ∷ Apply 2 ∷ [];
      allowed =
          record { acts = record { member = omega arith; runs = refl }; follows = λ e. cc }
          ▸ record { acts = record { member = omega arith; runs = refl }; competes = refl }
          ▸ record { acts = record { member = omega arith; runs = refl }; higher = omega arith }
          ▸ record { acts = record { member = omega arith; runs = refl }; follows = refl; sent = inl refl; current = refl; free = inl refl; recent = inr (refl, omega arith) }
          ▸ record { acts = record { member = omega arith; runs = refl }; voted = refl }
          ▸ record { competes = record { acts = record { member = omega arith; runs = refl }; competes = refl }; sent = inl refl }
          ▸ record { competes = record { acts = record { member = omega arith; runs = refl }; competes = refl }; majority = omega arith }
          ▸ record { acts = record { member = omega arith; runs = refl }; higher = omega arith }
          ▸ record { acts = record { member = omega arith; runs = refl }; follows = λ e. cc }
          ▸ record { acts = record { member = omega arith; runs = refl }; competes = refl }
          ▸ record { acts = record { member = omega arith; runs = refl }; higher = omega arith }
          ▸ record { acts = record { member = omega arith; runs = refl }; follows = refl; sent = inl refl; current = refl; free = inl refl; recent = inr (refl, omega arith) }
          ▸ record { acts = record { member = omega arith; runs = refl }; voted = refl }
          ▸ record { competes = record { acts = record { member = omega arith; runs = refl }; competes = refl }; sent = inl refl }
          ▸ record { competes = record { acts = record { member = omega arith; runs = refl }; competes = refl }; majority = omega arith }
          ▸ record { acts = record { member = omega arith; runs = refl }; higher = omega arith }
          ▸ record { acts = record { member = omega arith; runs = refl }; follows = λ e. cc }
          ▸ record { acts = record { member = omega arith; runs = refl }; competes = refl }
          ▸ record { acts = record { member = omega arith; runs = refl }; higher = omega arith }
          ▸ record { acts = record { member = omega arith; runs = refl }; follows = refl; sent = inl refl; current = refl; free = inl refl; recent = inl (omega arith) }
          ▸ record { acts = record { member = omega arith; runs = refl }; voted = refl }
          ▸ record { competes = record { acts = record { member = omega arith; runs = refl }; competes = refl }; sent = inl refl }
          ▸ record { competes = record { acts = record { member = omega arith; runs = refl }; competes = refl }; majority = omega arith }
          ▸ record { leads = record { acts = record { member = omega arith; runs = refl }; leads = refl }; within = omega arith }
          ▸ record {
            hears = record { acts = record { member = omega arith; runs = refl }; follows = λ e. cc; sent = inl refl; current = refl };
            fits = record { count = omega arith; within = omega arith; previous = refl; entries = λ j h. absurd (omega (arith, h)) };
            order = omega arith;
            count = omega arith;
            cut = inl refl;
            bodies = λ j l h e. blank_held 1 j h e;
          }
          ▸ record { acts = record { member = omega arith; runs = refl }; follows = λ e. cc; within = omega arith }
          ▸ record { sent = inl refl; here = omega arith; backed = omega arith }
          ▸ record { acts = record { member = omega arith; runs = refl }; sent = inl refl; current = refl; told = omega arith; matched = omega arith }
          ▸ record { acts = record { member = omega arith; runs = refl }; due = omega arith }
          ▸ record { acts = record { member = omega arith; runs = refl }; higher = omega arith }
          ▸ record { acts = record { member = omega arith; runs = refl }; follows = λ e. cc }
          ▸ record { acts = record { member = omega arith; runs = refl }; competes = refl }
          ▸ record { acts = record { member = omega arith; runs = refl }; higher = omega arith }
          ▸ record { acts = record { member = omega arith; runs = refl }; follows = refl; sent = inl refl; current = refl; free = inl refl; recent = inl (omega arith) }
          ▸ record { acts = record { member = omega arith; runs = refl }; voted = refl }
          ▸ record { competes = record { acts = record { member = omega arith; runs = refl }; competes = refl }; sent = inl refl }
          ▸ record { competes = record { acts = record { member = omega arith; runs = refl }; competes = refl }; majority = omega arith }
          ▸ record { leads = record { acts = record { member = omega arith; runs = refl }; leads = refl }; within = omega arith }
          ▸ record { acts = record { member = omega arith; runs = refl }; higher = omega arith }
          ▸ record {
            hears = record { acts = record { member = omega arith; runs = refl }; follows = λ e. cc; sent = inl refl; current = refl };
            fits = record { count = omega arith; within = omega arith; previous = refl; entries = λ j h. absurd (omega (arith, h)) };
            order = omega arith;
            count = omega arith;
            cut = inr (record { told = omega arith; differs = λ e. absurd (omega (arith, e)); committed = omega arith; matched = omega arith });
            bodies = λ j l h e. both_held j h e;
          }
          ▸ record { acts = record { member = omega arith; runs = refl }; follows = λ e. cc; within = omega arith }
          ▸ record { leads = record { acts = record { member = omega arith; runs = refl }; leads = refl }; own = omega arith; within = omega arith; backed = omega arith }
          ▸ record { acts = record { member = omega arith; runs = refl }; due = omega arith }
          ▸ tt;
      fails = λ h. let same = ap (λ (e : Entry). e.term) (h (record { member = 1; index = 1; entry = blank_entry 1 }) (record { member = 2; index = 1; entry = blank_entry 2 }) (inr (inl refl)) (inl refl) refl) in absurd (omega (arith, same));
    }

-- members 0 and 1 have the entry of term 1 and member 0 applies it; member 1 begins again, loses the entry to the cut, votes
-- for member 2, and that leader's entry is committed in its place
pub cutting_anywhere_divides : IsBroken AllowedButTake AppliesTheSame
cutting_anywhere_divides =
    record {
      members = 3;
      bounds = λ p. 1;
      rules =
          Stand 0 ∷ AskVotes 0 ∷ Rise 1 1 ∷ GrantVote 1 (empty_request 1 0) ∷ SendVote 1 0 ∷ CountVote 0 1 ∷ Win 0 ∷ SendOrder 0 0 1
          ∷ Take 1 (first_order 1 0) 0 1 ∷ Acknowledge 1 1 ∷ CommitByCount 0 1 ∷ Apply 0 ∷ Crash 1 ∷ Restart 1 ∷ Take 1 (first_order 1 0) 0 0 ∷ Rise 2 1
          ∷ Stand 2 ∷ AskVotes 2 ∷ Rise 1 2 ∷ GrantVote 1 (empty_request 2 2) ∷ SendVote 1 2 ∷ CountVote 2 1 ∷ Win 2 ∷ SendOrder 2 0 1
          ∷ Take 1 (first_order 2 2) 0 1 ∷ Acknowledge 1 1 ∷ CommitByCount 2 1 ∷ Apply 2 ∷ [];
      allowed =
          record { acts = record { member = omega arith; runs = refl }; follows = λ e. cc }
          ▸ record { acts = record { member = omega arith; runs = refl }; competes = refl }
          ▸ record { acts = record { member = omega arith; runs = refl }; higher = omega arith }
          ▸ record { acts = record { member = omega arith; runs = refl }; follows = refl; sent = inl refl; current = refl; free = inl refl; recent = inr (refl, omega arith) }
          ▸ record { acts = record { member = omega arith; runs = refl }; voted = refl }
          ▸ record { competes = record { acts = record { member = omega arith; runs = refl }; competes = refl }; sent = inl refl }
          ▸ record { competes = record { acts = record { member = omega arith; runs = refl }; competes = refl }; majority = omega arith }
          ▸ record { leads = record { acts = record { member = omega arith; runs = refl }; leads = refl }; within = omega arith }
          ▸ record {
            hears = record { acts = record { member = omega arith; runs = refl }; follows = λ e. cc; sent = inl refl; current = refl };
            fits = record { count = omega arith; within = omega arith; previous = refl; entries = λ j h. absurd (omega (arith, h)) };
            order = omega arith;
            count = omega arith;
            cut = inl refl;
            bodies = λ j l h e. blank_held 1 j h e;
          }
          ▸ record { acts = record { member = omega arith; runs = refl }; follows = λ e. cc; within = omega arith }
          ▸ record { leads = record { acts = record { member = omega arith; runs = refl }; leads = refl }; own = omega arith; within = omega arith; backed = omega arith }
          ▸ record { acts = record { member = omega arith; runs = refl }; due = omega arith }
          ▸ record { member = omega arith; runs = refl }
          ▸ record { member = omega arith; stopped = refl }
          ▸ record {
            hears = record { acts = record { member = omega arith; runs = refl }; follows = λ e. cc; sent = inl refl; current = refl };
            fits = record { count = omega arith; within = omega arith; previous = refl; entries = λ j h. absurd (omega (arith, h)) };
            order = omega arith;
            count = omega arith;
            cut = inr (record { told = omega arith; committed = omega arith; matched = omega arith });
            bodies = λ j l h e. absurd (omega (arith, h));
          }
          ▸ record { acts = record { member = omega arith; runs = refl }; higher = omega arith }
          ▸ record { acts = record { member = omega arith; runs = refl }; follows = λ e. cc }
          ▸ record { acts = record { member = omega arith; runs = refl }; competes = refl }
          ▸ record { acts = record { member = omega arith; runs = refl }; higher = omega arith }
          ▸ record { acts = record { member = omega arith; runs = refl }; follows = refl; sent = inl refl; current = refl; free = inl refl; recent = inr (refl, omega arith) }
          ▸ record { acts = record { member = omega arith; runs = refl }; voted = refl }
          ▸ record { competes = record { acts = record { member = omega arith; runs = refl }; competes = refl }; sent = inl refl }
          ▸ record { competes = record { acts = record { member = omega arith; runs = refl }; competes = refl }; majority = omega arith }
          ▸ record { leads = record { acts = record { member = omega arith; runs = refl }; leads = refl }; within = omega arith }
          ▸ record {
            hears = record { acts = record { member = omega arith; runs = refl }; follows = λ e. cc; sent = inl refl; current = refl };
            fits = record { count = omega arith; within = omega arith; previous = refl; entries = λ j h. absurd (omega (arith, h)) };
            order = omega arith;
            count = omega arith;
            cut = inl refl;
            bodies = λ j l h e. blank_held 2 j h e;
          }
          ▸ record { acts = record { member = omega arith; runs = refl }; follows = λ e. cc; within = omega arith }
          ▸ record { leads = record { acts = record { member = omega arith; runs = refl }; leads = refl }; own = omega arith; within = omega arith; backed = omega arith }
          ▸ record { acts = record { member = omega arith; runs = refl }; due = omega arith }
          ▸ tt;
      fails = λ h. let same = ap (λ (e : Entry). e.term) (h (record { member = 0; index = 1; entry = blank_entry 1 }) (record { member = 2; index = 1; entry = blank_entry 2 }) (inr (inl refl)) (inl refl) refl) in absurd (omega (arith, same));
    }

-- a group of three: member 0 wins a term and appends its entry; member 2 wins the next without it; member 0 takes its Order
pub conflicts_are_cut : IsCut (blank_entry 1 ∷ []) (blank_entry 2 ∷ [])
conflicts_are_cut =
    record {
      members = 3;
      bounds = λ p. 1;
      rules =
          Stand 0 ∷ AskVotes 0 ∷ Rise 1 1 ∷ GrantVote 1 (empty_request 1 0) ∷ SendVote 1 0 ∷ CountVote 0 1 ∷ Win 0 ∷ Rise 2 1
          ∷ Stand 2 ∷ AskVotes 2 ∷ Rise 1 2 ∷ GrantVote 1 (empty_request 2 2) ∷ SendVote 1 2 ∷ CountVote 2 1 ∷ Win 2 ∷ SendOrder 2 0 1
          ∷ Rise 0 2 ∷ [];
      member = 0;
      order = first_order 2 2;
      stand = 0;
      count = 1;
      allowed =
          record { acts = record { member = omega arith; runs = refl }; follows = λ e. cc }
          ▸ record { acts = record { member = omega arith; runs = refl }; competes = refl }
          ▸ record { acts = record { member = omega arith; runs = refl }; higher = omega arith }
          ▸ record { acts = record { member = omega arith; runs = refl }; follows = refl; sent = inl refl; current = refl; free = inl refl; recent = inr (refl, omega arith) }
          ▸ record { acts = record { member = omega arith; runs = refl }; voted = refl }
          ▸ record { competes = record { acts = record { member = omega arith; runs = refl }; competes = refl }; sent = inl refl }
          ▸ record { competes = record { acts = record { member = omega arith; runs = refl }; competes = refl }; majority = omega arith }
          ▸ record { acts = record { member = omega arith; runs = refl }; higher = omega arith }
          ▸ record { acts = record { member = omega arith; runs = refl }; follows = λ e. cc }
          ▸ record { acts = record { member = omega arith; runs = refl }; competes = refl }
          ▸ record { acts = record { member = omega arith; runs = refl }; higher = omega arith }
          ▸ record { acts = record { member = omega arith; runs = refl }; follows = refl; sent = inl refl; current = refl; free = inl refl; recent = inr (refl, omega arith) }
          ▸ record { acts = record { member = omega arith; runs = refl }; voted = refl }
          ▸ record { competes = record { acts = record { member = omega arith; runs = refl }; competes = refl }; sent = inl refl }
          ▸ record { competes = record { acts = record { member = omega arith; runs = refl }; competes = refl }; majority = omega arith }
          ▸ record { leads = record { acts = record { member = omega arith; runs = refl }; leads = refl }; within = omega arith }
          ▸ record { acts = record { member = omega arith; runs = refl }; higher = omega arith }
          ▸ record {
            hears = record { acts = record { member = omega arith; runs = refl }; follows = λ e. cc; sent = inl refl; current = refl };
            fits = record { count = omega arith; within = omega arith; previous = refl; entries = λ j h. absurd (omega (arith, h)) };
            order = omega arith;
            count = omega arith;
            cut = inr (record { told = omega arith; differs = λ e. absurd (omega (arith, e)); committed = omega arith; matched = omega arith });
            bodies = λ j l h e. blank_held 2 j h e;
          }
          ▸ tt;
      had = refl;
      has = refl;
    }

-- a group of three with an aggregator: member 0 wins and orders the request for member 1, whose acknowledgement makes a
-- majority with the Order; member 1 learns of it from the aggregator, applies both entries, answers, and reports it
pub requests_are_answered : IsServed
unfolding agreed
requests_are_answered =
    record {
      members = 3;
      bounds = λ p. 1;
      front =
          SendRequest the_request ∷ Hold 0 (the_rid ∷ []) ∷ Hold 1 (the_rid ∷ []) ∷ Stand 0 ∷ AskVotes 0 ∷ Rise 1 1 ∷ GrantVote 1 (empty_request 1 0) ∷ SendVote 1 0
          ∷ CountVote 0 1 ∷ Win 0 ∷ OrderRequest 0 the_request 1 ∷ [];
      back =
          SendOrder 0 0 2 ∷ Take 1 the_order 0 2 ∷ Acknowledge 1 2 ∷ Follow the_order ∷ NoteOrder the_order ∷ Collect (ack_at 0) ∷ Aggregate the_order 2 ∷ CommitByAggregate 1 (record { term = 1; index = 2 }) 2
          ∷ Apply 1 ∷ Apply 1 ∷ Answer 1 2 (payload_of 2 3 []) ∷ Acknowledge 1 2 ∷ NoteAck 0 (ack_at 2) ∷ NoteReport 0 (ack_at 2) ∷ [];
      allowed =
          record { fresh = λ h. absurd h.sent; asks = refl }
          ▸ record { acts = record { member = omega arith; runs = refl }; known = known }
          ▸ record { acts = record { member = omega arith; runs = refl }; known = known }
          ▸ record { acts = record { member = omega arith; runs = refl }; follows = λ e. cc }
          ▸ record { acts = record { member = omega arith; runs = refl }; competes = refl }
          ▸ record { acts = record { member = omega arith; runs = refl }; higher = omega arith }
          ▸ record { acts = record { member = omega arith; runs = refl }; follows = refl; sent = inl refl; current = refl; free = inl refl; recent = inr (refl, omega arith) }
          ▸ record { acts = record { member = omega arith; runs = refl }; voted = refl }
          ▸ record { competes = record { acts = record { member = omega arith; runs = refl }; competes = refl }; sent = inl refl }
          ▸ record { competes = record { acts = record { member = omega arith; runs = refl }; competes = refl }; majority = omega arith }
          ▸ record {
            leads = record { acts = record { member = omega arith; runs = refl }; leads = refl };
            known = inl refl;
            held = inl refl;
            fresh = lacks;
            member = omega arith;
            room = omega arith;
          }
          ▸ record { leads = record { acts = record { member = omega arith; runs = refl }; leads = refl }; within = omega arith }
          ▸ record {
            hears = record { acts = record { member = omega arith; runs = refl }; follows = λ e. cc; sent = inl refl; current = refl };
            fits = record { count = omega arith; within = omega arith; previous = refl; entries = λ j h. absurd (omega (arith, h)) };
            order = omega arith;
            count = omega arith;
            cut = inl refl;
            bodies = λ j l h e. body_held [] j h e;
          }
          ▸ record { acts = record { member = omega arith; runs = refl }; follows = λ e. cc; within = omega arith }
          ▸ record { sent = inl refl; higher = omega arith }
          ▸ record { sent = inl refl; current = refl }
          ▸ record { sent = inl refl; current = refl }
          ▸ record { sent = inl refl; own = omega arith; backed = omega arith }
          ▸ record { acts = record { member = omega arith; runs = refl }; sent = inl refl; current = refl; told = omega arith; matched = omega arith }
          ▸ record { acts = record { member = omega arith; runs = refl }; due = omega arith }
          ▸ record { acts = record { member = omega arith; runs = refl }; due = omega arith }
          ▸ record { acts = record { member = omega arith; runs = refl }; applied = omega arith; replier = refl; right = right }
          ▸ record { acts = record { member = omega arith; runs = refl }; follows = λ e. cc; within = omega arith }
          ▸ record { leads = record { acts = record { member = omega arith; runs = refl }; leads = refl }; sent = inl refl; current = refl }
          ▸ record { leads = record { acts = record { member = omega arith; runs = refl }; leads = refl }; sent = inl refl; of_term = omega arith }
          ▸ tt;
      request = the_request;
      replier = 1;
      payload = payload_of 2 3 [];
      leads = (refl, refl);
      other = λ e. cc;
      ordered = refl;
      told = inl refl;
      learnt = inr (inr (inr (inr (inr (inr (inr (inl refl)))))));
      applied = inl refl;
      answers = inr (inr (inr (inr (inr (inr (inr (inr (inr (inr (inl refl))))))))));
      stands = refl;
      answered = refl;
      still_leads = (refl, refl);
      reported = refl;
    }

-- a group of three: member 0 wins, orders the request for member 1, and with its acknowledgement commits it; then member 1
-- stands for election, and wins with the vote of member 2, whose log is empty
pub entries_are_inherited : IsInherited
entries_are_inherited =
    record {
      bounds = λ p. 1;
      front =
          SendRequest the_request ∷ Hold 0 (the_rid ∷ []) ∷ Hold 1 (the_rid ∷ []) ∷ Stand 0 ∷ AskVotes 0 ∷ Rise 1 1 ∷ GrantVote 1 (empty_request 1 0) ∷ SendVote 1 0
          ∷ CountVote 0 1 ∷ Win 0 ∷ OrderRequest 0 the_request 1 ∷ SendOrder 0 0 2 ∷ Take 1 the_order 0 2 ∷ Acknowledge 1 2 ∷ CommitByCount 0 2 ∷ [];
      back = Stand 1 ∷ AskVotes 1 ∷ Rise 2 2 ∷ GrantVote 2 (request_of 2 1 2 1) ∷ SendVote 2 1 ∷ CountVote 1 2 ∷ Win 1 ∷ [];
      allowed =
          record { fresh = λ h. absurd h.sent; asks = refl }
          ▸ record { acts = record { member = omega arith; runs = refl }; known = known }
          ▸ record { acts = record { member = omega arith; runs = refl }; known = known }
          ▸ record { acts = record { member = omega arith; runs = refl }; follows = λ e. cc }
          ▸ record { acts = record { member = omega arith; runs = refl }; competes = refl }
          ▸ record { acts = record { member = omega arith; runs = refl }; higher = omega arith }
          ▸ record { acts = record { member = omega arith; runs = refl }; follows = refl; sent = inl refl; current = refl; free = inl refl; recent = inr (refl, omega arith) }
          ▸ record { acts = record { member = omega arith; runs = refl }; voted = refl }
          ▸ record { competes = record { acts = record { member = omega arith; runs = refl }; competes = refl }; sent = inl refl }
          ▸ record { competes = record { acts = record { member = omega arith; runs = refl }; competes = refl }; majority = omega arith }
          ▸ record {
            leads = record { acts = record { member = omega arith; runs = refl }; leads = refl };
            known = inl refl;
            held = inl refl;
            fresh = lacks;
            member = omega arith;
            room = omega arith;
          }
          ▸ record { leads = record { acts = record { member = omega arith; runs = refl }; leads = refl }; within = omega arith }
          ▸ record {
            hears = record { acts = record { member = omega arith; runs = refl }; follows = λ e. cc; sent = inl refl; current = refl };
            fits = record { count = omega arith; within = omega arith; previous = refl; entries = λ j h. absurd (omega (arith, h)) };
            order = omega arith;
            count = omega arith;
            cut = inl refl;
            bodies = λ j l h e. body_held [] j h e;
          }
          ▸ record { acts = record { member = omega arith; runs = refl }; follows = λ e. cc; within = omega arith }
          ▸ record { leads = record { acts = record { member = omega arith; runs = refl }; leads = refl }; own = omega arith; within = omega arith; backed = omega arith }
          ▸ record { acts = record { member = omega arith; runs = refl }; follows = λ e. cc }
          ▸ record { acts = record { member = omega arith; runs = refl }; competes = refl }
          ▸ record { acts = record { member = omega arith; runs = refl }; higher = omega arith }
          ▸ record { acts = record { member = omega arith; runs = refl }; follows = refl; sent = inl refl; current = refl; free = inl refl; recent = inl (omega arith) }
          ▸ record { acts = record { member = omega arith; runs = refl }; voted = refl }
          ▸ record { competes = record { acts = record { member = omega arith; runs = refl }; competes = refl }; sent = inl refl }
          ▸ record { competes = record { acts = record { member = omega arith; runs = refl }; competes = refl }; majority = omega arith }
          ▸ tt;
      request = the_request;
      replier = 1;
      leads = (refl, refl);
      committed = record { here = omega arith; within = omega arith; own = refl; backed = omega arith };
      before = refl;
      winner = 1;
      other = λ e. cc;
      won = refl;
      still = record { here = omega arith; within = omega arith; own = refl; backed = omega arith };
      has = refl;
    }

a_known : (table : List Request) → In sets_a table → (rid : Rid) → In rid (sets_a.rid ∷ []) → IsKnown table rid
a_known table sent rid (inl e) = record { request = sets_a; sent = sent; named = sym e }
a_known table sent rid (inr h) = absurd h

then_known : (rid : Rid) → In rid (reads_a.rid ∷ []) → IsKnown (sets_a ∷ reads_a ∷ []) rid
then_known rid (inl e) = record { request = reads_a; sent = inr (inl refl); named = sym e }
then_known rid (inr h) = absurd h

-- the second request has an id of its own
apart : {A : Type 0} → reads_a.rid ≡ sets_a.rid → A
apart e = let ids = ap (λ (rid : Rid). rid.id) e in absurd (omega (arith, ids))

unused : IsKnown (sets_a ∷ []) reads_a.rid → ⊥
unused h = by h.sent
  where
    by : In h.request (sets_a ∷ []) → ⊥
    by (inl e) = apart (sym h.named ∙ ap (λ (q : Request). q.rid) e)
    by (inr l) = l

lacks_first : Lacks sets_a.rid (blank_entry 1 ∷ [])
lacks_first zero h p = absurd (true≢false (sym p))
lacks_first (suc j) h p = absurd (omega (arith, h))

lacks_second : Lacks reads_a.rid (blank_entry 1 ∷ entry_of 1 sets_a 0 ∷ [])
lacks_second zero h p = absurd (true≢false (sym p))
lacks_second (suc zero) h p = λ e. apart (sym e)
lacks_second (suc (suc j)) h p = absurd (omega (arith, h))

first_right : reply_at (operations (sets_a ∷ []) (blank_entry 1 ∷ entry_of 1 sets_a 0 ∷ [])) 2 ≡ Some (payload_of 2 0 [])
unfolding reply_at after_all
first_right = ap (λ (s : Served). Some (reply_of 2 s)) requests_in_order.put

second_right : reply_at (operations (sets_a ∷ reads_a ∷ []) (blank_entry 1 ∷ entry_of 1 sets_a 0 ∷ entry_of 1 reads_a 0 ∷ [])) 3 ≡ Some (payload_of 3 0 (1 ∷ []))
unfolding reply_at after_all
second_right =
    ap (λ (s : Served). Some (reply_of 3 (serve s.contents Read reads_a.body))) requests_in_order.put
    ∙ ap (λ (s : Served). Some (reply_of 3 s)) (found 1)

-- a group of one with room for one entry: it orders the first request, commits, applies, answers and reports it before the
-- second is sent
pub requests_are_answered_in_order : IsAnsweredInOrder
requests_are_answered_in_order =
    record {
      rules =
          SendRequest sets_a ∷ Hold 0 (sets_a.rid ∷ []) ∷ Stand 0 ∷ Win 0 ∷ OrderRequest 0 sets_a 0 ∷ CommitByCount 0 2 ∷ Apply 0 ∷ Apply 0
          ∷ Answer 0 2 (payload_of 2 0 []) ∷ NoteOwnReport 0 ∷ SendRequest reads_a ∷ Hold 0 (reads_a.rid ∷ []) ∷ OrderRequest 0 reads_a 0 ∷ CommitByCount 0 3 ∷ Apply 0 ∷ Answer 0 3 (payload_of 3 0 (1 ∷ [])) ∷ [];
      allowed =
          record { fresh = λ h. absurd h.sent; asks = refl }
          ▸ record { acts = record { member = omega arith; runs = refl }; known = λ rid h. a_known (sets_a ∷ []) (inl refl) rid h }
          ▸ record { acts = record { member = omega arith; runs = refl }; follows = λ e. cc }
          ▸ record { competes = record { acts = record { member = omega arith; runs = refl }; competes = refl }; majority = omega arith }
          ▸ record { leads = record { acts = record { member = omega arith; runs = refl }; leads = refl }; known = inl refl; held = inl refl; fresh = lacks_first; member = omega arith; room = omega arith }
          ▸ record { leads = record { acts = record { member = omega arith; runs = refl }; leads = refl }; own = omega arith; within = omega arith; backed = omega arith }
          ▸ record { acts = record { member = omega arith; runs = refl }; due = omega arith }
          ▸ record { acts = record { member = omega arith; runs = refl }; due = omega arith }
          ▸ record { acts = record { member = omega arith; runs = refl }; applied = omega arith; replier = refl; right = first_right }
          ▸ record { acts = record { member = omega arith; runs = refl }; leads = refl }
          ▸ record { fresh = unused; asks = refl }
          ▸ record { acts = record { member = omega arith; runs = refl }; known = then_known }
          ▸ record { leads = record { acts = record { member = omega arith; runs = refl }; leads = refl }; known = inr (inl refl); held = inl refl; fresh = lacks_second; member = omega arith; room = omega arith }
          ▸ record { leads = record { acts = record { member = omega arith; runs = refl }; leads = refl }; own = omega arith; within = omega arith; backed = omega arith }
          ▸ record { acts = record { member = omega arith; runs = refl }; due = omega arith }
          ▸ record { acts = record { member = omega arith; runs = refl }; applied = omega arith; replier = refl; right = second_right }
          ▸ tt;
      table = refl;
      replied = refl;
    }

-- and then all other steps: the Order is taken again, the reply repeated; the leader counts, sends
-- what is committed, applies and reports by itself; member 2 asks for the body, stands for election,
-- yields, refuses, stops and begins again
pub every_rule_is_made : IsMadeOfAll
every_rule_is_made =
    record {
      members = 3;
      bounds = λ p. 1;
      rules =
          SendRequest the_request ∷ Hold 0 (the_rid ∷ []) ∷ Hold 1 (the_rid ∷ []) ∷ Stand 0 ∷ AskVotes 0 ∷ Rise 1 1 ∷ GrantVote 1 (empty_request 1 0) ∷ SendVote 1 0
          ∷ CountVote 0 1 ∷ Win 0 ∷ OrderRequest 0 the_request 1 ∷ SendOrder 0 0 2 ∷ Take 1 the_order 0 2 ∷ Acknowledge 1 2 ∷ Follow the_order ∷ NoteOrder the_order
          ∷ Collect (ack_at 0) ∷ Aggregate the_order 2 ∷ CommitByAggregate 1 (record { term = 1; index = 2 }) 2 ∷ Apply 1 ∷ Apply 1 ∷ Answer 1 2 (payload_of 2 3 []) ∷ Acknowledge 1 2 ∷ NoteAck 0 (ack_at 2)
          ∷ NoteReport 0 (ack_at 2) ∷ Confirm 1 the_order 2 ∷ AnswerAgain 1 (reply_to the_request 2 1 (payload_of 2 3 [])) (entry_of 1 the_request 1) ∷ CommitByCount 0 2 ∷ SendOrder 0 0 2 ∷ CommitByOrder 1 committed_order 2 ∷ Apply 0 ∷ Apply 0
          ∷ NoteOwnReport 0 ∷ AskBody 2 the_rid ∷ GiveBody 0 the_rid ∷ Stand 2 ∷ Yield 2 the_order ∷ Refuse 2 ∷ RejectOrder 2 0 ∷ Forget
          ∷ Crash 2 ∷ Restart 2 ∷ [];
      allowed =
          record { fresh = λ h. absurd h.sent; asks = refl }
          ▸ record { acts = record { member = omega arith; runs = refl }; known = known }
          ▸ record { acts = record { member = omega arith; runs = refl }; known = known }
          ▸ record { acts = record { member = omega arith; runs = refl }; follows = λ e. cc }
          ▸ record { acts = record { member = omega arith; runs = refl }; competes = refl }
          ▸ record { acts = record { member = omega arith; runs = refl }; higher = omega arith }
          ▸ record { acts = record { member = omega arith; runs = refl }; follows = refl; sent = inl refl; current = refl; free = inl refl; recent = inr (refl, omega arith) }
          ▸ record { acts = record { member = omega arith; runs = refl }; voted = refl }
          ▸ record { competes = record { acts = record { member = omega arith; runs = refl }; competes = refl }; sent = inl refl }
          ▸ record { competes = record { acts = record { member = omega arith; runs = refl }; competes = refl }; majority = omega arith }
          ▸ record {
            leads = record { acts = record { member = omega arith; runs = refl }; leads = refl };
            known = inl refl;
            held = inl refl;
            fresh = lacks;
            member = omega arith;
            room = omega arith;
          }
          ▸ record { leads = record { acts = record { member = omega arith; runs = refl }; leads = refl }; within = omega arith }
          ▸ record {
            hears = record { acts = record { member = omega arith; runs = refl }; follows = λ e. cc; sent = inl refl; current = refl };
            fits = record { count = omega arith; within = omega arith; previous = refl; entries = λ j h. absurd (omega (arith, h)) };
            order = omega arith;
            count = omega arith;
            cut = inl refl;
            bodies = λ j l h e. body_held [] j h e;
          }
          ▸ record { acts = record { member = omega arith; runs = refl }; follows = λ e. cc; within = omega arith }
          ▸ record { sent = inl refl; higher = omega arith }
          ▸ record { sent = inl refl; current = refl }
          ▸ record { sent = inl refl; current = refl }
          ▸ record { sent = inl refl; own = omega arith; backed = omega arith }
          ▸ record { acts = record { member = omega arith; runs = refl }; sent = inl refl; current = refl; told = omega arith; matched = omega arith }
          ▸ record { acts = record { member = omega arith; runs = refl }; due = omega arith }
          ▸ record { acts = record { member = omega arith; runs = refl }; due = omega arith }
          ▸ record { acts = record { member = omega arith; runs = refl }; applied = omega arith; replier = refl; right = right }
          ▸ record { acts = record { member = omega arith; runs = refl }; follows = λ e. cc; within = omega arith }
          ▸ record { leads = record { acts = record { member = omega arith; runs = refl }; leads = refl }; sent = inl refl; current = refl }
          ▸ record { leads = record { acts = record { member = omega arith; runs = refl }; leads = refl }; sent = inl refl; of_term = omega arith }
          ▸ record { hears = record { acts = record { member = omega arith; runs = refl }; follows = λ e. cc; sent = inl refl; current = refl }; fits = record { count = omega arith; within = omega arith; previous = refl; entries = λ j h. same_terms j h } }
          ▸ record { acts = record { member = omega arith; runs = refl }; sent = inl refl; passed = inl refl; request = refl; replier = refl }
          ▸ record { leads = record { acts = record { member = omega arith; runs = refl }; leads = refl }; own = omega arith; within = omega arith; backed = omega arith }
          ▸ record { leads = record { acts = record { member = omega arith; runs = refl }; leads = refl }; within = omega arith }
          ▸ record { acts = record { member = omega arith; runs = refl }; sent = inl refl; current = refl; told = omega arith; within = omega arith }
          ▸ record { acts = record { member = omega arith; runs = refl }; due = omega arith }
          ▸ record { acts = record { member = omega arith; runs = refl }; due = omega arith }
          ▸ record { acts = record { member = omega arith; runs = refl }; leads = refl }
          ▸ record { acts = record { member = omega arith; runs = refl }; known = record { request = the_request; sent = inl refl; named = refl } }
          ▸ record { acts = record { member = omega arith; runs = refl }; held = inl (inl refl) }
          ▸ record { acts = record { member = omega arith; runs = refl }; follows = λ e. cc }
          ▸ record { competes = record { acts = record { member = omega arith; runs = refl }; competes = refl }; sent = inr (inl refl); current = refl }
          ▸ record { member = omega arith; runs = refl }
          ▸ record { member = omega arith; runs = refl }
          ▸ tt
          ▸ record { member = omega arith; runs = refl }
          ▸ record { member = omega arith; stopped = refl }
          ▸ tt;
      each = refl;
    }
