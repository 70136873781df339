-- What an aggregator calls committed is reached by a majority in what it counted by then.
use Rattle.std.proofs.Common.{◌≡◌, ◌≤◌, ◌+◌, ℕ, Bool, true, false, List, [], max, length, Option, Some, None, refl, arith}
use Rattle.std.specs.Prelude.{All, nat_lt}
use Rattle.std.specs.List.{remove}
use Rattle.std.proofs.lemmas.List.{length-replicate, length-set}
use Rattle.std.proofs.lemmas.List.Elements.{All-append, All-nil}
use Rattle.r2_base.specs.declared.addr.Addr.{Addr}
use Rattle.hc_message.specs.declared.msg.Msg.TheVariants.{Order, AggCommit}
use Rattle.hc_aggregate.specs.Laws.{CommitsAreReached, TellsReached}
use Rattle.hc_aggregate.specs.Tally.{Tally, found, in_term, reached_by, with_found, with_reached}
use Rattle.hc_aggregate.specs.Turn.{Outcome, Telling, commit_told, counts, hear_ack, hear_order, tell_each}
use Rattle.hc_aggregate.proofs.Cases.{of-turn}
use Rattle.hc_aggregate.proofs.Found.{found-is, found-majority}
use Rattle.hc_aggregate.proofs.Turns.{each-telling}

-- there is a number for each member still
pub length-in_term : (t : Tally) (term leader term_start : ℕ) (higher : Bool) → nat_lt t.term term ≡ higher → length (in_term t term leader term_start).reached ≡ length t.reached
length-in_term t term leader term_start true e = rw e (length-replicate (length t.reached) 0)
length-in_term t term leader term_start false e = rw e refl

pub length-with_reached : (t : Tally) (member index : ℕ) → length (with_reached t member index).reached ≡ length t.reached
length-with_reached t member index = length-set t.reached member (max (reached_by t member) index)

-- what is told of a tally is reached in it
abbrev AllReached : Outcome → Type 0
AllReached o = All (λ x. TellsReached o.tally x.message) o.tells

commit-reached : (members : List Addr) (t : Tally) (o : Option ℕ) → 1 ≤ length t.reached → found t ≡ o
    → All (λ x. TellsReached (with_found t o) x.message) (commit_told members t.term o)
commit-reached members t (Some index) some is =
    let here = found-is t index is in
    each-telling (λ x. TellsReached (with_found t (Some index)) x.message) members (AggCommit t.term index)
    (λ member. record { of_term = refl; own = here.own; by_majority = found-majority t index some here; kept = refl })
commit-reached members t None some is = All-nil (λ (x : Telling). TellsReached (with_found t None) x.message)

counts-reached : (members : List Addr) (first : List Telling) (t : Tally) → 1 ≤ length t.reached → ((t' : Tally) → All (λ x. TellsReached t' x.message) first)
    → AllReached (counts members first t)
counts-reached members first t some before =
    All-append (λ x. TellsReached (with_found t (found t)) x.message) first (commit_told members t.term (found t)) (before (with_found t (found t)))
    (commit-reached members t (found t) some refl)

pub commits_are_reached : CommitsAreReached
unfolding hear_order hear_ack
commits_are_reached s happens is =
    let some : 1 ≤ length s.tally.reached = omega (arith, is.group.some, is.tally.each) in
    of-turn AllReached s.members s.tally happens (All-nil (λ (x : Telling). TellsReached s.tally x.message)) (
    λ d m same carries. record {
      ignored = All-nil (λ (x : Telling). TellsReached s.tally x.message);
      ordered = λ term leader prev_index prev_term term_start commit via entries order takes.
          let begun = in_term s.tally term leader term_start in
          let last = prev_index + length entries in
          let message = Order term leader prev_index prev_term term_start commit via entries in
          counts-reached s.members (tell_each (remove s.members leader) message) (with_reached begun leader last)
          (omega (arith, some, length-with_reached begun leader last, length-in_term s.tally term leader term_start (nat_lt s.tally.term term) refl))
          (λ t'. each-telling (λ x. TellsReached t' x.message) (remove s.members leader) message (λ member. tt));
      acknowledged = λ term member index applied ack takes.
          counts-reached s.members [] (with_reached s.tally member index) (omega (arith, some, length-with_reached s.tally member index))
          (λ t'. All-nil (λ (x : Telling). TellsReached t' x.message));
    }
    )
