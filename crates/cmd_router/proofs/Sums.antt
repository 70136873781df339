-- What all workers' passes counted, from fresh passes on.
use Rattle.std.proofs.Common.{◌≡◌, ◌≤◌, ℕ, zero, suc, ◌+◌, ◌*◌, List, [], ◌∷◌, ◌++◌, All, length, length-append, refl, ap, ◌∙◌, subst, arith}
use Rattle.std.specs.Prelude.{cond, sum_by}
use Rattle.std.proofs.lemmas.List.Elements.{All-nil, All-push}
use Rattle.std.proofs.lemmas.List.Sums.{sum_by-append, sum_by-cons}
use Rattle.r2_base.specs.declared.datagram.Datagram.{Datagram}
use Rattle.r2_jbsq.specs.Limits.{most_servers}
use Rattle.r2_jbsq.specs.Packets.{is_request, requests_among}
use Rattle.r2_desk.specs.declared.step.Step.{Step}
use Rattle.r2_desk.specs.declared.totals.Totals.{Totals}
use Rattle.r2_desk.specs.Closing.{Settles}
use Rattle.r2_desk.specs.Made.{fresh_pass, fresh_passes}
use Rattle.r2_desk.specs.States.{PassState}
use Rattle.r2_desk.proofs.Beginnings.{slots-add-up}
use Rattle.cmd_status.specs.declared.status.Status.{Status}
use Rattle.cmd_loop.specs.declared.pace.Pace.{Pace}
use Rattle.cmd_loop.specs.Ends.{Ends}
use Rattle.cmd_router.specs.Counted.{asked_among, feedback_among, ticks_among}
use Rattle.cmd_router.specs.Desks.{AllCount, WorkAtDesk}
use Rattle.cmd_router.specs.Works.{CountAll, SharesRouter, Work, WorkTogether, all_sent}
use Rattle.cmd_router.proofs.Ready.{IsFresh}

-- each count of all passes, before and after

record Sums (before after : List PassState) (works : List Work) : Type 0 where
  turns : sum_by (λ (p : PassState). p.made.turns) after ≡ sum_by (λ (p : PassState). p.made.turns) before + sum_by (λ (w : Work). length w.events) works
  slots : sum_by (λ (p : PassState). p.slots) after ≡ sum_by (λ (p : PassState). p.slots) before
  accepted : sum_by (λ (p : PassState). p.made.accepted) after ≤ sum_by (λ (p : PassState). p.made.accepted) before + sum_by (λ (w : Work). asked_among w.events) works
  answered : sum_by (λ (p : PassState). p.made.answered) after ≤ sum_by (λ (p : PassState). p.made.answered) before + sum_by (λ (w : Work). feedback_among w.events) works
  forwarded : sum_by (λ (p : PassState). p.made.forwarded) after ≤ sum_by (λ (p : PassState). p.made.forwarded) before + requests_among (all_sent works)
  repeats : sum_by (λ (p : PassState). p.made.forwarded) before + requests_among (all_sent works)
      ≤ sum_by (λ (p : PassState). p.made.forwarded) after + most_servers * sum_by (λ (w : Work). ticks_among w.events) works

sums : (before after : List PassState) (works : List Work) → AllCount before works after → Sums before after works
sums [] [] [] all = record { turns = omega arith; slots = refl; accepted = omega arith; answered = omega arith; forwarded = omega arith; repeats = omega arith }
sums [] (p' ∷ after) [] all = absurd all
sums [] [] (w ∷ works) all = absurd all
sums [] (p' ∷ after) (w ∷ works) all = absurd all
sums (p ∷ before) [] [] all = absurd all
sums (p ∷ before) (p' ∷ after) [] all = absurd all
sums (p ∷ before) [] (w ∷ works) all = absurd all
sums (p ∷ before) (p' ∷ after) (w ∷ works) all =
    let one = all.0 in
    let rest = sums before after works all.1 in
    let both : requests_among (w.sends ++ all_sent works) ≡ requests_among w.sends + requests_among (all_sent works) =
    sum_by-append (λ (d : Datagram). cond (is_request d.bytes) 1 0) w.sends (all_sent works) in
    let turns = λ (q : PassState). q.made.turns in
    let slots = λ (q : PassState). q.slots in
    let accepted = λ (q : PassState). q.made.accepted in
    let answered = λ (q : PassState). q.made.answered in
    let forwarded = λ (q : PassState). q.made.forwarded in
    let ticks = sum_by-cons (λ (v : Work). ticks_among v.events) w works in
    record {
      turns = omega (arith, one.turns, rest.turns, sum_by-cons turns p before, sum_by-cons turns p' after, sum_by-cons (λ (v : Work). length v.events) w works);
      slots = omega (arith, one.slots, rest.slots, sum_by-cons slots p before, sum_by-cons slots p' after);
      accepted = omega (arith, one.accepted, rest.accepted, sum_by-cons accepted p before, sum_by-cons accepted p' after, sum_by-cons (λ (v : Work). asked_among v.events) w works);
      answered = omega (arith, one.answered, rest.answered, sum_by-cons answered p before, sum_by-cons answered p' after, sum_by-cons (λ (v : Work). feedback_among v.events) w works);
      forwarded = omega (arith, one.forwarded, rest.forwarded, both, sum_by-cons forwarded p before, sum_by-cons forwarded p' after);
      repeats = omega (arith, one.repeats, rest.repeats, both, sum_by-cons forwarded p before, sum_by-cons forwarded p' after, ticks);
    }

-- fresh passes counted nothing
none-counted : (f : PassState → ℕ) (slots : ℕ) → ((n : ℕ) → f (fresh_pass slots n) ≡ 0) → (n : ℕ) → sum_by f (fresh_passes slots n) ≡ 0
none-counted f slots none zero = refl
none-counted f slots none (suc n) =
    let rest = none-counted f slots none n in
    let more = sum_by-append f (fresh_passes slots n) (fresh_pass slots n ∷ []) in
    omega (arith, rest, more, none n)

pub fresh-long : (slots n : ℕ) → length (fresh_passes slots n) ≡ n
fresh-long slots zero = refl
fresh-long slots (suc n) =
    let rest = fresh-long slots n in
    omega (arith, rest, length-append (fresh_passes slots n) (fresh_pass slots n ∷ []))

pub all-fresh : (slots n : ℕ) → All IsFresh (fresh_passes slots n)
all-fresh slots zero = All-nil IsFresh
all-fresh slots (suc n) = All-push IsFresh (fresh_passes slots n) (fresh_pass slots n) (all-fresh slots n) refl

count-all : (slots workers : ℕ) → 1 ≤ workers → (after : List PassState) (works : List Work) (totals : Totals) (trail : List Step) → AllCount (fresh_passes slots workers) works after
    → Settles 0 after totals trail → CountAll slots works totals
count-all slots workers some after works totals trail all settles =
    let k = sums (fresh_passes slots workers) after works all in
    let turns = none-counted (λ (p : PassState). p.made.turns) slots (λ n. refl) workers in
    let accepted = none-counted (λ (p : PassState). p.made.accepted) slots (λ n. refl) workers in
    let answered = none-counted (λ (p : PassState). p.made.answered) slots (λ n. refl) workers in
    let forwarded = none-counted (λ (p : PassState). p.made.forwarded) slots (λ n. refl) workers in
    let all_slots = slots-add-up slots workers some in
    record {
      turns = omega (arith, settles.turns, k.turns, turns);
      accepted = omega (arith, settles.accepted, k.accepted, accepted);
      answered = omega (arith, settles.answered, k.answered, answered);
      forwarded = omega (arith, settles.bounded, k.slots, all_slots);
      sent = omega (arith, settles.forwarded, k.forwarded, forwarded);
      repeats = omega (arith, settles.forwarded, k.repeats, forwarded);
    }

-- workers over one desk that settled shared its router
pub shares-router : (slots workers : ℕ) → 1 ≤ workers → (pace : Pace) (a b : Ends) (before after : List PassState) (totals : Totals) (trail : List Step) (ended : Status)
    → before ≡ fresh_passes slots workers → WorkAtDesk pace before after a.link b.link a.clock b.clock ended → Settles 0 after totals trail
    → SharesRouter slots workers pace a b totals ended
shares-router slots workers some pace a b before after totals trail ended fresh did settles =
    let as_many : length before ≡ workers = ap length fresh ∙ fresh-long slots workers in
    record {
      first = did.first;
      others = did.others;
      work = subst (λ (n : ℕ). WorkTogether n pace a.link b.link a.clock b.clock did.first did.others ended) as_many did.work;
      counts = count-all slots workers some after (did.first ∷ did.others) totals trail
          (subst (λ (l : List PassState). AllCount l (did.first ∷ did.others) after) fresh did.counts) settles;
    }
