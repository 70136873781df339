-- What happened stays, and a reply's place tells when it was made.
use Rattle.std.proofs.Common.{◌≡◌, ℕ, zero, suc, ◌-◌, ◌≤◌, List, [], ◌∷◌, ◌++◌, length, sym, subst, ◌∙◌, arith, append-nil, inl, inr}
use Rattle.std.specs.Prelude.{◌⊎◌, All}
use Rattle.std.proofs.lemmas.List.Elements.{All-get_or}
use Rattle.hc_log.specs.declared.stored.Stored.{Stored}
use Rattle.hc_log.specs.Log.{blank_of, stored_at}
use Rattle.hc_rules.specs.Log.{In}
use Rattle.hc_rules.specs.Message.{Reply, Request}
use Rattle.hc_rules.specs.Requests.{At}
use Rattle.hc_run.specs.Group.{Group}
use Rattle.hc_run.specs.State.{GroupState, beginning}
use Rattle.hc_run.specs.Events.{GroupEvent}
use Rattle.hc_run.specs.AsOne.{IsEntryOf}
use Rattle.hc_run.specs.Held.{IsWhole}
use Rattle.hc_run.specs.OneList.{applied_list}
use Rattle.hc_run.specs.Runs.{after_events, run}
use Rattle.hc_run.specs.Staying.{ArePlaced, EarlierPartsComeFirst, EarlierRepliesAreSmaller, EarlierRepliesComeFirst, RepliesHavePlaces, StaysIn, WhatHappenedStays}
use Rattle.hc_run.specs.Tied.{request_of}
use Rattle.hc_run.proofs.Following.{Follows, events-later}
use Rattle.hc_run.proofs.Items.{in-right}
use Rattle.hc_run.proofs.TableBodies.{at-in}
use Rattle.hc_run.proofs.WholeRuns.{events-follow, groups_serve_as_one, possible-parts}

follows-stays : (s t : GroupState) → Follows s t → StaysIn s t
follows-stays s t one =
    let added = one.replied in
    record {
      datagrams = one.datagrams;
      table = one.table;
      passed = one.passed;
      replied = record { newer = added.newer; split = added.split };
      reports = one.reports;
      events = one.events;
      crashes = one.crashes;
    }

-- what happened in a state stays after events
pub events-stay : (g : Group) (s : GroupState) (events : List GroupEvent) → StaysIn s (after_events g s events)
events-stay g s events = follows-stays s (after_events g s events) (events-later g s events)

-- Runs --

run-follows : (g : Group) (events more : List GroupEvent) → Follows (run g events) (run g (events ++ more))
run-follows g events more =
    let s = run g events in
    subst (λ (t : GroupState). Follows s t) (sym (events-follow g (beginning g) events more)) (events-later g s more)

pub what_happened_stays : WhatHappenedStays
what_happened_stays g events more = follows-stays (run g events) (run g (events ++ more)) (run-follows g events more)

run-placed : (g : Group) (events : List GroupEvent) → ArePlaced (run g events)
run-placed g events r there =
    let added = (events-later g (beginning g) events).replied in
    let here = subst (λ (l : List Reply). In r l) (added.split ∙ append-nil added.newer) there in
    (added.placed r here).1

pub replies_have_places : RepliesHavePlaces
replies_have_places g events more =
    let added = (run-follows g events more).replied in
    record {
      before = run-placed g events;
      newer = added.newer;
      split = added.split;
      after = λ r there. (added.placed r there).0;
    }

-- What came first --

-- a place of a list is one of its first part, or comes after that
at-parts : (l more : List Request) (place : ℕ) (q : Request) → At (l ++ more) place q → In q l ⊎ (length l ≤ place)
at-parts [] more place q at = inr (omega arith)
at-parts (r ∷ l) more zero q at = inl (inl (sym at))
at-parts (r ∷ l) more (suc place) q at =
    elim (at-parts l more place q at) [
      | inl here ↦ inl (inr here)
      | inr past ↦ inr (omega (arith, past))
    ]

-- the request of an entry of a list is one of the table
entry-asked : (table : List Request) (list : List Stored) (index : ℕ) (q : Request) → All (IsWhole table) list → IsEntryOf list index q
    → (r : Request) × (In r table × (r.rid ≡ q.rid))
entry-asked table list index q bodies is =
    let first = is.first in
    let within = is.within in
    let whole = All-get_or (IsWhole table) list (index - 1) (blank_of 0) (omega (arith, first, within)) bodies in
    let x = stored_at list index in
    (request_of x.entry.rid x.entry.kind x.body, (whole.listed is.asks, is.named))

pub earlier_replies_come_first : EarlierRepliesComeFirst
earlier_replies_come_first g events more r index q is runs made unknown of =
    let s = run g events in
    let t = run g (events ++ more) in
    let serves = groups_serve_as_one g (events ++ more) is runs in
    let stays = what_happened_stays g events more in
    let table = stays.table in
    let replied = stays.replied in
    let asked = entry-asked t.table (applied_list t) index q serves.bodies of in
    let found = at-in t.table asked.0 asked.1.0 in
    let still = subst (λ (l : List Reply). In r l) (sym replied.split) (in-right r replied.newer s.replied made) in
    let low = run-placed g events r made in
    elim (at-parts s.table table.later found.0 asked.0 (subst (λ (l : List Request). At l found.0 asked.0) table.split found.1)) [
      | inl known ↦ absurd (unknown (record { request = asked.0; sent = known; named = asked.1.1 }))
      | inr past ↦
          serves.entries_in_order r found.0 index asked.0 still found.1 (omega (arith, low, past))
          (record { first = of.first; within = of.within; asks = of.asks; named = of.named ∙ sym asked.1.1 })
    ]

pub earlier_replies_are_smaller : EarlierRepliesAreSmaller
earlier_replies_are_smaller g events more earlier later is runs made unknown answers =
    let serves = groups_serve_as_one g (events ++ more) is runs in
    let right = serves.replies later answers in
    let x = stored_at (applied_list (run g (events ++ more))) later.index in
    earlier_replies_come_first g events more earlier later.index (request_of later.request x.entry.kind x.body) is runs made unknown
    (record { first = right.first; within = right.within; asks = right.asks; named = right.named })

pub earlier_parts_come_first : EarlierPartsComeFirst
earlier_parts_come_first g events more d index q is runs sent reads unknown of =
    let before = (possible-parts g (beginning g) events more runs.possible).0 in
    let serves = groups_serve_as_one g events is (record { possible = before }) in
    let part = serves.parts d sent reads in
    record { is = part; below = earlier_replies_come_first g events more part.reply index q is runs part.there unknown of }
