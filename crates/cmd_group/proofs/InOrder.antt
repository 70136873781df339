-- A reply that was sent before a request was asked for has a smaller index than the request's entry.
use Rattle.std.proofs.Common.{◌≡◌, List, [], ◌∷◌, ◌++◌, refl, sym, subst, ◌∙◌, append_assoc, append-nil, inl, inr}
use Rattle.r2_base.specs.declared.datagram.Datagram.{Datagram}
use Rattle.hc_rules.specs.Log.{In}
use Rattle.hc_rules.specs.Message.{Reply, Request}
use Rattle.hc_rules.specs.Requests.{IsKnown}
use Rattle.hc_run.specs.Group.{Group, IsGroup}
use Rattle.hc_run.specs.State.{beginning}
use Rattle.hc_run.specs.Events.{GroupEvent}
use Rattle.hc_run.specs.ReplyParts.{ReadsAsReply}
use Rattle.hc_run.specs.Runs.{IsRun, run}
use Rattle.hc_run.proofs.Items.{in-left, in-right}
use Rattle.hc_run.proofs.Staying.{earlier_replies_come_first, what_happened_stays}
use Rattle.hc_run.proofs.WholeRuns.{groups_serve_as_one, possible-parts}
use Rattle.cmd_group.specs.Steps.{Step, Asks, Acts, Aggregates, BeginsAnew, asked_in}
use Rattle.cmd_group.specs.Merge.{IsSeenIn, Loops, after_step, after_steps}
use Rattle.cmd_group.specs.Loops.{AllCome, ComesBefore}

module _ (g : Group) where
  -- the requests after steps
  pub table-asked : (s : Loops) (steps : List Step) → (after_steps g s steps).table ≡ s.table ++ asked_in steps
  table-asked s [] = sym (append-nil s.table)
  table-asked s (Asks q ∷ more) = table-asked (after_step g s (Asks q)) more ∙ append_assoc s.table (q ∷ []) (asked_in more)
  table-asked s (Acts v act ∷ more) = table-asked (after_step g s (Acts v act)) more
  table-asked s (Aggregates me e sent ∷ more) = table-asked (after_step g s (Aggregates me e sent)) more
  table-asked s (BeginsAnew me ∷ more) = table-asked (after_step g s (BeginsAnew me)) more

  -- later steps may come after the earlier ones
  pub come-later : (s : Loops) (before after : List Step) → AllCome g s (before ++ after) → AllCome g (after_steps g s before) after
  come-later s [] after come = come
  come-later s (x ∷ before) after come = come-later (after_step g s x) before after come.1

  -- a request that steps ask for isn't known before
  pub asked-new : (s : Loops) (steps : List Step) → AllCome g s steps → (q : Request) → In q (asked_in steps) → IsKnown s.table q.rid → ⊥
  asked-new s [] come q there known = there
  asked-new s (Asks r ∷ more) come q (inl same) known =
      let new = come.0 in new.fresh (subst (λ (x : Request). IsKnown s.table x.rid) same known)
  asked-new s (Asks r ∷ more) come q (inr later) known =
      asked-new (after_step g s (Asks r)) more come.1 q later
      (record { request = known.request; sent = in-left known.request s.table (r ∷ []) known.sent; named = known.named })
  asked-new s (Acts v act ∷ more) come q there known = asked-new (after_step g s (Acts v act)) more come.1 q there known
  asked-new s (Aggregates me e sent ∷ more) come q there known = asked-new (after_step g s (Aggregates me e sent)) more come.1 q there known
  asked-new s (BeginsAnew me ∷ more) come q there known = asked-new (after_step g s (BeginsAnew me)) more come.1 q there known

-- the earlier events of a run are a run
pub run-earlier : (g : Group) (earlier later events : List GroupEvent) → IsRun g events → earlier ++ later ≡ events → IsRun g earlier
run-earlier g earlier later events runs split =
    let whole = subst (IsRun g) (sym split) runs in record { possible = (possible-parts g (beginning g) earlier later whole.possible).0 }

-- what was sent by a moment of a run comes before what is asked for the first time after it
pub comes-before : (g : Group) (events more : List GroupEvent) (s : Loops) (after : List Step) (d : Datagram) → IsGroup g → IsRun g (events ++ more) → IsSeenIn (run g events) s
    → ((q : Request) → In q (asked_in after) → IsKnown s.table q.rid → ⊥) → In d s.sent → ReadsAsReply d → ComesBefore g (run g (events ++ more)) after d
comes-before g events more s after d is runs seen new there reads =
    let before = groups_serve_as_one g events is (run-earlier g events more (events ++ more) runs refl) in
    let part = before.parts d (seen.sent d there) reads in
    let stays = what_happened_stays g events more in
    let replied = stays.replied in
    let still : In part.reply (run g (events ++ more)).replied =
    subst (λ (l : List Reply). In part.reply l) (sym replied.split) (in-right part.reply replied.newer (run g events).replied part.there) in
    let whole = groups_serve_as_one g (events ++ more) is runs in
    record {
      is = record { part = record { reply = part.reply; there = still; part = part.part }; right = whole.replies part.reply still };
      below =
          λ q index asks of.
          earlier_replies_come_first g events more part.reply index q is runs part.there
          (λ known. new q asks (subst (λ (l : List Request). IsKnown l q.rid) (sym seen.table) known)) of;
    }
