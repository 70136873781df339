-- Entries that are executed, one after another.
use Rattle.std.proofs.Common.{◌≡◌, ℕ, ◌+◌, ◌-◌, ◌<◌, ◌≤◌, Bool, true, false, cond, suc, List, [], ◌∷◌, ◌++◌, length, take, drop, slice_get, Some, refl, sym, ap, subst, ◌∙◌, arith, append-nil, append_assoc, take-add}
use Rattle.std.specs.Prelude.{◌==◌, ◌&&◌, if◌then◌else◌}
use Rattle.std.proofs.lemmas.List.{drop_more}
use Rattle.std.proofs.lemmas.Option.{slice_get-get_or}
use Rattle.r2_base.specs.declared.entry.Kind.{Kind}
use Rattle.r2_base.specs.declared.entry.Kind.TheVariants.{Blank, Write, Read}
use Rattle.hc_store.specs.Service.{Contents}
use Rattle.hc_store.specs.State.{State, after_admission}
use Rattle.hc_store.specs.Replies.{after_all, after_entry}
use Rattle.hc_store.proofs.Changes.{reads_change_nothing}
use Rattle.hc_log.specs.declared.stored.Stored.{Stored}
use Rattle.hc_log.specs.Log.{blank_of, requests_of, stored_at}
use Rattle.hc_service.specs.declared.answer.Answer.{Answer}
use Rattle.hc_service.specs.Batch.{Batch, and_then, entries_between, run_all, run_by, run_one}
use Rattle.hc_service.specs.Entries.{IsReplayed, is_read, is_write, operations, own_reads_of, writes_of}
use Rattle.hc_service.specs.Laws.{BatchesRun, HasRun}
use Rattle.hc_service.proofs.Counts.{own_reads_of-append, own_reads_of-cons, read_asks, requests_of-next, write_asks, writes_of-append, writes_of-cons}
use Rattle.hc_service.proofs.Entries.{contents_after-append}

-- the entries from an index on are the one there, and those from the next index on
pub between-more : (log : List Stored) (index to : ℕ) → 1 ≤ index → index ≤ to → to ≤ length log
    → entries_between log index to ≡ stored_at log index ∷ entries_between log (index + 1) to
between-more log index to some inside within =
    let left : to + 1 - index ≡ suc (to + 1 - (index + 1)) = omega arith in
    let next : index - 1 + 1 ≡ index + 1 - 1 = omega arith in
    let here : drop (index - 1) log ≡ stored_at log index ∷ drop (index + 1 - 1) log =
    drop_more log (index - 1) (blank_of 0) (omega arith) ∙ ap (λ (n : ℕ). stored_at log index ∷ drop n log) next in
    ap (λ (n : ℕ). take n (drop (index - 1) log)) left ∙ ap (take (suc (to + 1 - (index + 1)))) here

-- none are left after the last
pub between-none : (log : List Stored) (index to : ℕ) → to < index → entries_between log index to ≡ []
between-none log index to past =
    let none : to + 1 - index ≡ 0 = omega arith in
    ap (λ (n : ℕ). take n (drop (index - 1) log)) none

-- what an entry does to the service: what one thread would keep, and one request more where it is executed
pub record Executes (me : ℕ) (old new : State) (s : Stored) (kind : Kind) : Type 0 where
  pub contents : new.contents ≡ after_entry old.contents kind s.body
  pub writes : new.writes ≡ old.writes + cond (is_write kind) 1 0
  pub reads : new.reads ≡ old.reads + cond (is_read kind && (s.entry.replier == me)) 1 0

-- a read changes nothing, so that it may be left out
read_by-executes : (b : Bool) (me : ℕ) (s : Stored) (service : State) → (s.entry.replier == me) ≡ b
    → Executes me service (if b then after_admission service else service) s Read
read_by-executes true me s service is =
    let one = ap {B = ℕ} (λ (b : Bool). cond b 1 0) is in
    record { contents = sym (reads_change_nothing service.contents s.body); writes = omega arith; reads = omega (arith, one) }
read_by-executes false me s service is =
    let none = ap {B = ℕ} (λ (b : Bool). cond b 1 0) is in
    record { contents = sym (reads_change_nothing service.contents s.body); writes = omega arith; reads = omega (arith, none) }

by-executes : (kind : Kind) (me index : ℕ) (s : Stored) (service : State) → Executes me service (run_by kind me index s service).service s kind
by-executes Blank me index s service = record { contents = refl; writes = omega arith; reads = omega arith }
by-executes Write me index s service = record { contents = refl; writes = omega arith; reads = omega arith }
by-executes Read me index s service = read_by-executes (s.entry.replier == me) me s service refl

pub one-executes : (me index : ℕ) (s : Stored) (service : State) → Executes me service (run_one me index s service).service s s.entry.kind
unfolding run_one
one-executes me index s service = by-executes s.entry.kind me index s service

-- entries one after another
pub batches_run : BatchesRun
unfolding run_all operations after_all writes_of own_reads_of
batches_run me index [] service = record { contents = refl; writes = omega arith; reads = omega arith }
batches_run me index (s ∷ later) service =
    let one = one-executes me index s service in
    let middle = (run_one me index s service).service in
    let rest = batches_run me (index + 1) later middle in
    record {
      contents = rest.contents ∙ ap (λ c. after_all c (operations later)) one.contents;
      writes = omega (arith, rest.writes, one.writes, writes_of-cons s later);
      reads = omega (arith, rest.reads, one.reads, own_reads_of-cons me s later);
    }

-- a service that is one thread's stays so
pub replayed-run : (me : ℕ) (front entries : List Stored) (before after : State) → HasRun me entries before after → IsReplayed me front before → IsReplayed me (front ++ entries) after
replayed-run me front entries before after ran is =
    record {
      contents = ran.contents ∙ ap (λ (c : Contents). after_all c (operations entries)) is.contents ∙ sym (contents_after-append front entries);
      writes = omega (arith, ran.writes, is.writes, writes_of-append front entries);
      reads = omega (arith, ran.reads, is.reads, own_reads_of-append me front entries);
    }

-- and so does one after a batch of a log
pub batch-replayed : (me from to : ℕ) (log : List Stored) (service : State) → from ≤ to + 1 → 1 ≤ from → IsReplayed me (take (from - 1) log) service
    → IsReplayed me (take to log) (run_all me from (entries_between log from to) service).service
batch-replayed me from to log service order some is =
    let entries = entries_between log from to in
    let after = (run_all me from entries service).service in
    let size : from - 1 + (to + 1 - from) ≡ to = omega (arith, order, some) in
    let both : take (from - 1) log ++ entries ≡ take to log = sym (take-add (from - 1) (to + 1 - from) log) ∙ ap (λ (n : ℕ). take n log) size in
    subst (λ (l : List Stored). IsReplayed me l after) both (replayed-run me (take (from - 1) log) entries service after (batches_run me from entries service) is)

-- a batch by its first entry
pub run-more : (me index : ℕ) (s : Stored) (later : List Stored) (service : State)
    → run_all me index (s ∷ later) service ≡ and_then (run_one me index s service) (run_all me (index + 1) later (run_one me index s service).service)
unfolding run_all
run-more me index s later service = refl

pub run-none : (me index : ℕ) (service : State) → run_all me index [] service ≡ record { service = service; answers = [] }
unfolding run_all
run-none me index service = refl

-- what is left of a batch leads to the whole one
pub record LeadsTo (me index to : ℕ) (log : List Stored) (service : State) (answers : List Answer) (whole : Batch) : Type 0 where
  pub ends : (run_all me index (entries_between log index to) service).service ≡ whole.service
  pub gives : answers ++ (run_all me index (entries_between log index to) service).answers ≡ whole.answers

pub leads-more : (me index to : ℕ) (log : List Stored) (service after : State) (answers more : List Answer) (whole : Batch) → 1 ≤ index → index ≤ to → to ≤ length log
    → after ≡ (run_one me index (stored_at log index) service).service → more ≡ answers ++ (run_one me index (stored_at log index) service).answers
    → LeadsTo me index to log service answers whole → LeadsTo me (index + 1) to log after more whole
leads-more me index to log service after answers more whole some inside within is said leads =
    let s = stored_at log index in
    let first = run_one me index s service in
    let later = entries_between log (index + 1) to in
    let all = ap (λ (es : List Stored). run_all me index es service) (between-more log index to some inside within) ∙ run-more me index s later service in
    let rest = run_all me (index + 1) later first.service in
    record {
      ends = ap (λ (x : State). (run_all me (index + 1) later x).service) is ∙ sym (ap (λ (b : Batch). b.service) all) ∙ leads.ends;
      gives =
          ap (λ (x : State). more ++ (run_all me (index + 1) later x).answers) is
          ∙ ap (λ (x : List Answer). x ++ rest.answers) said
          ∙ append_assoc answers first.answers rest.answers
          ∙ sym (ap (λ (b : Batch). answers ++ b.answers) all)
          ∙ leads.gives;
    }

pub leads-end : (me index to : ℕ) (log : List Stored) (service : State) (answers : List Answer) (whole : Batch) → to < index → LeadsTo me index to log service answers whole
    → (service ≡ whole.service) × (answers ≡ whole.answers)
leads-end me index to log service answers whole past leads =
    let none = ap (λ (es : List Stored). run_all me index es service) (between-none log index to past) ∙ run-none me index service in (
      sym (ap (λ (b : Batch). b.service) none) ∙ leads.ends,
      sym (append-nil answers) ∙ sym (ap (λ (b : Batch). answers ++ b.answers) none) ∙ leads.gives,
    )

-- no more is counted than there are requests
pub record CountsMost (first now : State) (requests : ℕ) : Type 0 where
  pub writes : now.writes ≤ first.writes + requests
  pub reads : now.reads ≤ first.reads + requests

pub counts-more : (me index : ℕ) (log : List Stored) (first service after : State) → 1 ≤ index → index ≤ length log → after ≡ (run_one me index (stored_at log index) service).service
    → CountsMost first service (requests_of (take (index - 1) log)) → CountsMost first after (requests_of (take (index + 1 - 1) log))
counts-more me index log first service after some inside is most =
    let s = stored_at log index in
    let one = one-executes me index s service in
    let there : slice_get log (index - 1) ≡ Some s = slice_get-get_or log (index - 1) (blank_of 0) (omega arith) in
    let next = requests_of-next log (index - 1) s there in
    let place : index - 1 + 1 ≡ index + 1 - 1 = omega arith in
    let counted = ap (λ (n : ℕ). requests_of (take n log)) place in
    let writes = ap (λ (x : State). x.writes) is in
    let reads = ap (λ (x : State). x.reads) is in
    record {
      writes = omega (arith, most.writes, one.writes, next, counted, writes, write_asks s.entry.kind);
      reads = omega (arith, most.reads, one.reads, next, counted, reads, read_asks s.entry.kind (s.entry.replier == me));
    }
