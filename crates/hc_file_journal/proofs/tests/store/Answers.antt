use Rattle.std.proofs.Common.{◌≡◌, List, [], ◌∷◌, ◌++◌, Result, Ok, OnOk, ap, ◌∙◌, subst, sym}
use Rattle.hc_disk.specs.MemDisk.{moments_of}
use Rattle.hc_journal.specs.declared.journal.JournalFault.{JournalFault}
use Rattle.hc_log.specs.declared.record.Record.{Record}
use Rattle.hc_log.specs.Durable.{State, after, replay}
use Rattle.hc_log.proofs.Replays.{replay_push}
use Rattle.hc_file_journal.specs.FileJournal.{kept_records}
use Rattle.hc_file_journal.proofs.tests.store.Goals as goal

-- the state of the records before leads to that of the records after
follows : (was now : State) (records more : List Record) (r : Record) → was ≡ replay records → now ≡ after was r → more ≡ records ++ r ∷ [] → now ≡ replay more
follows was now records more r led after_it is =
    after_it ∙ ap (λ (d : State). after d r) led ∙ sym (replay_push records r) ∙ ap replay (sym is)

inner : (a b : Result (Unit {0}) JournalFault) (E : Type 0) → ◌≡◌ {A = Result (Result (Unit {0}) JournalFault) E} (Ok a) (Ok b) → a ≡ b
inner a b E e = cc

pub returns : goal.returns
returns c is =
    let old = c.args.journal.now in
    let new = c.append.new.self in
    let before = kept_records old.end (moments_of old.disk.first old.disk.done) in
    let now = kept_records new.end (moments_of new.disk.first new.disk.done) in
    follows c.args.durable.now.state c.follow.new.self.state before now c.args.r.now c.requires c.in_ok-follow.ensures.state
    (subst (λ (x : Result (Unit {0}) JournalFault). OnOk x (now ≡ before ++ c.args.r.now ∷ [])) (inner c.append.result (Ok tt) _ is) c.append.ensures.stored)
