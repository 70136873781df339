-- A batch: entries of a log that follow one another are executed, and those that this member is to answer are answered.
use Rattle.std.specs.Prelude.{ℕ, ◌+◌, ◌-◌, ◌==◌, if◌then◌else◌, List, [], ◌∷◌, ◌++◌, take, drop}
use Rattle.r2_base.specs.declared.entry.Kind.{Kind}
use Rattle.r2_base.specs.declared.entry.Kind.TheVariants.{Blank, Write, Read}
use Rattle.hc_store.specs.Service.{Served, serve}
use Rattle.hc_store.specs.State.{State, after_write, after_admission}
use Rattle.hc_store.specs.Replies.{reply_of}
use Rattle.hc_log.specs.declared.stored.Stored.{Stored}
use Rattle.hc_service.specs.declared.answer.Answer.{Answer}

-- the service after some entries, and the answers that this member gives to them
pub record Batch : Type 0 where
  pub service : State
  pub answers : List Answer

-- the entries of a log from an index on up to another
abbrev pub entries_between : List Stored → ℕ → ℕ → List Stored
entries_between log from to = take (to + 1 - from) (drop (from - 1) log)

-- the answer to the entry at an index, by what was served
abbrev pub answer_of : ℕ → Stored → Served → Answer
answer_of index s served =
    record { index = index; rid = s.entry.rid; kind = s.entry.kind; payload = reply_of index served }

-- this member answers an entry that was executed where it is the replier
abbrev pub own_answer : ℕ → ℕ → Stored → Served → List Answer
own_answer me index s served = if s.entry.replier == me then answer_of index s served ∷ [] else []

-- a request to write: each member executes it
abbrev pub write_run : ℕ → ℕ → Stored → State → Served → Batch
write_run me index s service served =
    record { service = after_write service served.contents; answers = own_answer me index s served }

-- a request to read: its replier alone executes it (HovercRaft, on read-only requests)
abbrev pub read_run : ℕ → ℕ → Stored → State → Served → Batch
read_run me index s service served =
    record { service = if s.entry.replier == me then after_admission service else service; answers = own_answer me index s served }

-- an entry, by its kind; a blank one has no request
abbrev pub run_by : Kind → ℕ → ℕ → Stored → State → Batch
run_by Blank me index s service = record { service = service; answers = [] }
run_by Write me index s service = write_run me index s service (serve service.contents Write s.body)
run_by Read me index s service = read_run me index s service (serve service.contents Read s.body)

-- one entry is executed
unfoldable pub run_one : ℕ → ℕ → Stored → State → Batch
run_one me index s service = run_by s.entry.kind me index s service

-- what is executed first, and what comes after it
abbrev pub and_then : Batch → Batch → Batch
and_then first rest = record { service = rest.service; answers = first.answers ++ rest.answers }

-- entries are executed one after another, the first of them at an index
unfoldable pub run_all : ℕ → ℕ → List Stored → State → Batch
run_all me index [] service = record { service = service; answers = [] }
run_all me index (s ∷ later) service =
    and_then (run_one me index s service) (run_all me (index + 1) later (run_one me index s service).service)
