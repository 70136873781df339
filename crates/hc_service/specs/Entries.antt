-- A log as the service sees it.
use Rattle.std.specs.Prelude.{◌≡◌, ℕ, Bool, true, false, ◌==◌, ◌&&◌, List, count_by}
use Rattle.std.specs.FinMap as finite
use Rattle.r2_base.specs.declared.entry.Kind.{Kind}
use Rattle.r2_base.specs.declared.entry.Kind.TheVariants.{Blank, Write, Read}
use Rattle.hc_store.specs.Service.{Contents}
use Rattle.hc_store.specs.State.{State}
use Rattle.hc_store.specs.Operations.{operation_by, operations_of}
use Rattle.hc_store.specs.Replies.{Operation, after_all}
use Rattle.hc_log.specs.declared.stored.Stored.{Stored}

-- an entry by its kind and the body of its request
abbrev pub operation_of : Stored → Operation
operation_of stored = operation_by (λ (s : Stored). s.entry.kind) (λ (s : Stored). s.body) stored

-- the entries of a log, in their order
unfoldable pub operations : List Stored → List Operation
operations log = operations_of (λ (s : Stored). s.entry.kind) (λ (s : Stored). s.body) log

-- what the one-thread service keeps once it served these entries in their order, from nothing
abbrev pub contents_after : List Stored → Contents
contents_after log = after_all finite.empty (operations log)

-- whether an entry of this kind is a request to write
abbrev pub is_write : Kind → Bool
is_write Blank = false
is_write Write = true
is_write Read = false

-- how many requests to write a log has
unfoldable pub writes_of : List Stored → ℕ
writes_of log = count_by (λ s. is_write s.entry.kind) log

-- whether an entry of this kind is a request to read
abbrev pub is_read : Kind → Bool
is_read Blank = false
is_read Write = false
is_read Read = true

-- how many requests to read a log has for this member to answer
unfoldable pub own_reads_of : ℕ → List Stored → ℕ
own_reads_of me log = count_by (λ s. is_read s.entry.kind && (s.entry.replier == me)) log

-- the service of a member after these entries: it keeps what one thread would, and has executed each request to write
-- and each request to read that was this member's to answer
pub record IsReplayed (me : ℕ) (entries : List Stored) (service : State) : Type 0 where
  pub contents : service.contents ≡ contents_after entries
  pub writes : service.writes ≡ writes_of entries
  pub reads : service.reads ≡ own_reads_of me entries
