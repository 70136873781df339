-- What the service makes of the entries of a log, one after another, and the reply to each.
use Rattle.std.specs.Prelude.{ℕ, zero, suc, List, [], ◌∷◌, ◌++◌, take, slice_get, Option, Some, None, option_and_then}
use Rattle.std.specs.FinMap as map
use Rattle.r2_base.specs.declared.entry.Kind.{Kind}
use Rattle.r2_base.specs.declared.entry.Kind.TheVariants.{Blank, Write, Read}
use Rattle.r2_base.specs.Numbers.{u64_bytes}
use Rattle.hc_store.specs.Service.{Contents, Served, serve}

-- an entry of the log as the service sees it: its kind, and the body of its request
pub record Operation : Type 0 where
  pub kind : Kind
  pub body : List ℕ

-- what the service keeps after one entry; a blank one has no request and leaves all as it is
abbrev pub after_entry : Contents → Kind → List ℕ → Contents
after_entry contents Blank body = contents
after_entry contents Write body = (serve contents Write body).contents
after_entry contents Read body = (serve contents Read body).contents

-- what it keeps after entries that were served in their order
unfoldable pub after_all : Contents → List Operation → Contents
after_all contents [] = contents
after_all contents (operation ∷ more) = after_all (after_entry contents operation.kind operation.body) more

-- the payload of a reply: the index of its entry, the status and the value
unfoldable pub payload_of : ℕ → ℕ → List ℕ → List ℕ
payload_of index status value = u64_bytes index ++ status ∷ value

-- what was served, as the payload of the reply to the entry at an index
abbrev pub reply_of : ℕ → Served → List ℕ
reply_of index served = payload_of index served.status served.value

-- the reply to an entry; a blank one has none
abbrev pub entry_reply : Contents → ℕ → Kind → List ℕ → Option (List ℕ)
entry_reply contents index Blank body = None
entry_reply contents index Write body = Some (reply_of index (serve contents Write body))
entry_reply contents index Read body = Some (reply_of index (serve contents Read body))

-- the reply to the entry at an index, counted from 1, where the entries before it were served in order from nothing.
-- There is none outside the log
unfoldable pub reply_at : List Operation → ℕ → Option (List ℕ)
reply_at log zero = None
reply_at log (suc before) =
    option_and_then
    (λ operation. entry_reply (after_all map.empty (take before log)) (suc before) operation.kind operation.body)
    (slice_get log before)
