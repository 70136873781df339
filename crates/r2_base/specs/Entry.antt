-- The words of entries: which have a request, and what those that have none hold.
use Rattle.std.specs.Prelude.{◌≡◌, ℕ, ◌≤◌, ◌==◌, ◌&&◌, Bool, true, false}
use Rattle.r2_base.specs.declared.rid.Rid.{Rid}
use Rattle.r2_base.specs.declared.entry.Kind.{Kind}
use Rattle.r2_base.specs.declared.entry.Kind.TheVariants.{Blank, Write, Read}
use Rattle.r2_base.specs.declared.entry.Entry.{Entry}
use Rattle.r2_base.specs.Limits.{greatest_member, no_replier}

-- an entry of this kind has a request
abbrev pub is_request : Kind → Bool
is_request Blank = false
is_request Write = true
is_request Read = true

-- the request id of an entry that has no request
abbrev pub no_rid : Rid
no_rid = record { id = 0; client = record { ip = 0; port = 0 } }

-- whether all of a request id is zero
abbrev pub is_no_rid : Rid → Bool
is_no_rid rid = (rid.client.ip == 0) && (rid.client.port == 0) && (rid.id == 0)

-- the entry that a new leader of a term appends (Raft, extended version, section 8)
abbrev pub blank_entry : ℕ → Entry
blank_entry term = record { term = term; kind = Blank; rid = no_rid; replier = no_replier }

-- a blank entry names no request and no replier; a request is answered by a member
abbrev pub NamesReplier : Kind → Rid → ℕ → Type 0
NamesReplier Blank rid replier = (rid ≡ no_rid) × (replier ≡ no_replier)
NamesReplier Write rid replier = replier ≤ greatest_member
NamesReplier Read rid replier = replier ≤ greatest_member
