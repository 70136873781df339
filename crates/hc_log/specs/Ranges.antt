-- The ranges of the fields of an entry and of a record.
use Rattle.std.specs.Prelude.{◌≡◌, ℕ, ◌≤◌, List, [], length, IfSome, All}
use Rattle.r2_base.specs.declared.entry.Kind.{Kind}
use Rattle.r2_base.specs.declared.entry.Kind.TheVariants.{Blank, Write, Read}
use Rattle.r2_base.specs.Entry.{NamesReplier}
use Rattle.r2_base.specs.Limits.{greatest_member, greatest_number, most_body, most_entries}
use Rattle.hc_log.specs.declared.stored.Stored.{Stored}
use Rattle.hc_log.specs.declared.record.Record.{Record}

-- the greatest number of requests of a log
abbrev pub most_requests : ℕ
most_requests = 1048576

-- the greatest number of bytes that the bodies of a log have together
abbrev pub most_body_bytes : ℕ
most_body_bytes = 1073741824

-- a blank entry has no body, and a request's body has a limit
abbrev pub FitsKind : Kind → List ℕ → Type 0
FitsKind Blank body = body ≡ []
FitsKind Write body = length body ≤ most_body
FitsKind Read body = length body ≤ most_body

-- an entry with its body within the ranges of their fields
pub record IsStored (s : Stored) : Type 0 where
  pub term_is_set : 1 ≤ s.entry.term
  pub term_fits : s.entry.term ≤ greatest_number
  pub replier : NamesReplier s.entry.kind s.entry.rid s.entry.replier
  pub body : FitsKind s.entry.kind s.body

-- a record within the ranges of its fields, those of its entries included
pub record IsInRange (r : Record) : Type 0 where
  pub term_is_set : 1 ≤ r.term
  pub term_fits : r.term ≤ greatest_number
  pub vote : IfSome r.vote (λ member. member ≤ greatest_member)
  pub keep : r.keep ≤ greatest_number
  pub count : length r.entries ≤ most_entries
  pub entries : All IsStored r.entries
