-- Facts that are said by cases have one proof at most, as the facts of a type must.
use Rattle.std.specs.Prelude.{ℕ, List, Option, Some, None}
use Rattle.std.proofs.Props.{props}
use Rattle.r2_base.specs.declared.rid.Rid.{Rid}
use Rattle.r2_base.specs.declared.entry.Kind.{Kind}
use Rattle.r2_base.specs.declared.entry.Kind.TheVariants.{Blank, Write, Read}
use Rattle.r2_base.specs.Entry.{NamesReplier}
use Rattle.hc_log.specs.Ranges.{FitsKind}
use Rattle.hc_log.specs.Durable.{KeepsVote}

pub KeepsVote-prop : (old new : Option ℕ) → IsProp (KeepsVote old new)
KeepsVote-prop None new = hlevel props
KeepsVote-prop (Some member) new = hlevel props

pub NamesReplier-prop : (kind : Kind) (rid : Rid) (replier : ℕ) → IsProp (NamesReplier kind rid replier)
NamesReplier-prop Blank rid replier = hlevel props
NamesReplier-prop Write rid replier = hlevel props
NamesReplier-prop Read rid replier = hlevel props

pub FitsKind-prop : (kind : Kind) (body : List ℕ) → IsProp (FitsKind kind body)
FitsKind-prop Blank body = hlevel props
FitsKind-prop Write body = hlevel props
FitsKind-prop Read body = hlevel props
