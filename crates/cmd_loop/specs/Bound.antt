-- A command whose link is bound first.
use Rattle.std.specs.Prelude.{◌≡◌, ◌⊎◌, [], Option, Some, None}
use Rattle.r2_base.specs.declared.addr.Addr.{Addr}
use Rattle.r2_link.specs.Links.{LinkPasses, LinkTold}
use Rattle.cmd_status.specs.declared.status.Status.{Status}
use Rattle.cmd_status.specs.declared.status.Status.TheVariants.{LinkFault, Memory}
use Rattle.cmd_loop.specs.Ends.{Ends, Passes, nothing}

-- a link was bound at the address, where there is one, and nothing passed
abbrev pub IsBound : Option Addr → LinkTold → LinkTold → Type 0
IsBound None old new = new ≡ old
IsBound (Some me) old new = LinkPasses (record old { me = Some me }) new [] []

-- a command can't begin: memory ran out, or the link at which it was to listen failed
abbrev pub CantBegin : Option Addr → Status → Type 0
CantBegin listens Memory = Unit {0}
CantBegin (Some me) LinkFault = Unit {0}
CantBegin listens status = ⊥

-- a command couldn't begin, and nothing was done; or its link was bound first, and then it ran so
abbrev pub RunsBound : Option Addr → (Ends → Ends → Status → Type 0) → Ends → Ends → Status → Type 0
RunsBound listens runs old new status =
    (CantBegin listens status × Passes old new nothing)
    ⊎ ((between : LinkTold) × IsBound listens old.link between × runs (record old { link = between }) new status)
