-- A client's run: what it took of its script and of the outside, what it sent and printed, and why it ended.
use Rattle.std.specs.Prelude.{◌≡◌, ◌⊎◌, ℕ, ◌≤◌, false, List, [], ◌∷◌, ◌++◌, length, Option, Some, None}
use Rattle.std.specs.Io.KnownBytes.{Consumes}
use Rattle.r2_client.specs.declared.begin_fault.BeginFault.TheVariants.{IdsUsed as NoIds}
use Rattle.r2_base.specs.Limits.{id_limit}
use Rattle.r2_client.specs.Session.{refusal}
use Rattle.r2_client.specs.State.{new_session}
use Rattle.cmd_lines.specs.Limits.{most_line}
use Rattle.cmd_lines.specs.Script.{EndsBetween, IsNext}
use Rattle.cmd_status.specs.declared.status.Status.{Status}
use Rattle.cmd_status.specs.declared.status.Status.TheVariants.{Done, Memory, ClockFault, TimedOut, IdsUsed, TurnsSpent}
use Rattle.hc_text.specs.declared.policy.Policy.{Policy}
use Rattle.cmd_loop.specs.declared.pace.Pace.{Pace}
use Rattle.cmd_loop.specs.Ends.{Ends, Passes, nothing, passing}
use Rattle.cmd_client.specs.declared.calling.Calling.{Calling}
use Rattle.cmd_client.specs.Outside.{beside}
use Rattle.cmd_client.specs.Script.{AsksFor}
use Rattle.cmd_client.specs.Stops.{Goes, StopsTalk}
use Rattle.cmd_client.specs.Talk.{Asked, Talk, items_of, talk}

-- a client's talk as it begins, at this start
abbrev pub begun : Calling → Pace → ℕ → Talk
begun calling pace start =
    talk (new_session calling.listen calling.to calling.wait calling.tries) (record { start = start; tick_ms = pace.tick_ms; reached = 0 }) false

-- these calls came to their ends, none by its time, no item was received beyond those that may be, and no call is open
abbrev pub AreMade : List Asked → ℕ → Talk → Ends → Ends → Type 0
AreMade asked room t old new =
    Goes asked t old new (λ u steps. (u.over ≡ false) × (u.heard ≡ false) × (u.session.open_call ≡ None) × (length (items_of steps) ≤ room))

-- these calls came to their ends, each with an id, and all ids were used, so that the next line's call can't begin
pub record RunsOut (policy : Policy) (asked : List Asked) (room : ℕ) (left : Option (List ℕ)) (taken : List ℕ) (t : Talk) (old new : Ends) : Type 0 where
  pub line : List ℕ
  pub number : ℕ
  pub call : Asked
  pub next : IsNext most_line (AsksFor policy) left taken asked line number
  pub asks : AsksFor policy line call
  pub all : length asked ≡ id_limit
  pub made : Goes asked t old new (λ u steps. (u.over ≡ false) × (u.heard ≡ false) × (refusal u.session call.body ≡ Some NoIds) × (length (items_of steps) ≤ room))

-- the last of these calls was stopped, that of the line that comes next
pub record StopsIn (policy : Policy) (asked : List Asked) (room : ℕ) (left : Option (List ℕ)) (taken : List ℕ) (t : Talk) (old new : Ends) (status : Status) : Type 0 where
  pub before : List Asked
  pub call : Asked
  pub last_of : asked ≡ before ++ call ∷ []
  pub line : List ℕ
  pub number : ℕ
  pub next : IsNext most_line (AsksFor policy) left taken before line number
  pub asks : AsksFor policy line call
  pub stops : StopsTalk asked room t old new status

-- after the start, by how the run ended: all ids were used; or it ended between two lines, or in the call of one
abbrev pub Ended : Policy → List Asked → ℕ → Option (List ℕ) → List ℕ → Talk → Ends → Ends → Status → Type 0
Ended policy asked room left taken t old new IdsUsed = RunsOut policy asked room left taken t old new
Ended policy asked room left taken t old new status =
    (AreMade asked room t old new × EndsBetween most_line (AsksFor policy) left taken asked status) ⊎ StopsIn policy asked room left taken t old new status

-- from a talk on, these calls of a script's lines were asked, this was taken of it, and the run ended so
pub record RunsLines (policy : Policy) (room : ℕ) (left left' : Option (List ℕ)) (t : Talk) (old new : Ends) (status : Status) : Type 0 where
  pub asked : List Asked
  pub taken : List ℕ
  pub took : Consumes left left' taken
  pub ended : Ended policy asked room left' taken t old new status

-- the clock gave a start, and from there the run went so
pub record RunsFrom (calling : Calling) (pace : Pace) (old new : Ends) (status : Status) : Type 0 where
  pub start : ℕ
  pub between : Ends
  pub began : Passes old between (passing [] (start ∷ []) [] [])
  pub lines : RunsLines calling.policy pace.turns between.source new.source (begun calling pace start) (beside between) (beside new) status

-- a client's run that ended so; the clock may have failed at once
abbrev pub Calls : Calling → Pace → Ends → Ends → Status → Type 0
Calls calling pace old new ClockFault = Passes old new nothing ⊎ RunsFrom calling pace old new ClockFault
Calls calling pace old new status = RunsFrom calling pace old new status

-- how a run of a script in its grammar ends, where nothing failed
abbrev pub IsCalled : Status → Type 0
IsCalled Done = Unit {0}
IsCalled TimedOut = Unit {0}
IsCalled IdsUsed = Unit {0}
IsCalled TurnsSpent = Unit {0}
IsCalled Memory = Unit {0}
IsCalled _ = ⊥
