-- How far the last of some steps came to be sent and printed.
use Rattle.std.specs.Prelude.{◌≡◌, ◌⊎◌, ◌<◌, ◌≤◌, ◌+◌, ℕ, true, false, List, [], ◌∷◌, ◌++◌, length, Some, None}
use Rattle.r2_base.specs.declared.datagram.Datagram.{Datagram}
use Rattle.cmd_loop.specs.Ends.{Ends}
use Rattle.cmd_client.specs.Outside.{Talks}
use Rattle.r2_client.specs.declared.begin_fault.BeginFault.TheVariants.{IdsUsed}
use Rattle.r2_client.specs.Session.{refusal}
use Rattle.r2_client.specs.declared.call_end.CallEnd.TheVariants.{TimedOut}
use Rattle.cmd_status.specs.declared.status.Status.{Status}
use Rattle.cmd_status.specs.declared.status.Status.TheVariants.{Memory, SinkFault, LinkFault, ClockFault, TimedOut as TimedOutStatus, IdsUsed as IdsUsedStatus, TurnsSpent}
use Rattle.cmd_client.specs.Talk.{AreInTurn, Asked, IsOpen, Step, Tells, Talk, asked_in, course, ends_text, items_of, moments_of, taken}

-- these steps were taken, these datagrams were sent and this was written
pub record Took (t : Talk) (old new : Ends) (steps : List Step) (sends : List Datagram) (text : List ℕ) : Type 0 where
  pub in_turn : AreInTurn t steps
  pub passed : Talks old new (items_of steps) (moments_of steps) sends text

-- these steps were taken, and all that comes of them was sent and printed
pub record Went (t u : Talk) (old new : Ends) (steps : List Step) : Type 0 where
  pub took : Took t old new steps (course t steps).sends (ends_text (course t steps).ends)
  pub left : u ≡ (course t steps).next

-- of the last step a prefix of the datagrams was sent
pub record CutsSends (asked : List Asked) (room : ℕ) (t : Talk) (old new : Ends) : Type 0 where
  pub before : List Step
  pub last : Step
  pub prefix : List Datagram
  pub rest : List Datagram
  pub gives : (taken (course t before).next last).sends ≡ prefix ++ rest
  pub took : Took t old new (before ++ last ∷ []) ((course t before).sends ++ prefix) (ends_text (course t before).ends)
  pub asks : asked_in (before ++ last ∷ []) ≡ asked
  pub within : length (items_of (before ++ last ∷ [])) ≤ room

-- of the last step all was sent, and a prefix of the line was printed
pub record CutsLine (asked : List Asked) (room : ℕ) (t : Talk) (old new : Ends) : Type 0 where
  pub before : List Step
  pub last : Step
  pub prefix : List ℕ
  pub rest : List ℕ
  pub gives : ends_text (taken (course t before).next last).ends ≡ prefix ++ rest
  pub took : Took t old new (before ++ last ∷ []) ((course t before).sends ++ (taken (course t before).next last).sends) (ends_text (course t before).ends ++ prefix)
  pub asks : asked_in (before ++ last ∷ []) ≡ asked
  pub within : length (items_of (before ++ last ∷ [])) ≤ room

-- nothing of the last step was sent or printed
pub record LosesStep (asked : List Asked) (room : ℕ) (t : Talk) (old new : Ends) : Type 0 where
  pub before : List Step
  pub last : Step
  pub took : Took t old new (before ++ last ∷ []) (course t before).sends (ends_text (course t before).ends)
  pub asks : asked_in (before ++ last ∷ []) ≡ asked
  pub within : length (items_of (before ++ last ∷ [])) ≤ room

-- some steps were taken whole, and the talk is as these left it
pub record Goes (asked : List Asked) (t : Talk) (old new : Ends) (Then : Talk → List Step → Type 0) : Type 0 where
  pub after : Talk
  pub steps : List Step
  pub went : Went t after old new steps
  pub asks : asked_in steps ≡ asked
  pub then : Then after steps

-- a call is open, none timed out, and the clock was asked after each item
abbrev pub Waits : Talk → Type 0
Waits t = (t.over ≡ false) × (t.heard ≡ false) × IsOpen t.session.open_call

-- the last step was a moment, and by its tick the call timed out
pub record TimesOut (t : Talk) (steps : List Step) : Type 0 where
  pub before : List Step
  pub moment : ℕ
  pub split : steps ≡ before ++ Tells moment ∷ []
  pub end : (taken (course t before).next (Tells moment)).ends ≡ TimedOut ∷ []

-- why a call didn't come to its end, where so many items may be received; these calls were asked, the last of them if at all in part
abbrev pub StopsTalk : List Asked → ℕ → Talk → Ends → Ends → Status → Type 0
StopsTalk asked room t old new TurnsSpent = Goes asked t old new (λ u steps. Waits u × (length (items_of steps) ≡ room))
StopsTalk asked room t old new ClockFault = Goes asked t old new (λ u steps. (u.over ≡ false) × (u.heard ≡ true) × (length (items_of steps) ≤ room))
StopsTalk asked room t old new LinkFault =
    Goes asked t old new (λ u steps. Waits u × (length (items_of steps) < room)) ⊎ CutsSends asked room t old new
StopsTalk asked room t old new SinkFault = CutsLine asked room t old new
StopsTalk asked room t old new TimedOutStatus = Goes asked t old new (λ u steps. TimesOut t steps × (length (items_of steps) ≤ room))
StopsTalk asked room t old new Memory =
    Goes asked t old new (λ u steps. length (items_of steps) ≤ room) ⊎ (CutsLine asked room t old new ⊎ LosesStep asked room t old new)
StopsTalk asked room t old new _ = ⊥

-- why a call wasn't made to its end: besides, each request id may have been used, or memory may have run out before it was asked
abbrev pub StopsCall : Asked → ℕ → Talk → Ends → Ends → Status → Type 0
StopsCall call room t old new IdsUsedStatus = (refusal t.session call.body ≡ Some IdsUsed) × Talks old new [] [] [] []
StopsCall call room t old new Memory = Talks old new [] [] [] [] ⊎ StopsTalk (call ∷ []) room t old new Memory
StopsCall call room t old new status = StopsTalk (call ∷ []) room t old new status

-- these calls were made to their ends, in order, and so many items may still be received
pub record Completes (asked : List Asked) (room left : ℕ) (t u : Talk) (old new : Ends) : Type 0 where
  pub steps : List Step
  pub went : Went t u old new steps
  pub asks : asked_in steps ≡ asked
  pub none : u.session.open_call ≡ None
  pub counted : length (items_of steps) + left ≡ room
