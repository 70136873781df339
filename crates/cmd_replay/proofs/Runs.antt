-- The text of one line, run by a member.
use Rattle.std.proofs.Common.{◌≡◌, ◌≢◌, ℕ, true, List, [], ◌∷◌, ◌++◌, length, Option, None, Some, refl, sym, ap, subst, ◌∙◌, append-nil, inr}
use Rattle.std.specs.Prelude.{Bool, false, ◌==◌}
use Rattle.std.proofs.lemmas.Bool.{eqb-true}
use Rattle.std.proofs.lemmas.List.{nil_from_length}
use Rattle.std.specs.Io.KnownBytes.{Appends}
use Rattle.r2_link.specs.Streams.{AppendsPrefix}
use Rattle.r2_link.proofs.Streams.{Appends-nil}
use Rattle.cmd_script.specs.declared.line.Line.{Line}
use Rattle.hc_member.specs.declared.setup.Setup.{Setup}
use Rattle.hc_member.specs.Member.{Member}
use Rattle.cmd_status.specs.declared.status.Status.{Status}
use Rattle.cmd_status.specs.declared.status.Status.TheVariants.{Memory, SinkFault}
use Rattle.cmd_script.specs.Line.{IsLine}
use Rattle.cmd_status.specs.Stops.{StopsBySink}
use Rattle.hc_member.specs.Turn.{Reacted, turned}
use Rattle.cmd_replay.specs.Script.{after, line_turn, turn_at, line_text, reacted_text, turns_text, event_of}
use Rattle.r2_base.specs.declared.event.Event.{Event}
use Rattle.cmd_replay.specs.Printed.{turn_text}
use Rattle.cmd_replay.specs.Running.{Ran, StopsText}
use Rattle.cmd_lines.specs.Script.{Say}

-- an empty text is no line
pub ran-nothing : (s : Setup) (m : Member) (text : List ℕ) (old : Option (List ℕ)) → text ≡ [] → Ran s m m text old old
unfolding after turns_text
ran-nothing s m text old none =
    record { lines = []; said = subst (λ x. Say IsLine (x ∷ []) []) (sym none) refl; at = refl; gave = Appends-nil old }

-- a text that is a line
pub said_one : (text : List ℕ) (line : Line) → text ≢ [] → IsLine text line → Say IsLine (text ∷ []) (line ∷ [])
said_one [] line some is = absurd (some refl)
said_one (b ∷ text) line some is = (is, refl)

-- what a line makes of a member, by the line's event
pub line_turn-at : (s : Setup) (m : Member) (line : Line) (o : Option Event) → event_of s line ≡ o → line_turn s m line ≡ turn_at s m o
unfolding line_turn
line_turn-at s m line o is = ap (turn_at s m) is

-- a line with an event prints its turn
pub line_text-at : (s : Setup) (m : Member) (line : Line) (event : Event) → event_of s line ≡ Some event
    → reacted_text s (turned s m event) ≡ line_text s m line
unfolding line_text
line_text-at s m line event is = sym (ap (reacted_text s) (line_turn-at s m line (Some event) is))

-- a restart prints nothing
pub line_text-none : (s : Setup) (m : Member) (line : Line) → event_of s line ≡ None → line_text s m line ≡ []
unfolding line_text turn_text
line_text-none s m line is = ap (reacted_text s) (line_turn-at s m line None is)

turns_text-one : (s : Setup) (m : Member) (line : Line) → line_text s m line ≡ turns_text s m (line ∷ [])
unfolding turns_text
turns_text-one s m line = sym (append-nil (line_text s m line))

pub after-append : (s : Setup) (m : Member) (first second : List Line) → after s m (first ++ second) ≡ after s (after s m first) second
unfolding after
after-append s m [] second = refl
after-append s m (line ∷ first) second = after-append s (line_turn s m line).member first second

after-one : (s : Setup) (m : Member) (line : Line) → (line_turn s m line).member ≡ after s m (line ∷ [])
unfolding after
after-one s m line = refl

-- the member ran the line
pub ran-line : (s : Setup) (m n : Member) (text : List ℕ) (line : Line) (old new : Option (List ℕ)) → text ≢ [] → IsLine text line
    → n ≡ (line_turn s m line).member → Appends old new (line_text s m line) → Ran s m n text old new
ran-line s m n text line old new some is at gave = record {
  lines = line ∷ [];
  said = said_one text line some is;
  at = at ∙ after-one s m line;
  gave = subst (Appends old new) (turns_text-one s m line) gave;
}

-- printing what a line prints was cut short
pub stops-line : (s : Setup) (m : Member) (text : List ℕ) (line : Line) (number : ℕ) (old new : Option (List ℕ)) (faults faults' : ℕ) (status : Status)
    → StopsBySink faults faults' status → text ≢ [] → IsLine text line → AppendsPrefix old new (line_text s m line) → StopsText s m text number old new status
stops-line s m text line number old new f f' SinkFault why some is prefix = record { nonempty = some; line = line; said = is; prefix = prefix }
stops-line s m text line number old new f f' Memory why some is prefix = inr (record { nonempty = some; line = line; said = is; prefix = prefix })
stops-line s m text line number old new f f' _ why some is prefix = absurd why

-- what a test for an empty text shows
pub empty_text : (text : List ℕ) (b : Bool) → b ≡ (length text == 0) → b ≡ true → text ≡ []
empty_text text b is e = nil_from_length text (eqb-true (length text) 0 (sym is ∙ e))

pub some_text : (text : List ℕ) (b : Bool) → b ≡ (length text == 0) → b ≡ false → text ≢ []
some_text text b is e none = let z : (length text == 0) ≡ true = ap (λ (x : List ℕ). length x == 0) none in cc
