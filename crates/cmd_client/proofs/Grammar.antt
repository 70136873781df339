-- How a run of a script in its grammar ends.
use Rattle.std.proofs.Common.{◌≡◌, inl, inr, ℕ, List, Option, Some, refl, subst}
use Rattle.std.specs.Io.KnownBytes.{Consumes}
use Rattle.cmd_lines.specs.Limits.{most_line}
use Rattle.cmd_lines.specs.Script as scripts
use Rattle.cmd_lines.proofs.Grammar.{never_stuck}
use Rattle.cmd_loop.specs.Ends.{Ends}
use Rattle.cmd_status.specs.declared.status.Status.{Status}
use Rattle.cmd_status.specs.declared.status.Status.TheVariants.{Done, BadScript, Memory, SourceFault, SinkFault, LinkFault, ClockFault, TimedOut, IdsUsed, TurnsSpent}
use Rattle.hc_text.specs.declared.policy.Policy.{Policy}
use Rattle.hc_text.specs.Call.{IsCallLine}
use Rattle.cmd_client.specs.Calls.{Ended, IsCalled, RunsLines}
use Rattle.cmd_client.specs.Script.{AsksFor, IsScript, asked_of}
use Rattle.cmd_client.specs.Talk.{Asked, Talk}

-- a text of a script asks for a call, under any policy
text-asks : (policy : Policy) (text : List ℕ) → scripts.IsScriptText most_line IsCallLine text → scripts.IsScriptText most_line (AsksFor policy) text
text-asks policy text is = record {
  short = is.short;
  said = elim is.said [
    | inl none ↦ inl none
    | inr says ↦ inr (asked_of policy says.0, record { call = says.0; said = says.1; is = refl })
  ];
}

script-asks : (policy : Policy) (script : List ℕ) → IsScript script → scripts.IsScript most_line (AsksFor policy) script
script-asks policy script is = record { texts = is.texts; last = is.last; each = λ k d h. text-asks policy _ (is.each k d h); split = is.split }

stuck : (policy : Policy) (room number : ℕ) (script taken : List ℕ) (left' : Option (List ℕ)) (asked : List Asked) (t : Talk) (old new : Ends) → IsScript script → Consumes (Some script) left' taken
    → Ended policy asked room left' taken t old new (BadScript number) → ⊥
stuck policy room number script taken left' asked t old new is took (inl between) = never_stuck most_line (AsksFor policy) script taken left' asked number (script-asks policy script is) took between.1
stuck policy room number script taken left' asked t old new is took (inr within) = within.stops

-- how a run of such a script ends, where nothing failed
pub completes : (policy : Policy) (room : ℕ) (left left' : Option (List ℕ)) (t : Talk) (old new : Ends) (status : Status) (script : List ℕ)
    → left ≡ Some script → IsScript script → RunsLines policy room left left' t old new status
    → (status ≡ SourceFault → ⊥) → (status ≡ SinkFault → ⊥) → (status ≡ LinkFault → ⊥) → (status ≡ ClockFault → ⊥) → IsCalled status
completes policy room left left' t old new Done script told is ran a b c d = tt
completes policy room left left' t old new TimedOut script told is ran a b c d = tt
completes policy room left left' t old new IdsUsed script told is ran a b c d = tt
completes policy room left left' t old new TurnsSpent script told is ran a b c d = tt
completes policy room left left' t old new Memory script told is ran a b c d = tt
completes policy room left left' t old new SourceFault script told is ran a b c d = absurd (a refl)
completes policy room left left' t old new SinkFault script told is ran a b c d = absurd (b refl)
completes policy room left left' t old new LinkFault script told is ran a b c d = absurd (c refl)
completes policy room left left' t old new ClockFault script told is ran a b c d = absurd (d refl)
completes policy room left left' t old new (BadScript number) script told is ran a b c d =
    absurd (stuck policy room number script ran.taken left' ran.asked t old new is (subst (λ (l : Option (List ℕ)). Consumes l left' ran.taken) told ran.took) ran.ended)
completes policy room left left' t old new _ script told is ran a b c d = elim ran.ended [ inl between ↦ absurd between.1 | inr within ↦ absurd within.stops ]
