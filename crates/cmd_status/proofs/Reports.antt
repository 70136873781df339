-- Texts that are written in several pieces, and how they stop.
use Rattle.std.proofs.Common.{◌≡◌, ℕ, ◌≤◌, List, [], ◌∷◌, ◌++◌, Option, Result, Ok, Err, refl, sym, subst, codes}
use Rattle.std.specs.Io.KnownBytes.{Appends}
use Rattle.std.specs.Result.{OnOk}
use Rattle.r2_link.specs.Streams.{AppendsPrefix}
use Rattle.r2_link.proofs.Faults.{then-Rose}
use Rattle.r2_link.proofs.Streams.{Appends-nil, Appends-trans, AppendsPrefix-longer, AppendsPrefix-then}
use Rattle.cmd_status.specs.declared.status.Status.{Status}
use Rattle.cmd_status.specs.declared.status.Status.TheVariants.{Done, BadWords, BadScript, JournalDamaged, Memory, SourceFault, SinkFault, LinkFault, DiskFault, ClockFault, TimedOut, IdsUsed, TurnsSpent}
use Rattle.cmd_status.specs.Texts.{cause_text, error_text}
use Rattle.cmd_status.specs.Stops.{StopsBySink, HasSinkCause}

-- of three pieces, a prefix of the first
pub prefix_of_first : (a b : Option (List ℕ)) (x y z : List ℕ) → AppendsPrefix a b x → AppendsPrefix a b (x ++ y ++ z)
prefix_of_first a b x y z cut = AppendsPrefix-longer a b (x ++ y) z (AppendsPrefix-longer a b x y cut)

-- the first, and a prefix of the second
pub prefix_of_second : (a b c : Option (List ℕ)) (x y z : List ℕ) → Appends a b x → AppendsPrefix b c y → AppendsPrefix a c (x ++ y ++ z)
prefix_of_second a b c x y z first cut = AppendsPrefix-longer a c (x ++ y) z (AppendsPrefix-then a b c x y cut first)

-- the first two, and a prefix of the third
pub prefix_of_third : (a b c d : Option (List ℕ)) (x y z : List ℕ) → Appends a b x → Appends b c y → AppendsPrefix c d z → AppendsPrefix a d (x ++ y ++ z)
prefix_of_third a b c d x y z first second cut =
    AppendsPrefix-then a c d (x ++ y) z cut (Appends-trans a b c x y first second)

pub all_three : (a b c d : Option (List ℕ)) (x y z : List ℕ) → Appends a b x → Appends b c y → Appends c d z → Appends a d (x ++ y ++ z)
all_three a b c d x y z first second third =
    Appends-trans a c d (x ++ y) z (Appends-trans a b c x y first second) third

pub error_text-done : (status : Status) → status ≡ Done → error_text status ≡ []
unfolding error_text
error_text-done status done = rw done refl

pub error_text-line : (status : Status) → (status ≡ Done → ⊥) → error_text status ≡ codes "r2p2_suite: " ++ cause_text status ++ 10 ∷ []
unfolding error_text
error_text-line Done other = absurd (other refl)
error_text-line BadWords other = refl
error_text-line Memory other = refl
error_text-line SourceFault other = refl
error_text-line SinkFault other = refl
error_text-line LinkFault other = refl
error_text-line DiskFault other = refl
error_text-line ClockFault other = refl
error_text-line TimedOut other = refl
error_text-line IdsUsed other = refl
error_text-line TurnsSpent other = refl
error_text-line (BadScript line) other = refl
error_text-line (JournalDamaged at) other = refl

pub done_says_nothing : (a : Option (List ℕ)) (status : Status) → status ≡ Done → Appends a a (error_text status)
done_says_nothing a status done = subst (Appends a a) (sym (error_text-done status done)) (Appends-nil a)

-- what a call that ended well has shown
pub on_ok : {T E : Type 0} (r : Result T E) (P Q : Type 0) → (P → Q) → OnOk r P → OnOk r Q
on_ok (Ok x) P Q step shown = step shown
on_ok (Err e) P Q step shown = tt

-- a stop in a later call is a stop of all the calls together
pub then_stops : (a b c : ℕ) (status : Status) → a ≤ b → StopsBySink b c status → StopsBySink a c status
then_stops a b c SinkFault on rose = then-Rose a b c on rose
then_stops a b c Memory on rose = tt
then_stops a b c Done on never = never
then_stops a b c BadWords on never = never
then_stops a b c SourceFault on never = never
then_stops a b c LinkFault on never = never
then_stops a b c DiskFault on never = never
then_stops a b c ClockFault on never = never
then_stops a b c TimedOut on never = never
then_stops a b c IdsUsed on never = never
then_stops a b c TurnsSpent on never = never
then_stops a b c (BadScript line) on never = never
then_stops a b c (JournalDamaged at) on never = never

-- where printing stopped, the sink failed if the status says so
pub sink_cause : (faults faults' : ℕ) (status : Status) → StopsBySink faults faults' status → HasSinkCause faults faults' status
sink_cause f f' SinkFault why = why
sink_cause f f' Memory why = tt
sink_cause f f' Done why = tt
sink_cause f f' BadWords why = tt
sink_cause f f' SourceFault why = tt
sink_cause f f' LinkFault why = tt
sink_cause f f' DiskFault why = tt
sink_cause f f' ClockFault why = tt
sink_cause f f' TimedOut why = tt
sink_cause f f' IdsUsed why = tt
sink_cause f f' TurnsSpent why = tt
sink_cause f f' (BadScript n) why = tt
sink_cause f f' (JournalDamaged at) why = tt
