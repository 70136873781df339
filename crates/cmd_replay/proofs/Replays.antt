-- From line to line of a script, and to the end of its replay.
use Rattle.std.proofs.Common.{◌≡◌, ◌++◌, ◌∷◌, [], inl, inr, ℕ, ◌+◌, true, List, Option, Some, None, Ok, Err, refl, sym, ap, subst, ◌∙◌, append-nil, append_assoc, arith}
use Rattle.std.specs.Io.KnownBytes.{Appends}
use Rattle.r2_link.proofs.Streams.{Appends-kept, Appends-nil, Appends-trans, Consumes-nil}
use Rattle.cmd_script.specs.declared.line.Line.{Line}
use Rattle.cmd_script.specs.Line.{IsLine}
use Rattle.cmd_lines.specs.declared.line_fault.LineFault.{LineFault}
use Rattle.cmd_lines.specs.declared.line_fault.LineFault.TheVariants.{Source, Memory as NoRoom, TooLong, Limit}
use Rattle.cmd_lines.specs.Faults.{status_of}
use Rattle.cmd_lines.specs.Limits.{most_line}
use Rattle.cmd_lines.specs.Reader.{KnowsEnd, ReaderState, ReadsLine}
use Rattle.cmd_lines.specs.Script.{IsPrefix}
use Rattle.cmd_lines.proofs.Grammar.{never_stuck}
use Rattle.cmd_lines.proofs.Places.{EndsHere, LinePlace, Place, at-first, fault-read, fresh, prefix-before, next-of, none-read, place-then, took-of}
use Rattle.cmd_lines.proofs.Reading.{IsNeeded-none}
use Rattle.cmd_lines.proofs.Texts.{fed-none}
use Rattle.hc_member.specs.declared.setup.Setup.{Setup}
use Rattle.hc_member.specs.Member.{Member, beginning}
use Rattle.cmd_status.specs.declared.status.Status.{Status}
use Rattle.cmd_status.specs.declared.status.Status.TheVariants.{Done, BadScript, Memory, SourceFault, SinkFault, TurnsSpent}
use Rattle.cmd_replay.specs.Script.{after, last_text, line_turn, line_text, script_text, turns_text}
use Rattle.cmd_replay.proofs.Runs.{after-append}
use Rattle.cmd_replay.specs.Running.{ClosesScript, CutsText, Ran, StopsText}
use Rattle.cmd_replay.specs.Grammar.{IsScript}
use Rattle.cmd_replay.specs.Replay.{CutsLine, IsComplete, IsReplay}

turns_text-append : (s : Setup) (m : Member) (first second : List Line) → turns_text s m (first ++ second) ≡ turns_text s m first ++ turns_text s (after s m first) second
unfolding turns_text after
turns_text-append s m [] second = refl
turns_text-append s m (line ∷ first) second =
    let n = (line_turn s m line).member in
    ap (λ x. line_text s m line ++ x) (turns_text-append s n first second)
    ∙ sym (append_assoc (line_text s m line) (turns_text s n first) (turns_text s (after s n first) second))

turns_text-none : (s : Setup) (m : Member) → turns_text s m [] ≡ []
unfolding turns_text
turns_text-none s m = refl

after-none : (s : Setup) (m : Member) → after s m [] ≡ m
unfolding after
after-none s m = refl

script_text-is : (s : Setup) (lines : List Line) → script_text s lines ≡ turns_text s beginning lines ++ last_text s (after s beginning lines)
unfolding script_text
script_text-is s lines = refl

-- what was written for some lines, and then for others
written-then : (s : Setup) (m n : Member) (first second : List Line) → n ≡ after s m first
    → turns_text s m first ++ turns_text s n second ≡ turns_text s m (first ++ second)
written-then s m n first second at = ap (λ (x : Member). turns_text s m first ++ turns_text s x second) at ∙ sym (turns_text-append s m first second)

-- the lines that were taken were run
pub record HasRun (s : Setup) (m : Member) (lines : List Line) (old new : Option (List ℕ)) : Type 0 where
  pub at : m ≡ after s beginning lines
  pub gave : Appends old new (turns_text s beginning lines)

-- a replay between two lines
pub record IsHere (s : Setup) (m : Member) (left left' : Option (List ℕ)) (r : ReaderState) (old new : Option (List ℕ)) : Type 0 where
  pub lines : List Line
  pub taken : List ℕ
  pub place : Place most_line IsLine left left' r taken lines
  pub ran : HasRun s m lines old new
  pub knows : KnowsEnd r left'

-- before the first line
pub here-first : (s : Setup) (left a : Option (List ℕ)) → IsHere s beginning left left (fresh most_line) a a
here-first s left a = record {
  lines = [];
  taken = [];
  place = at-first most_line IsLine left;
  ran = record { at = sym (after-none s beginning); gave = subst (Appends a a) (sym (turns_text-none s beginning)) (Appends-nil a) };
  knows = λ e. absurd (cc (e));
}

module _ (s : Setup) (m : Member) (left left' : Option (List ℕ)) (lines : List Line) (a b c : Option (List ℕ)) (ran : HasRun s m lines a b) where
  -- one more line was run
  pub here-then : (n : Member) (r : ReaderState) (taken text : List ℕ) → LinePlace most_line IsLine left left' r taken lines text → KnowsEnd r left' → Ran s m n text b c → IsHere s n left left' r a c
  here-then n r taken text place knows next = record {
    lines = lines ++ next.lines;
    taken = taken;
    place = place-then most_line IsLine left left' r taken lines next.lines text place next.said;
    ran = record {
      at = next.at ∙ ap (λ (x : Member). after s x next.lines) ran.at ∙ sym (after-append s beginning lines next.lines);
      gave = subst (Appends a c) (written-then s beginning m lines next.lines ran.at) (Appends-trans a b c _ _ ran.gave next.gave);
    };
    knows = knows;
  }

  kept : Appends b c [] → Appends a c (turns_text s beginning lines)
  kept nothing = subst (Appends a c) (append-nil (turns_text s beginning lines)) (Appends-trans a b c (turns_text s beginning lines) [] ran.gave nothing)

  -- a prefix of what the line prints was written
  cuts : (r : ReaderState) (taken text : List ℕ) (number : ℕ) → LinePlace most_line IsLine left left' r taken lines text → number ≡ r.lines → CutsText s m text b c → CutsLine s left' taken a c
  cuts r taken text number place is cut = record {
    lines = lines;
    text = text;
    number = number;
    next = next-of most_line IsLine left left' r taken lines text number place cut.nonempty is;
    line = cut.line;
    said = cut.said;
    prefix = cut.prefix.prefix;
    rest = cut.prefix.rest;
    split = subst (λ (x : Member). line_text s x cut.line ≡ cut.prefix.prefix ++ cut.prefix.rest) ran.at cut.prefix.split;
    gave = Appends-trans a b c (turns_text s beginning lines) cut.prefix.prefix ran.gave cut.prefix.gave;
  }

  -- a line wasn't run to its end
  pub text-stops : (r : ReaderState) (taken text : List ℕ) (number : ℕ) (status : Status) → LinePlace most_line IsLine left left' r taken lines text → number ≡ r.lines
      → StopsText s m text number b c status → IsReplay s left left' a c status
  text-stops r taken text number (BadScript counted) place is stops = record {
    taken = taken;
    took = took-of most_line IsLine left left' r taken lines text place;
    did = record {
      lines = lines;
      ends = inl (text, next-of most_line IsLine left left' r taken lines text counted place stops.nonempty (stops.count ∙ is), stops.refused);
      gave = kept (Appends-kept b b c [] (Appends-nil b) stops.kept);
    };
  }
  text-stops r taken text number SinkFault place is stops =
      record { taken = taken; took = took-of most_line IsLine left left' r taken lines text place; did = inl (cuts r taken text number place is stops) }
  text-stops r taken text number Memory place is (inl still) = record {
    taken = taken;
    took = took-of most_line IsLine left left' r taken lines text place;
    did = inl (record { lines = lines; ends = inl (prefix-before most_line IsLine left left' r taken lines text place); gave = kept (Appends-kept b b c [] (Appends-nil b) still) });
  }
  text-stops r taken text number Memory place is (inr cut) =
      record { taken = taken; took = took-of most_line IsLine left left' r taken lines text place; did = inr (inl (cuts r taken text number place is cut)) }
  text-stops r taken text number _ place is stops = absurd stops

  -- the script was read to its end
  pub closes : (status : Status) → EndsHere most_line IsLine left left' lines Done → ClosesScript b c (last_text s m) status → IsReplay s left left' a c status
  closes Done here gave = record {
    taken = here.taken;
    took = here.took;
    did = record {
      lines = lines;
      whole = here.ends;
      gave = subst (Appends a c) (ap (λ (x : Member). turns_text s beginning lines ++ last_text s x) ran.at ∙ sym (script_text-is s lines)) (Appends-trans a b c _ _ ran.gave gave);
    };
  }
  closes SinkFault here cut = record {
    taken = here.taken;
    took = here.took;
    did = inr (record {
      lines = lines;
      whole = here.ends;
      prefix = cut.prefix;
      rest = cut.rest;
      split = subst (λ (x : Member). last_text s x ≡ cut.prefix ++ cut.rest) ran.at cut.split;
      gave = Appends-trans a b c (turns_text s beginning lines) cut.prefix ran.gave cut.gave;
    });
  }
  closes Memory here cut = record {
    taken = here.taken;
    took = here.took;
    did = inr (inr (record {
      lines = lines;
      whole = here.ends;
      prefix = cut.prefix;
      rest = cut.rest;
      split = subst (λ (x : Member). last_text s x ≡ cut.prefix ++ cut.rest) ran.at cut.split;
      gave = Appends-trans a b c (turns_text s beginning lines) cut.prefix ran.gave cut.gave;
    }));
  }
  closes _ here gave = absurd gave

-- the next line can't be had
ends-so : (s : Setup) (left left' a b : Option (List ℕ)) (lines : List Line) (fault : LineFault) (number : ℕ)
    → EndsHere most_line IsLine left left' lines (status_of fault number) → Appends a b (turns_text s beginning lines) → IsReplay s left left' a b (status_of fault number)
ends-so s left left' a b lines Source number here gave = record { taken = here.taken; took = here.took; did = record { lines = lines; ends = here.ends; gave = gave } }
ends-so s left left' a b lines NoRoom number here gave = record { taken = here.taken; took = here.took; did = inl (record { lines = lines; ends = here.ends; gave = gave }) }
ends-so s left left' a b lines TooLong number here gave = record { taken = here.taken; took = here.took; did = record { lines = lines; ends = here.ends; gave = gave } }
ends-so s left left' a b lines Limit number here gave = record { taken = here.taken; took = here.took; did = record { lines = lines; ends = here.ends; gave = gave } }

pub faults : (s : Setup) (m : Member) (left b left' : Option (List ℕ)) (r t : ReaderState) (a c : Option (List ℕ)) (fault : LineFault) (number : ℕ)
    → IsHere s m left b r a c → ReadsLine r t b left' (Err fault) → KnowsEnd t left' → (r.ended ≡ true → t.ended ≡ true) → number ≡ t.lines + 1
    → IsReplay s left left' a c (status_of fault number)
faults s m left b left' r t a c fault number here read knows stays is =
    ends-so s left left' a c here.lines fault number (fault-read most_line IsLine left b left' r t here.taken here.lines fault number here.place read knows stays is) here.ran.gave

-- and where there is none
pub closed : (s : Setup) (m : Member) (left b left' : Option (List ℕ)) (r t : ReaderState) (a c d : Option (List ℕ)) (status : Status)
    → IsHere s m left b r a c → ReadsLine r t b left' (Ok None) → KnowsEnd t left' → ClosesScript c d (last_text s m) status → IsReplay s left left' a d status
closed s m left b left' r t a c d status here read knows end =
    closes s m left left' here.lines a c d here.ran status (none-read most_line IsLine left b left' r t here.taken here.lines here.place read knows) end

-- nothing was taken, and nothing was written
pub nothing-of : (s : Setup) (left a : Option (List ℕ)) → IsReplay s left left a a Memory
unfolding turns_text
nothing-of s left a =
    let none : IsPrefix most_line IsLine [] [] = record { texts = []; rest = []; each = λ k d h. absurd (omega (arith, h)); said = refl; split = sym (append-nil _ ∙ fed-none); needed = IsNeeded-none most_line } in
    record { taken = []; took = Consumes-nil left; did = inl (record { lines = []; ends = inl none; gave = Appends-nil a }) }

-- a script in its grammar is run to its end, unless something failed
pub complete-of : (s : Setup) (script : List ℕ) (left' written written' : Option (List ℕ)) (status : Status)
    → IsScript script → IsReplay s (Some script) left' written written' status → (status ≡ SourceFault → ⊥) → (status ≡ SinkFault → ⊥) → IsComplete status
complete-of s script left' w w' Done is ran source sink = tt
complete-of s script left' w w' Memory is ran source sink = tt
complete-of s script left' w w' TurnsSpent is ran source sink = tt
complete-of s script left' w w' SourceFault is ran source sink = absurd (source refl)
complete-of s script left' w w' SinkFault is ran source sink = absurd (sink refl)
complete-of s script left' w w' (BadScript number) is ran source sink =
    absurd (never_stuck most_line IsLine script ran.taken left' ran.did.lines number is ran.took ran.did.ends)
complete-of s script left' w w' _ is ran source sink = absurd ran.did.ends
