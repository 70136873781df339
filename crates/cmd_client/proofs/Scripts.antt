-- A run of a script's lines, from line to line.
use Rattle.std.proofs.Common.{◌≡◌, ◌≢◌, inl, inr, ℕ, ◌+◌, ◌≤◌, true, false, List, [], ◌∷◌, ◌++◌, length, Option, Some, None, Ok, Err, refl, ap, ◌∙◌, subst, append-nil, arith}
use Rattle.r2_client.specs.declared.begin_fault.BeginFault.TheVariants.{IdsUsed as NoIds}
use Rattle.r2_client.specs.Session.{refusal}
use Rattle.r2_client.specs.State.{SessionState}
use Rattle.std.specs.Io.KnownBytes.{Consumes}
use Rattle.cmd_lines.specs.declared.line_fault.LineFault.{LineFault}
use Rattle.cmd_lines.specs.declared.line_fault.LineFault.TheVariants.{Source, Memory as NoRoom, TooLong, Limit}
use Rattle.cmd_lines.specs.Faults.{status_of}
use Rattle.cmd_lines.specs.Limits.{most_line}
use Rattle.cmd_lines.specs.Reader.{KnowsEnd, ReaderState, ReadsLine}
use Rattle.cmd_lines.proofs.Places.{EndsHere, LinePlace, Place, at-first, fault-read, fresh, prefix-before, next-of, none-read, place-then, took-of}
use Rattle.cmd_loop.specs.declared.ticker.Ticker.{Ticker}
use Rattle.cmd_loop.specs.Ends.{Ends}
use Rattle.cmd_status.specs.declared.status.Status.{Status}
use Rattle.cmd_status.specs.declared.status.Status.TheVariants.{Done, BadScript, Memory, SinkFault, LinkFault, ClockFault, TimedOut, IdsUsed, TurnsSpent}
use Rattle.hc_text.specs.declared.policy.Policy.{Policy}
use Rattle.cmd_loop.specs.declared.pace.Pace.{Pace}
use Rattle.cmd_client.specs.declared.calling.Calling.{Calling}
use Rattle.cmd_client.specs.Calls.{AreMade, Calls, RunsFrom, RunsLines, StopsIn}
use Rattle.cmd_client.specs.Lines.{MakesLine, StopsLine}
use Rattle.cmd_client.specs.Outside.{Talks}
use Rattle.cmd_client.specs.Script.{AsksFor}
use Rattle.cmd_client.specs.Stops.{Completes, Goes, StopsCall, StopsTalk, Went}
use Rattle.cmd_client.specs.Talk.{Asked, Step, Talk, asked_in, course, items_of, moments_of, talk}
use Rattle.cmd_client.proofs.Courses.{asks-then, few-then, stops-then, went-none, went-then}
use Rattle.cmd_client.proofs.Counts.{all-used}
use Rattle.cmd_client.proofs.Passing.{talks-none}

-- a run between two lines
pub record IsHere (policy : Policy) (room now : ℕ) (left left' : Option (List ℕ)) (r : ReaderState) (t u : Talk) (old new : Ends) : Type 0 where
  pub asked : List Asked
  pub taken : List ℕ
  pub made : Completes asked room now t u old new
  pub place : Place most_line (AsksFor policy) left left' r taken asked
  pub knows : KnowsEnd r left'

-- a run with a line in hand
abbrev pub HasLine : Policy → Option (List ℕ) → Option (List ℕ) → ReaderState → List ℕ → List Asked → List ℕ → Type 0
HasLine policy left left' r taken asked line = LinePlace most_line (AsksFor policy) left left' r taken asked line

pub completes-then : (t u v : Talk) (a b c : Ends) (asked more : List Asked) (room mid left : ℕ)
    → Completes asked room mid t u a b → Completes more mid left u v b c → Completes (asked ++ more) room left t v a c
completes-then t u v a b c asked more room mid left first second = record {
  steps = first.steps ++ second.steps;
  went = went-then t u v a b c first.steps second.steps first.went second.went;
  asks = asks-then first.steps second.steps asked more first.asks second.asks;
  none = second.none;
  counted = omega (arith, few-then first.steps second.steps, first.counted, second.counted);
}

went-still : (u : Talk) (b c : Ends) → Talks b c [] [] [] [] → Went u u b c []
unfolding course items_of moments_of
went-still u b c passed = record { took = record { in_turn = tt; passed = passed }; left = refl }

-- no call timed out, and the clock was asked after each item
abbrev pub IsIdle : Talk → Type 0
IsIdle u = (u.over ≡ false) × (u.heard ≡ false)

-- the calls so far came to their ends, and nothing passed since
goes-still : (t u : Talk) (a b c : Ends) (asked : List Asked) (room now : ℕ) (Then : Talk → List Step → Type 0)
    → (done : Completes asked room now t u a b) → Talks b c [] [] [] [] → Then u (done.steps ++ []) → Goes asked t a c Then
goes-still t u a b c asked room now Then done passed then = record {
  after = u;
  steps = done.steps ++ [];
  went = went-then t u u a b c done.steps [] done.went (went-still u b c passed);
  asks = ap asked_in (append-nil done.steps) ∙ done.asks;
  then = then;
}

few-still : (steps : List Step) (room now : ℕ) → length (items_of steps) + now ≡ room → length (items_of (steps ++ [])) ≤ room
few-still steps room now counted = let e = ap (λ (l : List Step). length (items_of l)) (append-nil steps) in omega (arith, e, counted)

pub made-of : (t u : Talk) (a b c : Ends) (asked : List Asked) (room now : ℕ) → Completes asked room now t u a b → IsIdle u → Talks b c [] [] [] [] → AreMade asked room t a c
made-of t u a b c asked room now done idle passed =
    goes-still t u a b c asked room now (λ v steps. (v.over ≡ false) × (v.heard ≡ false) × (v.session.open_call ≡ None) × (length (items_of steps) ≤ room)) done passed
    (idle.0, idle.1, done.none, few-still done.steps room now done.counted)

-- a run begins before its first line
pub here-first : (policy : Policy) (room : ℕ) (left : Option (List ℕ)) (t : Talk) (o : Ends) → t.session.open_call ≡ None → IsHere policy room room left left (fresh most_line) t t o o
unfolding asked_in items_of
here-first policy room left t o none = record {
  asked = [];
  taken = [];
  made = record { steps = []; went = went-none t o; asks = refl; none = none; counted = omega arith };
  place = at-first most_line (AsksFor policy) left;
  knows = λ e. absurd (cc (e));
}

-- after a line that was run
pub here-then : (policy : Policy) (room mid now : ℕ) (left left' : Option (List ℕ)) (r : ReaderState) (taken : List ℕ) (asked : List Asked) (line : List ℕ) (t u v : Talk) (a b c : Ends)
    → Completes asked room mid t u a b → HasLine policy left left' r taken asked line → KnowsEnd r left' → MakesLine policy line mid now u v b c
    → IsHere policy room now left left' r t v a c
here-then policy room mid now left left' r taken asked line t u v a b c done place knows made = record {
  asked = asked ++ made.asked;
  taken = taken;
  made = completes-then t u v a b c asked made.asked room mid now done made.made;
  place = place-then most_line (AsksFor policy) left left' r taken asked made.asked line place made.said;
  knows = knows;
}

-- the whole script was run
pub run-done : (policy : Policy) (room now : ℕ) (left b left' : Option (List ℕ)) (s r : ReaderState) (t u : Talk) (a c : Ends)
    → IsHere policy room now left b s t u a c → IsIdle u → ReadsLine s r b left' (Ok None) → KnowsEnd r left' → RunsLines policy room left left' t a c Done
run-done policy room now left b left' s r t u a c here idle read knows =
    let whole = none-read most_line (AsksFor policy) left b left' s r here.taken here.asked here.place read knows in
    record { asked = here.asked; taken = whole.taken; took = whole.took; ended = inl (made-of t u a c c here.asked room now here.made idle (talks-none c), whole.ends) }

ends-so : (policy : Policy) (room : ℕ) (left left' : Option (List ℕ)) (asked : List Asked) (t : Talk) (a c : Ends) (fault : LineFault) (number : ℕ) → AreMade asked room t a c
    → EndsHere most_line (AsksFor policy) left left' asked (status_of fault number) → RunsLines policy room left left' t a c (status_of fault number)
ends-so policy room left left' asked t a c Source number made here = record { asked = asked; taken = here.taken; took = here.took; ended = inl (made, here.ends) }
ends-so policy room left left' asked t a c NoRoom number made here = record { asked = asked; taken = here.taken; took = here.took; ended = inl (made, here.ends) }
ends-so policy room left left' asked t a c TooLong number made here = record { asked = asked; taken = here.taken; took = here.took; ended = inl (made, here.ends) }
ends-so policy room left left' asked t a c Limit number made here = record { asked = asked; taken = here.taken; took = here.took; ended = inl (made, here.ends) }

-- the next line can't be had
pub run-fault : (policy : Policy) (room now : ℕ) (left b left' : Option (List ℕ)) (s r : ReaderState) (t u : Talk) (a c : Ends) (fault : LineFault) (number : ℕ)
    → IsHere policy room now left b s t u a c → IsIdle u → ReadsLine s r b left' (Err fault) → KnowsEnd r left' → (s.ended ≡ true → r.ended ≡ true) → number ≡ r.lines + 1
    → RunsLines policy room left left' t a c (status_of fault number)
run-fault policy room now left b left' s r t u a c fault number here idle read knows stays is =
    ends-so policy room left left' here.asked t a c fault number (made-of t u a c c here.asked room now here.made idle (talks-none c))
    (fault-read most_line (AsksFor policy) left b left' s r here.taken here.asked fault number here.place read knows stays is)

module _ (policy : Policy) (room mid : ℕ) (left left' : Option (List ℕ)) (r : ReaderState) (taken : List ℕ) (asked : List Asked) (line : List ℕ) (t u : Talk) (a b c : Ends)
    (done : Completes asked room mid t u a b) (idle : IsIdle u) (place : HasLine policy left left' r taken asked line) where
  took : Consumes left left' taken
  took = took-of most_line (AsksFor policy) left left' r taken asked line place

  -- memory ran out before the line's call was asked
  not-asked : Talks b c [] [] [] [] → RunsLines policy room left left' t a c Memory
  not-asked passed = record {
    asked = asked;
    taken = taken;
    took = took;
    ended = inl (made-of t u a b c asked room mid done idle passed, inl (prefix-before most_line (AsksFor policy) left left' r taken asked line place));
  }

  -- the line's call stopped
  in-call : (number : ℕ) (call : Asked) (status : Status) → number ≡ r.lines → line ≢ [] → AsksFor policy line call → StopsTalk (call ∷ []) mid u b c status
      → StopsIn policy (asked ++ call ∷ []) room left' taken t a c status
  in-call number call status is some asks stops = record {
    before = asked;
    call = call;
    last_of = refl;
    line = line;
    number = number;
    next = next-of most_line (AsksFor policy) left left' r taken asked line number place some is;
    asks = asks;
    stops = stops-then t u a b c done.steps asked (call ∷ []) room mid status done.went done.asks done.counted stops;
  }

  memory : (number : ℕ) (call : Asked) → number ≡ r.lines → line ≢ [] → AsksFor policy line call → StopsCall call mid u b c Memory → RunsLines policy room left left' t a c Memory
  memory number call is some asks (inl passed) = not-asked passed
  memory number call is some asks (inr stops) = record { asked = asked ++ call ∷ []; taken = taken; took = took; ended = inr (in-call number call Memory is some asks stops) }

  -- a line wasn't run to its end
  pub line-stops : (number : ℕ) (status : Status) → t.session.next ≡ 0 → number ≡ r.lines → StopsLine policy line number mid u b c status → RunsLines policy room left left' t a c status
  line-stops number (BadScript counted) first is stops = record {
    asked = asked;
    taken = taken;
    took = took;
    ended = inl (
      made-of t u a b c asked room mid done idle stops.passed,
      inl (line, next-of most_line (AsksFor policy) left left' r taken asked line counted place stops.nonempty (stops.count ∙ is), (λ call asks. stops.outside asks.call asks.said)),
    );
  }
  line-stops number Memory first is (inl passed) = not-asked passed
  line-stops number Memory first is (inr stops) = memory number stops.call is stops.nonempty stops.asks stops.stops
  line-stops number IdsUsed first is stops = record {
    asked = asked;
    taken = taken;
    took = took;
    ended = record {
      line = line;
      number = number;
      call = stops.call;
      next = next-of most_line (AsksFor policy) left left' r taken asked line number place stops.nonempty is;
      asks = stops.asks;
      all = all-used t u a b asked room mid stops.call.body first done stops.stops.0;
      made = goes-still t u a b c asked room mid (λ v steps. (v.over ≡ false) × (v.heard ≡ false) × (refusal v.session stops.call.body ≡ Some NoIds) × (length (items_of steps) ≤ room)) done stops.stops.1
          (idle.0, idle.1, stops.stops.0, few-still done.steps room mid done.counted);
    };
  }
  line-stops number SinkFault first is stops = record { asked = asked ++ stops.call ∷ []; taken = taken; took = took; ended = inr (in-call number stops.call SinkFault is stops.nonempty stops.asks stops.stops) }
  line-stops number LinkFault first is stops = record { asked = asked ++ stops.call ∷ []; taken = taken; took = took; ended = inr (in-call number stops.call LinkFault is stops.nonempty stops.asks stops.stops) }
  line-stops number ClockFault first is stops = record { asked = asked ++ stops.call ∷ []; taken = taken; took = took; ended = inr (in-call number stops.call ClockFault is stops.nonempty stops.asks stops.stops) }
  line-stops number TimedOut first is stops = record { asked = asked ++ stops.call ∷ []; taken = taken; took = took; ended = inr (in-call number stops.call TimedOut is stops.nonempty stops.asks stops.stops) }
  line-stops number TurnsSpent first is stops = record { asked = asked ++ stops.call ∷ []; taken = taken; took = took; ended = inr (in-call number stops.call TurnsSpent is stops.nonempty stops.asks stops.stops) }
  line-stops number _ first is stops = absurd stops.stops

-- a run by what its client is
pub runs-as : (policy policy' : Policy) (room room' : ℕ) (s s' : SessionState) (k k' : Ticker) → policy ≡ policy' → room ≡ room' → s ≡ s' → k ≡ k'
    → (left left' : Option (List ℕ)) (a b : Ends) (status : Status) → RunsLines policy room left left' (talk s k false) a b status → RunsLines policy' room' left left' (talk s' k' false) a b status
runs-as policy policy' room room' s s' k k' p n e f left left' a b status ran =
    subst (λ (x : Policy). RunsLines x room' left left' (talk s' k' false) a b status) p
    (subst (λ (x : ℕ). RunsLines policy x left left' (talk s' k' false) a b status) n
    (subst (λ (x : SessionState). RunsLines policy room left left' (talk x k' false) a b status) e
    (subst (λ (x : Ticker). RunsLines policy room left left' (talk s x false) a b status) f ran)))

-- a run from its start
pub calls-of : (calling : Calling) (pace : Pace) (a b : Ends) (status : Status) → RunsFrom calling pace a b status → Calls calling pace a b status
calls-of calling pace a b ClockFault ran = inr ran
calls-of calling pace a b _ ran = ran
