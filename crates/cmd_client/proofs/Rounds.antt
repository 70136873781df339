-- One step of a client's run, from what its calls say.
use Rattle.std.proofs.Common.{◌≡◌, inl, inr, ℕ, ◌+◌, ◌<◌, ◌≤◌, true, false, Bool, if◌then◌else◌, nat_lt, List, [], ◌∷◌, ◌++◌, length, Option, Some, None, refl, sym, ap, ◌∙◌, subst, append-nil, arith}
use Rattle.std.specs.Prelude.{MatchOption}
use Rattle.std.specs.Io.KnownBytes.{Appends}
use Rattle.r2_base.specs.declared.datagram.Datagram.{Datagram}
use Rattle.r2_base.specs.declared.event.Event.{Event}
use Rattle.r2_base.specs.declared.event.Event.TheVariants.{Tick}
use Rattle.r2_link.specs.declared.lane.Item.{Item}
use Rattle.r2_link.specs.declared.lane.Item.TheVariants.{Datagram as ADatagram, Quiet as NoDatagram}
use Rattle.r2_link.specs.Links.{LinkPasses, LinkTold}
use Rattle.r2_link.specs.Moments.{Tells as TellsMoments}
use Rattle.r2_link.specs.Streams.{AppendsPrefix}
use Rattle.r2_link.proofs.Streams.{Appends-nil}
use Rattle.r2_client.specs.declared.call_end.CallEnd.{CallEnd}
use Rattle.r2_client.specs.declared.call_end.CallEnd.TheVariants.{TimedOut as EndTimedOut}
use Rattle.r2_client.specs.declared.open_call.OpenCall.{OpenCall}
use Rattle.r2_client.specs.Session.{Stepped, ended, sent_again, stepped, ticked as session_ticked, ticked_by, unchanged}
use Rattle.r2_client.specs.State.{SessionState}
use Rattle.r2_client.proofs.Outcomes.{branch, outcome}
use Rattle.cmd_status.specs.declared.status.Status.{Status}
use Rattle.cmd_status.specs.declared.status.Status.TheVariants.{Memory, SinkFault, LinkFault, TimedOut}
use Rattle.cmd_status.specs.Stops.{StopsBySink}
use Rattle.hc_text.specs.End.{end_text}
use Rattle.cmd_loop.specs.declared.ticker.Ticker.{Ticker}
use Rattle.cmd_loop.specs.Events.{elapsed, event_of}
use Rattle.cmd_loop.specs.Receiving.{StopsReceiving}
use Rattle.cmd_loop.specs.Round.{due_at, ticked}
use Rattle.cmd_loop.specs.Ends.{Ends}
use Rattle.cmd_client.specs.Outside.{LinkTalks, Talks}
use Rattle.cmd_client.specs.Talk.{Hears, IsOpen, MayTake, Step, Talk, Tells, asked_in, course, ends_text, items_of, listed, moments_of, stepped_by, taken, talk, times_out}
use Rattle.cmd_client.specs.Steps.{StopsStep}
use Rattle.cmd_client.specs.Stops.{CutsLine, CutsSends, Goes, LosesStep, StopsTalk, Waits, Went}
use Rattle.cmd_client.proofs.Passing.{talks-hears, talks-tells}

-- a step by itself: whole, with a prefix of its datagrams, with a prefix of its line, or lost
pub went-one : (t u : Talk) (a b : Ends) (x : Step) → MayTake t x → u ≡ (taken t x).next
    → Talks a b (items_of (x ∷ [])) (moments_of (x ∷ [])) (taken t x).sends (ends_text (taken t x).ends) → Went t u a b (x ∷ [])
unfolding course
went-one t u a b x may next passed = record {
  took = record {
    in_turn = (may, tt);
    passed = subst (λ (ds : List Datagram). Talks a b (items_of (x ∷ [])) (moments_of (x ∷ [])) ds (ends_text ((taken t x).ends ++ []))) (sym (append-nil (taken t x).sends))
        (subst (λ (es : List CallEnd). Talks a b (items_of (x ∷ [])) (moments_of (x ∷ [])) (taken t x).sends (ends_text es)) (sym (append-nil (taken t x).ends)) passed);
  };
  left = next;
}

pub cut-one : (room : ℕ) (t : Talk) (a b : Ends) (x : Step) (prefix rest : List Datagram) → MayTake t x → length (items_of (x ∷ [])) ≤ room
    → (taken t x).sends ≡ prefix ++ rest → Talks a b (items_of (x ∷ [])) (moments_of (x ∷ [])) prefix [] → CutsSends (asked_in (x ∷ [])) room t a b
unfolding course
cut-one room t a b x prefix rest may within gives passed =
    record { before = []; last = x; prefix = prefix; rest = rest; gives = gives; took = record { in_turn = (may, tt); passed = passed }; asks = refl; within = within }

pub line-one : (room : ℕ) (t : Talk) (a b : Ends) (x : Step) (prefix rest : List ℕ) → MayTake t x → length (items_of (x ∷ [])) ≤ room
    → ends_text (taken t x).ends ≡ prefix ++ rest → Talks a b (items_of (x ∷ [])) (moments_of (x ∷ [])) (taken t x).sends prefix → CutsLine (asked_in (x ∷ [])) room t a b
unfolding course
line-one room t a b x prefix rest may within gives passed =
    record { before = []; last = x; prefix = prefix; rest = rest; gives = gives; took = record { in_turn = (may, tt); passed = passed }; asks = refl; within = within }

pub lost-one : (room : ℕ) (t : Talk) (a b : Ends) (x : Step) → MayTake t x → length (items_of (x ∷ [])) ≤ room
    → Talks a b (items_of (x ∷ [])) (moments_of (x ∷ [])) [] [] → LosesStep (asked_in (x ∷ [])) room t a b
unfolding course
lost-one room t a b x may within passed = record { before = []; last = x; took = record { in_turn = (may, tt); passed = passed }; asks = refl; within = within }

-- the text of a call's end, where it has one
pub ended-text : (end : CallEnd) → ends_text (listed (Some end)) ≡ end_text end
ended-text end = append-nil (end_text end)

-- no item makes a call time out
never-times-out : (s : SessionState) (item : Item) → times_out (stepped s (event_of item)).step.end ≡ false
never-times-out s (ADatagram d) = outcome (λ r. times_out r.step.end ≡ false) s d (record { sent = λ us ds. refl; replied = λ us body. refl; rejected = refl })
never-times-out s NoDatagram = refl

-- an item was heard
pub went-hears : (s s' : SessionState) (k : Ticker) (item : Item) (end : Option CallEnd) (a b : Ends) → IsOpen s.open_call
    → s' ≡ (stepped s (event_of item)).session → end ≡ (stepped s (event_of item)).step.end
    → Talks a b (item ∷ []) [] (stepped s (event_of item)).step.sends (ends_text (listed end))
    → Went (talk s k false) (talk s' k true) a b (Hears item ∷ [])
unfolding items_of moments_of
went-hears s s' k item end a b opened session ended passed =
    went-one (talk s k false) (talk s' k true) a b (Hears item) (refl, refl, opened)
    (ap (λ (x : SessionState). talk x k true) session ∙ ap (λ (b : Bool). record { session = (stepped s (event_of item)).session; ticker = k; heard = true; over = b }) (sym (never-times-out s item)))
    (subst (λ (e : Option CallEnd). Talks a b (item ∷ []) [] (stepped s (event_of item)).step.sends (ends_text (listed e))) ended passed)

-- the clock gave a moment
pub went-tells : (s s' : SessionState) (k u : Ticker) (moment : ℕ) (end : Option CallEnd) (r : Stepped) (a b : Ends)
    → u ≡ ticked k moment → stepped_by s (due_at k moment) ≡ r → s' ≡ r.session → end ≡ r.step.end
    → Talks a b [] (moment ∷ []) r.step.sends (ends_text (listed end))
    → Went (talk s k true) (record { session = s'; ticker = u; heard = false; over = times_out end }) a b (Tells moment ∷ [])
unfolding items_of moments_of
went-tells s s' k u moment end r a b ticker step session ended passed =
    went-one (talk s k true) (record { session = s'; ticker = u; heard = false; over = times_out end }) a b (Tells moment) (refl, refl)
    (ap (λ (x : SessionState). record { session = x; ticker = u; heard = false; over = times_out end }) session
    ∙ ap (λ (x : Ticker). record { session = r.session; ticker = x; heard = false; over = times_out end }) ticker
    ∙ ap (λ (e : Option CallEnd). record { session = r.session; ticker = ticked k moment; heard = false; over = times_out e }) ended
    ∙ ap (λ (x : Stepped). record { session = x.session; ticker = ticked k moment; heard = false; over = times_out x.step.end }) (sym step))
    (subst (λ (x : Stepped). Talks a b [] (moment ∷ []) x.step.sends (ends_text (listed x.step.end))) (sym step)
    (subst (λ (e : Option CallEnd). Talks a b [] (moment ∷ []) r.step.sends (ends_text (listed e))) ended passed))

-- nothing was received
pub stops-receiving : (t : Talk) (a b : Ends) (room : ℕ) (status : Status) → Waits t → 0 < room → Talks a b [] [] [] [] → StopsReceiving status → StopsTalk [] room t a b status
unfolding course items_of moments_of asked_in
stops-receiving t a b room LinkFault waits some passed stops =
    inl (record { after = t; steps = []; went = record { took = record { in_turn = tt; passed = passed }; left = refl }; asks = refl; then = (waits, some) })
stops-receiving t a b room Memory waits some passed stops =
    inl (record { after = t; steps = []; went = record { took = record { in_turn = tt; passed = passed }; left = refl }; asks = refl; then = omega arith })
stops-receiving t a b room _ waits some passed stops = absurd stops

-- nothing passed, and the clock had no moment
pub misses : (t : Talk) (a b : Ends) (room : ℕ) → t.over ≡ false → t.heard ≡ true → Talks a b [] [] [] [] → Goes [] t a b (λ u steps. (u.over ≡ false) × (u.heard ≡ true) × (length (items_of steps) ≤ room))
unfolding course items_of moments_of asked_in
misses t a b room over heard passed =
    record { after = t; steps = []; went = record { took = record { in_turn = tt; passed = passed }; left = refl }; asks = refl; then = (over, heard, omega arith) }

-- the step of an item wasn't made whole
pub stops-hearing : (o : Ends) (s : SessionState) (k : Ticker) (item : Item) (p q r : LinkTold) (w : Option (List ℕ)) (room : ℕ) (status : Status)
    → IsOpen s.open_call → 0 < room → LinkTalks p q (item ∷ []) [] → StopsStep (stepped s (event_of item)) q r status
    → StopsTalk [] room (talk s k false) (record o { link = p; written = w }) (record o { link = r; written = w }) status
unfolding items_of moments_of asked_in
stops-hearing o s k item p q r w room LinkFault opened some heard stops =
    inr (cut-one room (talk s k false) (record o { link = p; written = w }) (record o { link = r; written = w }) (Hears item) stops.sent stops.unsent (refl, refl, opened) some stops.split
    (talks-hears o p q r w w item stops.sent [] heard stops.passed (Appends-nil w)))
stops-hearing o s k item p q r w room Memory opened some heard stops =
    inr (inr (lost-one room (talk s k false) (record o { link = p; written = w }) (record o { link = r; written = w }) (Hears item) (refl, refl, opened) some
    (talks-hears o p q r w w item [] [] heard stops (Appends-nil w))))
stops-hearing o s k item p q r w room _ opened some heard stops = absurd stops

-- printing stopped
by-sink : (room : ℕ) (t : Talk) (a b : Ends) (old new : ℕ) (status : Status) → StopsBySink old new status → CutsLine [] room t a b → StopsTalk [] room t a b status
by-sink room t a b old new SinkFault stops cut = cut
by-sink room t a b old new Memory stops cut = inr (inl cut)
by-sink room t a b old new _ stops cut = absurd stops

-- the line of a call that an item ended wasn't printed whole
pub stops-line-hears : (o : Ends) (s : SessionState) (k : Ticker) (item : Item) (end : CallEnd) (p q r : LinkTold) (w x : Option (List ℕ)) (room old new : ℕ) (status : Status)
    → IsOpen s.open_call → 0 < room → LinkTalks p q (item ∷ []) [] → LinkPasses q r [] (stepped s (event_of item)).step.sends
    → Some end ≡ (stepped s (event_of item)).step.end → AppendsPrefix w x (end_text end) → StopsBySink old new status
    → StopsTalk [] room (talk s k false) (record o { link = p; written = w }) (record o { link = r; written = x }) status
unfolding items_of moments_of asked_in
stops-line-hears o s k item end p q r w x room old new status opened some heard sent ended prefix stops =
    by-sink room (talk s k false) (record o { link = p; written = w }) (record o { link = r; written = x }) old new status stops
    (line-one room (talk s k false) (record o { link = p; written = w }) (record o { link = r; written = x }) (Hears item) prefix.prefix prefix.rest (refl, refl, opened) some
    (ap (λ (e : Option CallEnd). ends_text (listed e)) (sym ended) ∙ ended-text end ∙ prefix.split)
    (talks-hears o p q r w x item (stepped s (event_of item)).step.sends prefix.prefix heard sent prefix.gave))

-- the tick's step wasn't made whole
pub stops-telling : (o : Ends) (s : SessionState) (k : Ticker) (moment : ℕ) (p q : LinkTold) (c e w : Option (List ℕ)) (room : ℕ) (status : Status)
    → due_at k moment ≡ Tick ∷ [] → TellsMoments c e (moment ∷ []) → StopsStep (stepped s Tick) p q status
    → StopsTalk [] room (talk s k true) (record o { link = p; clock = c; written = w }) (record o { link = q; clock = e; written = w }) status
unfolding items_of moments_of asked_in
stops-telling o s k moment p q c e w room LinkFault is_due told stops =
    inr (cut-one room (talk s k true) (record o { link = p; clock = c; written = w }) (record o { link = q; clock = e; written = w }) (Tells moment) stops.sent stops.unsent (refl, refl) (omega arith)
    (ap (λ (es : List Event). (stepped_by s es).step.sends) is_due ∙ stops.split)
    (talks-tells o p q c e w w moment stops.sent [] told stops.passed (Appends-nil w)))
stops-telling o s k moment p q c e w room Memory is_due told stops =
    inr (inr (lost-one room (talk s k true) (record o { link = p; clock = c; written = w }) (record o { link = q; clock = e; written = w }) (Tells moment) (refl, refl) (omega arith)
    (talks-tells o p q c e w w moment [] [] told stops (Appends-nil w))))
stops-telling o s k moment p q c e w room _ is_due told stops = absurd stops

-- the line of a call that timed out wasn't printed whole
pub stops-line-tells : (o : Ends) (s : SessionState) (k : Ticker) (moment : ℕ) (end : CallEnd) (p q : LinkTold) (c e w x : Option (List ℕ)) (room old new : ℕ) (status : Status)
    → due_at k moment ≡ Tick ∷ [] → TellsMoments c e (moment ∷ []) → LinkPasses p q [] (stepped s Tick).step.sends
    → Some end ≡ (stepped s Tick).step.end → AppendsPrefix w x (end_text end) → StopsBySink old new status
    → StopsTalk [] room (talk s k true) (record o { link = p; clock = c; written = w }) (record o { link = q; clock = e; written = x }) status
unfolding items_of moments_of asked_in
stops-line-tells o s k moment end p q c e w x room old new status is_due told sent ended prefix stops =
    let a : Ends = record o { link = p; clock = c; written = w } in
    let b : Ends = record o { link = q; clock = e; written = x } in
    by-sink room (talk s k true) a b old new status stops
    (line-one room (talk s k true) a b (Tells moment) prefix.prefix prefix.rest (refl, refl) (omega arith)
    (ap (λ (es : List Event). ends_text (listed (stepped_by s es).step.end)) is_due ∙ ap (λ (e : Option CallEnd). ends_text (listed e)) (sym ended) ∙ ended-text end ∙ prefix.split)
    (subst (λ (es : List Event). Talks a b [] (moment ∷ []) (stepped_by s es).step.sends prefix.prefix) (sym is_due)
    (talks-tells o p q c e w x moment (stepped s Tick).step.sends prefix.prefix told sent prefix.gave)))

-- the call timed out, and its line was printed
pub times-out : (o : Ends) (s s' : SessionState) (k u : Ticker) (moment : ℕ) (end : CallEnd) (p q : LinkTold) (c e w x : Option (List ℕ)) (room : ℕ)
    → due_at k moment ≡ Tick ∷ [] → u ≡ ticked k moment → TellsMoments c e (moment ∷ []) → LinkPasses p q [] (stepped s Tick).step.sends
    → s' ≡ (stepped s Tick).session → Some end ≡ (stepped s Tick).step.end → end ≡ EndTimedOut → Appends w x (end_text end)
    → StopsTalk [] room (talk s k true) (record o { link = p; clock = c; written = w }) (record o { link = q; clock = e; written = x }) TimedOut
unfolding items_of moments_of course asked_in
times-out o s s' k u moment end p q c e w x room is_due ticker told sent session ended is_timeout wrote = record {
  after = record { session = s'; ticker = u; heard = false; over = times_out (Some end) };
  steps = Tells moment ∷ [];
  went = went-tells s s' k u moment (Some end) (stepped s Tick) (record o { link = p; clock = c; written = w }) (record o { link = q; clock = e; written = x }) ticker (ap (λ (es : List Event). stepped_by s es) is_due) session ended
      (talks-tells o p q c e w x moment (stepped s Tick).step.sends (ends_text (listed (Some end))) told sent (subst (λ (t : List ℕ). Appends w x t) (sym (ended-text end)) wrote));
  asks = refl;
  then = (
    record {
      before = [];
      moment = moment;
      split = refl;
      end = ap (λ (es : List Event). listed (stepped_by s es).step.end) is_due ∙ ap (λ (o : Option CallEnd). listed o) (sym ended) ∙ ap (λ (o : CallEnd). o ∷ []) is_timeout;
    },
    omega arith,
  );
}

-- an item that a waiting call hears ends the call, or leaves it opened
abbrev pub EndsOrWaits : Stepped → Type 0
EndsOrWaits r = MatchOption r.step.end (IsOpen r.session.open_call) (λ _. r.session.open_call ≡ None)

pub over : (r : Stepped) (end : CallEnd) → r.step.end ≡ Some end → EndsOrWaits r → r.session.open_call ≡ None
over r end is h = subst (λ (o : Option CallEnd). MatchOption o (IsOpen r.session.open_call) (λ _. r.session.open_call ≡ None)) is h

pub waits : (r : Stepped) → r.step.end ≡ None → EndsOrWaits r → IsOpen r.session.open_call
waits r is h = subst (λ (o : Option CallEnd). MatchOption o (IsOpen r.session.open_call) (λ _. r.session.open_call ≡ None)) is h

pub hears-ends : (s : SessionState) (item : Item) → IsOpen s.open_call → EndsOrWaits (stepped s (event_of item))
hears-ends s (ADatagram d) opened = outcome EndsOrWaits s d (record { sent = λ us ds. opened; replied = λ us body. refl; rejected = refl })
hears-ends s NoDatagram opened = opened

-- a tick times the opened call out, or leaves it opened; where none is opened, none is then
abbrev pub TimesOutOrWaits : SessionState → Stepped → Type 0
TimesOutOrWaits s r = MatchOption r.step.end ((IsOpen s.open_call → IsOpen r.session.open_call) × (s.open_call ≡ None → r.session.open_call ≡ None)) (λ e. e ≡ EndTimedOut)

tick-by : (s : SessionState) (call : Option OpenCall) → s.open_call ≡ call → TimesOutOrWaits s (ticked_by s call)
unfolding sent_again
tick-by s None is = (λ opened. absurd (subst IsOpen is opened), λ none. is)
tick-by s (Some call) is =
    branch (TimesOutOrWaits s) (nat_lt (call.ticks + 1) s.wait) (unchanged (record s { open_call = Some (record call { ticks = call.ticks + 1 }) }))
    (if nat_lt call.sendings s.tries then sent_again s call else ended s EndTimedOut)
    (λ e. (λ opened. tt, λ none. absurd (cc (none, is))))
    (λ e. branch (TimesOutOrWaits s) (nat_lt call.sendings s.tries) (sent_again s call) (ended s EndTimedOut) (λ f. (λ opened. tt, λ none. absurd (cc (none, is)))) (λ f. refl))

pub tick-times-out : (s : SessionState) → TimesOutOrWaits s (stepped s Tick)
unfolding session_ticked
tick-times-out s = tick-by s s.open_call refl

pub timed-out : (s : SessionState) (r : Stepped) (end : CallEnd) → r.step.end ≡ Some end → TimesOutOrWaits s r → end ≡ EndTimedOut
timed-out s r end is h = subst (λ (o : Option CallEnd). MatchOption o ((IsOpen s.open_call → IsOpen r.session.open_call) × (s.open_call ≡ None → r.session.open_call ≡ None)) (λ e. e ≡ EndTimedOut)) is h

pub stays : (s : SessionState) (r : Stepped) → r.step.end ≡ None → TimesOutOrWaits s r → (IsOpen s.open_call → IsOpen r.session.open_call) × (s.open_call ≡ None → r.session.open_call ≡ None)
stays s r is h = subst (λ (o : Option CallEnd). MatchOption o ((IsOpen s.open_call → IsOpen r.session.open_call) × (s.open_call ≡ None → r.session.open_call ≡ None)) (λ e. e ≡ EndTimedOut)) is h

-- what is due where more ticks have gone by than before, and where not
pub is-due : (k : Ticker) (moment : ℕ) → nat_lt k.reached (elapsed k.tick_ms k.start moment) ≡ true → due_at k moment ≡ Tick ∷ []
is-due k moment so = ap (λ (b : Bool). if b then Tick ∷ [] else []) so

pub not-due : (k : Ticker) (moment : ℕ) → nat_lt k.reached (elapsed k.tick_ms k.start moment) ≡ false → due_at k moment ≡ []
not-due k moment so = ap (λ (b : Bool). if b then Tick ∷ [] else []) so
