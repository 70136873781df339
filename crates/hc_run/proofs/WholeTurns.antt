-- A whole turn.
use Rattle.std.proofs.Common.{◌≡◌, ℕ, ◌≤◌, Bool, true, false, List, [], ◌++◌, length, refl, sym, ap, subst, ◌∙◌, append-nil, arith}
use Rattle.std.specs.Prelude.{◌==◌}
use Rattle.std.proofs.lemmas.List.{length-take}
use Rattle.r2_frag.specs.declared.unfinished.Unfinished.{Unfinished}
use Rattle.std.specs.Prelude.{All, if◌then◌else◌}
use Rattle.std.proofs.lemmas.List.Elements.{All-nil}
use Rattle.r2_base.specs.declared.event.Event.{Event}
use Rattle.hc_member.specs.declared.setup.Setup.{Setup}
use Rattle.hc_member.specs.declared.role.Role.{Role as MemberRole}
use Rattle.hc_member.specs.declared.role.Role.TheVariants as member
use Rattle.hc_member.specs.declared.heard.Heard.{Heard}
use Rattle.hc_member.specs.Finish.{applied, batched, due, finished, reported}
use Rattle.hc_member.specs.Heard.{IsSayable, Received, receive, with_received}
use Rattle.hc_member.specs.Reports.{report_in}
use Rattle.hc_member.specs.Member.{Member}
use Rattle.hc_member.specs.Orders.{fresh_orders}
use Rattle.hc_member.specs.Outcome.{Outcome}
use Rattle.hc_member.specs.Sending.{Sending}
use Rattle.hc_member.specs.Setup.{IsSetup}
use Rattle.hc_member.specs.Sound.{IsSound}
use Rattle.hc_member.specs.Turn.{counting, led, ordering, reacted, reacted_to, row, settled, turned}
use Rattle.hc_member.proofs.Rows.{goes-row}
use Rattle.hc_member.proofs.Settled.{sound-batched}
use Rattle.hc_member.proofs.Turned.{sound-received}
use Rattle.hc_rules.specs.Message.{Passed, Report, Request}
use Rattle.hc_rules.specs.Parts.{Grows}
use Rattle.hc_rules.specs.Protocol.{ProtocolState}
use Rattle.hc_rules.specs.Runs.{after_rules}
use Rattle.hc_rules.proofs.RuleLists.{rules_only_add}
use Rattle.hc_run.specs.Backed.{IsBacked}
use Rattle.hc_run.specs.Halves.{IsSteps, Stands, passed_by}
use Rattle.hc_run.specs.Held.{HasTablesParts}
use Rattle.hc_run.specs.Rows.{HearsSent}
use Rattle.hc_run.specs.Steps.{heard_report, own_report}
use Rattle.hc_run.specs.Shows.{IsShown}
use Rattle.hc_run.specs.WholeTurns.{IsReceived, SettlingIsRules, TurnsAreRules, told_by}
use Rattle.hc_run.proofs.AllRows.{all_rows}
use Rattle.hc_run.proofs.Composed.{heard-grows, leave-table, stands-then, steps-then}
use Rattle.hc_run.proofs.Counting.{counting_rules}
use Rattle.hc_run.proofs.Finishing.{finish_rules}
use Rattle.hc_run.proofs.Heard.{heard}
use Rattle.hc_run.proofs.Orderings.{ordering_rules, ordering-role}
use Rattle.hc_run.proofs.Ties.{tie-rest}

-- no steps
abbrev no-steps : (s : Setup) (w : ProtocolState) (m : Member) (sends : List Sending) → IsShown s w m → All (IsBacked s w) sends → IsSteps s w m sends w.passed w.reports
no-steps s w m sends shown backed =
    record { rules = []; are = record { own = tt; allowed = tt; shown = shown; backed = backed; passed = refl; reports = refl } }

-- the next batch isn't tied
shown-batched : (s : Setup) (w : ProtocolState) (m : Member) → IsSetup s → IsShown s w m → IsShown s w (batched m)
unfolding batched
shown-batched s w m is shown =
    let holds = shown.holds in
    record {
      group = shown.group;
      tied = tie-rest _ m m.silent (batched m).pending m.pool m.unfinished m.kept m.service m.lead.next m.lead.queues shown.tied;
      sound = sound-batched s is m shown.sound;
      holds = record { bodies = holds.bodies; pool = holds.pool; kept = holds.kept; led = holds.led; unfinished = holds.unfinished };
    }

batched-steps : (s : Setup) (w : ProtocolState) (m : Member) (sends : List Sending) (done : List Passed) (told : List Report) → IsSetup s → IsSteps s w m sends done told
    → IsSteps s w (batched m) sends done told
batched-steps s w m sends done told is steps =
    let are = steps.are in
    record {
      rules = steps.rules;
      are =
          record {
            own = are.own;
            allowed = are.allowed;
            shown = shown-batched s (after_rules w steps.rules) m is are.shown;
            backed = are.backed;
            passed = are.passed;
            reports = are.reports;
          };
    }

led-steps : (s : Setup) (w : ProtocolState) (o : Outcome) (r : MemberRole) → o.member.role ≡ r → Stands s w o.member → All (IsBacked s w) o.sends → o.keep ≤ length o.member.log
    → IsSteps s w (led s o r).member (led s o r).sends w.passed w.reports
led-steps s w o member.Follower e stands backed inside = no-steps s w o.member o.sends stands.shown backed
led-steps s w o member.Candidate e stands backed inside = no-steps s w o.member o.sends stands.shown backed
led-steps s w o member.Leader e stands backed inside =
    let n = ordering o.member o.keep in
    let fresh = fresh_orders s n o.keep in
    let start = no-steps s w o.member o.sends stands.shown backed in
    let orders = ordering_rules s w o.member o.keep stands e inside in
    let both : IsSteps s w n (o.sends ++ fresh) w.passed w.reports = steps-then s w o.member n o.sends fresh w.passed w.passed w.reports w.reports stands.kept start orders in
    let are = both.are in
    let v = after_rules w both.rules in
    let stands_n = stands-then s w o.member n (o.sends ++ fresh) w.passed w.reports stands both in
    let counts = counting_rules s v n stands_n (ordering-role o.member o.keep ∙ e) in
    let counted : IsSteps s v (counting s n) [] w.passed w.reports =
    subst (λ (p : List Passed). IsSteps s v (counting s n) [] p w.reports) are.passed (subst (λ (t : List Report). IsSteps s v (counting s n) [] v.passed t) are.reports counts) in
    let all = steps-then s w n (counting s n) (o.sends ++ fresh) [] w.passed w.passed w.reports w.reports stands.kept both counted in
    subst (λ (l : List Sending). IsSteps s w (counting s n) l w.passed w.reports) (append-nil (o.sends ++ fresh)) all

pub settling_rules : SettlingIsRules
unfolding settled
settling_rules s w o stands backed inside =
    let all = led s o o.member.role in
    batched-steps s w all.member all.sends w.passed w.reports stands.setup (led-steps s w o o.member.role refl stands backed inside)

-- A row, and what follows it --

-- what was passed and reported, by other words
steps-same : (s : Setup) (w : ProtocolState) (n : Member) (sends : List Sending) (done last : List Passed) (told all : List Report) → done ≡ last → told ≡ all
    → IsSteps s w n sends done told → IsSteps s w n sends last all
steps-same s w n sends done last told all same equal steps =
    let are = steps.are in
    record {
      rules = steps.rules;
      are = record { own = are.own; allowed = are.allowed; shown = are.shown; backed = are.backed; passed = are.passed ∙ same; reports = are.reports ∙ equal };
    }

-- what a row leaves of a log is in the new one
keep-inside : (s : Setup) (m : Member) (said : Heard) → IsSetup s → IsSayable said → IsSound s m → (row s m said).keep ≤ length (row s m said).member.log
keep-inside s m said is sayable sound =
    let o = row s m said in
    let goes = goes-row s is m said sayable sound in
    let comes = goes.comes in
    let within = comes.within in
    let sizes = ap length comes.front in
    omega (arith, within, sizes, length-take o.keep m.log, length-take o.keep o.member.log)

-- a row, and what follows it
row-settles : (s : Setup) (w : ProtocolState) (m : Member) (said : Heard) → HearsSent s w m said
    → IsSteps s w (settled s (row s m said)).member (settled s (row s m said)).sends w.passed (heard_report s.me m.term (report_in s m said) w.reports)
row-settles s w m said hears =
    let o = row s m said in
    let told = heard_report s.me m.term (report_in s m said) w.reports in
    let did = all_rows said s w m hears in
    let are = did.are in
    let u = after_rules w did.rules in
    let first : IsSteps s w o.member [] w.passed told =
    record {
      rules = did.rules;
      are = record { own = are.own; allowed = are.allowed; shown = are.shown; backed = All-nil (IsBacked s u); passed = are.passed; reports = are.reports };
    } in
    let stands : Stands s w m = record { setup = hears.setup; kept = hears.kept; answered = hears.answered; shown = hears.shown } in
    let before = hears.shown in
    let inside = keep-inside s m said hears.setup hears.sayable before.sound in
    let last = settling_rules s u o (stands-then s w m o.member [] w.passed told stands first) are.backed inside in
    steps-then s w o.member (settled s o).member [] (settled s o).sends w.passed w.passed told told hears.kept first
    (steps-same s u (settled s o).member (settled s o).sends u.passed w.passed u.reports told are.passed are.reports last)

-- A whole turn --

-- with the parts that came
shown-received : (s : Setup) (w : ProtocolState) (m : Member) (e : Event) → IsSetup s → All (HasTablesParts w.table) (receive m.unfinished e).unfinished → IsShown s w m
    → IsShown s w (with_received m e)
unfolding with_received
shown-received s w m e is parts shown =
    let holds = shown.holds in
    let sound = shown.sound in
    let hears = heard m.unfinished e sound.unfinished in
    record {
      group = shown.group;
      tied = tie-rest _ m m.silent m.pending m.pool (receive m.unfinished e).unfinished m.kept m.service m.lead.next m.lead.queues shown.tied;
      sound = sound-received s is m e hears.1 sound;
      holds = record { bodies = holds.bodies; pool = holds.pool; kept = holds.kept; led = holds.led; unfinished = parts };
    }

received-term : (m : Member) (e : Event) → (with_received m e).term ≡ m.term
unfolding with_received
received-term m e = refl

-- a reaction to an event
reacts-by-rules : (s : Setup) (w : ProtocolState) (m : Member) (e : Event) → Stands s w m → IsReceived s w (receive m.unfinished e)
    → IsSteps s w (reacted s m e).member (reacted s m e).sends w.passed (heard_report s.me m.term (report_in s (with_received m e) (receive m.unfinished e).said) w.reports)
unfolding reacted reacted_to
reacts-by-rules s w m e stands received =
    let said = (receive m.unfinished e).said in
    let n = with_received m e in
    let before = stands.shown in
    let sound = before.sound in
    let hears = heard m.unfinished e sound.unfinished in
    let did = row-settles s w n said
    (record {
      setup = stands.setup;
      kept = stands.kept;
      answered = stands.answered;
      shown = shown-received s w m e stands.setup received.unfinished before;
      sayable = hears.0;
      sent = received.heard;
    }) in
    let o = settled s (row s n said) in
    steps-same s w o.member o.sends w.passed w.passed (heard_report s.me n.term (report_in s n said) w.reports) (heard_report s.me m.term (report_in s n said) w.reports) refl
    (ap (λ (term : ℕ). heard_report s.me term (report_in s n said) w.reports) (received-term m e)) did

-- what is pending isn't of parts
due-unfinished : (b : Bool) (m : Member) → (if b then batched m else m).unfinished ≡ m.unfinished
unfolding batched
due-unfinished true m = refl
due-unfinished false m = refl

reported-unfinished : (s : Setup) (m : Member) (r : MemberRole) → (reported s m r).unfinished ≡ m.unfinished
reported-unfinished s m member.Leader = refl
reported-unfinished s m member.Follower = refl
reported-unfinished s m member.Candidate = refl

applied-unfinished : (s : Setup) (m : Member) → (applied s m).unfinished ≡ m.unfinished
unfolding applied
applied-unfinished s m = refl

finished-unfinished : (s : Setup) (m : Member) → (finished s m).member.unfinished ≡ m.unfinished
unfolding finished due
finished-unfinished s m =
    reported-unfinished s (applied s (due m)) m.role ∙ applied-unfinished s (due m) ∙ due-unfinished (m.pending == 0) m

-- what was received was sent, and stays so
received-grows : (s : Setup) (w v : ProtocolState) (x : Received) → Grows w v → v.table ≡ w.table → IsReceived s w x → IsReceived s v x
received-grows s w v x grows table received =
    record {
      heard = heard-grows s w v grows table x.said received.heard;
      unfinished = subst (λ (t : List Request). All (HasTablesParts t) x.unfinished) (sym table) received.unfinished;
    }

pub turn_rules : TurnsAreRules
unfolding turned
turn_rules s w m e stands received =
    let n = (finished s m).member in
    let done = passed_by s.me m ++ w.passed in
    let own = own_report s.me n n.role w.reports in
    let told = told_by s m e w.reports in
    let first = finish_rules s w m stands in
    let are = first.are in
    let v = after_rules w first.rules in
    let grows = rules_only_add w first.rules stands.kept are.allowed in
    let table = leave-table w first.rules s.me are.own in
    let same : receive m.unfinished e ≡ receive n.unfinished e = ap (λ (l : List Unfinished). receive l e) (sym (finished-unfinished s m)) in
    let later = subst (λ (x : Received). IsReceived s v x) same (received-grows s w v (receive m.unfinished e) grows table received) in
    let r = reacted s n e in
    let did = reacts-by-rules s v n e (stands-then s w m n (finished s m).sends done own stands first) later in
    let heard_of = λ (before : List Report). heard_report s.me n.term (report_in s (with_received n e) (receive n.unfinished e).said) before in
    steps-then s w n r.member (finished s m).sends r.sends done done own told stands.kept first
    (steps-same s v r.member r.sends v.passed done (heard_of v.reports) told are.passed (ap heard_of are.reports) did)
