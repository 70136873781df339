-- What follows each row rests on this.
use Rattle.std.proofs.Common.{◌≡◌, ℕ, ◌+◌, ◌-◌, ◌≤◌, List, [], ◌++◌, length, refl, sym, ap, subst, ◌∙◌, arith, append-nil, append_assoc}
use Rattle.std.specs.Prelude.{Result, Ok, Err, IfOk}
use Rattle.std.proofs.lemmas.Grind.{flat_map-append}
use Rattle.std.proofs.lemmas.List.{length-take}
use Rattle.r2_base.specs.Limits.{most_entries}
use Rattle.r2_base.specs.declared.datagram.Datagram.{Datagram}
use Rattle.r2_base.specs.declared.event.Event.{Event}
use Rattle.hc_order.specs.Ordering.{IsReady}
use Rattle.hc_member.specs.declared.setup.Setup.{Setup}
use Rattle.hc_member.specs.declared.role.Role.{Role}
use Rattle.hc_member.specs.declared.role.Role.TheVariants.{Follower, Candidate, Leader}
use Rattle.hc_member.specs.declared.heard.Heard.{Heard}
use Rattle.hc_member.specs.Finish.{batched}
use Rattle.hc_member.specs.Heard.{IsSayable, receive, with_received}
use Rattle.hc_member.specs.Member.{Member}
use Rattle.hc_member.specs.Outcome.{Outcome}
use Rattle.hc_member.specs.Sending.{Sending, datagrams_of, datagrams_of_all}
use Rattle.hc_member.specs.Setup.{IsSetup}
use Rattle.hc_member.specs.Sound.{IsSound}
use Rattle.hc_member.specs.Turn.{led, ordering, reacted, reacted_to, row, settled, stored_of, waiting_of}
use Rattle.hc_member.proofs.Goes.{Goes}
use Rattle.hc_member.proofs.Ordering.{may-order}
use Rattle.hc_member.proofs.ReportRows.{leading}
use Rattle.hc_member.proofs.Rows.{goes-row}
use Rattle.hc_member.proofs.Settled.{can-order, goes-settled, kept-settled, ordered-leader}
use Rattle.hc_node.specs.Sends.{AreSent}

-- what comes of a fact about what a call gives
pub for-ok : {A E : Type 0} {P Q : A → Type 0} (r : Result A E) → ((x : A) → P x → Q x) → IfOk r P → IfOk r Q
for-ok (Ok x) f p = f x p
for-ok (Err e) f p = tt

-- what a leader's ordering leads to, and what it needs
pub record GoesOn (s : Setup) (m n : Member) (left : ℕ) : Type 0 where
  pub ready : IsReady m.term (waiting_of m)
  pub sound : IsSound s n
  pub role : n.role ≡ Leader
  pub keep : left ≤ length n.log
  pub few : length n.log ≤ left + most_entries
  pub each : length n.lead.reached ≡ length s.members

pub goes-on : (s : Setup) (m : Member) (keep : ℕ) → IsSetup s → IsSound s m → m.role ≡ Leader → keep ≤ length m.log → length m.log ≤ keep + most_entries
    → GoesOn s m (ordering m keep) keep
goes-on s m keep is sound role low few =
    let n = ordering m keep in
    let did = ordered-leader s is m keep sound role in
    let extends = did.extends in
    let long = extends.long in
    let most = extends.most in
    let may = may-order s is m.term m.vote (waiting_of m) (can-order s is m sound role) in
    let lead = leading s is n did.sound (did.role ∙ role) in
    record {
      ready = may.ready;
      sound = did.sound;
      role = did.role ∙ role;
      keep = omega (arith, low, long);
      few = omega (arith, low, few, most);
      each = lead.reached_each;
    }

-- an outcome with nothing sent yet
abbrev pub unsent : Outcome → Outcome
unsent o = record { member = o.member; keep = o.keep; sends = [] }

-- the next batch is set aside
abbrev pub after_led : Outcome → Outcome
after_led o = record o { member = batched o.member }

led-member : (s : Setup) (o : Outcome) (role : Role) → (led s o role).member ≡ (led s (unsent o) role).member
led-member s o Leader = refl
led-member s o Follower = refl
led-member s o Candidate = refl

led-sends : (s : Setup) (o : Outcome) (role : Role) → (led s o role).sends ≡ o.sends ++ (led s (unsent o) role).sends
led-sends s o Leader = refl
led-sends s o Follower = sym (append-nil o.sends)
led-sends s o Candidate = sym (append-nil o.sends)

-- what follows a row goes by the member and by how much of its log is left; what it sends comes last
pub settled-member : (s : Setup) (o : Outcome) → (settled s (unsent o)).member ≡ (settled s o).member
unfolding settled
settled-member s o = ap batched (sym (led-member s o o.member.role))

pub settled-sends : (s : Setup) (o : Outcome) → (settled s o).sends ≡ o.sends ++ (settled s (unsent o)).sends
unfolding settled
settled-sends s o = led-sends s o o.member.role

-- what follows a row, by the member's role
pub settled-as : (s : Setup) (m : Member) (keep : ℕ) (role : Role) → m.role ≡ role
    → settled s (record { member = m; keep = keep; sends = [] }) ≡ after_led (led s (record { member = m; keep = keep; sends = [] }) role)
unfolding settled
settled-as s m keep role e = ap (λ (r : Role). after_led (led s (record { member = m; keep = keep; sends = [] }) r)) e

-- what is sent first, and then more
pub sent-both : (s : Setup) (xs ys all : List Sending) (first middle last : List Datagram) → all ≡ xs ++ ys → AreSent s xs first middle → AreSent s ys middle last
    → AreSent s all first last
sent-both s xs ys all first middle last is one two =
    two
    ∙ ap (λ (ds : List Datagram). ds ++ datagrams_of_all s ys) one
    ∙ append_assoc first (datagrams_of_all s xs) (datagrams_of_all s ys)
    ∙ ap (λ (ds : List Datagram). first ++ ds) (sym (flat_map-append (datagrams_of s) xs ys))
    ∙ ap (λ (zs : List Sending). first ++ datagrams_of_all s zs) (sym is)

-- what a row leads to
pub record RowLeads (s : Setup) (o : Outcome) : Type 0 where
  pub sound : IsSound s o.member
  pub keep : o.keep ≤ length o.member.log
  pub few : length o.member.log ≤ o.keep + most_entries
  pub after : o.keep ≤ length (settled s o).member.log

module _ (s : Setup) (is : IsSetup s) where
  -- so much of the log is left
  keeps : (m : Member) (o : Outcome) → Goes s m o → o.keep ≤ length o.member.log
  keeps m o goes =
      let comes = goes.comes in
      let within = comes.within in
      let sizes = ap length comes.front in
      omega (arith, within, sizes, length-take o.keep m.log, length-take o.keep o.member.log)

  pub row-leads : (m : Member) (said : Heard) → IsSayable said → IsSound s m → RowLeads s (row s m said)
  row-leads m said sayable sound =
      let o = row s m said in
      let goes = goes-row s is m said sayable sound in
      let comes = goes.comes in
      let later = keeps m (settled s o) (goes-settled s is m o goes) in
      record {
        sound = goes.sound;
        keep = keeps m o goes;
        few = comes.count;
        after = subst (λ (k : ℕ). k ≤ length (settled s o).member.log) (kept-settled s is o) later;
      }

-- an outcome of which so much is known
known : (s : Setup) (o : Outcome) (n : Member) (keep : ℕ) → n ≡ o.member → keep ≡ o.keep → settled s (record { member = n; keep = keep; sends = [] }) ≡ settled s (unsent o)
known s o n keep e f = λ k. settled s (record { member = e k; keep = f k; sends = [] })

pub settled-known : (s : Setup) (m : Member) (said : Heard) (n : Member) (keep : ℕ) → n ≡ (row s m said).member → keep ≡ (row s m said).keep
    → (settled s (record { member = n; keep = keep; sends = [] })).member ≡ (settled s (row s m said)).member
settled-known s m said n keep e f = ap (λ (o : Outcome). o.member) (known s (row s m said) n keep e f) ∙ settled-member s (row s m said)

-- the reaction, from the row and from what follows it
pub reacted-member : (s : Setup) (m : Member) (said : Heard) (n : Member) (keep : ℕ) → n ≡ (row s m said).member → keep ≡ (row s m said).keep
    → (settled s (record { member = n; keep = keep; sends = [] })).member ≡ (reacted_to s m said).member
unfolding reacted_to
reacted-member s m said n keep e f = settled-known s m said n keep e f

pub reacted-sends : (s : Setup) (m : Member) (said : Heard) (n : Member) (keep : ℕ) (first middle last : List Datagram) → n ≡ (row s m said).member
    → keep ≡ (row s m said).keep → AreSent s (row s m said).sends first middle
    → AreSent s (settled s (record { member = n; keep = keep; sends = [] })).sends middle last → AreSent s (reacted_to s m said).sends first last
unfolding reacted_to
reacted-sends s m said n keep first middle last e f one two =
    let o = row s m said in
    sent-both s o.sends (settled s (unsent o)).sends (settled s o).sends first middle last (settled-sends s o) one
    (subst (λ (x : Outcome). AreSent s x.sends middle last) (known s o n keep e f) two)

module _ (s : Setup) (is : IsSetup s) where
  pub reacted-stored : (m : Member) (said : Heard) (n : Member) (keep : ℕ) → keep ≡ (row s m said).keep → n ≡ (reacted_to s m said).member
      → stored_of m keep n ≡ (reacted_to s m said).stored
  unfolding reacted_to
  reacted-stored m said n keep f e =
      let same : keep ≡ (settled s (row s m said)).keep = f ∙ sym (kept-settled s is (row s m said)) in
      λ k. stored_of m (same k) (e k)

-- the reaction to an event, from what it says
pub reacted-is : (s : Setup) (m : Member) (event : Event) (n : Member) (said : Heard) → n ≡ with_received m event → said ≡ (receive m.unfinished event).said
    → reacted_to s n said ≡ reacted s m event
unfolding reacted
reacted-is s m event n said e f = λ k. reacted_to s (e k) (f k)
