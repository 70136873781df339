-- The messages of a sound member are valid and short.
use Rattle.std.proofs.Common.{refl, ◌≡◌, ℕ, ◌+◌, ◌-◌, ◌<◌, ◌≤◌, ◌==◌, zero, suc, Bool, false, List, [], ◌∷◌, length, get_or, map, take, drop, sym, ap, subst, ◌∙◌, arith, length-drop}
use Rattle.std.specs.Prelude.{All}
use Rattle.std.specs.List.Sorted.{IsNonDecreasingBy}
use Rattle.std.proofs.lemmas.List.{get_or-drop, get_or-map, get_or-take, get_or_default, length-map, length-take}
use Rattle.std.proofs.lemmas.List.Elements.{All-cons, All-nil, All-map}
use Rattle.r2_base.specs.Limits.{most_body, most_entries}
use Rattle.r2_base.specs.declared.addr.Addr.{Addr}
use Rattle.r2_base.specs.declared.rid.Rid.{Rid}
use Rattle.r2_base.specs.declared.entry.Kind.{Kind}
use Rattle.r2_base.specs.declared.entry.Entry.{Entry}
use Rattle.hc_log.specs.declared.stored.Stored.{Stored}
use Rattle.hc_log.specs.Log.{blank_of, last_term, metas_of, stored_at, term_at}
use Rattle.hc_log.specs.Durable.{State, IsValid}
use Rattle.hc_log.proofs.Formed.{IsFormed-from_steps}
use Rattle.hc_message.specs.declared.msg.Msg.TheVariants.{VoteReq, Vote, Ack, Nack, RecoverAsk, RecoverBody}
use Rattle.hc_message.specs.Entry.{IsEntry, IsIndex, IsMember, IsTerm, kind_number}
use Rattle.hc_message.specs.Message.{AreOrdered, IsOrdering}
use Rattle.hc_message.proofs.Sizes.{spellings_are_short}
use Rattle.hc_member.specs.declared.setup.Setup.{Setup}
use Rattle.hc_member.specs.Setup.{IsSetup}
use Rattle.hc_member.specs.Member.{Member, durable_of}
use Rattle.hc_member.specs.Orders.{order_after}
use Rattle.hc_member.specs.Sending.{Sending, Tell, Recover, IsSent}

-- one thing alone is sent
pub sent-one : (x : Sending) → IsSent x → All IsSent (x ∷ [])
sent-one x is = All-cons IsSent x [] is (All-nil IsSent)

-- the same is sent to some members
pub sent-each : (f : ℕ → Sending) (members : List ℕ) → ((member : ℕ) → IsSent (f member)) → All IsSent (map f members)
sent-each f members each = All-map IsSent f members (λ k d inside. each (get_or members k d))

pub own-fits : (s : Setup) → IsSetup s → IsMember s.me
own-fits s is = omega (arith, is.own, is.few)

-- the term of a log's last entry
pub last_term-most : (t : ℕ) (log : List Stored) → All (λ (s : Stored). s.entry.term ≤ t) log → last_term log ≤ t
last_term-most t [] all = omega arith
last_term-most t (x ∷ xs) all =
    let some : (length (x ∷ xs) == 0) ≡ false = grind arith in
    rw some (all (length (x ∷ xs) - 1) (blank_of 0) (omega arith))

pub sent-vote_request : (to : Addr) (term member last_index last_term : ℕ) → IsTerm term → IsMember member → IsIndex last_index → last_term ≤ term
    → IsSent (Tell to (VoteReq term member last_index last_term))
sent-vote_request to term member last_index last_term t m i l =
    let short = spellings_are_short (VoteReq term member last_index last_term) (t, m, i, l) in
    ((t, m, i, l), refl, omega (arith, short))

pub sent-vote : (to : Addr) (term member : ℕ) (granted : Bool) → IsTerm term → IsMember member → IsSent (Tell to (Vote term member granted))
sent-vote to term member granted t m =
    let short = spellings_are_short (Vote term member granted) (t, m) in
    ((t, m), refl, omega (arith, short))

pub sent-ack : (to : Addr) (term member index applied : ℕ) → IsTerm term → IsMember member → IsIndex index → IsIndex applied → IsSent (Tell to (Ack term member index applied))
sent-ack to term member index applied t m i a =
    let short = spellings_are_short (Ack term member index applied) (t, m, i, a) in
    ((t, m, i, a), refl, omega (arith, short))

pub sent-nack : (to : Addr) (term member hint : ℕ) → IsTerm term → IsMember member → IsIndex hint → IsSent (Tell to (Nack term member hint))
sent-nack to term member hint t m i =
    let short = spellings_are_short (Nack term member hint) (t, m, i) in
    ((t, m, i), refl, omega (arith, short))

pub sent-ask : (to : Addr) (rid : Rid) (member : ℕ) → IsMember member → IsSent (Recover to rid (RecoverAsk member))
sent-ask to rid member m =
    let short = spellings_are_short (RecoverAsk member) m in
    (m, refl, omega (arith, short))

pub sent-body : (to : Addr) (rid : Rid) (kind : Kind) (body : List ℕ) → 1 ≤ kind_number kind → length body ≤ most_body → IsSent (Recover to rid (RecoverBody kind body))
sent-body to rid kind body k b =
    let short = spellings_are_short (RecoverBody kind body) (k, b) in
    ((k, b), refl, omega (arith, short))

-- an entry of an Order is one of the log
entry-there : (log : List Stored) (index most k : ℕ) (d : Entry) → k < length (take most (metas_of (drop index log)))
    → (index + k < length log) × (get_or (take most (metas_of (drop index log))) k d ≡ (get_or log (index + k) (record { entry = d; body = [] })).entry)
entry-there log index most k d inside =
    let x : Stored = record { entry = d; body = [] } in
    let counted = length-take most (metas_of (drop index log)) in
    let size = length-map (drop index log) (λ (s : Stored). s.entry) in
    let left = length-drop index log in
    let below : k < most = omega (arith, inside, counted) in
    let within : k < length (drop index log) = omega (arith, inside, counted, size) in (
      omega (arith, within, left),
      get_or-take most (metas_of (drop index log)) k d below
          ∙ get_or-map (λ (s : Stored). s.entry) (drop index log) k x d within
          ∙ ap (λ (s : Stored). s.entry) (get_or-drop index log k x),
    )

-- the term before an entry of a log isn't greater
term-before : (log : List Stored) (index k : ℕ) (d : Stored) → IsNonDecreasingBy (λ (s : Stored). s.entry.term) log → index + k < length log
    → term_at log index ≤ (get_or log (index + k) d).entry.term
term-before log zero k d rises inside = omega arith
term-before log (suc index) k d rises inside =
    let read : stored_at log (suc index) ≡ get_or log index d =
    ap (λ (i : ℕ). get_or log i (blank_of 0)) (let e : suc index - 1 ≡ index = omega arith in e) ∙ get_or_default log index (blank_of 0) d (omega (arith, inside)) in
    let some : (suc index == 0) ≡ false = grind arith in
    let below = rises index (suc index + k) d (omega arith) inside in
    rw (some, read) below

-- entries of a log after an index, at most as many as an Order has, are an Order's
pub ordered-slice : (d : State) (index most : ℕ) → IsValid d → most ≤ most_entries → index ≤ length d.log
    → AreOrdered index (term_at d.log index) d.term (take most (metas_of (drop index d.log)))
ordered-slice d index most valid few within =
    let formed = IsFormed-from_steps d.log valid.log in
    let limits = formed.limits in
    let counted = length-take most (metas_of (drop index d.log)) in
    let size = length-map (drop index d.log) (λ (s : Stored). s.entry) in
    let left = length-drop index d.log in
    let entries = take most (metas_of (drop index d.log)) in
    record {
      count = omega (arith, counted, few);
      room = omega (arith, counted, size, left, limits.entries, within);
      each = λ k e inside.
          let there = entry-there d.log index most k e inside in
          let stored = formed.stored (index + k) (record { entry = e; body = [] }) there.0 in
          let here : IsEntry (get_or d.log (index + k) (record { entry = e; body = [] })).entry =
          record { term = record { least = stored.term_is_set; most = stored.term_fits }; replier = stored.replier } in
          subst IsEntry (sym there.1) here;
      low = λ k e inside.
          let there = entry-there d.log index most k e inside in
          let before = term-before d.log index k (record { entry = e; body = [] }) formed.terms there.0 in
          let term = ap (λ (x : Entry). x.term) there.1 in
          omega (arith, before, term);
      high = λ k e inside.
          let there = entry-there d.log index most k e inside in
          let most_term = valid.terms (index + k) (record { entry = e; body = [] }) there.0 in
          let term = ap (λ (x : Entry). x.term) there.1 in
          omega (arith, most_term, term);
      never_fall = λ i j e le inside.
          let first = entry-there d.log index most i e (omega (arith, le, inside)) in
          let second = entry-there d.log index most j e inside in
          let rises = formed.terms (index + i) (index + j) (record { entry = e; body = [] }) (omega (arith, le)) second.0 in
          let one = ap (λ (x : Entry). x.term) first.1 in
          let two = ap (λ (x : Entry). x.term) second.1 in
          omega (arith, rises, one, two);
    }

-- the term of an entry of a valid state, or 0
pub term_at-most : (d : State) (index : ℕ) → IsValid d → index ≤ length d.log → term_at d.log index ≤ d.term
term_at-most d zero valid within = omega arith
term_at-most d (suc index) valid within =
    let some : (suc index == 0) ≡ false = grind arith in
    let at : suc index - 1 ≡ index = omega arith in
    rw (some, at) (valid.terms index (blank_of 0) (omega (arith, within)))

-- an Order of a leader
pub sent-order : (s : Setup) (m : Member) (to : Addr) (index most : ℕ) (via : Bool) → IsSetup s → IsValid (durable_of m) → 1 ≤ m.term → 1 ≤ m.lead.term_start
    → m.lead.term_start ≤ length m.log → m.commit ≤ length m.log → most ≤ most_entries → index ≤ length m.log
    → IsSent (Tell to (order_after s m index via (take most (metas_of (drop index m.log)))))
sent-order s m to index most via is valid term start_low start_high commit few within =
    let limits = (IsFormed-from_steps m.log valid.log).limits in
    let entries = take most (metas_of (drop index m.log)) in
    let head : IsOrdering m.term s.me index (term_at m.log index) m.lead.term_start m.commit =
    record {
      own = record { least = term; most = valid.term };
      sender = own-fits s is;
      behind = omega (arith, within, limits.entries);
      least = term_at-most (durable_of m) index valid within;
      start = record { least = start_low; most = omega (arith, start_high, limits.entries) };
      agreed = omega (arith, commit, limits.entries);
    } in
    let ordered = ordered-slice (durable_of m) index most valid few within in
    let short = spellings_are_short (order_after s m index via entries) (head, ordered) in
    ((head, ordered), refl, omega (arith, short))
