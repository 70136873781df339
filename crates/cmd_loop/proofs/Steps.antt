-- The steps of a loop, each from what its calls say.
use Rattle.std.proofs.Common.{◌≡◌, ℕ, suc, List, [], ◌∷◌, ◌++◌, Option, sym, ap, ◌∙◌, subst, append_assoc, append-nil}
use Rattle.r2_base.specs.declared.datagram.Datagram.{Datagram}
use Rattle.r2_base.specs.declared.event.Event.{Event}
use Rattle.r2_link.specs.declared.lane.Item.{Item}
use Rattle.r2_link.specs.Links.{LinkPasses, LinkTold}
use Rattle.r2_link.specs.Told.{Gains}
use Rattle.r2_link.proofs.Links.{LinkPasses-nothing, LinkPasses-then}
use Rattle.r2_link.proofs.Streams.{Appends-nil, Consumes-nil}
use Rattle.r2_link.proofs.Told.{Tells-nil}
use Rattle.hc_log.specs.declared.record.Record.{Record}
use Rattle.cmd_status.specs.declared.status.Status.{Status}
use Rattle.cmd_status.specs.declared.status.Status.TheVariants.{LinkFault, DiskFault, Memory}
use Rattle.cmd_loop.specs.Ends.{Ends, Passes, joined, passing}
use Rattle.cmd_loop.specs.Happenings.{Happening, Came, Closing, closed}
use Rattle.cmd_loop.specs.Party.{Finishes, Reacts, ReactsTo, Turns, records_of}
use Rattle.cmd_loop.specs.Round.{Closes, CutsClosing, Makes, MakesPart, SomeReacts, Stops}
use Rattle.cmd_loop.specs.Sending.{SendsPrefix}
use Rattle.cmd_loop.proofs.Passing.{Passes-then}

-- what a party came to be over what happened, with what it stored and sent; and what it came to be where it finished besides
abbrev pub Turned : Type 0 → Type 1
Turned P = P → List Happening → List Record → List Datagram → P → Type 0

abbrev pub Finished : Type 0 → Type 1
Finished P = P → List Happening → List Record → List Datagram → List Datagram → P → Type 0

-- a party reacted and its record was stored, and of what goes out a prefix was sent
pub reacts-part : {P : Type 0} (T : Turned P) (F : Finished P) (p q : P) (event : Event) (replies : List Datagram) (stored : Option Record) (sends : List Datagram)
    (l m : LinkTold) (r s : Option (List Record)) (o : Ends)
    → Reacts T F p q event stored sends → Gains r s (records_of stored) → SendsPrefix l m (replies ++ sends)
    → MakesPart (SomeReacts T F p event replies) (record o { link = l; records = r }) (record o { link = m; records = s }) [] []
reacts-part T F p q event replies stored sends l m r s o reacts gains part = record {
  stored = records_of stored;
  sent = part.sent;
  unsent = part.unsent;
  right = (q, subst (λ (ds : List Datagram). ReactsTo T F p q event replies (records_of stored) ds) part.split (reacts replies));
  passed = record { source = Consumes-nil o.source; sink = Appends-nil o.written; link = part.passed; clock = Tells-nil o.clock; journal = gains };
}

-- both halves of a turn
pub both-halves : {P : Type 0} (T : Turned P) (F : Finished P) (p q s : P) (event : Event) (replies : List Datagram) → Finishes T F p q replies
    → (stored : List Record) (sends : List Datagram) → ReactsTo T F q s event replies stored sends → Turns T p s (Came event ∷ []) stored sends
both-halves T F p q s event replies finishes stored sends reacts first before records sent turned =
    reacts first before records sent (finishes first before records sent turned)

-- a rule that follows from another
pub Makes-by : (R S : List Record → List Datagram → Type 0) → ((stored : List Record) (sends : List Datagram) → R stored sends → S stored sends)
    → (a b : Ends) (items : List Item) (moments : List ℕ) → Makes R a b items moments → Makes S a b items moments
Makes-by R S on a b items moments made =
    record { stored = made.stored; sends = made.sends; right = on made.stored made.sends made.right; passed = made.passed }

pub Stops-by : (R S : List Record → List Datagram → Type 0) → ((stored : List Record) (sends : List Datagram) → R stored sends → S stored sends)
    → (a b : Ends) (items : List Item) (moments : List ℕ) (status : Status) → Stops R a b items moments status → Stops S a b items moments status
Stops-by R S on a b items moments LinkFault part =
    record { stored = part.stored; sent = part.sent; unsent = part.unsent; right = on part.stored (part.sent ++ part.unsent) part.right; passed = part.passed }
Stops-by R S on a b items moments DiskFault passed = passed
Stops-by R S on a b items moments Memory passed = passed
Stops-by R S on a b items moments _ stops = absurd stops

-- what is stored and sent after something was taken in
after-taken : (items : List Item) (moments : List ℕ) (stored : List Record) (sends : List Datagram)
    → joined (passing items moments [] []) (passing [] [] stored sends) ≡ passing items moments stored sends
after-taken items moments stored sends =
    ap (λ (l : List Item). passing l (moments ++ []) stored sends) (append-nil items)
    ∙ ap (λ (l : List ℕ). passing items l stored sends) (append-nil moments)

passes-after : (a b c : Ends) (items : List Item) (moments : List ℕ) (stored : List Record) (sends : List Datagram)
    → Passes a b (passing items moments [] []) → Passes b c (passing [] [] stored sends) → Passes a c (passing items moments stored sends)
passes-after a b c items moments stored sends p q =
    subst (Passes a c) (after-taken items moments stored sends) (Passes-then a b c (passing items moments [] []) (passing [] [] stored sends) p q)

pub Makes-after : (R : List Record → List Datagram → Type 0) (a b c : Ends) (items : List Item) (moments : List ℕ)
    → Passes a b (passing items moments [] []) → Makes R b c [] [] → Makes R a c items moments
Makes-after R a b c items moments taken made =
    record { stored = made.stored; sends = made.sends; right = made.right; passed = passes-after a b c items moments made.stored made.sends taken made.passed }

pub Stops-after : (R : List Record → List Datagram → Type 0) (a b c : Ends) (items : List Item) (moments : List ℕ) (status : Status)
    → Passes a b (passing items moments [] []) → Stops R b c [] [] status → Stops R a c items moments status
Stops-after R a b c items moments LinkFault taken part = record {
  stored = part.stored;
  sent = part.sent;
  unsent = part.unsent;
  right = part.right;
  passed = passes-after a b c items moments part.stored part.sent taken part.passed;
}
Stops-after R a b c items moments DiskFault taken passed = passes-after a b c items moments [] [] taken passed
Stops-after R a b c items moments Memory taken passed = passes-after a b c items moments [] [] taken passed
Stops-after R a b c items moments _ taken stops = absurd stops

-- a turn that is closed after the end of the link
pub closing-turn : {P : Type 0} (T : Turned P) (F : Finished P) (p q : P) (replies : List Datagram)
    → ((old : P) (before : List Happening) (records : List Record) (sent answers : List Datagram) (new : P) → F old before records sent answers new → T old (before ++ Closing ∷ []) records (sent ++ answers) new)
    → Finishes T F p q replies → Turns T p q (Closing ∷ []) [] replies
closing-turn T F p q replies closes finishes first before records sent turned =
    subst (λ (rs : List Record). T first (before ++ Closing ∷ []) rs (sent ++ replies) q) (sym (append-nil records))
    (closes first before records sent replies q (finishes first before records sent turned))

-- no turn is made where nothing happens
pub Turns-none : {P : Type 0} (T : Turned P) (p : P) → Turns T p p [] [] []
Turns-none T p first before records sent turned =
    subst (λ (hs : List Happening). T first hs (records ++ []) (sent ++ []) p) (sym (append-nil before))
    (subst (λ (rs : List Record). T first before rs (sent ++ []) p) (sym (append-nil records))
    (subst (λ (ds : List Datagram). T first before records ds p) (sym (append-nil sent)) turned))

-- turns in one stretch, and then in another
pub Turns-then : {P : Type 0} (T : Turned P) (p q s : P) (hs more : List Happening) (rs rs' : List Record) (ds ds' : List Datagram)
    → Turns T p q hs rs ds → Turns T q s more rs' ds' → Turns T p s (hs ++ more) (rs ++ rs') (ds ++ ds')
Turns-then T p q s hs more rs rs' ds ds' x y first before records sent turned =
    subst (λ (l : List Happening). T first l (records ++ (rs ++ rs')) (sent ++ (ds ++ ds')) s) (append_assoc before hs more)
    (subst (λ (l : List Record). T first ((before ++ hs) ++ more) l (sent ++ (ds ++ ds')) s) (append_assoc records rs rs')
    (subst (λ (l : List Datagram). T first ((before ++ hs) ++ more) ((records ++ rs) ++ rs') l s) (append_assoc sent ds ds')
    (y first (before ++ hs) (records ++ rs) (sent ++ ds) (x first before records sent turned))))

-- after the end of the link: no turn yet, and one more
pub Closes-none : {P : Type 0} (T : Turned P) (p : P) (a : LinkTold) → Closes T p p a a 0
Closes-none T p a = record { sends = []; turned = Turns-none T p; passed = LinkPasses-nothing a }

pub Closes-more : {P : Type 0} (T : Turned P) (p q s : P) (a b c : LinkTold) (n : ℕ) (replies : List Datagram)
    → Closes T p q a b n → Turns T q s (Closing ∷ []) [] replies → LinkPasses b c [] replies → Closes T p s a c (suc n)
Closes-more T p q s a b c n replies whole turned passed = record {
  sends = whole.sends ++ replies;
  turned = Turns-then T p q s (closed n []) (Closing ∷ []) [] [] whole.sends replies whole.turned turned;
  passed = LinkPasses-then a b c [] [] whole.sends replies whole.passed passed;
}

-- and of the next one a prefix was sent
pub cuts-closing : {P : Type 0} (T : Turned P) (p q s : P) (a b c : LinkTold) (n : ℕ) (replies : List Datagram)
    → Closes T p q a b n → Turns T q s (Closing ∷ []) [] replies → SendsPrefix b c replies → CutsClosing T p a c
cuts-closing T p q s a b c n replies whole turned part = record {
  closings = n;
  last = q;
  between = b;
  whole = whole;
  next = s;
  sent = part.sent;
  unsent = part.unsent;
  turned = subst (Turns T q s (Closing ∷ []) []) part.split turned;
  passed = part.passed;
}
