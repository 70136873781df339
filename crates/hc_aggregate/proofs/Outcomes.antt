-- The outcome of a turn, put together from its parts.
use Rattle.std.proofs.Common.{◌≡◌, ◌+◌, ◌-◌, ℕ, suc, List, [], ◌∷◌, ◌++◌, take, drop, length, Option, Result, Ok, Err, refl, sym, ap, ◌∙◌, arith, append_assoc}
use Rattle.std.specs.Prelude.{IfOk, OnOk, map}
use Rattle.std.specs.List.{remove}
use Rattle.std.proofs.lemmas.List.{take_rest}
use Rattle.r2_base.specs.declared.addr.Addr.{Addr}
use Rattle.r2_base.specs.declared.datagram.Datagram.{Datagram}
use Rattle.hc_message.specs.declared.msg.Msg.{Msg}
use Rattle.hc_packet.specs.Packet.{message_packet}
use Rattle.hc_aggregate.specs.Tally.{Tally, found, in_term, with_found, with_reached}
use Rattle.hc_aggregate.specs.Turn.{AggregatorState, Comes, Telling, commit_told, counts, datagram_of, datagrams_to, tell_each, with_tally}

-- the same message to each is the same bytes to each
pub each_sent : (me : Addr) (to : List Addr) (message : Msg) → map (datagram_of me) (tell_each to message) ≡ datagrams_to me to (message_packet message)
each_sent me [] message = refl
each_sent me (member ∷ to) message = ap (λ (l : List Datagram). datagram_of me (record { to = member; message = message }) ∷ l) (each_sent me to message)

sent_append : (me : Addr) (xs ys : List Telling) → map (datagram_of me) (xs ++ ys) ≡ map (datagram_of me) xs ++ map (datagram_of me) ys
sent_append me [] ys = refl
sent_append me (x ∷ xs) ys = ap (λ (l : List Datagram). datagram_of me x ∷ l) (sent_append me xs ys)

to_append : (me : Addr) (xs ys : List Addr) (bytes : List ℕ) → datagrams_to me (xs ++ ys) bytes ≡ datagrams_to me xs bytes ++ datagrams_to me ys bytes
to_append me [] ys bytes = refl
to_append me (x ∷ xs) ys bytes = ap (λ (l : List Datagram). record { from = me; to = x; bytes = bytes } ∷ l) (to_append me xs ys bytes)

-- those before the leader, and then those after it, are all but the leader
pub handed_on : (me : Addr) (members : List Addr) (leader place : ℕ) (bytes : List ℕ) (before between after : List Datagram) → place ≡ leader
    → between ≡ before ++ datagrams_to me (take place members) bytes
    → after ≡ between ++ datagrams_to me (take (length members - (place + 1)) (drop (place + 1) members)) bytes
    → after ≡ before ++ datagrams_to me (remove members leader) bytes
handed_on me members leader place bytes before between after same first second =
    let next : place + 1 ≡ suc leader = omega (arith, same) in
    let rest : take (length members - (place + 1)) (drop (place + 1) members) ≡ drop (suc leader) members =
    take_rest members (place + 1) ∙ ap (λ n. drop n members) next in
    second
    ∙ ap (λ (l : List Datagram). l ++ datagrams_to me (take (length members - (place + 1)) (drop (place + 1) members)) bytes)
    (first ∙ ap (λ n. before ++ datagrams_to me (take n members) bytes) same)
    ∙ ap (λ (l : List Addr). (before ++ datagrams_to me (take leader members) bytes) ++ datagrams_to me l bytes) rest
    ∙ append_assoc before (datagrams_to me (take leader members) bytes) (datagrams_to me (drop (suc leader) members) bytes)
    ∙ ap (λ (l : List Datagram). before ++ l) (sym (to_append me (take leader members) (drop (suc leader) members) bytes))

-- what was sent before the count, and what the count sends
pub comes_of : (s s' : AggregatorState) (t : Tally) (o : Option ℕ) (told : List Telling) (sends all : List Datagram) → found t ≡ o → sends ≡ map (datagram_of s.me) told
    → all ≡ sends ++ map (datagram_of s.me) (commit_told s.members t.term o) → s' ≡ with_tally s (with_found t o) → Comes s (counts s.members told t) all s'
comes_of s s' t o told sends all is before after becomes = record {
  becomes = becomes ∙ ap (λ (x : Option ℕ). with_tally s (with_found t x)) (sym is);
  sends = after
      ∙ ap (λ (l : List Datagram). l ++ map (datagram_of s.me) (commit_told s.members t.term o)) before
      ∙ ap (λ (x : Option ℕ). map (datagram_of s.me) told ++ map (datagram_of s.me) (commit_told s.members t.term x)) (sym is)
      ∙ sym (sent_append s.me told (commit_told s.members t.term (found t)));
}

-- an answer of which one thing holds, by what holds of it
pub ok_weaker : {A E : Type 0} (P Q : A → Type 0) (r : Result A E) → ((a : A) → P a → Q a) → IfOk r P → IfOk r Q
ok_weaker P Q (Ok a) on p = on a p
ok_weaker P Q (Err e) on p = tt

-- the same of two things
pub ok_both : {A E : Type 0} (P Q : A → Type 0) (R : Type 0) (r : Result A E) → ((a : A) → P a → R → Q a) → IfOk r P → OnOk r R → IfOk r Q
ok_both P Q R (Ok a) on p both = on a p both
ok_both P Q R (Err e) on p both = tt

-- what holds of an answer holds of what follows from it
pub on_ok : {A E : Type 0} (P Q : Type 0) (r : Result A E) → (P → Q) → OnOk r P → OnOk r Q
on_ok P Q (Ok a) then p = then p
on_ok P Q (Err e) then p = tt

-- an Order that is handed on goes to all but its leader
pub handed_order : (s inside : AggregatorState) (order : Msg) (leader : ℕ) (to : List Addr) (bytes : List ℕ) (none sends : List Datagram)
    → inside ≡ s → to ≡ inside.members → bytes ≡ message_packet order → none ≡ [] → sends ≡ none ++ datagrams_to inside.me (remove to leader) bytes
    → sends ≡ map (datagram_of s.me) (tell_each (remove s.members leader) order)
handed_order s inside order leader to bytes none sends same members packet empty given =
    given
    ∙ ap (λ (l : List Datagram). l ++ datagrams_to inside.me (remove to leader) bytes) empty
    ∙ ap (λ (l : List Addr). datagrams_to inside.me (remove l leader) bytes) members
    ∙ ap (λ (l : List ℕ). datagrams_to inside.me (remove inside.members leader) l) packet
    ∙ ap (λ (a : AggregatorState). datagrams_to a.me (remove a.members leader) (message_packet order)) same
    ∙ sym (each_sent s.me (remove s.members leader) order)

-- the tally of an Order, step by step
pub ordered_tally : (s inside : AggregatorState) (copied then noted : Tally) (term leader term_start last : ℕ)
    → inside ≡ s → copied ≡ inside.tally → then ≡ in_term copied term leader term_start → noted ≡ with_reached then leader last
    → noted ≡ with_reached (in_term s.tally term leader term_start) leader last
ordered_tally s inside copied then noted term leader term_start last same copy enter note =
    note
    ∙ ap (λ (t : Tally). with_reached t leader last) enter
    ∙ ap (λ (t : Tally). with_reached (in_term t term leader term_start) leader last) (copy ∙ ap (λ (a : AggregatorState). a.tally) same)

-- that of an Ack
pub acknowledged_tally : (s inside : AggregatorState) (copied noted : Tally) (member index : ℕ)
    → inside ≡ s → copied ≡ inside.tally → noted ≡ with_reached copied member index → noted ≡ with_reached s.tally member index
acknowledged_tally s inside copied noted member index same copy note =
    note ∙ ap (λ (t : Tally). with_reached t member index) (copy ∙ ap (λ (a : AggregatorState). a.tally) same)
