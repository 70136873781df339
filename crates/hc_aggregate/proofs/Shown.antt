-- What an aggregator calls committed was shown by the events that came: what it holds to be reached was said by that very member.
use Rattle.std.proofs.Common.{◌≡◌, ◌≢◌, ◌≤◌, ◌<◌, ◌+◌, ◌++◌, max, ℕ, suc, Bool, true, false, cond, List, [], ◌∷◌, get_or, length, Option, Some, None, inl, inr, refl, sym, ap, ◌∙◌, subst, arith, append_assoc, append-nil}
use Rattle.std.specs.Prelude.{All, count_by, nat_le, nat_lt, ◌==◌, ◌||◌, replicate}
use Rattle.std.specs.List.{list_any, range_with_len, remove}
use Rattle.std.proofs.lemmas.Bool.{cases_Bool, eqb-false, eqb-true, le-leb, leb-false, leb-true}
use Rattle.std.proofs.Math.Bool.{or-true}
use Rattle.std.proofs.lemmas.List.{get_or-replicate, get_or-set_other, get_or-set_same, get_or_past, length-replicate}
use Rattle.std.proofs.lemmas.List.Elements.{All-head, All-nil, All-tail}
use Rattle.std.proofs.lemmas.List.Folds.{list_any-append}
use Rattle.std.proofs.lemmas.List.Sums.{sum_by-cons}
use Rattle.r2_base.specs.declared.addr.Addr.{Addr}
use Rattle.r2_base.specs.declared.datagram.Datagram.{Datagram}
use Rattle.r2_base.specs.declared.entry.Entry.{Entry}
use Rattle.r2_base.specs.declared.event.Event.{Event}
use Rattle.r2_base.specs.declared.event.Event.TheVariants as event
use Rattle.hc_message.specs.declared.msg.Msg.{Msg}
use Rattle.hc_message.specs.declared.msg.Msg.TheVariants.{Order, Ack}
use Rattle.hc_message.specs.Message.{IsValid}
use Rattle.hc_packet.specs.Packet.{message_in}
use Rattle.hc_order.specs.Counting.{reaching}
use Rattle.hc_aggregate.specs.Group.{majority}
use Rattle.hc_aggregate.specs.Laws.{CommitsWereShown, HasBytes, IsShown, TellsShown, shows_begun, shows_reached}
use Rattle.hc_aggregate.specs.Sound.{IsTally}
use Rattle.hc_aggregate.specs.Tally.{Tally, found, in_term, no_tally, reached_by, with_found, with_reached}
use Rattle.hc_aggregate.specs.Turn.{AggregatorState, Outcome, Telling, begin, counts, hear_ack, hear_order, reacted, tell_each, turned, turned_all}
use Rattle.hc_aggregate.proofs.Cases.{TakesAck, TakesOrder, carried-valid, of-turn}
use Rattle.hc_aggregate.proofs.Found.{IsFound, found-majority}
use Rattle.hc_aggregate.proofs.Reached.{length-with_reached}
use Rattle.hc_aggregate.proofs.Tallies.{sound_begin, tally_with_reached}
use Rattle.hc_aggregate.proofs.Turns.{each-telling, each-told, in-term, order-tally, order-term, stays-tally}

-- these events show what the tally holds of its term: that its leader began where it says, and what each member reaches
record IsBacked (members : List Addr) (events : List Event) (t : Tally) : Type 0 where
  each : length t.reached ≡ length members
  begun : 1 ≤ t.term → (index : ℕ) → t.term_start ≤ index → list_any (shows_begun members t.term index) events ≡ true
  reached : (member index : ℕ) → 1 ≤ index → index ≤ reached_by t member → list_any (shows_reached members t.term member index) events ≡ true

-- what one of the events shows they show with one more
any-before : (p : Event → Bool) (events : List Event) (happens : Event) → list_any p events ≡ true → list_any p (events ++ happens ∷ []) ≡ true
any-before p events happens shown = list_any-append p events (happens ∷ []) ∙ ap (λ b. b || list_any p (happens ∷ [])) shown

any-last : (p : Event → Bool) (events : List Event) (happens : Event) → p happens ≡ true → list_any p (events ++ happens ∷ []) ≡ true
any-last p events happens shown =
    list_any-append p events (happens ∷ []) ∙ ap (λ b. list_any p events || (b || false)) shown ∙ or-true (list_any p events)

backed-more : (members : List Addr) (events : List Event) (happens : Event) (t : Tally) → IsBacked members events t → IsBacked members (events ++ happens ∷ []) t
backed-more members events happens t is = record {
  each = is.each;
  begun = λ some index own. any-before (shows_begun members t.term index) events happens (is.begun some index own);
  reached = λ member index some within. any-before (shows_reached members t.term member index) events happens (is.reached member index some within);
}

-- of a term of which nothing was counted yet nobody reaches anything
none-reached : (size member : ℕ) → ◌≡◌ {A = ℕ} (get_or (replicate size 0) member 0) 0
none-reached size member =
    let none : List ℕ = replicate size 0 in
    elim (cases_Bool (nat_le size member)) [
      | inl t ↦ get_or_past none member 0 (omega (arith, length-replicate {A = ℕ} size 0, leb-true size member t))
      | inr f ↦ get_or-replicate size member 0 0 (leb-false size member f)
    ]

backed-begin : (members : List Addr) → IsBacked members [] (no_tally (length members))
backed-begin members = record {
  each = length-replicate (length members) 0;
  begun = λ some. absurd (omega (arith, some));
  reached = λ member index some within. absurd (omega (arith, some, within, none-reached (length members) member));
}

same-number : (n : ℕ) → (n == n) ≡ true
same-number n = grind arith

-- the term of an Order that is taken begins, where it is higher
backed-in_term : (members : List Addr) (events : List Event) (happens : Event) (t : Tally) (term leader term_start : ℕ) (higher : Bool) → nat_lt t.term term ≡ higher
    → IsBacked members (events ++ happens ∷ []) t → ((index : ℕ) → term_start ≤ index → shows_begun members term index happens ≡ true)
    → IsBacked members (events ++ happens ∷ []) (in_term t term leader term_start)
backed-in_term members events happens t term leader term_start true e is shown = rw e (
    record {
      each = length-replicate (length t.reached) 0 ∙ is.each;
      begun = λ some index own. any-last (shows_begun members term index) events happens (shown index own);
      reached = λ member index some within. absurd (omega (arith, some, within, none-reached (length t.reached) member));
    }
    )
backed-in_term members events happens t term leader term_start false e is shown = rw e is

-- a member reaches what it says
module _ (members : List Addr) (events : List Event) (happens : Event) (t : Tally) (member last : ℕ) (here : member < length members)
    (shown : (index : ℕ) → index ≤ last → shows_reached members t.term member index happens ≡ true) (is : IsBacked members (events ++ happens ∷ []) t) where
  own-reached : (index : ℕ) → 1 ≤ index → index ≤ max (reached_by t member) last → list_any (shows_reached members t.term member index) (events ++ happens ∷ []) ≡ true
  own-reached index some within =
      elim (cases_Bool (nat_le index last)) [
        | inl t' ↦ any-last (shows_reached members t.term member index) events happens (shown index (leb-true index last t'))
        | inr f ↦ is.reached member index some (omega (arith, within, leb-false index last f))
      ]

  other-reached : (other index : ℕ) (same : Bool) → (other == member) ≡ same → 1 ≤ index → index ≤ reached_by (with_reached t member last) other
      → list_any (shows_reached members t.term other index) (events ++ happens ∷ []) ≡ true
  other-reached other index true e some within =
      let is-member : other ≡ member = eqb-true other member e in
      let set = get_or-set_same t.reached member (max (reached_by t member) last) 0 (omega (arith, here, is.each)) in
      subst (λ n. list_any (shows_reached members t.term n index) (events ++ happens ∷ []) ≡ true) (sym is-member)
      (own-reached index some (subst (λ n. index ≤ n) (ap (λ n. reached_by (with_reached t member last) n) is-member ∙ set) within))
  other-reached other index false e some within =
      let not-member : other ≢ member = eqb-false other member e in
      is.reached other index some (subst (λ n. index ≤ n) (get_or-set_other t.reached member other (max (reached_by t member) last) 0 not-member) within)

  backed-with_reached : IsBacked members (events ++ happens ∷ []) (with_reached t member last)
  backed-with_reached = record {
    each = length-with_reached t member last ∙ is.each;
    begun = is.begun;
    reached = λ other index some within. other-reached other index (other == member) refl some within;
  }

backed-with_found : (members : List Addr) (events : List Event) (t : Tally) (o : Option ℕ) → IsBacked members events t → IsBacked members events (with_found t o)
backed-with_found members events t (Some index) is = record { each = is.each; begun = is.begun; reached = is.reached }
backed-with_found members events t None is = is

-- as many as reach an index are those of whom it was shown
count-shown : (q : ℕ → Bool) (index : ℕ) (xs : List ℕ) (a : ℕ) → ((i : ℕ) → i < length xs → index ≤ get_or xs i 0 → q (a + i) ≡ true)
    → reaching xs index ≤ count_by q (range_with_len a (length xs))
count-shown q index [] a shown = omega arith
count-shown q index (x ∷ xs) a shown =
    let rest = count-shown q index xs (a + 1) (λ i inside reaches. subst (λ n. q n ≡ true) (omega arith) (shown (suc i) (omega (arith, inside)) reaches)) in
    let left = sum_by-cons (λ n. cond (nat_le index n) 1 0) x xs in
    let right = sum_by-cons (λ n. cond (q n) 1 0) a (range_with_len (a + 1) (length xs)) in
    elim (cases_Bool (nat_le index x)) [
      | inl t ↦ (
          let first : q a ≡ true = subst (λ n. q n ≡ true) (omega arith) (shown 0 (omega arith) (leb-true index x t)) in
          omega (arith, rest, left ∙ ap (λ b. cond b 1 0 + reaching xs index) t, right ∙ ap (λ b. cond b 1 0 + count_by q (range_with_len (a + 1) (length xs))) first)
          )
      | inr f ↦ omega (arith, rest, left ∙ ap (λ b. cond b 1 0 + reaching xs index) f, right)
    ]

-- what is found in a tally that the events show is shown by them
found-shown : (members : List Addr) (events : List Event) (t : Tally) → 1 ≤ length members → 1 ≤ t.term → IsTally (length members) t → IsBacked members events t
    → (index : ℕ) → IsFound t index → IsShown members events t.term index
found-shown members events t some least tally is index here =
    let from : 1 ≤ index = omega (arith, tally.start least, here.own) in
    record {
      own = is.begun least index here.own;
      by_majority = subst (λ n. majority n ≤ count_by (λ member. list_any (shows_reached members t.term member index) events) (range_with_len 0 n)) is.each (
          omega (
            arith,
            found-majority t index (omega (arith, some, is.each)) here,
            count-shown (λ member. list_any (shows_reached members t.term member index) events) index t.reached 0
                (λ i inside reaches. subst (λ n. list_any (shows_reached members t.term n index) events ≡ true) (omega arith) (is.reached i index from reaches)),
          )
          );
    }

-- an Order that is taken shows that its term began, and that its leader has all that it orders
module _ (members : List Addr) (t : Tally) (d : Datagram) (term leader prev_index prev_term term_start commit : ℕ) (via : Bool) (entries : List Entry)
    (carries : message_in d.bytes ≡ Some (Order term leader prev_index prev_term term_start commit via entries)) (takes : TakesOrder members t d.from term leader via) where
  order-begun : (index : ℕ) → term_start ≤ index → shows_begun members term index (event.Datagram d) ≡ true
  order-begun index own = rw carries (rw (takes.via, takes.from, same-number term, le-leb term_start index own) refl)

  order-reached : (index : ℕ) → index ≤ prev_index + length entries → shows_reached members term leader index (event.Datagram d) ≡ true
  order-reached index within = rw carries (rw (takes.via, takes.from, same-number term, same-number leader, le-leb index (prev_index + length entries) within) refl)

  order-backed : (events : List Event) → IsBacked members events t
      → IsBacked members (events ++ event.Datagram d ∷ []) (with_reached (in_term t term leader term_start) leader (prev_index + length entries))
  order-backed events is =
      let begun = in_term t term leader term_start in
      let same = in-term t term leader term_start (nat_lt t.term term) refl takes.current in
      backed-with_reached members events (event.Datagram d) begun leader (prev_index + length entries) takes.member
      (λ index within. subst (λ n. shows_reached members n leader index (event.Datagram d) ≡ true) (sym same) (order-reached index within))
      (backed-in_term members events (event.Datagram d) t term leader term_start (nat_lt t.term term) refl (backed-more members events (event.Datagram d) t is) order-begun)

-- an Ack that is taken shows what its member reaches
module _ (members : List Addr) (t : Tally) (d : Datagram) (term member index applied : ℕ)
    (carries : message_in d.bytes ≡ Some (Ack term member index applied)) (takes : TakesAck members t d.from term member) where
  ack-reached : (least : ℕ) → least ≤ index → shows_reached members term member least (event.Datagram d) ≡ true
  ack-reached least within = rw carries (rw (takes.from, same-number term, same-number member, le-leb least index within) refl)

  ack-backed : (events : List Event) → IsBacked members events t → IsBacked members (events ++ event.Datagram d ∷ []) (with_reached t member index)
  ack-backed events is =
      backed-with_reached members events (event.Datagram d) t member index takes.member
      (λ least within. subst (λ n. shows_reached members n member least (event.Datagram d) ≡ true) takes.current (ack-reached least within))
      (backed-more members events (event.Datagram d) t is)

-- what a turn comes to is backed by the events up to it, and what it tells is shown by them
record IsRight (members : List Addr) (events : List Event) (o : Outcome) : Type 0 where
  backed : IsBacked members events o.tally
  shown : All (λ x. TellsShown members events x.message) o.tells

nothing-right : (members : List Addr) (events : List Event) (t : Tally) → IsBacked members events t → IsRight members events (record { tally = t; tells = [] })
nothing-right members events t is = record { backed = is; shown = All-nil (λ (x : Telling). TellsShown members events x.message) }

counts-right : (members : List Addr) (events : List Event) (first : List Telling) (t : Tally) → 1 ≤ length members → 1 ≤ t.term → IsTally (length members) t
    → IsBacked members events t → All (λ x. TellsShown members events x.message) first → IsRight members events (counts members first t)
counts-right members events first t some least tally is before = record {
  backed = backed-with_found members events t (found t) is;
  shown = each-told (λ x. TellsShown members events x.message) members first t before (λ index here member. found-shown members events t some least tally is index here);
}

turn-right : (members : List Addr) (events : List Event) (happens : Event) (t : Tally) → 1 ≤ length members → HasBytes happens → IsTally (length members) t → IsBacked members events t
    → IsRight members (events ++ happens ∷ []) (reacted members t happens)
unfolding hear_order hear_ack
turn-right members events happens t some are tally is =
    let all = events ++ happens ∷ [] in
    let none = nothing-right members all t (backed-more members events happens t is) in
    of-turn (IsRight members all) members t happens none (
    λ d m same carries. record {
      ignored = none;
      ordered = λ term leader prev_index prev_term term_start commit via entries order takes.
          let message = Order term leader prev_index prev_term term_start commit via entries in
          let last = prev_index + length entries in
          let next = with_reached (in_term t term leader term_start) leader last in
          let valid = subst IsValid order (carried-valid happens d m are same carries) in
          let term' = order-term members t d.from term leader term_start last via takes in
          counts-right members all (tell_each (remove members leader) message) next some (omega (arith, term', valid.0.own.least))
          (order-tally members t d.from term leader prev_index prev_term term_start commit via entries tally valid takes)
          (
          subst (λ (e : Event). IsBacked members (events ++ e ∷ []) next) (sym same)
          (order-backed members t d term leader prev_index prev_term term_start commit via entries (carries ∙ ap (λ (x : Msg). Some x) order) takes events is)
          )
          (each-telling (λ x. TellsShown members all x.message) (remove members leader) message (λ member. tt));
      acknowledged = λ term member index applied ack takes.
          let next = with_reached t member index in
          let valid = subst IsValid ack (carried-valid happens d m are same carries) in
          counts-right members all [] next some (omega (arith, takes.current, valid.0.least)) (tally_with_reached (length members) t member index takes.member valid.2 tally)
          (
          subst (λ (e : Event). IsBacked members (events ++ e ∷ []) next) (sym same)
          (ack-backed members t d term member index applied (carries ∙ ap (λ (x : Msg). Some x) ack) takes events is)
          )
          (All-nil (λ (x : Telling). TellsShown members all x.message));
    }
    )

-- over any events more, what is counted is a tally that all events show
after-all : (members : List Addr) (past events : List Event) (s : AggregatorState) → 1 ≤ length members → All HasBytes events → s.members ≡ members
    → IsTally (length members) s.tally → IsBacked members past s.tally
    → IsTally (length members) (turned_all s events).aggregator.tally × (IsBacked members (past ++ events) (turned_all s events).aggregator.tally × ((turned_all s events).aggregator.members ≡ members))
unfolding turned_all
after-all members past [] s some are same tally is = (tally, (subst (λ (l : List Event). IsBacked members l s.tally) (sym (append-nil past)) is, same))
after-all members past (happens ∷ events) s some are same tally is =
    let one = All-head HasBytes happens events are in
    let next : IsTally (length members) (turned s happens).tally = subst (λ (l : List Addr). IsTally (length members) (reacted l s.tally happens).tally) (sym same) (stays-tally members s.tally happens one tally) in
    let right : IsBacked members (past ++ happens ∷ []) (turned s happens).tally =
    subst (λ (l : List Addr). IsBacked members (past ++ happens ∷ []) (reacted l s.tally happens).tally) (sym same) (turn-right members past happens s.tally some one tally is).backed in
    let rest = after-all members (past ++ happens ∷ []) events (turned s happens) some (All-tail HasBytes happens events are) same next right in
    (rest.0, (subst (λ (l : List Event). IsBacked members l (turned_all (turned s happens) events).aggregator.tally) (append_assoc past (happens ∷ []) events) rest.1.0, rest.1.1))

pub commits_were_shown : CommitsWereShown
commits_were_shown me members events happens group are bytes =
    let begun = begin me members in
    let after = after-all members [] events begun group.some are refl (sound_begin me members group).tally (backed-begin members) in
    let t = (turned_all begun events).aggregator.tally in
    subst (λ (l : List Addr). All (λ x. TellsShown members (events ++ happens ∷ []) x.message) (reacted l t happens).tells) (sym after.1.1)
    (turn-right members events happens t group.some bytes after.0 after.1.0).shown
