-- Histories after any events.
use Rattle.std.proofs.Common.{◌≡◌, ◌<◌, ℕ, true, false, List, [], ◌∷◌, ◌++◌, length, refl, sym, subst, ap, ◌∙◌, arith}
use Rattle.std.specs.Prelude.{map, replicate, sum, sum_by}
use Rattle.std.specs.List.{list_any, range_with_len}
use Rattle.std.proofs.lemmas.List.{get_or-replicate, length-map, length-replicate}
use Rattle.std.proofs.lemmas.List.Sums.{sum_by-cons}
use Rattle.r2_base.specs.declared.event.Event.{Event}
use Rattle.r2_base.specs.declared.rid.Rid.{Rid}
use Rattle.r2_jbsq.specs.declared.routed_request.RoutedRequest.{RoutedRequest}
use Rattle.r2_jbsq.specs.declared.router_setup.RouterSetup.{RouterSetup}
use Rattle.r2_jbsq.specs.Answer.{history_after, marks, standing_of}
use Rattle.r2_jbsq.specs.History.{Answer, Mark, open_at, accepted_packet, waiting}
use Rattle.r2_jbsq.specs.Laws.{AddsUp, AnsweredRequestsAreNew, CountsAddUp, HoldsAtMost, RequestsWaitOnlyWhileAllAreFull, ServersHoldAtMostN, WaitsOnlyWhileFull, open_among}
use Rattle.r2_base.specs.Names.{same_rid}
use Rattle.r2_jbsq.specs.Standing.{Standing, closed, has, is_known, requests_in, row_at, standing_in}
use Rattle.r2_jbsq.specs.State.{IsSound, RouterState, StandsFor, begin, held_in, turned}
use Rattle.r2_jbsq.proofs.Histories.{answer-mark, has-requests, queue-in, row-in, standing-is}
use Rattle.r2_jbsq.proofs.Index.{known-closed}
use Rattle.r2_base.proofs.SameNames.{same_rid-same}
use Rattle.r2_jbsq.proofs.Sound.{begin-sound, turned-sound}
use Rattle.r2_jbsq.proofs.Steps.{turned-setup, turned-stands}

-- a new router stands for the empty history
pub begin-stands : (setup : RouterSetup) → StandsFor (begin setup) []
unfolding open_at waiting
begin-stands setup =
    record {
      standing =
          sym (standing-is (length setup.servers) [] (replicate (length setup.servers) []) [] (length-replicate (length setup.servers) [])
          (λ k h. get_or-replicate (length setup.servers) k [] [] h) refl);
      accepted = refl;
      forwarded = refl;
      answered = refl;
    }

-- some sound router stands for the history
record Reached (setup : RouterSetup) (history : List Mark) : Type 0 where
  router : RouterState
  same : router.setup ≡ setup
  stands : StandsFor router history
  sound : IsSound router

one-more : (setup : RouterSetup) (history : List Mark) (event : Event) → Reached setup history → Reached setup (history ++ marks setup history event)
one-more setup history event k =
    record {
      router = turned k.router event;
      same = turned-setup k.router event ∙ k.same;
      stands = subst (λ (s : RouterSetup). StandsFor (turned k.router event) (history ++ marks s history event)) k.same (turned-stands k.router history event k.stands);
      sound = turned-sound k.router event k.sound;
    }

all-more : (setup : RouterSetup) (history : List Mark) (events : List Event) → Reached setup history → Reached setup (history_after setup history events)
unfolding history_after
all-more setup history [] k = k
all-more setup history (event ∷ more) k = all-more setup (history ++ marks setup history event) more (one-more setup history event k)

reached : (setup : RouterSetup) (events : List Event) → Reached setup (history_after setup [] events)
reached setup events =
    all-more setup [] events (record { router = begin setup; same = refl; stands = begin-stands setup; sound = begin-sound setup })

-- the sum over all servers
abbrev request_in : List Mark → Rid → RoutedRequest
request_in history rid = record { rid = rid; packet = accepted_packet history rid }

sums : (rows : ℕ → List RoutedRequest) (numbers : ℕ → ℕ) → ((server : ℕ) → length (rows server) ≡ numbers server) → (servers : List ℕ)
    → sum_by length (map rows servers) ≡ sum (map numbers servers)
sums rows numbers same [] = refl
sums rows numbers same (server ∷ more) =
    rw (sum_by-cons length (rows server) (map rows more), sum_by-cons (λ (n : ℕ). n) (numbers server) (map numbers more), same server, sums rows numbers same more) refl

held-in : (servers : ℕ) (history : List Mark) → held_in (standing_in servers history) ≡ open_among servers history
unfolding standing_in
held-in servers history =
    sums (λ server. requests_in history (open_at server history)) (λ server. length (open_at server history))
    (λ server. length-map (open_at server history) (λ (rid : Rid). request_in history rid)) (range_with_len 0 servers)

-- the numbers of a history are those of its router
module _ (setup : RouterSetup) (history : List Mark) (k : Reached setup history) where
  is : k.router.standing ≡ standing_of setup history
  is = k.stands.standing ∙ ap (λ (s : RouterSetup). standing_of s history) k.same

  open-length : (server : ℕ) → server < length setup.servers → length (row_at k.router.standing server) ≡ length (open_at server history)
  open-length server inside =
      ap (λ (s : Standing). length (row_at s server)) is
      ∙ (ap length (row-in (length setup.servers) history server inside) ∙ length-map (open_at server history) (λ (rid : Rid). request_in history rid))

  waiting-length : length k.router.standing.queue ≡ length (waiting history)
  waiting-length =
      ap (λ (s : Standing). length s.queue) is
      ∙ (ap length (queue-in (length setup.servers) history) ∙ length-map (waiting history) (λ (rid : Rid). request_in history rid))

  has-row : (server : ℕ) → server < length setup.servers → server < length k.router.standing.rows
  has-row server inside = omega (arith, inside, k.sound.rows, ap (λ (s : RouterSetup). length s.servers) k.same)

  holds : HoldsAtMost setup.n (length setup.servers) history
  holds server inside =
      omega (arith, k.sound.within server [] (has-row server inside), open-length server inside, ap (λ (s : RouterSetup). s.n) k.same)

  waits : WaitsOnlyWhileFull setup.n (length setup.servers) history
  waits some server inside =
      let full : length (row_at k.router.standing server) ≡ k.router.setup.n = k.sound.full (omega (arith, some, waiting-length)) server [] (has-row server inside) in
      sym (open-length server inside) ∙ (full ∙ ap (λ (s : RouterSetup). s.n) k.same)

  held : held_in k.router.standing ≡ open_among (length setup.servers) history
  held = ap held_in is ∙ held-in (length setup.servers) history

  adds : AddsUp (length setup.servers) history
  adds =
      record {
        accepted = omega (arith, k.stands.accepted, k.stands.answered, k.sound.accepted, held, waiting-length);
        forwarded = omega (arith, k.stands.forwarded, k.stands.answered, k.sound.forwarded, held);
      }

  answered : (rid : Rid) (server : ℕ) → server < length setup.servers → list_any (same_rid rid) (open_at server history) ≡ true
      → is_known rid (standing_of setup (history ++ Answer rid server ∷ [])) ≡ false
  answered rid server inside is_open =
      let here : has rid (row_at k.router.standing server) ≡ true =
      ap (λ (s : Standing). has rid (row_at s server)) is
      ∙ (ap (has rid) (row-in (length setup.servers) history server inside) ∙ (has-requests rid history (open_at server history) ∙ is_open)) in
      ap (is_known rid) (answer-mark (length setup.servers) history rid server inside)
      ∙ (ap (λ (s : Standing). is_known rid (closed rid server s)) (sym is)
      ∙ (known-closed rid rid server k.router.standing k.sound.once (has-row server inside) here ∙ rw (same_rid-same rid) refl))

pub hold-most : ServersHoldAtMostN
hold-most setup events = holds setup (history_after setup [] events) (reached setup events)

pub wait-full : RequestsWaitOnlyWhileAllAreFull
wait-full setup events = waits setup (history_after setup [] events) (reached setup events)

pub add-up : CountsAddUp
add-up setup events = adds setup (history_after setup [] events) (reached setup events)

pub answered-new : AnsweredRequestsAreNew
answered-new setup events rid server inside is_open =
    answered setup (history_after setup [] events) (reached setup events) rid server inside is_open
