-- A world that begins.
use Rattle.std.proofs.Common.{◌≡◌, ◌≢◌, ℕ, ◌+◌, ◌<◌, ◌≤◌, Bool, true, false, List, [], ◌∷◌, ◌++◌, length, map, get_or, replicate, Option, None, Some, refl, sym, ap, subst, ◌∙◌, arith, inl, inr, length-append}
use Rattle.std.specs.Prelude.{All, IfSome, option_map}
use Rattle.std.specs.List.{range_with_len}
use Rattle.std.proofs.lemmas.Bool.{cases_lt}
use Rattle.std.proofs.lemmas.List.{get_or_append_left, get_or-append-add, map-append, replicate-append-replicate}
use Rattle.std.proofs.lemmas.List.FromFn.{get_or-map-range_with_len, length-map-range_with_len}
use Rattle.r2_base.specs.declared.addr.Addr.{Addr}
use Rattle.r2_base.specs.Names.{FitsAddr}
use Rattle.hc_aggregate.specs.Tally.{no_tally}
use Rattle.hc_aggregate.specs.Turn.{AggregatorState, begin}
use Rattle.hc_replier.specs.Bounds.{AreBounds, most_members}
use Rattle.hc_run.specs.Group.{Group, IsGroup, setup_of}
use Rattle.hc_run.specs.State.{Replica, beginning, started}
use Rattle.hc_world.specs.declared.live.Live.{Live}
use Rattle.hc_world.specs.declared.seat.Seat.{Seat}
use Rattle.hc_world.specs.Addresses.{address_where, group_at, group_with, member_address}
use Rattle.hc_world.specs.Live.{AreNew, IsServed, ShowsWorld, group_of, seen_of, tally_of}
use Rattle.hc_world.specs.Notes.{answered_in, replies_in}
use Rattle.hc_world.specs.Runs.{ShowsRun}
use Rattle.hc_world.specs.Seat.{IsSeat, replica_of}
use Rattle.hc_world.specs.Seen.{Seen, seen}
use Rattle.hc_world.proofs.Either.{answered-length}
use Rattle.hc_world.proofs.Worlds.{seen-by}

-- no places
pub new-none : (g : Group) → AreNew g 0 []
new-none g = record { size = refl; each = λ v d inside. absurd (omega (arith, inside)); begun = refl }

-- one place more
pub new-more : (g : Group) (n : ℕ) (seats : List Seat) (seat : Seat) → AreNew g n seats → IsSeat (setup_of g n) seat → replica_of seat ≡ started [] → AreNew g (n + 1) (seats ++ seat ∷ [])
new-more g n seats seat are is begins =
    let size = are.size in
    let long = length-append seats (seat ∷ []) in
    record {
      size = omega (arith, size, long);
      each = λ v d inside.
          elim (cases_lt v n) [
            | inl before ↦
                subst (λ (x : Seat). IsSeat (setup_of g v) x) (sym (get_or_append_left seats (seat ∷ []) d v (omega (arith, before, size)))) (are.each v d before)
            | inr past ↦
                (let last : v ≡ n + 0 = omega (arith, inside, past) in
                let at : get_or (seats ++ seat ∷ []) v d ≡ seat =
                ap (λ (k : ℕ). get_or (seats ++ seat ∷ []) k d) (last ∙ ap (λ (k : ℕ). k + 0) (sym size)) ∙ get_or-append-add seats (seat ∷ []) 0 d in
                subst (λ (x : Seat). IsSeat (setup_of g v) x) (sym at) (subst (λ (k : ℕ). IsSeat (setup_of g k) seat) (omega (arith, last)) is))
          ];
      begun =
          map-append replica_of seats (seat ∷ []) ∙ ap (λ (rs : List Replica). rs ++ replica_of seat ∷ []) are.begun ∙ ap (λ (r : Replica). replicate n (started []) ++ r ∷ []) begins
          ∙ replicate-append-replicate n 1 (started []);
    }

-- The group --

member-get : (n k : ℕ) (d : Addr) → k < n → get_or (map member_address (range_with_len 0 n)) k d ≡ member_address k
member-get n k d inside = get_or-map-range_with_len member_address 0 n k k d inside (omega arith)

address-fits : (b : Bool) → IfSome (address_where b) FitsAddr
address-fits true = record { ip = omega arith; port = omega arith }
address-fits false = tt

apart : (n : ℕ) (b : Bool) → IfSome (address_where b) (λ a. All (λ member. member ≢ a) (map member_address (range_with_len 0 n)))
apart n true = λ k d inside.
    let long = length-map-range_with_len member_address 0 n in
    let is = member-get n k d (omega (arith, inside, long)) in
    λ same.
    (let port : 9000 ≡ 9100 = ap (λ (a : Addr). a.port) (sym is ∙ same) in
    absurd (omega (arith, port)))
apart n false = tt

pub group-is : (n : ℕ) (bounds : List ℕ) (b : Bool) → 1 ≤ n → n ≤ most_members → AreBounds bounds → length bounds ≡ n → IsGroup (group_with (map member_address (range_with_len 0 n)) (address_where b) bounds)
group-is n bounds b some few are each =
    let long = length-map-range_with_len member_address 0 n in
    record {
      some = omega (arith, long, some);
      few = omega (arith, long, few);
      fits = λ k d inside.
          (let here : k < n = omega (arith, inside, long) in
          subst FitsAddr (sym (member-get n k d here)) (record { ip = omega (arith, here, few); port = omega arith }));
      distinct = λ i j d before inside. λ same.
          (let there : j < n = omega (arith, inside, long) in
          let ip = ap (λ (a : Addr). a.ip) (sym (member-get n i d (omega (arith, before, there))) ∙ same ∙ member-get n j d there) in
          absurd (omega (arith, ip, before)));
      aggregator_fits = address-fits b;
      apart = apart n b;
      bounds = are;
      bound_each = each ∙ sym long;
      election_low = omega arith;
      election_high = omega arith;
    }

pub group-there : (n : ℕ) (bounds : List ℕ) (b : Bool) → 1 ≤ n → n ≤ most_members → AreBounds bounds → length bounds ≡ n → IsGroup (group_at n bounds b)
unfolding group_at
group-there n bounds b some few are each = group-is n bounds b some few are each

-- its parts as code has them
pub group-like : (n : ℕ) (members : List Addr) (address : Option Addr) (bounds : List ℕ) (b : Bool) → 1 ≤ n → n ≤ most_members → AreBounds bounds → length bounds ≡ n
    → members ≡ map member_address (range_with_len 0 n) → address ≡ address_where b → IsGroup (group_with members address bounds)
group-like n members address bounds b some few are each same at =
    subst (λ (ms : List Addr). IsGroup (group_with ms address bounds)) (sym same)
    (subst (λ (a : Option Addr). IsGroup (group_with (map member_address (range_with_len 0 n)) a bounds)) (sym at) (group-is n bounds b some few are each))

-- The world --

served-new : (members : List Addr) (address : Option Addr) (found : Option AggregatorState) → found ≡ option_map (λ me. begin me members) address → IsServed members address found
served-new members (Some me) (Some a) is =
    let same : a ≡ begin me members = (let e = is in cc) in
    (ap (λ (x : AggregatorState). x.me) same, ap (λ (x : AggregatorState). x.members) same)
served-new members (Some me) None is = absurd cc
served-new members None (Some a) is = absurd cc
served-new members None None is = tt

tally-new : (members : List Addr) (address : Option Addr) (found : Option AggregatorState) → found ≡ option_map (λ me. begin me members) address → tally_of (length members) found ≡ no_tally (length members)
tally-new members (Some me) found is = ap (tally_of (length members)) is
tally-new members None found is = ap (tally_of (length members)) is

pub new-shows : (l : Live) (n : ℕ) (bounds : List ℕ) (b : Bool) → IsGroup (group_of l) → l.members ≡ map member_address (range_with_len 0 n) → l.address ≡ address_where b → l.bounds ≡ bounds
    → AreNew (group_of l) (length l.members) l.seats.items → l.aggregator ≡ option_map (λ me. begin me l.members) l.address → l.datagrams.items ≡ [] → l.answered.items ≡ answered_in []
    → l.events ≡ 0 → l.requests ≡ 0 → l.replies ≡ 0 → l.passed ≡ 0 → l.crashes ≡ 0 → ShowsWorld (seen (group_at n bounds b) (beginning (group_at n bounds b))) l
unfolding seen_of seen group_at replies_in
new-shows l n bounds b is members address same are served datagrams answered events requests replies passed crashed =
    let group : group_of l ≡ group_with (map member_address (range_with_len 0 n)) (address_where b) bounds = by _ _ _ _ _ _ members address same in
    let size = ap (λ (xs : List Addr). length xs) members in
    record {
      is =
          record {
            group = is;
            each = are.size;
            seats = λ v d inside. (let long = are.size in are.each v d (omega (arith, inside, long)));
            served = served-new l.members l.address l.aggregator served;
            ids = ap (λ (xs : List Bool). length xs) answered ∙ answered-length [];
          };
      seen =
          seen-by _ _ _ _ _ _ _ _ _ _ _ _ _ _ _ _ _ _ _ _ group (are.begun ∙ ap (λ (k : ℕ). replicate k (started [])) size) (tally-new l.members l.address l.aggregator served ∙ ap no_tally size)
          datagrams answered events requests replies passed crashed;
    }
  where
    by : (m m' : List Addr) (a a' : Option Addr) (x x' : List ℕ) → m ≡ m' → a ≡ a' → x ≡ x' → group_with m a x ≡ group_with m' a' x'
    by m m' a a' x x' e f g = cc

-- the run of no events
pub shows-none : (g : Group) (world : Option Seen) → world ≡ Some (seen g (beginning g)) → ShowsRun g [] world
shows-none g world is = record { possible = record { possible = tt }; seen = is }
