-- The request that a log holds.
use Rattle.std.proofs.Common.{◌≡◌, ℕ, ◌+◌, ◌-◌, ◌<◌, ◌≤◌, Bool, true, false, zero, suc, List, [], ◌∷◌, length, get_or, Option, None, Some, refl, sym, ap, subst, ◌∙◌, arith}
use Rattle.std.specs.Prelude.{position, option_map, if◌then◌else◌, All}
use Rattle.std.specs.List.{find}
use Rattle.std.proofs.lemmas.Bool.{and_parts}
use Rattle.std.proofs.lemmas.List.Quantifiers.{position-Some}
use Rattle.r2_base.specs.declared.rid.Rid.{Rid}
use Rattle.r2_base.specs.Entry.{is_request}
use Rattle.r2_base.specs.Names.{same_rid}
use Rattle.r2_base.proofs.SameNames.{same_rid-true}
use Rattle.hc_log.specs.declared.stored.Stored.{Stored}
use Rattle.hc_log.specs.Log.{asks_as, blank_of, place_of, stands_in, stored_at}
use Rattle.hc_pool.specs.declared.request.Request.{Request}
use Rattle.hc_pool.specs.Pool.{request_of}
use Rattle.hc_message.specs.declared.msg.Msg.TheVariants.{RecoverBody}
use Rattle.hc_member.specs.declared.setup.Setup.{Setup}
use Rattle.hc_member.specs.Bodies.{body_given, give_body, held_request, ordered_request}
use Rattle.hc_member.specs.Sending.{Recover, IsSent}
use Rattle.hc_member.specs.Setup.{address_of}
use Rattle.hc_member.specs.Sound.{IsSound}
use Rattle.hc_member.proofs.BodyRows.{goes-give_body}
use Rattle.std.proofs.lemmas.List.Elements.{All-head}
use Rattle.hc_member.specs.Member.{Member}

-- the first element that passes is the one that is found
find-first : {X : Type 0} (p : X → Bool) (xs : List X) (i : ℕ) (d : X) → i < length xs → p (get_or xs i d) ≡ true
    → ((k : ℕ) → k < i → p (get_or xs k d) ≡ false) → find p xs ≡ Some (get_or xs i d)
find-first p [] i d inside is apart = absurd (omega (arith, inside))
find-first p (x ∷ xs) zero d inside is apart = rw is refl
find-first p (x ∷ xs) (suc i) d inside is apart =
    rw (apart 0 (omega arith)) (find-first p xs i d (omega (arith, inside)) is (λ k low. apart (suc k) (omega (arith, low))))

-- a request that is found at an index of the log
pub record IsHeld (rid : Rid) (log : List Stored) (index : ℕ) : Type 0 where
  pub low : 1 ≤ index
  pub high : index ≤ length log
  pub found : find (asks_as rid) log ≡ Some (stored_at log index)
  pub named : (stored_at log index).entry.rid ≡ rid

held-at : (rid : Rid) (log : List Stored) (before : ℕ) → position (asks_as rid) log ≡ Some before → IsHeld rid log (before + 1)
held-at rid log before e =
    let at = position-Some (asks_as rid) log before (blank_of 0) e in
    let same : before + 1 - 1 ≡ before = omega arith in
    let here : stored_at log (before + 1) ≡ get_or log before (blank_of 0) = ap (λ (k : ℕ). get_or log k (blank_of 0)) same in
    let stored = get_or log before (blank_of 0) in
    let asks = and_parts (is_request stored.entry.kind) (same_rid rid stored.entry.rid) at.1 in
    record {
      low = omega arith;
      high = omega (arith, at.0);
      found = find-first (asks_as rid) log before (blank_of 0) at.0 at.1 at.2 ∙ ap Some (sym here);
      named = ap (λ (s : Stored). s.entry.rid) here ∙ sym (same_rid-true rid stored.entry.rid asks.1);
    }

pub held : (rid : Rid) (log : List Stored) (index : ℕ) → place_of rid log ≡ Some index → IsHeld rid log index
unfolding place_of
held rid log index e = by (position (asks_as rid) log) refl e
  where
    by : (o : Option ℕ) → position (asks_as rid) log ≡ o → option_map (λ before. before + 1) o ≡ Some index → IsHeld rid log index
    by None at e = cc
    by (Some before) at e = subst (IsHeld rid log) (let same : before + 1 ≡ index = cc in same) (held-at rid log before at)

-- what a member has of a request that its log holds
pub held-request : (m : Member) (rid : Rid) (index : ℕ) → place_of rid m.log ≡ Some index → stands_in rid m.log ≡ true
    → held_request rid m ≡ Some (record { rid = rid; kind = (stored_at m.log index).entry.kind; body = (stored_at m.log index).body })
held-request m rid index e stands =
    let h = held rid m.log index e in
    let stored = stored_at m.log index in
    let build : Rid → Option Request = λ r. Some (record { rid = r; kind = stored.entry.kind; body = stored.body }) in
    let one : held_request rid m ≡ ordered_request (find (asks_as rid) m.log) =
    ap (λ (b : Bool). if b then ordered_request (find (asks_as rid) m.log) else request_of rid m.pool) stands in
    one ∙ ap ordered_request h.found ∙ ap build h.named

-- what is given of it may be sent
pub given-sent : (s : Setup) (m : Member) (member : ℕ) (rid : Rid) (r : Request) → IsSound s m → held_request rid m ≡ Some r
    → IsSent (Recover (address_of s member) rid (RecoverBody r.kind r.body))
unfolding give_body
given-sent s m member rid r sound e =
    let goes = goes-give_body s m member rid sound in
    let all : All IsSent (body_given s member rid (Some r)) = subst (λ (o : Option Request). All IsSent (body_given s member rid o)) e goes.sends in
    All-head IsSent (Recover (address_of s member) rid (RecoverBody r.kind r.body)) [] all
