-- What a log with room for a request may take.
use Rattle.std.proofs.Common.{◌≡◌, ℕ, ◌+◌, ◌<◌, ◌≤◌, List, [], ◌∷◌, ◌++◌, length, arith}
use Rattle.std.specs.Prelude.{nat_lt, nat_le, true, ◌&&◌}
use Rattle.std.proofs.lemmas.Bool.{and_parts, ltb-true, leb-true}
use Rattle.std.proofs.lemmas.List.{length_push}
use Rattle.r2_base.specs.Limits.{greatest_number}
use Rattle.r2_base.specs.Entry.{is_request}
use Rattle.hc_log.specs.declared.stored.Stored.{Stored}
use Rattle.hc_log.specs.Ranges.{most_body_bytes, most_requests}
use Rattle.hc_log.specs.Log.{has_room, requests_of, body_bytes_of, IsWithinLimits}
use Rattle.hc_log.specs.Laws.{RequestsWithRoomFollow}
use Rattle.hc_log.proofs.Counting.{requests_of_more, body_bytes_of_more}

-- what a log has that may take a request with this body
pub record HasRoom (log : List Stored) (body : List ℕ) : Type 0 where
  pub entries : length log < greatest_number
  pub requests : requests_of log < most_requests
  pub body_bytes : body_bytes_of log + length body ≤ most_body_bytes

pub has_room-parts : (log : List Stored) (body : List ℕ) → has_room log body ≡ true → HasRoom log body
unfolding has_room
has_room-parts log body e =
    let outer = and_parts (nat_lt (length log) greatest_number && nat_lt (requests_of log) most_requests) (nat_le (body_bytes_of log + length body) most_body_bytes) e in
    let inner = and_parts (nat_lt (length log) greatest_number) (nat_lt (requests_of log) most_requests) outer.0 in
    record {
      entries = ltb-true (length log) greatest_number inner.0;
      requests = ltb-true (requests_of log) most_requests inner.1;
      body_bytes = leb-true (body_bytes_of log + length body) most_body_bytes outer.1;
    }

-- with one request more a log with room is within the limits
within_with_one : (log : List Stored) (s : Stored) → is_request s.entry.kind ≡ true → HasRoom log s.body → IsWithinLimits (log ++ s ∷ [])
within_with_one log s asks room =
    let counted : requests_of (log ++ s ∷ []) ≡ requests_of log + 1 = rw asks at (requests_of_more log s) in
    record {
      entries = omega (arith, length_push log s, room.entries);
      requests = omega (arith, counted, room.requests);
      body_bytes = omega (arith, body_bytes_of_more log s, room.body_bytes);
    }

pub requests_with_room_follow : RequestsWithRoomFollow
requests_with_room_follow log s stored asks term new room =
    record {
      stored = stored;
      term = term;
      is_new = λ _. new;
      limits = within_with_one log s asks (has_room-parts log s.body room);
    }
