-- The history of a router, and which requests are open at a server or wait by it.
use Rattle.std.specs.Prelude.{ℕ, ◌==◌, ◌&&◌, Bool, true, false, not, if◌then◌else◌, List, [], ◌∷◌}
use Rattle.std.specs.List.{list_any}
use Rattle.r2_base.specs.declared.rid.Rid.{Rid}
use Rattle.r2_base.specs.Names.{same_rid}

-- a request was accepted, with the packet that goes to a server; it went to a server; that server was done with it. A server
-- is named by its place in the router's list
pub data Mark : Type 0 where
  Accept : Rid → List ℕ → Mark
  Forward : Rid → ℕ → Mark
  Answer : Rid → ℕ → Mark

-- whether a mark says that this request was accepted
abbrev pub is_accept_of : Rid → Mark → Bool
is_accept_of rid (Accept other packet) = same_rid rid other
is_accept_of rid (Forward other server) = false
is_accept_of rid (Answer other server) = false

-- whether it says that this request was accepted, or went to some server
abbrev pub is_move_of : Rid → Mark → Bool
is_move_of rid (Accept other packet) = same_rid rid other
is_move_of rid (Forward other server) = same_rid rid other
is_move_of rid (Answer other server) = false

-- whether it says that this server was done with this request
abbrev pub is_answer_of : Rid → ℕ → Mark → Bool
is_answer_of rid server (Accept other packet) = false
is_answer_of rid server (Forward other to) = false
is_answer_of rid server (Answer other from) = same_rid rid other && (server == from)

-- the requests open at a server: those that went to it, with no answer from it afterwards, in order
unfoldable pub open_at : ℕ → List Mark → List Rid
open_at server [] = []
open_at server (Accept rid packet ∷ after) = open_at server after
open_at server (Forward rid to ∷ after) =
    if (server == to) && not (list_any (is_answer_of rid server) after) then rid ∷ open_at server after else open_at server after
open_at server (Answer rid from ∷ after) = open_at server after

-- the requests that wait: those that were accepted, and not forwarded since they were accepted last, in order
unfoldable pub waiting : List Mark → List Rid
waiting [] = []
waiting (Accept rid packet ∷ after) = if list_any (is_move_of rid) after then waiting after else rid ∷ waiting after
waiting (Forward rid to ∷ after) = waiting after
waiting (Answer rid from ∷ after) = waiting after

-- the packet with which a request was accepted last
unfoldable pub accepted_packet : List Mark → Rid → List ℕ
accepted_packet [] rid = []
accepted_packet (Accept other packet ∷ after) rid =
    if same_rid rid other && not (list_any (is_accept_of rid) after) then packet else accepted_packet after rid
accepted_packet (Forward other to ∷ after) rid = accepted_packet after rid
accepted_packet (Answer other from ∷ after) rid = accepted_packet after rid

-- the kinds of marks
abbrev pub is_accept : Mark → Bool
is_accept (Accept rid packet) = true
is_accept (Forward rid to) = false
is_accept (Answer rid from) = false

abbrev pub is_forward : Mark → Bool
is_forward (Accept rid packet) = false
is_forward (Forward rid to) = true
is_forward (Answer rid from) = false

abbrev pub is_answer : Mark → Bool
is_answer (Accept rid packet) = false
is_answer (Forward rid to) = false
is_answer (Answer rid from) = true
