-- What a router holds at a moment: which requests are open at its servers, and which wait.
use Rattle.std.specs.Prelude.{◌≡◌, ℕ, ◌&&◌, ◌||◌, Bool, not, nat_le, nat_lt, List, [], ◌∷◌, ◌++◌, length, drop, replicate, map, position, slice_index_or, slice_set, Option, Some, None}
use Rattle.std.specs.List.{filter, list_all, list_any, range_with_len}
use Rattle.r2_base.specs.declared.rid.Rid.{Rid}
use Rattle.r2_jbsq.specs.declared.routed_request.RoutedRequest.{RoutedRequest}
use Rattle.r2_jbsq.specs.History.{Mark, open_at, accepted_packet, waiting}
use Rattle.r2_base.specs.Names.{same_rid}

-- the requests that are open, a row for each server, and those that wait, the oldest first
pub record Standing : Type 0 where
  pub rows : List (List RoutedRequest)
  pub queue : List RoutedRequest

-- the requests of these names, with their packets
abbrev pub requests_in : List Mark → List Rid → List RoutedRequest
requests_in history rids = map (λ rid. record { rid = rid; packet = accepted_packet history rid }) rids

-- what is open at so many servers and what waits by a history
unfoldable pub standing_in : ℕ → List Mark → Standing
standing_in servers history =
    record {
      rows = map (λ server. requests_in history (open_at server history)) (range_with_len 0 servers);
      queue = requests_in history (waiting history);
    }

-- whether this is the request of this name
abbrev pub is_for : Rid → RoutedRequest → Bool
is_for rid request = same_rid rid request.rid

-- whether a request of this name is among these
abbrev pub has : Rid → List RoutedRequest → Bool
has rid requests = list_any (is_for rid) requests

-- whether a request of this name is open at some server or waits
abbrev pub is_known : Rid → Standing → Bool
is_known rid s = list_any (has rid) s.rows || has rid s.queue

-- the requests that are open at a server
abbrev pub row_at : Standing → ℕ → List RoutedRequest
row_at s server = slice_index_or s.rows server []

-- these requests without that of this name
unfoldable pub without : Rid → List RoutedRequest → List RoutedRequest
without rid requests = filter (λ request. not (is_for rid request)) requests

-- whether a server holds fewer than n requests, and no more than any other does
abbrev pub is_freest : ℕ → List (List RoutedRequest) → List RoutedRequest → Bool
is_freest n rows row = nat_lt (length row) n && list_all (λ other. nat_le (length row) (length other)) rows

-- the server that a request goes to: the first of those that hold the fewest, where they hold fewer than n
unfoldable pub chosen : ℕ → List (List RoutedRequest) → Option ℕ
chosen n rows = position (is_freest n rows) rows

-- a server is done with a request
abbrev pub closed : Rid → ℕ → Standing → Standing
closed rid server s = record s { rows = slice_set s.rows server (without rid (row_at s server)) }

-- a request goes to a server
abbrev pub put : RoutedRequest → ℕ → Standing → Standing
put request server s = record s { rows = slice_set s.rows server (row_at s server ++ request ∷ []) }

-- a request waits
abbrev pub queued : RoutedRequest → Standing → Standing
queued request s = record s { queue = s.queue ++ request ∷ [] }

-- the first of those that wait
abbrev pub first_of : List RoutedRequest → Option RoutedRequest
first_of [] = None
first_of (request ∷ more) = Some request

-- the request that may go to a server now, and that server
abbrev pub next_by : Option RoutedRequest → Option ℕ → Option (RoutedRequest × ℕ)
next_by (Some request) (Some server) = Some (request, server)
next_by (Some request) None = None
next_by None server = None

unfoldable pub next : ℕ → Standing → Option (RoutedRequest × ℕ)
next n s = next_by (first_of s.queue) (chosen n s.rows)

-- a request beside a server
abbrev pub beside : ℕ → Option RoutedRequest → Option (RoutedRequest × ℕ)
beside server (Some request) = Some (request, server)
beside server None = None

-- the first of those that wait goes to a server
abbrev pub gone : Option RoutedRequest → ℕ → Standing → Standing
gone (Some request) server s = put request server (record s { queue = drop 1 s.queue })
gone None server s = s

abbrev pub first_gone : ℕ → Standing → Standing
first_gone server s = gone (first_of s.queue) server s

-- nothing is open at so many servers and nothing waits
abbrev pub nothing_open : ℕ → Standing
nothing_open servers = record { rows = replicate servers []; queue = [] }

-- these are the names of the requests that are open and wait
abbrev pub IsIndex : List Rid → List (List RoutedRequest) → List RoutedRequest → Type 0
IsIndex names rows queue =
    (rid : Rid) → list_any (same_rid rid) names ≡ is_known rid (record { rows = rows; queue = queue })
