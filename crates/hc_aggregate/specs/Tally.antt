-- What an aggregator counts of a term: how far the members come with the leader's log.
use Rattle.std.specs.Prelude.{ℕ, ◌&&◌, Bool, nat_le, nat_lt, if◌then◌else◌, max, List, length, replicate, slice_index_or, slice_set, Option, Some, None}
use Rattle.hc_order.specs.Counting.{counted}
use Rattle.hc_aggregate.specs.Group.{majority}

-- the term, which is 0 until an Order came; its leader, and the index of the leader's first entry of its own; by number of a member,
-- up to where it has the leader's log; and the greatest index that was found to be committed
pub record Tally : Type 0 where
  pub term : ℕ
  pub leader : ℕ
  pub term_start : ℕ
  pub reached : List ℕ
  pub committed : ℕ

-- a term of a group of this size, of which nothing was counted yet
abbrev pub begun : ℕ → ℕ → ℕ → ℕ → Tally
begun size term leader term_start =
    record { term = term; leader = leader; term_start = term_start; reached = replicate size 0; committed = 0 }

-- before any Order
abbrev pub no_tally : ℕ → Tally
no_tally size = begun size 0 0 0

-- the tally in which an Order is counted: that of its term begins with it, where the term is higher
abbrev pub in_term : Tally → ℕ → ℕ → ℕ → Tally
in_term t term leader term_start = if nat_lt t.term term then begun (length t.reached) term leader term_start else t

-- up to where a member has the leader's log
abbrev pub reached_by : Tally → ℕ → ℕ
reached_by t member = slice_index_or t.reached member 0

-- a member has the leader's log up to an index at least
abbrev pub with_reached : Tally → ℕ → ℕ → Tally
with_reached t member index = record t { reached = slice_set t.reached member (max (reached_by t member) index) }

-- the greatest index that a majority of the members reach
abbrev pub most_reached : Tally → ℕ
most_reached t = counted t.reached (majority (length t.reached))

-- whether that is committed (Raft, section 5.4.2: only by way of an entry of the term), and wasn't found before
abbrev pub is_news : Tally → ℕ → Bool
is_news t index = nat_le t.term_start index && nat_lt t.committed index

-- the index that is now found to be committed, if one is
unfoldable pub found : Tally → Option ℕ
found t = if is_news t (most_reached t) then Some (most_reached t) else None

-- and it is found
abbrev pub with_found : Tally → Option ℕ → Tally
with_found t (Some index) = record t { committed = index }
with_found t None = t
