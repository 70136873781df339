-- For each member, the entries that a leader gave it to answer and that it hasn't reported applied, and how many these may be.
use Rattle.std.specs.Prelude.{◌≡◌, ℕ, ◌<◌, ◌≤◌, ◌&&◌, ◌||◌, Bool, not, nat_le, nat_lt, List, [], ◌∷◌, ◌++◌, length, take, map, filter, position, slice_index_or, slice_set, Option, All, AllPairs}
use Rattle.std.specs.List.{list_all}
use Rattle.hc_replier.specs.Bounds.{most_bound, most_members}

-- what one member may have at most, and the indexes of the entries that it has
pub record Row : Type 0 where
  pub bound : ℕ
  pub given : List ℕ

-- a member that has nothing to answer
abbrev pub empty_row : ℕ → Row
empty_row bound = record { bound = bound; given = [] }

-- the row of a member; past the last one nothing is given, and nothing may be
abbrev pub row_at : List Row → ℕ → Row
row_at queues member = slice_index_or queues member (empty_row 0)

-- how many entries a member has that it hasn't reported applied
abbrev pub unreported : List Row → ℕ → ℕ
unreported queues member = length (row_at queues member).given

-- a member is below its bound, so that it may get a further entry
abbrev pub HasPlace : Row → Type 0
HasPlace row = length row.given < row.bound

abbrev pub has_place : Row → Bool
has_place row = nat_lt (length row.given) row.bound

-- a row for each bound, with nothing given
abbrev pub new_queues : List ℕ → List Row
new_queues bounds = map empty_row bounds

-- whether a member may get a further entry, and no other that may has fewer
abbrev pub is_freest : List Row → Row → Bool
is_freest queues row =
    has_place row && list_all (λ other. not (has_place other) || nat_le (length row.given) (length other.given)) queues

-- the member that answers the next request: the first of those
unfoldable pub choose : List Row → Option ℕ
choose queues = position (is_freest queues) queues

-- an entry more
abbrev pub with_given : Row → ℕ → Row
with_given row index = record row { given = row.given ++ index ∷ [] }

-- the entries up to an index are done with
abbrev pub with_reported : Row → ℕ → Row
with_reported row applied = record row { given = filter (λ index. nat_lt applied index) row.given }

-- the entry at an index is given to a member
abbrev pub assign : List Row → ℕ → ℕ → List Row
assign queues member index = slice_set queues member (with_given (row_at queues member) index)

-- a member reports that it applied every entry up to an index
abbrev pub report : List Row → ℕ → ℕ → List Row
report queues member applied = slice_set queues member (with_reported (row_at queues member) applied)

-- a row that a member may have: it has no more than it may, in the order in which it was given
pub record IsRow (row : Row) : Type 0 where
  pub fits : row.bound ≤ most_bound
  pub within : length row.given ≤ row.bound
  pub rising : AllPairs (λ a b. a < b) row.given

-- the queues that a leader may have
pub record AreQueues (queues : List Row) : Type 0 where
  pub few : length queues ≤ most_members
  pub each : All IsRow queues

-- the member that is to answer: it is below its bound, no other that is below its own has fewer, and each of those before it has
-- more
pub record IsChosen (queues : List Row) (member : ℕ) : Type 0 where
  pub is_member : member < length queues
  pub below : HasPlace (row_at queues member)
  pub fewest : All (λ other. HasPlace other → unreported queues member ≤ length other.given) queues
  pub first : All (λ other. HasPlace other → unreported queues member < length other.given) (take member queues)

-- each member has as many entries as it may
abbrev pub AreFull : List Row → Type 0
AreFull queues = All (λ row. length row.given ≡ row.bound) queues
