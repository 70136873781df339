-- What a service is at a moment: what it keeps, and how many requests it has executed.
use Rattle.std.specs.Prelude.{ℕ, ◌+◌, ◌<◌, ◌^◌}
use Rattle.std.specs.Coded.{Coded, coded_list, coded_ℕ}
use Rattle.std.specs.FinMap as map
use Rattle.hc_store.specs.Service.{Contents}

-- the pairs, and how many requests to write and to read were counted
pub record State : Type 0 where
  pub contents : Contents
  pub writes : ℕ
  pub reads : ℕ

-- contents as a value that a model may have
abbrev pub contents_code : Coded Contents
contents_code = map.code (coded_list coded_ℕ) (coded_list coded_ℕ)

-- nothing is kept, and no request was counted
abbrev pub new_state : State
new_state = record { contents = map.empty; writes = 0; reads = 0 }

-- one request to write more, which left these contents
abbrev pub after_write : State → Contents → State
after_write s contents = record { contents = contents; writes = s.writes + 1; reads = s.reads }

-- one request to read more
abbrev pub after_admission : State → State
after_admission s = record { contents = s.contents; writes = s.writes; reads = s.reads + 1 }

-- fewer requests than this are executed, to write and to read
abbrev pub most_counted : ℕ
most_counted = 2 ^ 60

-- both counts are below a number
pub record IsCountedBelow (n : ℕ) (s : State) : Type 0 where
  pub writes : s.writes < n
  pub reads : s.reads < n
