-- The limits that a router keeps to.
use Rattle.std.specs.Prelude.{ℕ, ◌^◌}

-- the most servers that a router has
abbrev pub most_servers : ℕ
most_servers = 64

-- the greatest number of requests that each server may hold
abbrev pub greatest_n : ℕ
greatest_n = 16

-- the most requests that may wait
abbrev pub most_waiting : ℕ
most_waiting = 65536

-- how many turns a router can make
abbrev pub most_router_turns : ℕ
most_router_turns = 2 ^ 61
