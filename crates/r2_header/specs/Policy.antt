-- The policies by their numbers in a header.
use Rattle.std.specs.Prelude.{ℕ}

-- the client has chosen the server
abbrev pub fixed : ℕ
fixed = 0

-- the router chooses a server, by how many requests each has
abbrev pub jbsq : ℕ
jbsq = 1

-- each replica executes the request
abbrev pub replicated : ℕ
replicated = 2

-- one replica executes the request, which only reads
abbrev pub replicated_read : ℕ
replicated_read = 3
