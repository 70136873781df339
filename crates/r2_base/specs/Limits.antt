-- The limits that several crates keep to.
use Rattle.std.specs.Prelude.{ℕ, ◌^◌}

-- the greatest term and the greatest index
abbrev pub greatest_number : ℕ
greatest_number = 2 ^ 62

-- the greatest number of a member
abbrev pub greatest_member : ℕ
greatest_member = 6

-- the number in the place of the replier where there is no request
abbrev pub no_replier : ℕ
no_replier = 255

-- how many ids a client has for its requests, counted from 0
abbrev pub id_limit : ℕ
id_limit = 2 ^ 16

-- the greatest number of entries in an Order, in a record and in one turn
abbrev pub most_entries : ℕ
most_entries = 64

-- the greatest number of bytes of a request's body
abbrev pub most_body : ℕ
most_body = 61440

-- the greatest number of bytes of a reply's payload
abbrev pub most_reply : ℕ
most_reply = 65536

-- the greatest number of turns of one loop, and of bytes that are taken of a script
abbrev pub most_turns : ℕ
most_turns = 2 ^ 56
