-- The definitions at work: keys of messages between a client and two servers, and a body of 1,025 bytes.
use Rattle.std.specs.Prelude.{◌≡◌, ℕ, true, false, List, [], ◌∷◌, ◌++◌, replicate}
use Rattle.r2_base.specs.declared.addr.Addr.{Addr}
use Rattle.r2_frag.specs.declared.added.Added.{Added}
use Rattle.r2_frag.specs.declared.added.Added.TheVariants.{More, Whole, Repeat}
use Rattle.r2_frag.specs.declared.class.Class.{Class}
use Rattle.r2_frag.specs.declared.class.Class.TheVariants.{Request, Reply, Recover}
use Rattle.r2_frag.specs.declared.key.Key.{Key}
use Rattle.r2_frag.specs.declared.part_spec.PartSpec.{PartSpec}
use Rattle.r2_frag.specs.Bodies.{IsPartOf}
use Rattle.r2_frag.specs.Histories.{ArePartsOf, Part, Operation, Adds, answer_after, parts_under}
use Rattle.r2_frag.specs.Laws.{FitsHeaders, IsKeyBetween}
use Rattle.r2_frag.specs.Parts.{IsSendable, part_header}

abbrev pub client : Addr
client = record { ip = 0x0A000009; port = 7001 }

abbrev pub server : Addr
server = record { ip = 0x0A000001; port = 9000 }

abbrev pub other_server : Addr
other_server = record { ip = 0x0A000002; port = 9000 }

-- the client's request 5, under REPLICATED, in a message of this class from this address
abbrev pub key_from : Class → Addr → Key
key_from class from = record { class = class; policy = 2; from = from; rid = record { id = 5; client = client } }

-- the request as the client sends it, as a server passes it on, its reply, and its body between servers
abbrev pub request : PartSpec
request = record { key = key_from Request client; from = client; to = server; extended = false }

abbrev pub request_passed_on : PartSpec
request_passed_on = record { key = key_from Request client; from = server; to = other_server; extended = true }

abbrev pub reply : PartSpec
reply = record { key = key_from Reply server; from = server; to = client; extended = false }

abbrev pub recover : PartSpec
recover = record { key = key_from Recover server; from = server; to = other_server; extended = true }

-- a body of 1,025 bytes
abbrev pub body : List ℕ
body = replicate 1024 0 ++ 1 ∷ []

-- what the laws on the datagrams of a body ask for
pub record IsUsual (spec : PartSpec) : Type 0 where
  pub key : IsKeyBetween spec
  pub fits : FitsHeaders spec
  pub sendable : IsSendable spec body

-- and they ask for no more than usual messages meet
pub record WorkedKeys : Type 0 where
  pub request : IsUsual request
  pub request_passed_on : IsUsual request_passed_on
  pub reply : IsUsual reply
  pub recover : IsUsual recover

-- the first part of the body, and the second
abbrev pub first_part : Part
first_part = (part_header request 2 0, replicate 1024 0)

abbrev pub second_part : Part
second_part = (part_header request 2 1, 1 ∷ [])

-- another body of as many bytes, and its second part
abbrev pub other_body : List ℕ
other_body = replicate 1024 0 ++ 2 ∷ []

abbrev pub second_of_another : Part
second_of_another = (part_header request 2 1, 2 ∷ [])

abbrev pub adds : Part → Operation
adds part = Adds request.key part.0 part.1

abbrev pub answer_to : Part → List Operation → Added
answer_to part earlier = answer_after earlier request.key part.0 part.1

-- the second part comes twice, and then the first: the answers are More, Repeat and the body; and the key begins anew, with a
-- part of the other body
pub record WorkedParts : Type 0 where
  pub first_is_part : IsPartOf body first_part.0 first_part.1
  pub second_is_part : IsPartOf body second_part.0 second_part.1
  pub more : answer_to second_part [] ≡ More
  pub repeat : answer_to second_part (adds second_part ∷ []) ≡ Repeat
  pub taken : parts_under request.key (adds second_part ∷ adds second_part ∷ []) ≡ second_part ∷ []
  pub taken_are_parts : ArePartsOf body (parts_under request.key (adds second_part ∷ adds second_part ∷ []))
  pub whole : answer_to first_part (adds second_part ∷ adds second_part ∷ []) ≡ Whole body
  pub begun : parts_under request.key (adds first_part ∷ adds second_part ∷ adds second_part ∷ []) ≡ []
  pub another_is_part : IsPartOf other_body second_of_another.0 second_of_another.1
  pub anew : answer_to second_of_another (adds first_part ∷ adds second_part ∷ adds second_part ∷ []) ≡ More
