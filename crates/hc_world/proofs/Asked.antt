-- The packets of a request.
use Rattle.std.proofs.Common.{◌≡◌, ℕ, ◌+◌, ◌<◌, ◌≤◌, true, List, [], ◌∷◌, ◌++◌, length, take, get_or, sym, ap, ◌∙◌, arith, append-nil}
use Rattle.std.specs.List.{flat_map}
use Rattle.std.proofs.lemmas.Grind.{flat_map-append}
use Rattle.std.proofs.lemmas.List.{take_all, take_more}
use Rattle.r2_base.specs.declared.addr.Addr.{Addr}
use Rattle.r2_base.specs.declared.datagram.Datagram.{Datagram}
use Rattle.r2_base.specs.declared.entry.Kind.{Kind}
use Rattle.r2_base.specs.declared.entry.Kind.TheVariants.{Blank, Write, Read}
use Rattle.r2_base.specs.Entry.{is_request}
use Rattle.r2_base.specs.Limits.{most_body}
use Rattle.r2_frag.specs.Parts.{IsSendable, parts_of}
use Rattle.hc_rules.specs.Message.{Request}
use Rattle.hc_run.specs.Group.{Group}
use Rattle.hc_run.specs.Steps.{request_parts, request_spec}
use Rattle.hc_world.specs.Events.{request_at}

-- a request's body may be sent in parts
pub sendable : (number : ℕ) (kind : Kind) (body : List ℕ) (to : Addr) → is_request kind ≡ true → length body ≤ most_body → IsSendable (request_spec (request_at number kind body) to) body
sendable number Blank body to asks short = absurd cc
sendable number Write body to asks short = record { limit = short; first = record { low = omega arith; high = omega arith }; later = λ more. record { low = omega arith; high = omega arith } }
sendable number Read body to asks short = record { limit = short; first = record { low = omega arith; high = omega arith }; later = λ more. record { low = omega arith; high = omega arith } }

-- the packets to some members
abbrev pub parts_to : Request → List Addr → List Datagram
parts_to q to = flat_map (λ x. parts_of (request_spec q x) q.body) to

pub parts-more : (q : Request) (members : List Addr) (i : ℕ) (x d : Addr) → i < length members → x ≡ get_or members i d
    → parts_to q (take (i + 1) members) ≡ parts_to q (take i members) ++ parts_of (request_spec q x) q.body
parts-more q members i x d inside at =
    let f : Addr → List Datagram = λ y. parts_of (request_spec q y) q.body in
    ap (flat_map f) (take_more members i d inside ∙ ap (λ (y : Addr). take i members ++ y ∷ []) (sym at)) ∙ flat_map-append f (take i members) (x ∷ [])
    ∙ ap (λ (ds : List Datagram). flat_map f (take i members) ++ ds) (append-nil (f x))

pub parts-all : (g : Group) (q : Request) (members : List Addr) (i : ℕ) (ds : List Datagram) → g.members ≡ members → length members ≤ i → ds ≡ parts_to q (take i members) → ds ≡ request_parts g q
unfolding request_parts
parts-all g q members i ds same past is = is ∙ ap (parts_to q) (take_all i members past) ∙ ap (parts_to q) (sym same)
