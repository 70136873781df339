-- Adding a part keeps messages short, and a whole body has no more bytes than its class allows.
use Rattle.std.proofs.Common.{◌≡◌, ◌≤◌, ◌<◌, ◌+◌, ◌*◌, ℕ, zero, suc, Bool, true, false, cond, not, if◌then◌else◌, List, [], ◌∷◌, ◌++◌, length, unwrap_or, Option, Some, None, is_some, refl, sym, ap, subst, length-append, arith}
use Rattle.std.specs.Prelude.{IfSome, nat_lt, nat_le, ◌==◌}
use Rattle.std.specs.List.{All, find}
use Rattle.std.proofs.lemmas.Bool.{leb-true}
use Rattle.std.proofs.lemmas.List.Elements.{All-cons, All-head, All-push, All-replicate, All-set, All-tail}
use Rattle.r2_base.specs.declared.addr.Addr.{Addr}
use Rattle.r2_header.specs.declared.header.Header.{Header}
use Rattle.r2_header.specs.declared.packet.Packet.{Packet}
use Rattle.r2_header.specs.declared.packet.Packet.TheVariants as packet
use Rattle.r2_header.specs.Header.{IsValid, Spells}
use Rattle.r2_header.specs.Span.{IsWithin}
use Rattle.r2_header.specs.Table.{first_counts, later_numbers, numbers}
use Rattle.r2_frag.specs.declared.added.Added.{Added}
use Rattle.r2_frag.specs.declared.added.Added.TheVariants.{More, Whole, Repeat, Bad, Dropped}
use Rattle.r2_frag.specs.declared.added.Why.TheVariants.{Length, Count}
use Rattle.r2_frag.specs.declared.class.Class.{Class}
use Rattle.r2_frag.specs.declared.class.Class.TheVariants.{Request, Reply, Recover}
use Rattle.r2_frag.specs.declared.key.Key.{Key}
use Rattle.r2_frag.specs.declared.part_count.PartCount.{PartCount}
use Rattle.r2_frag.specs.declared.part_count.PartCount.TheVariants.{Exactly, AtLeast}
use Rattle.r2_frag.specs.declared.unfinished.Unfinished.{Unfinished}
use Rattle.r2_frag.specs.Assembly.{added, added_to, begin, begun, both_counts, contradicts, count_said, is_begun, is_of, whole_body, has_all, finish_or, go_on, refusal, unless_refused, joined, least_count, length_fits, message_under, most_unfinished, number_of, piece_at, put, settle, with_part, without}
use Rattle.r2_frag.specs.Keys.{class_of, key_at, key_between, same_class, same_key}
use Rattle.r2_frag.specs.Sizes.{IsBodyWithin, IsCountWithin, IsShort, IsShortPiece, greatest_count, most_bytes}

-- what holds of each branch holds of the choice
branch : {X : Type 0} (P : X → Type 0) (b : Bool) (x y : X) → (b ≡ true → P x) → (b ≡ false → P y) → P (if b then x else y)
branch P true x y left right = left refl
branch P false x y left right = right refl

-- the first counts and the later numbers that the packets of a class have
packet-counts : (p : Packet) (class : Class) → class_of p ≡ Some class
    → ((first_counts p).most ≤ greatest_count class) × ((later_numbers p).most < greatest_count class)
packet-counts packet.Req0 Request e = (omega arith, omega arith)
packet-counts packet.Req0 Reply e = cc
packet-counts packet.Req0 Recover e = cc
packet-counts packet.ReqN Request e = (omega arith, omega arith)
packet-counts packet.ReqN Reply e = cc
packet-counts packet.ReqN Recover e = cc
packet-counts packet.Reply Request e = cc
packet-counts packet.Reply Reply e = (omega arith, omega arith)
packet-counts packet.Reply Recover e = cc
packet-counts packet.Recover Request e = cc
packet-counts packet.Recover Reply e = cc
packet-counts packet.Recover Recover e = (omega arith, omega arith)
packet-counts packet.ReqRdy class e = cc
packet-counts packet.Feedback class e = cc
packet-counts packet.Reject class e = cc
packet-counts packet.Ordering class e = cc

-- what a part says of the count
said-within : (p : Packet) (class : Class) (first last : Bool) (number : ℕ) → class_of p ≡ Some class → IsWithin (numbers p first) number
    → IsCountWithin class (if first then Exactly number else (if last then Exactly (number + 1) else AtLeast (number + 2)))
said-within p class true last number e within = let counts = packet-counts p class e in omega (arith, counts.0, within.high)
said-within p class false true number e within = let counts = packet-counts p class e in omega (arith, counts.1, within.high)
said-within p class false false number e within = let counts = packet-counts p class e in omega (arith, counts.1, within.high)

count_said-within : (h : Header) (class : Class) → IsValid h → class_of h.packet ≡ Some class → IsCountWithin class (count_said h)
count_said-within h class valid e = said-within h.packet class h.first h.last h.number e valid.number

-- what two parts say together
both_counts-within : (class : Class) (kept said : PartCount) → IsCountWithin class kept → IsCountWithin class said → IsCountWithin class (both_counts kept said)
both_counts-within class (Exactly a) said k s = k
both_counts-within class (AtLeast a) (Exactly b) k s = s
both_counts-within class (AtLeast a) (AtLeast b) k s = omega (arith, k, s)

-- a payload of a fitting length
payload-short : (last : Bool) (payload : List ℕ) → (if last then nat_le (length payload) 1024 else length payload == 1024) ≡ true → length payload ≤ 1024
payload-short true payload e = leb-true (length payload) 1024 e
payload-short false payload e = grind (arith, e)

piece_at-short : (n : ℕ) (pieces : List (Option (List ℕ))) → All IsShortPiece pieces → IsShortPiece (piece_at n pieces)
piece_at-short zero [] all = tt
piece_at-short (suc n) [] all = tt
piece_at-short zero (p ∷ rest) all = All-head IsShortPiece p rest all
piece_at-short (suc n) (p ∷ rest) all = piece_at-short n rest (All-tail IsShortPiece p rest all)

kept-short : (piece : Option (List ℕ)) → IsShortPiece piece → length (unwrap_or piece []) ≤ 1024
kept-short None short = omega arith
kept-short (Some bytes) short = short

-- so many short pieces, joined
joined-short : (n : ℕ) (pieces : List (Option (List ℕ))) → All IsShortPiece pieces → length (joined n pieces) ≤ n * 1024
unfolding joined
joined-short zero pieces all = omega arith
joined-short (suc n) pieces all =
    let long = length-append (joined n pieces) (unwrap_or (piece_at n pieces) []) in
    let front = joined-short n pieces all in
    let last = kept-short (piece_at n pieces) (piece_at-short n pieces all) in
    omega (arith, long, front, last)

begun-short : (key : Key) → IsShort (begun key)
unfolding begun
begun-short key = record { pieces = All-replicate IsShortPiece 64 None tt; count = omega arith }

with_part-short : (m : Unfinished) (h : Header) (payload : List ℕ) → IsShort m → IsCountWithin m.key.class (count_said h) → length payload ≤ 1024
    → IsShort (with_part m h payload)
unfolding with_part
with_part-short m h payload short said long =
    record {
      pieces = All-set IsShortPiece m.pieces (number_of h) (Some payload) long short.pieces;
      count = both_counts-within m.key.class m.count (count_said h) short.count said;
    }

-- a message that is given up leaves the others short
pub without-short : (key : Key) (messages : List Unfinished) → All IsShort messages → All IsShort (without key messages)
unfolding without
without-short key [] all = all
without-short key (m ∷ rest) all =
    let behind = All-tail IsShort m rest all in
    branch (All IsShort) (is_of key m) rest (m ∷ without key rest)
    (λ e. behind) (λ e. All-cons IsShort m (without key rest) (All-head IsShort m rest all) (without-short key rest behind))

put-short : (next : Unfinished) (messages : List Unfinished) → IsShort next → All IsShort messages → All IsShort (put next messages)
unfolding put
put-short next [] short all = all
put-short next (m ∷ rest) short all =
    let behind = All-tail IsShort m rest all in
    branch (All IsShort) (is_of next.key m) (next ∷ rest) (m ∷ put next rest)
    (λ e. All-cons IsShort next rest short behind)
    (λ e. All-cons IsShort m (put next rest) (All-head IsShort m rest all) (put-short next rest short behind))

same_class-true : (a b : Class) → same_class a b ≡ true → a ≡ b
same_class-true Request Request e = refl
same_class-true Request Reply e = cc
same_class-true Request Recover e = cc
same_class-true Reply Request e = cc
same_class-true Reply Reply e = refl
same_class-true Reply Recover e = cc
same_class-true Recover Request e = cc
same_class-true Recover Reply e = cc
same_class-true Recover Recover e = refl

same_key-class : (a b : Key) → same_key a b ≡ true → a.class ≡ b.class
unfolding same_key
same_key-class a b e = same_class-true a.class b.class (grind (arith, e))

-- a short message of this class
record IsShortOf (class : Class) (m : Unfinished) : Type 0 where
  pub short : IsShort m
  pub same : m.key.class ≡ class

found-here : (P : Unfinished → Type 0) (b : Bool) (m other : Unfinished) (rest : Option Unfinished) → (b ≡ true → P m) → P (unwrap_or rest other)
    → P (unwrap_or (cond b (Some m) rest) other)
found-here P true m other rest here behind = here refl
found-here P false m other rest here behind = behind

found-short : (key : Key) (other : Unfinished) (messages : List Unfinished) → IsShortOf key.class other → All IsShort messages
    → IsShortOf key.class (unwrap_or (find (is_of key) messages) other)
found-short key other [] new all = new
found-short key other (m ∷ rest) new all =
    found-here (IsShortOf key.class) (is_of key m) m other (find (is_of key) rest)
    (λ e. record { short = All-head IsShort m rest all; same = same_key-class m.key key e })
    (found-short key other rest new (All-tail IsShort m rest all))

-- the message that a part is added to
message_under-short : (key : Key) (messages : List Unfinished) → All IsShort messages → IsShortOf key.class (message_under key messages)
unfolding message_under begun
message_under-short key messages all = found-short key (begun key) messages (record { short = begun-short key; same = refl }) all

-- the answer is within the class, and each message that is left is short
pub record KeepsShort (class : Class) (r : Added × List Unfinished) : Type 0 where
  pub answer : IsBodyWithin class r.0
  pub left : All IsShort r.1

begin-short : (class : Class) (next : Unfinished) (messages : List Unfinished) → IsShort next → All IsShort messages → KeepsShort class (begin next messages)
unfolding begin
begin-short class next [] short all = record { answer = tt; left = All-cons IsShort next [] short all }
begin-short class next (m ∷ rest) short all =
    branch (KeepsShort class) (nat_lt (length (m ∷ rest)) most_unfinished) (More, (m ∷ rest) ++ next ∷ []) (Dropped m.key, rest ++ next ∷ [])
    (λ e. record { answer = tt; left = All-push IsShort (m ∷ rest) next all short })
    (λ e. record { answer = tt; left = All-push IsShort rest next (All-tail IsShort m rest all) short })

-- a body that is whole has no more pieces than its class allows
body-short : (class : Class) (b : Bool) (n : ℕ) (pieces : List (Option (List ℕ))) → n ≤ greatest_count class → All IsShortPiece pieces
    → IfSome (if b then Some (joined n pieces) else None) (λ body. length body ≤ most_bytes class)
body-short class true n pieces few all = let long = joined-short n pieces all in omega (arith, few, long)
body-short class false n pieces few all = tt

whole_body-short : (class : Class) (count : PartCount) (pieces : List (Option (List ℕ))) → IsCountWithin class count → All IsShortPiece pieces
    → IfSome (whole_body count pieces) (λ body. length body ≤ most_bytes class)
whole_body-short class (Exactly n) pieces few all = body-short class (has_all n pieces) n pieces few all
whole_body-short class (AtLeast n) pieces few all = tt

finish_or-short : (class : Class) (body : Option (List ℕ)) (key : Key) (messages : List Unfinished) (others : Added × List Unfinished)
    → IfSome body (λ b. length b ≤ most_bytes class) → All IsShort messages → KeepsShort class others → KeepsShort class (finish_or body key messages others)
finish_or-short class (Some body) key messages others short all rest = record { answer = short; left = without-short key messages all }
finish_or-short class None key messages others short all rest = rest

go_on-short : (next : Unfinished) (messages : List Unfinished) → IsShort next → All IsShort messages → KeepsShort next.key.class (go_on next messages)
unfolding go_on
go_on-short next messages short all =
    branch (KeepsShort next.key.class) (is_begun next.key messages) (More, put next messages) (begin next messages)
    (λ b. record { answer = tt; left = put-short next messages short all })
    (λ b. begin-short next.key.class next messages short all)

settle-short : (next : Unfinished) (messages : List Unfinished) → IsShort next → All IsShort messages → KeepsShort next.key.class (settle next messages)
unfolding settle
settle-short next messages short all =
    finish_or-short next.key.class (whole_body next.count next.pieces) next.key messages (go_on next messages)
    (whole_body-short next.key.class next.count next.pieces short.count short.pieces) all (go_on-short next messages short all)

not-false : (b : Bool) → not b ≡ false → b ≡ true
not-false true e = refl
not-false false e = cc

refused-short : (h : Header) (payload : List ℕ) (class : Class) (count : PartCount) (is_kept : Bool) (messages : List Unfinished) (taken : Added × List Unfinished)
    → All IsShort messages → (length payload ≤ 1024 → KeepsShort class taken) → KeepsShort class (unless_refused (refusal count is_kept h payload) messages taken)
unfolding refusal
refused-short h payload class count is_kept messages taken all go =
    let unchanged : (a : Added) → IsBodyWithin class a → KeepsShort class (a, messages) = λ a good. record { answer = good; left = all } in
    let Q : Option Added → Type 0 = λ o. KeepsShort class (unless_refused o messages taken) in
    branch Q (not (length_fits h payload)) _ _ (λ e. unchanged (Bad (Length (number_of h) (length payload))) tt)
    (λ fits. branch Q (contradicts count (count_said h)) _ _
    (λ e. unchanged (Bad (Count (least_count count) (least_count (count_said h)))) tt)
    (λ e. branch Q is_kept _ _
    (λ b. unchanged Repeat tt)
    (λ b. go (payload-short h.last payload (not-false (length_fits h payload) fits)))))

added_to-short : (m : Unfinished) (messages : List Unfinished) (h : Header) (payload : List ℕ) → IsShort m → All IsShort messages
    → IsCountWithin m.key.class (count_said h) → KeepsShort m.key.class (added_to m messages h payload)
unfolding added_to with_part
added_to-short m messages h payload short all said =
    refused-short h payload m.key.class m.count (is_some (piece_at (number_of h) m.pieces)) messages (settle (with_part m h payload) messages) all
    (λ long. settle-short (with_part m h payload) messages (with_part-short m h payload short said long) all)

-- adding a part keeps messages short
pub added-short : (messages : List Unfinished) (key : Key) (h : Header) (payload : List ℕ)
    → All IsShort messages → IsValid h → class_of h.packet ≡ Some key.class → KeepsShort key.class (added messages key h payload)
unfolding added
added-short messages key h payload all valid e =
    let m = message_under key messages in
    let is : IsShortOf key.class m = message_under-short key messages all in
    let said = subst (λ class. IsCountWithin class (count_said h)) (sym is.same) (count_said-within h key.class valid e) in
    subst (λ class. KeepsShort class (added_to m messages h payload)) is.same (added_to-short m messages h payload is.short all said)

-- a body that is whole has no more bytes than its class allows
pub whole_is_short : (messages : List Unfinished) (key : Key) (h : Header) (payload body : List ℕ)
    → All IsShort messages → IsValid h → class_of h.packet ≡ Some key.class
    → (added messages key h payload).0 ≡ Whole body → length body ≤ most_bytes key.class
whole_is_short messages key h payload body all valid e whole =
    subst (IsBodyWithin key.class) whole (added-short messages key h payload all valid e).answer

-- each message that is left is short
pub stays_short : (messages : List Unfinished) (key : Key) (h : Header) (payload : List ℕ)
    → All IsShort messages → IsValid h → class_of h.packet ≡ Some key.class
    → All IsShort (added messages key h payload).1
stays_short messages key h payload all valid e = (added-short messages key h payload all valid e).left

key_by-class : (h : Header) (from to : Addr) (key : Key) (o : Option Class)
    → elim o as (λ _. Option Key) [ Some class ↦ Some (key_between h from to class) | None ↦ None ] ≡ Some key → o ≡ Some key.class
key_by-class h from to key None e = cc
key_by-class h from to key (Some class) e =
    let same : key_between h from to class ≡ key = cc in
    ap (λ (k : Key). Some k.class) same

-- the key of a datagram is of its header's class
pub key_at-class : (from to : Addr) (h : Header) (key : Key) → key_at from to h ≡ Some key → class_of h.packet ≡ Some key.class
unfolding key_at
key_at-class from to h key e = key_by-class h from to key (class_of h.packet) e

-- both of a part whose header was read, under the key of its datagram
pub read_part_keeps_short : (messages : List Unfinished) (from to : Addr) (key : Key) (h : Header) (bytes payload : List ℕ)
    → All IsShort messages → Spells h bytes → key_at from to h ≡ Some key → KeepsShort key.class (added messages key h payload)
read_part_keeps_short messages from to key h bytes payload all read e =
    added-short messages key h payload all read.valid (key_at-class from to h key e)

-- the bounds, in bytes
pub most_bytes-Request : most_bytes Request ≡ 61440
most_bytes-Request = refl

pub most_bytes-Reply : most_bytes Reply ≡ 65536
most_bytes-Reply = refl

pub most_bytes-Recover : most_bytes Recover ≡ 65536
most_bytes-Recover = refl
