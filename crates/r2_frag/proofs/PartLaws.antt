-- The datagrams of a body: each is a part of it, and has the key that was asked for.
use Rattle.std.proofs.Common.{◌≡◌, ◌<◌, ◌≤◌, ℕ, zero, suc, true, List, length, Some, refl, ap, ◌∙◌, arith, Ok, drop}
use Rattle.std.specs.List.{slice_get}
use Rattle.std.proofs.lemmas.List.{drop_at, take_all}
use Rattle.std.proofs.lemmas.List.FromFn.{get_or-map-range_with_len, length-map-range_with_len}
use Rattle.std.proofs.lemmas.Option.{slice_get-get_or}
use Rattle.r2_base.specs.declared.datagram.Datagram.{Datagram}
use Rattle.r2_header.specs.declared.header.Header.{Header}
use Rattle.r2_header.specs.Header.{spelling}
use Rattle.r2_header.specs.Laws.{FitsHeader}
use Rattle.r2_header.specs.Reading.{header_at}
use Rattle.r2_header.proofs.Sound.{spelling_is_read}
use Rattle.r2_frag.specs.declared.class.Class.{Class}
use Rattle.r2_frag.specs.declared.class.Class.TheVariants.{Request, Reply, Recover}
use Rattle.r2_frag.specs.declared.part_spec.PartSpec.{PartSpec}
use Rattle.r2_frag.specs.Assembly.{number_of}
use Rattle.r2_frag.specs.Bodies.{IsPartOf}
use Rattle.r2_frag.specs.Keys.{class_of, key_at}
use Rattle.r2_frag.specs.Laws.{FitsHeaders, PartsAreOfTheBody, PartsHaveTheKey, ShortBodyIsOnePart}
use Rattle.r2_frag.specs.Parts.{IsSendable, part_count, part_datagram, part_header, part_type, parts_of, piece}
use Rattle.r2_frag.proofs.Headers.{IsValid-part_header, suc-other}

-- the number of a part's header is the part's
number_of-part_header : (spec : PartSpec) (count n : ℕ) → number_of (part_header spec count n) ≡ n
unfolding part_header
number_of-part_header spec count zero = refl
number_of-part_header spec count (suc n) = rw (suc-other n) refl

-- the first part counts
counted-part_header : (spec : PartSpec) (count n : ℕ) → (part_header spec count n).first ≡ true → (part_header spec count n).number ≡ count
unfolding part_header
counted-part_header spec count n e = rw e refl

-- a part's header and piece are a part of the body
IsPartOf-part_header : (spec : PartSpec) (body : List ℕ) (n : ℕ) → n < part_count body → IsPartOf body (part_header spec (part_count body) n) (piece body n)
unfolding part_header
IsPartOf-part_header spec body n h =
    let number = number_of-part_header spec (part_count body) n in
    record {
      number = rw number h;
      first = rw number refl;
      counted = counted-part_header spec (part_count body) n;
      last = rw number refl;
      carries = rw number refl;
    }

-- how many datagrams there are
length-parts_of : (spec : PartSpec) (body : List ℕ) → length (parts_of spec body) ≡ part_count body
unfolding parts_of
length-parts_of spec body = length-map-range_with_len (part_datagram spec body) 0 (part_count body)

-- the datagram at a place
placed-part : (spec : PartSpec) (body : List ℕ) (n : ℕ) → n < part_count body → slice_get (parts_of spec body) n ≡ Some (part_datagram spec body n)
unfolding parts_of
placed-part spec body n h =
    let parts : List Datagram = parts_of spec body in
    let d : Datagram = part_datagram spec body n in
    let inside : n < length parts = rw (length-parts_of spec body) h in
    slice_get-get_or parts n d inside ∙ ap Some (get_or-map-range_with_len (part_datagram spec body) 0 (part_count body) n n d h (omega arith))

-- the numbers of a part's header fit their fields
FitsHeader-part_header : (spec : PartSpec) (count n : ℕ) → FitsHeaders spec → FitsHeader (part_header spec count n)
unfolding part_header
FitsHeader-part_header spec count n fits = record { id = fits.id; client = fits.client }

-- the bytes of a part read as its header
read-part : (spec : PartSpec) (body : List ℕ) (n : ℕ) → IsSendable spec body → FitsHeaders spec → n < part_count body → header_at (part_datagram spec body n).bytes ≡ Ok (part_header spec (part_count body) n, length (spelling (part_header spec (part_count body) n)))
unfolding part_datagram
read-part spec body n sendable fits h =
    let header : Header = part_header spec (part_count body) n in
    spelling_is_read header (spelling header) (piece body n) (FitsHeader-part_header spec (part_count body) n fits) (record { valid = IsValid-part_header spec body n sendable h; same = refl })

-- and have its piece after the header
payload-part : (spec : PartSpec) (body : List ℕ) (n : ℕ) → drop (length (spelling (part_header spec (part_count body) n))) (part_datagram spec body n).bytes ≡ piece body n
unfolding part_datagram
payload-part spec body n =
    let header : Header = part_header spec (part_count body) n in
    drop_at (spelling header) (piece body n) (length (spelling header)) refl

-- each piece of a body is in one datagram, and there are no others
pub parts_are_of_the_body : PartsAreOfTheBody
unfolding part_datagram
parts_are_of_the_body spec body sendable fits = (
  length-parts_of spec body,
  λ n h. record {
    placed = placed-part spec body n h;
    between = (refl, refl);
    bytes = refl;
    valid = IsValid-part_header spec body n sendable h;
    read = read-part spec body n sendable fits h;
    payload = payload-part spec body n;
    part = IsPartOf-part_header spec body n h;
    number = number_of-part_header spec (part_count body) n;
  },
)

-- the class of a part's type is the message's
class_of-part_type : (class : Class) (n : ℕ) → class_of (part_type class n) ≡ Some class
class_of-part_type Request zero = refl
class_of-part_type Request (suc n) = refl
class_of-part_type Reply n = refl
class_of-part_type Recover n = refl

-- each datagram of a body has the key that was asked for
pub parts_have_the_key : PartsHaveTheKey
unfolding key_at part_header
parts_have_the_key spec count n between =
    rw (class_of-part_type spec.key.class n, between.client, between.from) refl

-- a body of at most 1,024 bytes has one piece, itself
one_piece : (body : List ℕ) → length body ≤ 1024 → (part_count body ≡ 1) × (piece body 0 ≡ body)
unfolding part_count piece
one_piece body h = (omega arith, take_all 1024 body h)

-- and is one part
pub short_body_is_one_part : ShortBodyIsOnePart
unfolding parts_of part_datagram
short_body_is_one_part spec body h = let one = one_piece body h in simp (one.0, one.1)
