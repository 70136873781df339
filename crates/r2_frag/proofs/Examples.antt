-- The definitions at work: the headers of two parts; a message that comes, is repeated and contradicted; usual keys; and a
-- message whose second part comes before its first.
use Rattle.std.proofs.Common.{◌≡◌, true, false, [], ◌∷◌, Some, replicate, refl, arith}
use Rattle.std.proofs.lemmas.List.Elements.{All-cons, All-nil}
use Rattle.r2_base.specs.Numbers.{u16_bytes}
use Rattle.r2_header.specs.Header.{client_bytes, kind_bytes, spelling}
use Rattle.r2_frag.specs.declared.added.Added.TheVariants.{Repeat, Bad}
use Rattle.r2_frag.specs.declared.added.Why.TheVariants.{Length, Count}
use Rattle.r2_frag.specs.declared.part_count.PartCount.TheVariants.{Exactly}
use Rattle.r2_frag.specs.Assembly.{added, added_to, begin, begun, go_on, has_all, is_begun, joined, message_under, put, refusal, settle, with_part, without}
use Rattle.r2_frag.specs.Bodies.{IsPartOf}
use Rattle.r2_frag.specs.Histories.{Part, messages_after, parts_under}
use Rattle.r2_frag.specs.Keys.{same_key}
use Rattle.r2_frag.specs.Parts.{part_count, part_header, piece}
use Rattle.r2_frag.specs.Worked.{IsUsual, WorkedKeys, WorkedParts, body, first_part, other_body, recover, reply, request, request_passed_on, second_of_another, second_part}

-- the only part of a request: 520802C000050001
only_header : spelling (part_header request 1 0) ≡ 0x52 ∷ 8 ∷ 0x02 ∷ 0xC0 ∷ 0 ∷ 5 ∷ 0 ∷ 1 ∷ []
unfolding part_header spelling kind_bytes u16_bytes client_bytes
only_header = refl

-- the first of two: 5208028000050002
first_header : spelling (part_header request 2 0) ≡ 0x52 ∷ 8 ∷ 0x02 ∷ 0x80 ∷ 0 ∷ 5 ∷ 0 ∷ 2 ∷ []
unfolding part_header spelling kind_bytes u16_bytes client_bytes
first_header = refl

-- the second: 5208324000050001
second_header : spelling (part_header request 2 1) ≡ 0x52 ∷ 8 ∷ 0x32 ∷ 0x40 ∷ 0 ∷ 5 ∷ 0 ∷ 1 ∷ []
unfolding part_header spelling kind_bytes u16_bytes client_bytes
second_header = refl

-- bodies of no byte, of 1,024, of 1,025 and of 61,440 bytes
no_bytes : part_count [] ≡ 1
unfolding part_count
no_bytes = refl

bytes_1024 : part_count (replicate 1024 0) ≡ 1
unfolding part_count
bytes_1024 = refl

bytes_1025 : part_count (replicate 1025 0) ≡ 2
unfolding part_count
bytes_1025 = refl

-- the first of three parts is kept: it is repeated, the first of two contradicts it, and a last part of 1,025 bytes is too long
repeated : refusal (Exactly 3) true (part_header request 3 0) (replicate 1024 0) ≡ Some Repeat
unfolding refusal part_header
repeated = refl

contradicted : refusal (Exactly 3) true (part_header request 2 0) (replicate 1024 0) ≡ Some (Bad (Count 3 2))
unfolding refusal part_header
contradicted = refl

too_long : refusal (Exactly 3) false (part_header request 3 2) (replicate 1025 0) ≡ Some (Bad (Length 2 1025))
unfolding refusal part_header
too_long = refl

-- the body has two pieces
body_pieces : part_count body ≡ 2
unfolding part_count
body_pieces = refl

-- keys of requests as they are sent and passed on, of replies and of bodies between servers
usual_request : IsUsual request
usual_request =
    record {
      key = record { client = refl; from = refl };
      fits = record { id = omega arith; client = tt };
      sendable = record { limit = omega arith; first = record { low = omega arith; high = omega arith }; later = λ h. record { low = omega arith; high = omega arith } };
    }

usual_request_passed_on : IsUsual request_passed_on
usual_request_passed_on =
    record {
      key = record { client = refl; from = refl };
      fits = record { id = omega arith; client = record { ip = omega arith; port = omega arith } };
      sendable = record { limit = omega arith; first = record { low = omega arith; high = omega arith }; later = λ h. record { low = omega arith; high = omega arith } };
    }

usual_reply : IsUsual reply
usual_reply =
    record {
      key = record { client = refl; from = refl };
      fits = record { id = omega arith; client = tt };
      sendable = record { limit = omega arith; first = record { low = omega arith; high = omega arith }; later = λ h. record { low = omega arith; high = omega arith } };
    }

usual_recover : IsUsual recover
usual_recover =
    record {
      key = record { client = refl; from = refl };
      fits = record { id = omega arith; client = record { ip = omega arith; port = omega arith } };
      sendable = record { limit = omega arith; first = record { low = omega arith; high = omega arith }; later = λ h. record { low = omega arith; high = omega arith } };
    }

pub worked_keys : WorkedKeys
worked_keys =
    record { request = usual_request; request_passed_on = usual_request_passed_on; reply = usual_reply; recover = usual_recover }

-- the parts of the body
first_is_part : IsPartOf body first_part.0 first_part.1
unfolding part_count part_header piece
first_is_part = record { number = omega arith; first = refl; counted = λ e. refl; last = refl; carries = refl }

second_is_part : IsPartOf body second_part.0 second_part.1
unfolding part_count part_header piece
second_is_part = record { number = omega arith; first = refl; counted = λ e. cc; last = refl; carries = refl }

another_is_part : IsPartOf other_body second_of_another.0 second_of_another.1
unfolding part_count part_header piece
another_is_part = record { number = omega arith; first = refl; counted = λ e. cc; last = refl; carries = refl }

-- the second part comes twice, and then the first
pub worked_parts : WorkedParts
unfolding added added_to begin begun go_on has_all is_begun joined message_under messages_after part_header parts_under put refusal same_key settle with_part without
worked_parts =
    record {
      first_is_part = first_is_part;
      second_is_part = second_is_part;
      more = refl;
      repeat = refl;
      taken = refl;
      taken_are_parts =
          All-cons (λ (p : Part). IsPartOf body p.0 p.1) second_part [] second_is_part (All-nil (λ (p : Part). IsPartOf body p.0 p.1));
      whole = refl;
      begun = refl;
      another_is_part = another_is_part;
      anew = refl;
    }
