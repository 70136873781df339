-- The pieces of a body: their lengths, and the body that they join to.
use Rattle.std.proofs.Common.{◌≡◌, ◌<◌, ◌≤◌, ◌+◌, ◌*◌, ℕ, zero, suc, true, is_some, List, [], ◌∷◌, ◌++◌, Option, Some, None, length, take, drop, map, unwrap_or, refl, ap, ◌∙◌, sym, subst, arith}
use Rattle.std.specs.List.{concat, range_with_len}
use Rattle.std.proofs.Math.Seq.{take-add}
use Rattle.std.proofs.lemmas.Bool.{and_parts}
use Rattle.std.proofs.lemmas.List.{append-nil, length-drop, length-take, nil_from_length, take_all}
use Rattle.std.proofs.lemmas.List.Folds.{concat-append}
use Rattle.std.proofs.lemmas.List.FromFn.{map-range_with_len_more}
use Rattle.r2_frag.specs.Assembly.{has_all, joined, piece_at}
use Rattle.r2_frag.specs.Laws.{EachBodyIsInPieces}
use Rattle.r2_frag.specs.Parts.{part_count, piece}
use Rattle.r2_frag.proofs.Headers.{part_count-least}

-- no piece has more than 1,024 bytes
pub piece-most : (body : List ℕ) (n : ℕ) → length (piece body n) ≤ 1024
unfolding piece
piece-most body n = omega (arith, length-take 1024 (drop (n * 1024) body))

-- each but the last has as many
pub piece-inner : (body : List ℕ) (n : ℕ) → n + 1 < part_count body → length (piece body n) ≡ 1024
unfolding piece part_count
piece-inner body n h = omega (arith, length-take 1024 (drop (n * 1024) body), length-drop (n * 1024) body)

-- all pieces together have all bytes
pub part_count-enough : (body : List ℕ) → length body ≤ part_count body * 1024
unfolding part_count
part_count-enough body = omega arith

-- the first pieces and the next are the pieces up to that
pieces-next : (body : List ℕ) (n : ℕ) → take (n * 1024) body ++ piece body n ≡ take (suc n * 1024) body
unfolding piece
pieces-next body n =
    let more : suc n * 1024 ≡ n * 1024 + 1024 = omega arith in rw more (sym (take-add (n * 1024) 1024 body))

-- what is kept at a place, where it can only be this piece
read_piece : (o : Option (List ℕ)) (p : List ℕ) → ((q : List ℕ) → o ≡ Some q → q ≡ p) → is_some o ≡ true → unwrap_or o [] ≡ p
read_piece (Some q) p are there = are q refl
read_piece None p are there = cc

-- pieces of one body, of which each below a number is kept, join to a prefix of the body
joined-front : (body : List ℕ) (pieces : List (Option (List ℕ))) → ((n : ℕ) (p : List ℕ) → piece_at n pieces ≡ Some p → p ≡ piece body n) → (count : ℕ) → has_all count pieces ≡ true → joined count pieces ≡ take (count * 1024) body
unfolding has_all joined
joined-front body pieces are zero all = refl
joined-front body pieces are (suc n) all =
    let parts = and_parts (has_all n pieces) (is_some (piece_at n pieces)) all in
    let front = joined-front body pieces are n parts.0 in
    let here : unwrap_or (piece_at n pieces) [] ≡ piece body n = read_piece (piece_at n pieces) (piece body n) (are n) parts.1 in
    rw (front, here) (pieces-next body n)

-- and all of them to the body
pub joined-body : (body : List ℕ) (pieces : List (Option (List ℕ))) → ((n : ℕ) (p : List ℕ) → piece_at n pieces ≡ Some p → p ≡ piece body n) → has_all (part_count body) pieces ≡ true → joined (part_count body) pieces ≡ body
joined-body body pieces are all =
    joined-front body pieces are (part_count body) all ∙ take_all (part_count body * 1024) body (part_count-enough body)

-- the first pieces of a body, joined, are a prefix of it
pieces-front : (body : List ℕ) (n : ℕ) → concat (map (piece body) (range_with_len 0 n)) ≡ take (n * 1024) body
pieces-front body zero = refl
pieces-front body (suc n) =
    let pieces : List (List ℕ) = map (piece body) (range_with_len 0 n) in
    let next : n + 1 ≡ suc n = omega arith in
    let more = subst (λ (k : ℕ). map (piece body) (range_with_len 0 k) ≡ pieces ++ piece body n ∷ []) next (map-range_with_len_more (piece body) 0 n n (omega arith)) in
    let split = concat-append pieces (piece body n ∷ []) in
    ap concat more ∙ split ∙ rw (pieces-front body n, append-nil (piece body n)) (pieces-next body n)

-- a body whose last piece is empty has no bytes
piece-empty : (body : List ℕ) (n : ℕ) → n + 1 ≡ part_count body → piece body n ≡ [] → body ≡ []
unfolding piece part_count
piece-empty body n e none =
    let no_bytes = ap length none in
    nil_from_length body (omega (arith, e, no_bytes, length-take 1024 (drop (n * 1024) body), length-drop (n * 1024) body))

-- the pieces of a body are the body
pub each_body_is_in_pieces : EachBodyIsInPieces
each_body_is_in_pieces body =
    record {
      joined = pieces-front body (part_count body) ∙ take_all (part_count body * 1024) body (part_count-enough body);
      some = part_count-least body;
      inner = λ n h. piece-inner body n h;
      last = λ n e. piece-most body n;
      empty = λ n e none. piece-empty body n e none;
    }
