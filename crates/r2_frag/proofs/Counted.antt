-- The index of the kept replies: how it goes on, and what it shows.
use Rattle.std.proofs.Common.{◌≡◌, ◌<◌, ◌≤◌, ◌+◌, ◌-◌, ◌==◌, inl, inr, ℕ, Bool, false, cond, if◌then◌else◌, List, [], ◌∷◌, ◌++◌, reverse, Some, None, length, drop, slice_get, get_or, set, refl, sym, ap, subst, ◌∙◌, arith}
use Rattle.std.specs.Prelude.{slice_index, nat_lt}
use Rattle.std.specs.List.{All, find}
use Rattle.std.proofs.lemmas.Bool.{cases_Bool, cases_eq, eq-eqb, ltb-true, ltb-false, ne_eqb}
use Rattle.std.proofs.lemmas.List.{get_or-set_other, get_or-set_same, get_or-reverse, length-append, length-reverse, length-set}
use Rattle.std.proofs.lemmas.List.Elements.{All-cons, All-head, All-nil, All-tail}
use Rattle.std.proofs.lemmas.List.Sums.{count_by-le-length, sum_by-append, sum_by-cons}
use Rattle.circular_buffer.specs.Buffer.{Buffer, buffer, keep_last}
use Rattle.r2_base.specs.declared.rid.Rid.{Rid}
use Rattle.r2_base.specs.Names.{same_rid}
use Rattle.r2_base.proofs.SameNames.{same_rid-true}
use Rattle.r2_frag.specs.declared.kept.KeptReply.{KeptReply}
use Rattle.r2_frag.specs.Kept.{AreCounted, IsIndexed, bucket_count, bucket_of, count_in, kept_with, most_kept, newest}

-- whether a reply is in a bucket, as a number
abbrev one_in : ℕ → KeptReply → ℕ
one_in bucket reply = cond (bucket_of reply.rid == bucket) 1 0

count_in-cons : (bucket : ℕ) (x : KeptReply) (xs : List KeptReply) → count_in bucket (x ∷ xs) ≡ one_in bucket x + count_in bucket xs
unfolding count_in
count_in-cons bucket x xs = sum_by-cons (one_in bucket) x xs

count_in-push : (bucket : ℕ) (xs : List KeptReply) (x : KeptReply) → count_in bucket (xs ++ x ∷ []) ≡ count_in bucket xs + one_in bucket x
unfolding count_in
count_in-push bucket xs x =
    let joined = sum_by-append (one_in bucket) xs (x ∷ []) in
    let last = sum_by-cons (one_in bucket) x [] in
    omega (arith, joined, last)

pub count_in-most : (bucket : ℕ) (xs : List KeptReply) → count_in bucket xs ≤ length xs
unfolding count_in
count_in-most bucket xs = count_by-le-length (λ (r : KeptReply). bucket_of r.rid == bucket) xs

pub bucket_of-within : (rid : Rid) → bucket_of rid < bucket_count
unfolding bucket_of
bucket_of-within rid = omega arith

-- a reply is counted in its bucket, and in no other
one_in-here : (x : KeptReply) → one_in (bucket_of x.rid) x ≡ 1
one_in-here x = rw (eq-eqb (bucket_of x.rid) (bucket_of x.rid) refl) refl

one_in-other : (bucket : ℕ) (x : KeptReply) → (bucket_of x.rid ≡ bucket → ⊥) → one_in bucket x ≡ 0
one_in-other bucket x apart = rw (ne_eqb (bucket_of x.rid) bucket apart) refl

-- the first reply is counted
pub count_in-first : (x : KeptReply) (xs : List KeptReply) → 0 < count_in (bucket_of x.rid) (x ∷ xs)
count_in-first x xs =
    let all = count_in-cons (bucket_of x.rid) x xs in
    let here = one_in-here x in
    omega (arith, all, here)

-- counts with one changed
changed : (counts : List ℕ) (place v bucket : ℕ) (was : ℕ) → place < length counts → (place ≡ bucket → v ≡ was) → ((place ≡ bucket → ⊥) → get_or counts bucket 0 ≡ was)
    → get_or (set counts place v) bucket 0 ≡ was
changed counts place v bucket was inside here other =
    elim (cases_eq place bucket) [
      | inl same ↦ subst (λ (b : ℕ). get_or (set counts place v) b 0 ≡ was) same (get_or-set_same counts place v 0 inside ∙ here same)
      | inr apart ↦ get_or-set_other counts place bucket v 0 (λ (e : bucket ≡ place). apart (sym e)) ∙ other apart
    ]

-- one reply more is counted
pub counted-more : (counts : List ℕ) (xs : List KeptReply) (x : KeptReply) → AreCounted counts xs
    → AreCounted (set counts (bucket_of x.rid) (slice_index counts (bucket_of x.rid) + 1)) (xs ++ x ∷ [])
counted-more counts xs x k =
    let place : ℕ = bucket_of x.rid in
    let inside : place < bucket_count = bucket_of-within x.rid in
    let all = k.all in
    record {
      all = length-set counts place (slice_index counts place + 1) ∙ k.all;
      each = λ bucket within.
          changed counts place (slice_index counts place + 1) bucket (count_in bucket (xs ++ x ∷ [])) (omega (arith, inside, all))
          (λ same.
          let pushed = count_in-push place xs x in
          let here = one_in-here x in
          let before = k.each place inside in
          let sum : slice_index counts place + 1 ≡ count_in place (xs ++ x ∷ []) = omega (arith, pushed, here, before) in
          subst (λ (b : ℕ). slice_index counts place + 1 ≡ count_in b (xs ++ x ∷ [])) same sum)
          (λ apart.
          let pushed = count_in-push bucket xs x in
          let none = one_in-other bucket x apart in
          let before = k.each bucket within in
          omega (arith, pushed, none, before));
    }

-- the first reply is counted no more
pub counted-less : (counts : List ℕ) (x : KeptReply) (xs : List KeptReply) → AreCounted counts (x ∷ xs)
    → AreCounted (set counts (bucket_of x.rid) (slice_index counts (bucket_of x.rid) - 1)) xs
counted-less counts x xs k =
    let place : ℕ = bucket_of x.rid in
    let inside : place < bucket_count = bucket_of-within x.rid in
    let all = k.all in
    record {
      all = length-set counts place (slice_index counts place - 1) ∙ k.all;
      each = λ bucket within.
          changed counts place (slice_index counts place - 1) bucket (count_in bucket xs) (omega (arith, inside, all))
          (λ same.
          let split = count_in-cons place x xs in
          let here = one_in-here x in
          let before = k.each place inside in
          let rest : slice_index counts place - 1 ≡ count_in place xs = omega (arith, split, here, before) in
          subst (λ (b : ℕ). slice_index counts place - 1 ≡ count_in b xs) same rest)
          (λ apart.
          let split = count_in-cons bucket x xs in
          let none = one_in-other bucket x apart in
          let before = k.each bucket within in
          omega (arith, split, none, before));
    }

-- counts of 0 count no replies
pub counted-none : (counts : List ℕ) → length counts ≡ bucket_count → ((i : ℕ) → slice_index counts i ≡ 0) → AreCounted counts []
unfolding count_in
counted-none counts all zeros = record { all = all; each = λ bucket within. zeros bucket }

-- what a full buffer gives up, and a buffer that isn't full
pub room-for : (xs : List KeptReply) (x : KeptReply) (capacity : ℕ) → None ≡ (if nat_lt (length xs) capacity then None else slice_get (xs ++ x ∷ []) 0) → length xs < capacity
room-for xs x capacity e =
    elim (cases_Bool (nat_lt (length xs) capacity)) [
      | inl t ↦ ltb-true (length xs) capacity t
      | inr f ↦ no_first xs x (rw f at e)
    ]
  where
    no_first : {A : Type 0} (xs : List KeptReply) (x : KeptReply) → None ≡ slice_get (xs ++ x ∷ []) 0 → A
    no_first [] x e = cc
    no_first (y ∷ ys) x e = cc

-- the first and the others
pub record IsFull (xs : List KeptReply) (oldest : KeptReply) (capacity : ℕ) : Type 0 where
  pub rest : List KeptReply
  pub split : xs ≡ oldest ∷ rest
  pub full : capacity ≤ length xs

first-split : (xs : List KeptReply) (x oldest : KeptReply) (capacity : ℕ) → 0 < capacity → capacity ≤ length xs → Some oldest ≡ slice_get (xs ++ x ∷ []) 0 → IsFull xs oldest capacity
first-split [] x oldest capacity some full e = absurd (omega (arith, some, full))
first-split (y ∷ ys) x oldest capacity some full e =
    let same : y ≡ oldest = cc in record { rest = ys; split = ap (λ (r : KeptReply). r ∷ ys) same; full = full }

pub given-up : (xs : List KeptReply) (x oldest : KeptReply) (capacity : ℕ) → 0 < capacity → Some oldest ≡ (if nat_lt (length xs) capacity then None else slice_get (xs ++ x ∷ []) 0) → IsFull xs oldest capacity
given-up xs x oldest capacity some e =
    elim (cases_Bool (nat_lt (length xs) capacity)) [
      | inl t ↦ (let never = rw t at e in cc)
      | inr f ↦ first-split xs x oldest capacity some (ltb-false (length xs) capacity f) (rw f at e)
    ]

-- one more is kept where there is room
pub kept-room : (xs : List KeptReply) (x : KeptReply) → length xs < most_kept → kept_with xs x ≡ xs ++ x ∷ []
kept-room xs x room =
    let long = length-append xs (x ∷ []) in
    let none : length (xs ++ x ∷ []) - 1024 ≡ 0 = omega (arith, long, room) in
    ap (λ (n : ℕ). drop n (xs ++ x ∷ [])) none

-- and in the place of the oldest where there is none
pub kept-full : (oldest : KeptReply) (rest : List KeptReply) (x : KeptReply) → length (oldest ∷ rest) ≡ most_kept → kept_with (oldest ∷ rest) x ≡ rest ++ x ∷ []
kept-full oldest rest x full =
    let long = length-append (oldest ∷ rest) (x ∷ []) in
    let one : length ((oldest ∷ rest) ++ x ∷ []) - 1024 ≡ 1 = omega (arith, long, full) in
    ap (λ (n : ℕ). drop n ((oldest ∷ rest) ++ x ∷ [])) one

-- nothing passes where no item does
find-nothing : {X : Type 0} (p : X → Bool) (xs : List X) → All (λ x. p x ≡ false) xs → find p xs ≡ None
find-nothing p [] all = refl
find-nothing p (x ∷ xs) all =
    rw (All-head (λ x. p x ≡ false) x xs all) (find-nothing p xs (All-tail (λ x. p x ≡ false) x xs all))

All-back : {X : Type 0} (P : X → Type 0) (xs : List X) → All P xs → All P (reverse xs)
All-back P xs all k d h =
    let inside : k < length xs = omega (arith, length-reverse xs) in
    subst P (sym (get_or-reverse xs k d inside)) (all (length xs - 1 - k) d (omega arith))

-- a reply outside the bucket of a request isn't to it
other-bucket : (rid : Rid) (x : KeptReply) → one_in (bucket_of rid) x ≡ 0 → same_rid x.rid rid ≡ false
other-bucket rid x none =
    elim (cases_Bool (same_rid x.rid rid)) [
      | inl t ↦
          (let same = same_rid-true x.rid rid t in
          let here : one_in (bucket_of rid) x ≡ 1 = subst (λ (r : Rid). one_in (bucket_of r) x ≡ 1) same (one_in-here x) in
          absurd (omega (arith, here, none)))
      | inr f ↦ f
    ]

none-to : (rid : Rid) (xs : List KeptReply) → count_in (bucket_of rid) xs ≡ 0 → All (λ (r : KeptReply). same_rid r.rid rid ≡ false) xs
none-to rid [] none = All-nil (λ (r : KeptReply). same_rid r.rid rid ≡ false)
none-to rid (x ∷ xs) none =
    let split = count_in-cons (bucket_of rid) x xs in
    All-cons (λ (r : KeptReply). same_rid r.rid rid ≡ false) x xs (other-bucket rid x (omega (arith, split, none))) (none-to rid xs (omega (arith, split, none)))

-- a request whose bucket is empty has no reply
pub newest-none_in : (rid : Rid) (xs : List KeptReply) → count_in (bucket_of rid) xs ≡ 0 → newest rid xs ≡ None
unfolding newest
newest-none_in rid xs none =
    find-nothing (λ (r : KeptReply). same_rid r.rid rid) (reverse xs) (All-back (λ (r : KeptReply). same_rid r.rid rid ≡ false) xs (none-to rid xs none))

-- what is known of a full buffer that is indexed, and of the counts of the others
pub record IsMoved (replies : Buffer KeptReply) (counts : List ℕ) (oldest : KeptReply) : Type 0 where
  pub rest : List KeptReply
  pub split : replies.items ≡ oldest ∷ rest
  pub full : length (oldest ∷ rest) ≡ most_kept
  pub counted : AreCounted counts (oldest ∷ rest)

indexed-moved_of : (replies : Buffer KeptReply) (counts : List ℕ) (x oldest : KeptReply) → IsIndexed replies counts
    → Some oldest ≡ (if nat_lt (length replies.items) replies.capacity then None else slice_get (replies.items ++ x ∷ []) 0)
    → IsMoved replies counts oldest
indexed-moved_of replies counts x oldest k e =
    let capacity = k.capacity in
    let f : IsFull replies.items oldest replies.capacity = given-up replies.items x oldest replies.capacity (omega (arith, capacity)) e in
    let most = k.most in
    let full = f.full in
    let exact : length replies.items ≡ most_kept = omega (arith, capacity, most, full) in
    record {
      rest = f.rest;
      split = f.split;
      full = subst (λ (xs : List KeptReply). length xs ≡ most_kept) f.split exact;
      counted = subst (AreCounted counts) f.split k.counted;
    }

-- no count is above the most that are kept
pub indexed-room : (replies : Buffer KeptReply) (counts : List ℕ) (bucket : ℕ) → IsIndexed replies counts → bucket < bucket_count → slice_index counts bucket ≤ most_kept
indexed-room replies counts bucket k within =
    let each = k.counted.each bucket within in
    let few = count_in-most bucket replies.items in
    let most = k.most in
    omega (arith, each, few, most)

-- the oldest is counted
pub moved-some : (replies : Buffer KeptReply) (counts : List ℕ) (x oldest : KeptReply) (place : ℕ) → IsIndexed replies counts
    → Some oldest ≡ (if nat_lt (length replies.items) replies.capacity then None else slice_get (replies.items ++ x ∷ []) 0)
    → place ≡ bucket_of oldest.rid → 0 < slice_index counts place
moved-some replies counts x oldest place k e at =
    let m = indexed-moved_of replies counts x oldest k e in
    let each = m.counted.each (bucket_of oldest.rid) (bucket_of-within oldest.rid) in
    let first = count_in-first oldest m.rest in
    let some : 0 < slice_index counts (bucket_of oldest.rid) = omega (arith, each, first) in
    subst (λ (b : ℕ). 0 < slice_index counts b) (sym at) some

-- the counts without the oldest
moved-less : (replies : Buffer KeptReply) (counts less : List ℕ) (oldest : KeptReply) (place : ℕ) (m : IsMoved replies counts oldest)
    → place ≡ bucket_of oldest.rid → less ≡ set counts place (slice_index counts place - 1) → AreCounted less m.rest
moved-less replies counts less oldest place m at e =
    let rest = counted-less counts oldest m.rest m.counted in
    let there = subst (λ (b : ℕ). AreCounted (set counts b (slice_index counts b - 1)) m.rest) (sym at) rest in
    subst (λ (c : List ℕ). AreCounted c m.rest) (sym e) there

pub moved-room : (replies : Buffer KeptReply) (counts less : List ℕ) (x oldest : KeptReply) (place bucket : ℕ) → IsIndexed replies counts
    → Some oldest ≡ (if nat_lt (length replies.items) replies.capacity then None else slice_get (replies.items ++ x ∷ []) 0)
    → place ≡ bucket_of oldest.rid → less ≡ set counts place (slice_index counts place - 1) → bucket < bucket_count → slice_index less bucket ≤ most_kept
moved-room replies counts less x oldest place bucket k e at gone within =
    let m = indexed-moved_of replies counts x oldest k e in
    let each = (moved-less replies counts less oldest place m at gone).each bucket within in
    let few = count_in-most bucket m.rest in
    let full = m.full in
    omega (arith, each, few, full)

-- counts with one reply more
counts-more : (counts now : List ℕ) (xs : List KeptReply) (x : KeptReply) (bucket : ℕ) → AreCounted counts xs → bucket ≡ bucket_of x.rid
    → now ≡ set counts bucket (slice_index counts bucket + 1) → AreCounted now (xs ++ x ∷ [])
counts-more counts now xs x bucket k at e =
    let more = counted-more counts xs x k in
    let there = subst (λ (b : ℕ). AreCounted (set counts b (slice_index counts b + 1)) (xs ++ x ∷ [])) (sym at) more in
    subst (λ (c : List ℕ). AreCounted c (xs ++ x ∷ [])) (sym e) there

-- a buffer of these items
indexed-of : (replies after : Buffer KeptReply) (counts : List ℕ) (x : KeptReply) (xs : List KeptReply) → replies.capacity ≡ most_kept
    → after ≡ buffer (keep_last replies.capacity (replies.items ++ x ∷ [])) replies.capacity
    → kept_with replies.items x ≡ xs → length xs ≤ most_kept → AreCounted counts xs → IsIndexed after counts
indexed-of replies after counts x xs capacity e kept few counted =
    let here : after.capacity ≡ replies.capacity = ap (λ (b : Buffer KeptReply). b.capacity) e in
    let items : after.items ≡ keep_last replies.capacity (replies.items ++ x ∷ []) = ap (λ (b : Buffer KeptReply). b.items) e in
    let last : keep_last replies.capacity (replies.items ++ x ∷ []) ≡ kept_with replies.items x =
    ap (λ (n : ℕ). keep_last n (replies.items ++ x ∷ [])) capacity in
    let same : xs ≡ after.items = sym (items ∙ last ∙ kept) in
    record {
      capacity = here ∙ capacity;
      most = subst (λ (ys : List KeptReply). length ys ≤ most_kept) same few;
      counted = subst (AreCounted counts) same counted;
    }

-- one more is kept where there is room
pub indexed-more : (replies after : Buffer KeptReply) (counts now : List ℕ) (x : KeptReply) (bucket : ℕ) → IsIndexed replies counts
    → after ≡ buffer (keep_last replies.capacity (replies.items ++ x ∷ [])) replies.capacity
    → None ≡ (if nat_lt (length replies.items) replies.capacity then None else slice_get (replies.items ++ x ∷ []) 0)
    → bucket ≡ bucket_of x.rid → now ≡ set counts bucket (slice_index counts bucket + 1) → IsIndexed after now
indexed-more replies after counts now x bucket k e none at more =
    let less = room-for replies.items x replies.capacity none in
    let capacity = k.capacity in
    let room : length replies.items < most_kept = omega (arith, less, capacity) in
    let long = length-append replies.items (x ∷ []) in
    indexed-of replies after now x (replies.items ++ x ∷ []) k.capacity e (kept-room replies.items x room) (omega (arith, long, room)) (counts-more counts now replies.items x bucket k.counted at more)

-- or in the place of the oldest
pub indexed-moved : (replies after : Buffer KeptReply) (counts less now : List ℕ) (x oldest : KeptReply) (place bucket : ℕ) → IsIndexed replies counts
    → after ≡ buffer (keep_last replies.capacity (replies.items ++ x ∷ [])) replies.capacity
    → Some oldest ≡ (if nat_lt (length replies.items) replies.capacity then None else slice_get (replies.items ++ x ∷ []) 0)
    → place ≡ bucket_of oldest.rid → less ≡ set counts place (slice_index counts place - 1)
    → bucket ≡ bucket_of x.rid → now ≡ set less bucket (slice_index less bucket + 1) → IsIndexed after now
indexed-moved replies after counts less now x oldest place bucket k e some at gone here more =
    let m = indexed-moved_of replies counts x oldest k some in
    let kept : kept_with replies.items x ≡ m.rest ++ x ∷ [] =
    ap (λ (xs : List KeptReply). kept_with xs x) m.split ∙ kept-full oldest m.rest x m.full in
    let long = length-append m.rest (x ∷ []) in
    let full = m.full in
    indexed-of replies after now x (m.rest ++ x ∷ []) k.capacity e kept (omega (arith, long, full)) (counts-more less now m.rest x bucket (moved-less replies counts less oldest place m at gone) here more)

-- an empty buffer
pub indexed-none : (replies : Buffer KeptReply) (counts : List ℕ) → replies ≡ buffer [] most_kept → length counts ≡ bucket_count → ((i : ℕ) → slice_index counts i ≡ 0) → IsIndexed replies counts
indexed-none replies counts e all zeros =
    let none : [] ≡ replies.items = ap (λ (b : Buffer KeptReply). b.items) (sym e) in
    record {
      capacity = ap (λ (b : Buffer KeptReply). b.capacity) e;
      most = subst (λ (xs : List KeptReply). length xs ≤ most_kept) none (omega arith);
      counted = subst (AreCounted counts) none (counted-none counts all zeros);
    }

-- a request whose bucket is empty has no reply among those that are indexed
pub indexed-absent : (replies : Buffer KeptReply) (counts : List ℕ) (rid : Rid) (bucket : ℕ) → IsIndexed replies counts
    → bucket ≡ bucket_of rid → slice_index counts bucket ≡ 0 → newest rid replies.items ≡ None
indexed-absent replies counts rid bucket k at none =
    let here : slice_index counts (bucket_of rid) ≡ 0 = subst (λ (b : ℕ). slice_index counts b ≡ 0) at none in
    let each = k.counted.each (bucket_of rid) (bucket_of-within rid) in
    newest-none_in rid replies.items (omega (arith, each, here))
