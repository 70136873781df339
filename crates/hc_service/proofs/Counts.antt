-- What one more entry adds to the counts of a log.
use Rattle.std.proofs.Common.{◌≡◌, ℕ, ◌+◌, ◌≤◌, cond, List, [], ◌∷◌, ◌++◌, take, drop, slice_get, Some, ap, ◌∙◌, arith, take-append-drop}
use Rattle.std.proofs.lemmas.List.{take_more}
use Rattle.std.proofs.lemmas.Option.{slice_get_within, get_or_from_slice_get}
use Rattle.std.specs.Prelude.{Bool, true, false, ◌==◌, ◌&&◌, count_by}
use Rattle.std.proofs.lemmas.List.Sums.{sum_by-append, sum_by-cons}
use Rattle.r2_base.specs.declared.entry.Kind.{Kind}
use Rattle.r2_base.specs.declared.entry.Kind.TheVariants.{Blank, Write, Read}
use Rattle.hc_log.specs.declared.stored.Stored.{Stored}
use Rattle.r2_base.specs.Entry.{is_request}
use Rattle.hc_log.specs.Log.{requests_of}
use Rattle.hc_log.proofs.Counting.{requests_of-append}
use Rattle.hc_service.specs.Entries.{is_write, writes_of, is_read, own_reads_of}

-- a prefix of a log has no more requests than the log
pub requests_of-front : (n : ℕ) (log : List Stored) → requests_of (take n log) ≤ requests_of log
requests_of-front n log =
    let both = requests_of-append (take n log) (drop n log) in
    let all = ap requests_of (take-append-drop n log) in
    omega (arith, both, all)

-- a prefix that is one entry longer
pub front-next : (log : List Stored) (i : ℕ) (stored : Stored) → slice_get log i ≡ Some stored → take (i + 1) log ≡ take i log ++ stored ∷ []
front-next log i stored there =
    take_more log i stored (slice_get_within log i stored there) ∙ ap (λ (x : Stored). take i log ++ x ∷ []) (get_or_from_slice_get log i stored stored there)

count-append : (p : Stored → Bool) (xs ys : List Stored) → count_by p (xs ++ ys) ≡ count_by p xs + count_by p ys
count-append p xs ys = sum_by-append (λ s. cond (p s) 1 0) xs ys

count-cons : (p : Stored → Bool) (x : Stored) (xs : List Stored) → count_by p (x ∷ xs) ≡ cond (p x) 1 0 + count_by p xs
count-cons p x xs = sum_by-cons (λ s. cond (p s) 1 0) x xs

-- a prefix that is one entry longer counts that entry too
count-next : (p : Stored → Bool) (log : List Stored) (i : ℕ) (stored : Stored) → slice_get log i ≡ Some stored
    → count_by p (take (i + 1) log) ≡ count_by p (take i log) + cond (p stored) 1 0
count-next p log i stored there =
    let long = ap (count_by p) (front-next log i stored there) in
    let both = count-append p (take i log) (stored ∷ []) in
    let one = count-cons p stored [] in
    omega (arith, long, both, one)

pub writes_of-next : (log : List Stored) (i : ℕ) (stored : Stored) → slice_get log i ≡ Some stored
    → writes_of (take (i + 1) log) ≡ writes_of (take i log) + cond (is_write stored.entry.kind) 1 0
unfolding writes_of
writes_of-next log i stored there = count-next (λ s. is_write s.entry.kind) log i stored there

pub own_reads_of-next : (me : ℕ) (log : List Stored) (i : ℕ) (stored : Stored) → slice_get log i ≡ Some stored
    → own_reads_of me (take (i + 1) log) ≡ own_reads_of me (take i log) + cond (is_read stored.entry.kind && (stored.entry.replier == me)) 1 0
unfolding own_reads_of
own_reads_of-next me log i stored there = count-next (λ s. is_read s.entry.kind && (s.entry.replier == me)) log i stored there

-- with more entries
pub writes_of-append : (front back : List Stored) → writes_of (front ++ back) ≡ writes_of front + writes_of back
unfolding writes_of
writes_of-append front back = count-append (λ s. is_write s.entry.kind) front back

pub own_reads_of-append : (me : ℕ) (front back : List Stored) → own_reads_of me (front ++ back) ≡ own_reads_of me front + own_reads_of me back
unfolding own_reads_of
own_reads_of-append me front back = count-append (λ s. is_read s.entry.kind && (s.entry.replier == me)) front back

-- by the first entry
pub writes_of-cons : (s : Stored) (later : List Stored) → writes_of (s ∷ later) ≡ cond (is_write s.entry.kind) 1 0 + writes_of later
unfolding writes_of
writes_of-cons s later = count-cons (λ s. is_write s.entry.kind) s later

pub own_reads_of-cons : (me : ℕ) (s : Stored) (later : List Stored)
    → own_reads_of me (s ∷ later) ≡ cond (is_read s.entry.kind && (s.entry.replier == me)) 1 0 + own_reads_of me later
unfolding own_reads_of
own_reads_of-cons me s later = count-cons (λ s. is_read s.entry.kind && (s.entry.replier == me)) s later

pub requests_of-next : (log : List Stored) (i : ℕ) (stored : Stored) → slice_get log i ≡ Some stored
    → requests_of (take (i + 1) log) ≡ requests_of (take i log) + cond (is_request stored.entry.kind) 1 0
unfolding requests_of
requests_of-next log i stored there = count-next (λ s. is_request s.entry.kind) log i stored there

-- where each entry counts no more one way than another, a log doesn't
count-most : (p q : Stored → Bool) (log : List Stored) → ((x : Stored) → cond (p x) 1 0 ≤ cond (q x) 1 0) → count_by p log ≤ count_by q log
count-most p q [] each = omega arith
count-most p q (x ∷ log) each =
    let first = each x in
    let others = count-most p q log each in
    let left = count-cons p x log in
    let right = count-cons q x log in
    omega (arith, first, others, left, right)

pub write_asks : (kind : Kind) → cond (is_write kind) 1 0 ≤ cond (is_request kind) 1 0
write_asks Blank = omega arith
write_asks Write = omega arith
write_asks Read = omega arith

pub read_asks : (kind : Kind) (own : Bool) → cond (is_read kind && own) 1 0 ≤ cond (is_request kind) 1 0
read_asks Blank own = omega arith
read_asks Write own = omega arith
read_asks Read true = omega arith
read_asks Read false = omega arith

-- a prefix of a log has no more requests of either kind than the log has requests
pub writes_of-front : (n : ℕ) (log : List Stored) → writes_of (take n log) ≤ requests_of log
unfolding writes_of requests_of
writes_of-front n log =
    let most = count-most (λ s. is_write s.entry.kind) (λ s. is_request s.entry.kind) (take n log) (λ x. write_asks x.entry.kind) in
    let front = requests_of-front n log in
    omega (arith, most, front)

pub own_reads_of-front : (me n : ℕ) (log : List Stored) → own_reads_of me (take n log) ≤ requests_of log
unfolding own_reads_of requests_of
own_reads_of-front me n log =
    let most = count-most (λ s. is_read s.entry.kind && (s.entry.replier == me)) (λ s. is_request s.entry.kind) (take n log) (λ x. read_asks x.entry.kind (x.entry.replier == me)) in
    let front = requests_of-front n log in
    omega (arith, most, front)

-- one entry has one request at most
pub one_request : (kind : Kind) → cond (is_request kind) 1 0 ≤ 1
one_request Blank = omega arith
one_request Write = omega arith
one_request Read = omega arith
