-- What one mark more changes of the open and the waiting requests of a history.
use Rattle.std.proofs.Common.{◌≡◌, ℕ, Bool, true, false, cond, List, [], ◌∷◌, ◌++◌, refl, sym, subst, ap, ◌∙◌}
use Rattle.std.specs.Prelude.{◌==◌, ◌&&◌, ◌||◌, not}
use Rattle.std.specs.List.{filter, list_any}
use Rattle.std.proofs.lemmas.List.Folds.{list_any-append}
use Rattle.r2_base.specs.declared.rid.Rid.{Rid}
use Rattle.r2_jbsq.specs.History.{Accept, Answer, Forward, Mark, is_accept_of, is_answer_of, is_move_of, open_at, accepted_packet, waiting}
use Rattle.r2_base.specs.Names.{same_rid}
use Rattle.r2_base.proofs.SameNames.{same_rid-sym}

-- these names without one
abbrev pub names_without : Rid → List Rid → List Rid
names_without rid names = filter (λ other. not (same_rid rid other)) names

or-false : (a : Bool) → (a || false) ≡ a
or-false true = refl
or-false false = refl

and-true : (a : Bool) → (a && true) ≡ a
and-true true = refl
and-true false = refl

and-false : (a : Bool) → (a && false) ≡ false
and-false true = refl
and-false false = refl

any-push : (p : Mark → Bool) (history : List Mark) (mark : Mark) → list_any p (history ++ mark ∷ []) ≡ (list_any p history || p mark)
any-push p history mark = list_any-append p history (mark ∷ []) ∙ ap (λ b. list_any p history || b) (or-false (p mark))

-- a mark that doesn't pass
any-same : (p : Mark → Bool) (history : List Mark) (mark : Mark) → p mark ≡ false → list_any p (history ++ mark ∷ []) ≡ list_any p history
any-same p history mark e = any-push p history mark ∙ (ap (λ b. list_any p history || b) e ∙ or-false (list_any p history))

-- a choice of lists with the same end
same-end : (c : Bool) (x : Rid) (xs ys : List Rid) → cond c (x ∷ (xs ++ ys)) (xs ++ ys) ≡ cond c (x ∷ xs) xs ++ ys
same-end true x xs ys = refl
same-end false x xs ys = refl

-- a name at the beginning
without-cons : (rid other : Rid) (names : List Rid) → names_without rid (other ∷ names) ≡ cond (same_rid other rid) (names_without rid names) (other ∷ names_without rid names)
without-cons rid other names =
    rw (same_rid-sym other rid)
    (elim (same_rid rid other) as (λ b. cond (not b) (other ∷ names_without rid names) (names_without rid names) ≡ cond b (names_without rid names) (other ∷ names_without rid names))
    [ true ↦ refl | false ↦ refl ])

-- what is open at a server
pub open_at-accept : (server : ℕ) (history : List Mark) (rid : Rid) (packet : List ℕ) → open_at server (history ++ Accept rid packet ∷ []) ≡ open_at server history
unfolding open_at
open_at-accept server [] rid packet = refl
open_at-accept server (Accept other o ∷ after) rid packet = open_at-accept server after rid packet
open_at-accept server (Forward other to ∷ after) rid packet =
    rw (any-same (is_answer_of other server) after (Accept rid packet) refl, open_at-accept server after rid packet) refl
open_at-accept server (Answer other from ∷ after) rid packet = open_at-accept server after rid packet

pub open_at-forward : (server : ℕ) (history : List Mark) (rid : Rid) (to : ℕ)
    → open_at server (history ++ Forward rid to ∷ []) ≡ open_at server history ++ cond (server == to) (rid ∷ []) []
unfolding open_at
open_at-forward server [] rid to = rw (and-true (server == to)) refl
open_at-forward server (Accept other o ∷ after) rid to = open_at-forward server after rid to
open_at-forward server (Forward other at ∷ after) rid to =
    rw (any-same (is_answer_of other server) after (Forward rid to) refl, open_at-forward server after rid to)
    (same-end ((server == at) && not (list_any (is_answer_of other server) after)) other (open_at server after) (cond (server == to) (rid ∷ []) []))
open_at-forward server (Answer other from ∷ after) rid to = open_at-forward server after rid to

-- one name of a server's, which is done with a request
answered-here : (a b c : Bool) (rid other : Rid) (names : List Rid) → same_rid other rid ≡ c
    → cond (a && not (b || c)) (other ∷ names_without rid names) (names_without rid names) ≡ names_without rid (cond (a && not b) (other ∷ names) names)
answered-here true true c rid other names e = refl
answered-here true false true rid other names e = sym (without-cons rid other names ∙ rw e refl)
answered-here true false false rid other names e = sym (without-cons rid other names ∙ rw e refl)
answered-here false b c rid other names e = refl

answered-at : (a b t : Bool) (rid other : Rid) (names : List Rid)
    → cond (a && not (b || (same_rid other rid && t))) (other ∷ cond t (names_without rid names) names) (cond t (names_without rid names) names)
    ≡ cond t (names_without rid (cond (a && not b) (other ∷ names) names)) (cond (a && not b) (other ∷ names) names)
answered-at a b true rid other names = rw (and-true (same_rid other rid)) (answered-here a b (same_rid other rid) rid other names refl)
answered-at a b false rid other names = rw (and-false (same_rid other rid), or-false b) refl

pub open_at-answer : (server : ℕ) (history : List Mark) (rid : Rid) (from : ℕ)
    → open_at server (history ++ Answer rid from ∷ []) ≡ cond (server == from) (names_without rid (open_at server history)) (open_at server history)
unfolding open_at
open_at-answer server [] rid from = elim (server == from) as (λ b. [] ≡ cond b (names_without rid []) []) [ true ↦ refl | false ↦ refl ]
open_at-answer server (Accept other o ∷ after) rid from = open_at-answer server after rid from
open_at-answer server (Forward other to ∷ after) rid from =
    rw (any-push (is_answer_of other server) after (Answer rid from), open_at-answer server after rid from)
    (answered-at (server == to) (list_any (is_answer_of other server) after) (server == from) rid other (open_at server after))
open_at-answer server (Answer other at ∷ after) rid from = open_at-answer server after rid from

-- what waits
moved-on : (b c : Bool) (rid other : Rid) (names : List Rid) → same_rid other rid ≡ c
    → cond (b || c) (names_without rid names) (other ∷ names_without rid names) ≡ names_without rid (cond b names (other ∷ names))
moved-on true c rid other names e = refl
moved-on false true rid other names e = sym (without-cons rid other names ∙ rw e refl)
moved-on false false rid other names e = sym (without-cons rid other names ∙ rw e refl)

pub waiting-forward : (history : List Mark) (rid : Rid) (to : ℕ) → waiting (history ++ Forward rid to ∷ []) ≡ names_without rid (waiting history)
unfolding waiting
waiting-forward [] rid to = refl
waiting-forward (Accept other packet ∷ after) rid to =
    rw (any-push (is_move_of other) after (Forward rid to), waiting-forward after rid to)
    (moved-on (list_any (is_move_of other) after) (same_rid other rid) rid other (waiting after) refl)
waiting-forward (Forward other at ∷ after) rid to = waiting-forward after rid to
waiting-forward (Answer other from ∷ after) rid to = waiting-forward after rid to

same-last : (c : Bool) (x : Rid) (xs ys : List Rid) → cond c (xs ++ ys) (x ∷ (xs ++ ys)) ≡ cond c xs (x ∷ xs) ++ ys
same-last true x xs ys = refl
same-last false x xs ys = refl

pub waiting-accept : (history : List Mark) (rid : Rid) (packet : List ℕ) → waiting (history ++ Accept rid packet ∷ []) ≡ names_without rid (waiting history) ++ rid ∷ []
unfolding waiting
waiting-accept [] rid packet = refl
waiting-accept (Accept other o ∷ after) rid packet =
    rw (any-push (is_move_of other) after (Accept rid packet), waiting-accept after rid packet)
    (same-last (list_any (is_move_of other) after || same_rid other rid) other (names_without rid (waiting after)) (rid ∷ [])
    ∙ ap (λ names. names ++ rid ∷ []) (moved-on (list_any (is_move_of other) after) (same_rid other rid) rid other (waiting after) refl))
waiting-accept (Forward other at ∷ after) rid packet = waiting-accept after rid packet
waiting-accept (Answer other from ∷ after) rid packet = waiting-accept after rid packet

pub waiting-answer : (history : List Mark) (rid : Rid) (from : ℕ) → waiting (history ++ Answer rid from ∷ []) ≡ waiting history
unfolding waiting
waiting-answer [] rid from = refl
waiting-answer (Accept other o ∷ after) rid from =
    rw (any-same (is_move_of other) after (Answer rid from) refl, waiting-answer after rid from) refl
waiting-answer (Forward other at ∷ after) rid from = waiting-answer after rid from
waiting-answer (Answer other at ∷ after) rid from = waiting-answer after rid from

-- the packets
last-packet : (a b c : Bool) (old new : List ℕ) (rest : List ℕ) → cond (a && not (b || c)) old (cond c new rest) ≡ cond c new (cond (a && not b) old rest)
last-packet true true true old new rest = refl
last-packet true true false old new rest = refl
last-packet true false true old new rest = refl
last-packet true false false old new rest = refl
last-packet false b true old new rest = refl
last-packet false b false old new rest = refl

pub accepted_packet-accept : (history : List Mark) (rid : Rid) (packet : List ℕ) (q : Rid)
    → accepted_packet (history ++ Accept rid packet ∷ []) q ≡ cond (same_rid q rid) packet (accepted_packet history q)
unfolding accepted_packet
accepted_packet-accept [] rid packet q = rw (and-true (same_rid q rid)) refl
accepted_packet-accept (Accept other o ∷ after) rid packet q =
    rw (any-push (is_accept_of q) after (Accept rid packet), accepted_packet-accept after rid packet q)
    (last-packet (same_rid q other) (list_any (is_accept_of q) after) (same_rid q rid) o packet (accepted_packet after q))
accepted_packet-accept (Forward other at ∷ after) rid packet q = accepted_packet-accept after rid packet q
accepted_packet-accept (Answer other from ∷ after) rid packet q = accepted_packet-accept after rid packet q

pub accepted_packet-forward : (history : List Mark) (rid : Rid) (to : ℕ) (q : Rid) → accepted_packet (history ++ Forward rid to ∷ []) q ≡ accepted_packet history q
unfolding accepted_packet
accepted_packet-forward [] rid to q = refl
accepted_packet-forward (Accept other o ∷ after) rid to q =
    rw (any-same (is_accept_of q) after (Forward rid to) refl, accepted_packet-forward after rid to q) refl
accepted_packet-forward (Forward other at ∷ after) rid to q = accepted_packet-forward after rid to q
accepted_packet-forward (Answer other from ∷ after) rid to q = accepted_packet-forward after rid to q

pub accepted_packet-answer : (history : List Mark) (rid : Rid) (from : ℕ) (q : Rid) → accepted_packet (history ++ Answer rid from ∷ []) q ≡ accepted_packet history q
unfolding accepted_packet
accepted_packet-answer [] rid from q = refl
accepted_packet-answer (Accept other o ∷ after) rid from q =
    rw (any-same (is_accept_of q) after (Answer rid from) refl, accepted_packet-answer after rid from q) refl
accepted_packet-answer (Forward other at ∷ after) rid from q = accepted_packet-answer after rid from q
accepted_packet-answer (Answer other at ∷ after) rid from q = accepted_packet-answer after rid from q

-- a name that isn't among these
or-left : (a b : Bool) → (a || b) ≡ false → a ≡ false
or-left true b e = e
or-left false b e = refl

or-right : (a b : Bool) → (a || b) ≡ false → b ≡ false
or-right true b e = cc
or-right false b e = e

pub names_without-absent : (rid : Rid) (names : List Rid) → list_any (same_rid rid) names ≡ false → names_without rid names ≡ names
names_without-absent rid [] e = refl
names_without-absent rid (other ∷ names) e =
    let apart : same_rid rid other ≡ false = or-left (same_rid rid other) (list_any (same_rid rid) names) e in
    let rest : names_without rid names ≡ names = names_without-absent rid names (or-right (same_rid rid other) (list_any (same_rid rid) names) e) in
    rw (apart, rest) refl

-- what neither was accepted nor went anywhere doesn't wait
not-among : (b : Bool) (rid other : Rid) (names : List Rid) → same_rid rid other ≡ false → list_any (same_rid rid) names ≡ false
    → list_any (same_rid rid) (cond b names (other ∷ names)) ≡ false
not-among true rid other names apart rest = rest
not-among false rid other names apart rest = rw (apart, rest) refl

never-waits : (rid : Rid) (history : List Mark) → list_any (is_move_of rid) history ≡ false → list_any (same_rid rid) (waiting history) ≡ false
unfolding waiting
never-waits rid [] e = refl
never-waits rid (Accept other packet ∷ after) e =
    not-among (list_any (is_move_of other) after) rid other (waiting after) (or-left (same_rid rid other) (list_any (is_move_of rid) after) e)
    (never-waits rid after (or-right (same_rid rid other) (list_any (is_move_of rid) after) e))
never-waits rid (Forward other to ∷ after) e = never-waits rid after (or-right (same_rid rid other) (list_any (is_move_of rid) after) e)
never-waits rid (Answer other from ∷ after) e = never-waits rid after e

-- no request waits twice
first-only : (b : Bool) (other first : Rid) (after : List Mark) (more : List Rid) → list_any (is_move_of other) after ≡ b
    → cond b (waiting after) (other ∷ waiting after) ≡ first ∷ more
    → (waiting after ≡ first ∷ more → names_without first more ≡ more) → names_without first more ≡ more
first-only true other first after more moved e rest = rest e
first-only false other first after more moved e rest =
    let absent : names_without other (waiting after) ≡ waiting after = names_without-absent other (waiting after) (never-waits other after moved) in
    let same : other ≡ first = cc in
    let tail : waiting after ≡ more = cc in
    subst (λ (r : Rid). names_without r more ≡ more) same (subst (λ (names : List Rid). names_without other names ≡ names) tail absent)

pub waits-once : (history : List Mark) (first : Rid) (more : List Rid) → waiting history ≡ first ∷ more → names_without first more ≡ more
unfolding waiting
waits-once [] first more e = cc
waits-once (Accept other packet ∷ after) first more e =
    first-only (list_any (is_move_of other) after) other first after more refl e (waits-once after first more)
waits-once (Forward other to ∷ after) first more e = waits-once after first more e
waits-once (Answer other from ∷ after) first more e = waits-once after first more e
