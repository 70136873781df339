-- Votes are counted, and a candidate with a majority wins.
use Rattle.std.proofs.Common.{◌≡◌, ℕ, zero, suc, ◌+◌, ◌<◌, ◌≤◌, ◌==◌, ◌&&◌, Bool, true, false, List, [], ◌∷◌, ◌++◌, length, take, drop, get_or, replicate, Some, refl, sym, ap, subst, ◌∙◌, arith, inl, inr, add-one, length-append}
use Rattle.std.specs.Prelude.{All, count_by, if◌then◌else◌, slice_index_or, slice_set}
use Rattle.std.proofs.lemmas.Bool.{cases_lt, leb-true}
use Rattle.std.proofs.lemmas.List.{get_or-replicate, get_or_past, get_or-set_other, get_or-set_same, get_or_default, length-replicate, map-append, take_all}
use Rattle.std.proofs.lemmas.List.Elements.{All-drop, All-head, All-push, All-tail}
use Rattle.std.proofs.lemmas.List.Sums.{count_by_more_no, count_by_more_yes}
use Rattle.r2_base.specs.declared.entry.Entry.{Entry}
use Rattle.r2_base.specs.Entry.{blank_entry, is_request}
use Rattle.hc_log.specs.declared.stored.Stored.{Stored}
use Rattle.hc_log.specs.Log.{blank_of, metas_of}
use Rattle.hc_member.specs.declared.setup.Setup.{Setup}
use Rattle.hc_member.specs.declared.role.Role.TheVariants as member
use Rattle.hc_member.specs.Member.{Member}
use Rattle.hc_member.specs.Outcome.{Outcome}
use Rattle.hc_member.specs.Setup.{IsSetup, address_of, majority}
use Rattle.hc_member.specs.Votes.{is_elected, wins, wins_if_elected}
use Rattle.hc_rules.specs.Conditions.{MayWin}
use Rattle.hc_rules.specs.Kept.{Kept}
use Rattle.hc_rules.specs.Log as world
use Rattle.hc_rules.specs.Majority.{IsMajority, tally}
use Rattle.hc_rules.specs.Parts.{member_of}
use Rattle.hc_rules.specs.Protocol.{ProtocolState, Leader, indexes_of, is_to, put, reported}
use Rattle.hc_rules.specs.Rules.{CountVote, Win, after}
use Rattle.hc_rules.proofs.Puts.{other, put_same, same_or_not, self}
use Rattle.hc_rules.proofs.Steps.{steps_keep}
use Rattle.hc_run.specs.Held.{IsAmong, IsLed, IsStoredOf}
use Rattle.hc_run.specs.Tied.{IsTied}
use Rattle.hc_run.proofs.Metas.{length-metas}
use Rattle.hc_run.proofs.Ways.{IsLike, IsWay, acts, way-first}

-- two members at one address are the same
pub one-address : (s : Setup) (a b : ℕ) → IsSetup s → a < length s.members → b < length s.members → address_of s a ≡ address_of s b → a ≡ b
one-address s a b is here there same =
    elim (cases_lt a b) [
      | inl less ↦ absurd (is.distinct a b _ less there same)
      | inr more ↦
          elim (cases_lt b a) [
            | inl less ↦ absurd (is.distinct b a _ less here (sym same))
            | inr most ↦ omega (arith, more, most)
          ]
    ]

-- Counting a vote --

pub tie-count : (w : ProtocolState) (v : ℕ) (m : Member) (voter : ℕ) → IsTied (member_of w v) m → m.role ≡ member.Candidate → voter < length m.votes
    → IsTied (member_of (after w (CountVote v voter)) v) (record m { votes = slice_set m.votes voter true })
tie-count w v m voter t stands inside =
    record {
      up = t.up;
      term = t.term;
      vote = t.vote;
      log = t.log;
      role = t.role;
      matched = t.matched;
      commit = t.commit;
      applied = t.applied;
      counted = λ e c.
          ap (λ (f : ℕ → Bool). f c) (put_same w.counted v (put (w.counted v) voter true))
          ∙ elim (same_or_not c voter) [
            | inl same ↦ rw (same, self voter, get_or-set_same m.votes voter true false inside) refl
            | inr differs ↦ rw (differs, get_or-set_other m.votes voter c true false (λ same. absurd (by same differs))) (t.counted e c)
          ];
      start = t.start;
      reached = t.reached;
    }
  where
    by : {c d : ℕ} → c ≡ d → (c == d) ≡ false → ⊥
    by {c} {d} same differs = absurd (let f = rw (same, self d) at differs in cc)

-- Majorities --

tally-count : (n : ℕ) (p : ℕ → Bool) (votes : List Bool) → n ≤ length votes → ((c : ℕ) → p c ≡ slice_index_or votes c false)
    → tally n p ≡ count_by (λ vote. vote) (take n votes)
tally-count zero p votes inside same = refl
tally-count (suc n) p votes inside same =
    let here : n < length votes = omega (arith, inside) in
    let rest = tally-count n p votes (omega (arith, inside)) same in
    rw (sym (add-one n)) (by (get_or votes n false) refl here rest)
  where
    by : (b : Bool) → get_or votes n false ≡ b → n < length votes → tally n p ≡ count_by (λ vote. vote) (take n votes)
        → (if p n then 1 else 0) + tally n p ≡ count_by (λ vote. vote) (take (n + 1) votes)
    by true e here rest =
        let p_is : p n ≡ true = same n ∙ e in
        let more = count_by_more_yes (λ vote. vote) votes n false here e in
        rw p_is (omega (arith, rest, more))
    by false e here rest =
        let p_is : p n ≡ false = same n ∙ e in
        let more = count_by_more_no (λ vote. vote) votes n false here e in
        rw p_is (omega (arith, rest, more))

pub majority-counted : (s : Setup) (size : ℕ) (p : ℕ → Bool) (votes : List Bool) → size ≡ length s.members → length votes ≡ length s.members
    → ((c : ℕ) → p c ≡ slice_index_or votes c false) → is_elected s votes ≡ true → IsMajority size p
majority-counted s size p votes each long same elected =
    let all : take size votes ≡ votes = take_all size votes (omega (arith, each, long)) in
    let count : tally size p ≡ count_by (λ vote. vote) votes = rw all at (tally-count size p votes (omega (arith, each, long)) same) in
    let most = leb-true (majority s) (count_by (λ vote. vote) votes) elected in
    omega (arith, count, most, each)

-- Winning --

-- no index of entries that don't pass a test
pub indexes-none : (f : Entry → Bool) (before : ℕ) (log : List Entry) → All (λ e. f e ≡ false) log → indexes_of f before log ≡ []
indexes-none f before [] all = refl
indexes-none f before (e ∷ more) all =
    rw (All-head (λ e. f e ≡ false) e more all) (indexes-none f (suc before) more (All-tail (λ e. f e ≡ false) e more all))

among-none : (xs ys : List ℕ) → xs ≡ [] → IsAmong xs ys
among-none [] ys e = tt
among-none (x ∷ xs) ys e = absurd cc

-- an entry of an earlier term, and a blank one, is nobody's in this term
is_to-earlier : (t p : ℕ) (e : Entry) → e.term < t → is_to t p e ≡ false
is_to-earlier t p e below = by (is_request e.kind)
  where
    by : (b : Bool) → (b && (t == e.term) && (p == e.replier)) ≡ false
    by true = rw (other t e.term (λ same. omega (arith, below, same))) refl
    by false = refl

tie-win : (s : Setup) (w : ProtocolState) (m : Member) → IsTied (member_of w s.me) m → IsTied (member_of (after w (Win s.me)) s.me) (wins s m)
unfolding wins
tie-win s w m t =
    record {
      up = t.up;
      term = t.term;
      vote = t.vote;
      log = put_same w.log s.me (w.log s.me ++ blank_entry (w.term s.me) ∷ []) ∙ rw (t.log, t.term) (sym (map-append (λ (x : Stored). x.entry) m.log (blank_of m.term ∷ [])));
      role = put_same w.role s.me Leader;
      matched = put_same w.matched s.me (suc (length (w.log s.me))) ∙ rw t.log (last m.log);
      commit = t.commit;
      applied = t.applied;
      counted = λ e c. absurd cc;
      start = λ e. put_same w.start s.me (suc (length (w.log s.me))) ∙ rw t.log (last m.log);
      reached = λ e p. ap (λ (f : ℕ → ℕ). f p) (put_same w.reached s.me (λ p. 0)) ∙ sym (zeros (length s.members) p);
    }
  where
    last : (log : List Stored) → suc (length (metas_of log)) ≡ length log + 1
    last log = rw (length-metas log) (sym (add-one (length log)))

    zeros : (n p : ℕ) → slice_index_or (replicate {A = ℕ} n 0) p 0 ≡ 0
    zeros n p =
        elim (cases_lt p n) [
          | inl inside ↦ get_or-replicate n p 0 0 inside
          | inr past ↦ get_or_past (replicate n 0) p 0 (omega (arith, past, length-replicate {A = ℕ} n 0))
        ]

-- the entries of a log with which a term was won are earlier ones
base-earlier : (w : ProtocolState) (v : ℕ) → Kept (after w (Win v)) → (k : ℕ) → k < length (w.log v) → world.term_at (w.log v) (suc k) < w.term v
base-earlier w v kept k inside =
    let winners = kept.winners in
    let book = winners.books_are_of_their_terms (w.term v) v (put_same w.winner (w.term v) (Some v)) in
    let base : put w.base (w.term v) (w.log v) (w.term v) ≡ w.log v = put_same w.base (w.term v) (w.log v) in
    let older = book.older in
    subst (λ (l : List Entry). world.term_at l (suc k) < w.term v) base (older k (rw base inside))

led-win : (s : Setup) (w : ProtocolState) (m : Member) → IsTied (member_of w s.me) m → Kept (after w (Win s.me)) → IsLed w.reports s.me (wins s m)
unfolding wins
led-win s w m t kept leads = (
  simp length-append,
  λ p.
      let f = is_to m.term p in
      let before = reported w.reports s.me m.term p in
      let old : All (λ e. f e ≡ false) (metas_of m.log) = λ k d inside.
      let base : world.term_at (metas_of m.log) (suc k) < m.term =
      rw (t.log, t.term) at (base-earlier w s.me kept k (rw t.log inside)) in
      is_to-earlier m.term p (get_or (metas_of m.log) k d) (rw (get_or_default (metas_of m.log) k d (blank_entry 0) inside) base) in
      let all : All (λ e. f e ≡ false) (metas_of (m.log ++ blank_of m.term ∷ [])) =
      rw (map-append (λ (x : Stored). x.entry) m.log (blank_of m.term ∷ [])) (All-push (λ e. f e ≡ false) (metas_of m.log) (blank_entry m.term) old refl) in
      among-none (indexes_of f before (drop before (metas_of (m.log ++ blank_of m.term ∷ [])))) _
      (indexes-none f before (drop before (metas_of (m.log ++ blank_of m.term ∷ []))) (All-drop (λ e. f e ≡ false) before (metas_of (m.log ++ blank_of m.term ∷ [])) all)),
)

-- a candidate with a majority wins
pub like-win : (s : Setup) (w : ProtocolState) (m : Member) → IsLike s w m → Kept (after w (Win s.me)) → IsLike s (after w (Win s.me)) (wins s m)
unfolding wins
like-win s w m like kept =
    let holds = like.holds in
    record {
      group = record { size = like.group.size; bound = like.group.bound };
      tied = tie-win s w m like.tied;
      holds =
          record {
            bodies = All-push (IsStoredOf w.table) m.log (blank_of m.term) holds.bodies (λ asks. absurd cc);
            pool = holds.pool;
            kept = holds.kept;
            led = led-win s w m like.tied kept;
            unfinished = holds.unfinished;
          };
    }

-- a candidate with these votes wins, if they are a majority's
pub elected-way : (s : Setup) (w : ProtocolState) (m : Member) (o : Outcome) (b : Bool) → IsSetup s → Kept w → IsLike s w m → m.role ≡ member.Candidate
    → length m.votes ≡ length s.members → is_elected s m.votes ≡ b
    → ((v : ProtocolState) → IsLike s v (if b then wins s m else m) → IsWay s v o v.passed v.reports) → IsWay s w o w.passed w.reports
elected-way s w m o false is kept like stands each e goes = goes w like
elected-way s w m o true is kept like stands each e goes =
    let tied = like.tied in
    let group = like.group in
    let may : MayWin w s.me =
    record {
      competes = record { acts = acts s w m is like; competes = rw (tied.role, stands) refl };
      majority = majority-counted s w.size (w.counted s.me) m.votes group.size each (tied.counted stands) e;
    } in
    let kept_on = steps_keep w (Win s.me) kept may in
    way-first s w o w.passed w.reports (Win s.me) refl may (goes (after w (Win s.me)) (like-win s w m like kept_on))

pub elects : (s : Setup) (w : ProtocolState) (m : Member) (o : Outcome) → IsSetup s → Kept w → IsLike s w m → m.role ≡ member.Candidate
    → length m.votes ≡ length s.members
    → ((v : ProtocolState) → IsLike s v (wins_if_elected s m) → IsWay s v o v.passed v.reports) → IsWay s w o w.passed w.reports
elects s w m o is kept like stands each goes = elected-way s w m o (is_elected s m.votes) is kept like stands each refl goes
