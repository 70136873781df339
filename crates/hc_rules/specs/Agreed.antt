-- The agreed list: the longest prefix of a term's book that is committed.
use Rattle.std.specs.Prelude.{◌≡◌, ◌⊎◌, ℕ, zero, suc, ◌*◌, ◌≤◌, Bool, true, max, ◌==◌, ◌&&◌, nat_le, nat_lt, if◌then◌else◌, List, [], length, take}
use Rattle.r2_base.specs.declared.entry.Entry.{Entry}
use Rattle.r2_base.specs.Entry.{is_request}
use Rattle.hc_rules.specs.Log.{In, Share, entry_at, term_at}
use Rattle.hc_rules.specs.Majority.{tally}
use Rattle.hc_rules.specs.Message.{Passed}
use Rattle.hc_rules.specs.Protocol.{ProtocolState, Committed, backs}

-- whether the first m entries of a term's book are committed
abbrev pub is_committed : ProtocolState → ℕ → ℕ → Bool
is_committed w t m =
    (nat_lt 0 m && nat_le m (length (w.book t)))
    && ((term_at (w.book t) m == t) && nat_lt w.size (2 * tally w.size (backs w.winner w.acks t m)))

-- the greatest number up to n that passes a test, or 0
abbrev pub greatest : (ℕ → Bool) → ℕ → ℕ
greatest p zero = 0
greatest p (suc n) = if p (suc n) then suc n else greatest p n

-- the greatest value of a function below n
abbrev pub highest : ℕ → (ℕ → ℕ) → ℕ
highest zero f = 0
highest (suc n) f = max (f n) (highest n f)

-- what is committed of a term's book
abbrev pub committed_front : ProtocolState → ℕ → List Entry
committed_front w t = take (greatest (is_committed w t) (length (w.book t))) (w.book t)

-- the longer of two lists, and the second of two that are as long
abbrev pub longer : List Entry → List Entry → List Entry
longer xs ys = if nat_le (length xs) (length ys) then ys else xs

-- the longest of what is committed of the books up to a term
abbrev pub agreed_up_to : ProtocolState → ℕ → List Entry
agreed_up_to w zero = committed_front w zero
agreed_up_to w (suc t) = longer (committed_front w (suc t)) (agreed_up_to w t)

-- the agreed list: no term above all members' terms was won
unfoldable pub agreed : ProtocolState → List Entry
agreed w = agreed_up_to w (highest w.size w.term)

-- a prefix of a book that is committed
pub record IsCommittedFront (w : ProtocolState) (log : List Entry) : Type 0 where
  pub term : ℕ
  pub index : ℕ
  pub committed : Committed w term index
  pub is : log ≡ take index (w.book term)

-- the list that the group has agreed on: each committed prefix of a book is one of its own, and it is such a prefix
-- itself, or there is none
pub record IsAgreed (w : ProtocolState) (log : List Entry) : Type 0 where
  pub has_all : (t m : ℕ) → Committed w t m → Share m log (w.book t)
  pub is_one : (log ≡ []) ⊎ IsCommittedFront w log

-- the entry at an index of a list
pub record HasAt (log : List Entry) (index : ℕ) (e : Entry) : Type 0 where
  pub first : 1 ≤ index
  pub within : index ≤ length log
  pub is : entry_at log index ≡ e

-- no request id is found at two indexes
abbrev pub HasNoneTwice : List Entry → Type 0
HasNoneTwice log =
    (i k : ℕ) → 1 ≤ i → i ≤ length log → 1 ≤ k → k ≤ length log → is_request (entry_at log i).kind ≡ true
    → is_request (entry_at log k).kind ≡ true → (entry_at log i).rid ≡ (entry_at log k).rid → i ≡ k

-- what members apply at one index, at whatever time, is the same entry
abbrev pub AppliesTheSame : ProtocolState → Type 0
AppliesTheSame w = (x y : Passed) → In x w.passed → In y w.passed → x.index ≡ y.index → x.entry ≡ y.entry
