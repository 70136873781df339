-- Logs without bodies: their entries by index, what two of them share, and when one is as recent as another.
use Rattle.std.specs.Prelude.{◌≡◌, ◌≢◌, ℕ, zero, suc, ◌+◌, ◌<◌, ◌≤◌, true, ◌⊎◌, List, [], ◌∷◌, length, take, get_or}
use Rattle.r2_base.specs.declared.rid.Rid.{Rid}
use Rattle.r2_base.specs.declared.entry.Entry.{Entry}
use Rattle.r2_base.specs.Entry.{blank_entry, is_request}

-- x is one of the items
abbrev pub In : {A : Type 0} → A → List A → Type 0
In x [] = ⊥
In x (y ∷ ys) = (x ≡ y) ⊎ In x ys

-- the entry at an index, counted from 1; outside the log there is a blank one of term 0
abbrev pub entry_at : List Entry → ℕ → Entry
entry_at log zero = blank_entry 0
entry_at log (suc before) = get_or log before (blank_entry 0)

-- the term of the entry at an index, and 0 at index 0
abbrev pub term_at : List Entry → ℕ → ℕ
term_at log index = (entry_at log index).term

-- the term of the last entry, and 0 for the empty log
abbrev pub last_term : List Entry → ℕ
last_term log = term_at log (length log)

-- a log that ends at this index in this term isn't ahead of one that ends at that index in that term (Raft, section 5.4.1)
abbrev pub IsNotAhead : ℕ → ℕ → ℕ → ℕ → Type 0
IsNotAhead term index that_term that_index = (term < that_term) ⊎ ((term ≡ that_term) × (index ≤ that_index))

-- both lists have so many items, and the first so many are the same
pub record Share {A : Type 0} (count : ℕ) (these those : List A) : Type 0 where
  pub here : count ≤ length these
  pub there : count ≤ length those
  pub same : take count these ≡ take count those

-- so many entries after an index have the terms of these
abbrev pub HaveTerms : ℕ → ℕ → List Entry → List Entry → Type 0
HaveTerms count behind log these = (k : ℕ) → k < count → term_at log (suc (behind + k)) ≡ term_at these (suc k)

-- no entry's request has this id
abbrev pub Lacks : Rid → List Entry → Type 0
Lacks rid log = (k : ℕ) → k < length log → is_request (entry_at log (suc k)).kind ≡ true → (entry_at log (suc k)).rid ≢ rid

-- the entry at some index is of the request with this id
pub record StandsIn (rid : Rid) (log : List Entry) : Type 0 where
  pub behind : ℕ
  pub within : behind < length log
  pub asks : is_request (entry_at log (suc behind)).kind ≡ true
  pub named : (entry_at log (suc behind)).rid ≡ rid
