-- From the bytes that an append stores to the journal's records, where the disk may report its moments.
use Rattle.std.proofs.Common.{◌≡◌, ℕ, ◌+◌, List, [], ◌∷◌, ◌++◌, length, take, Option, Some, None, IfSome, option_map, refl, ap, subst}
use Rattle.r2_link.specs.Told.{IsKept, Gains}
use Rattle.hc_disk.specs.Disk.{Held, Moments, now_content}
use Rattle.hc_disk.specs.Calls.{Both}
use Rattle.hc_disk.specs.Runs.{LeavesOnly, SinceThen, WasOnly}
use Rattle.hc_disk.proofs.Moments.{Both-known, Both-weaker, WasOnly-weaker}
use Rattle.hc_log.specs.declared.record.Record.{Record}
use Rattle.hc_log.specs.Durable.{replay, IsNext}
use Rattle.hc_journal.specs.Journal.{FitsTold}
use Rattle.hc_file_journal.specs.File.{ReadsBack, framed, records_of}
use Rattle.hc_file_journal.specs.FileJournal.{IsAtRest, IsSettled, IsWithOrWithout, LeavesJournal, kept_records}
use Rattle.hc_file_journal.specs.Stored.{HasStored, StoresOnly}
use Rattle.hc_file_journal.proofs.Settled.{leaves_journal, rests_again, with_or_without}

pub record Ready (end : ℕ) (r : Record) (t : Moments) : Type 0 where
  pub settled : IsSettled end t
  pub next : IsNext (replay (kept_records end t)) r

pub at_rest : (a : Option Moments) (end : ℕ) → IfSome a (IsSettled end) → IfSome a (IsAtRest end)
at_rest None end s = tt
at_rest (Some t) end s = s.rest

pub ready : (a : Option Moments) (end : ℕ) (r : Record) → IfSome a (IsSettled end) → FitsTold (option_map (kept_records end) a) r → IfSome a (Ready end r)
ready None end r s next = tt
ready (Some t) end r s next = record { settled = s; next = next }

-- what a crash leaves of one set of outcomes it leaves of a greater one
pub LeavesOnly-weaker : (P Q : List ℕ → Type 0) (start held : Held) → ((left : List ℕ) → P left → Q left) → LeavesOnly P start held → LeavesOnly Q start held
LeavesOnly-weaker P Q start held weaker l =
    record { selected = l.selected; others = l.others; left = λ left may. weaker left (l.left left may) }

module _ (a b : Option Moments) (end : ℕ) (r : Record) (known : IfSome a (Ready end r)) (reads : ReadsBack r) (piece : List ℕ) (is : piece ≡ framed r ++ 0 ∷ []) where
  pub any_moment : SinceThen a b (λ t held. LeavesOnly (StoresOnly end piece t) t.now held) → SinceThen a b (λ t held. LeavesOnly (IsWithOrWithout (kept_records end t) r) t.now held)
  any_moment was =
      Both-weaker a b (λ t u. Ready end r t × WasOnly t u (LeavesOnly (StoresOnly end piece t) t.now)) (λ t u. WasOnly t u (LeavesOnly (IsWithOrWithout (kept_records end t) r) t.now))
      (λ t u s. WasOnly-weaker t u (LeavesOnly (StoresOnly end piece t) t.now) (LeavesOnly (IsWithOrWithout (kept_records end t) r) t.now)
      (λ held. LeavesOnly-weaker (StoresOnly end piece t) (IsWithOrWithout (kept_records end t) r) t.now held
      (λ left stores. with_or_without end t r s.0.settled s.0.next reads left (subst (λ l. StoresOnly end l t left) is stores))) s.1)
      (Both-known a b (Ready end r) (λ t u. WasOnly t u (LeavesOnly (StoresOnly end piece t) t.now)) known was)

  module _ (n : ℕ) (size : n ≡ end + length piece) (stored : Both a b (HasStored end piece)) where
    pub settled : IfSome b (IsSettled n)
    settled = each a b known stored
      where
        each : (a b : Option Moments) → IfSome a (Ready end r) → Both a b (HasStored end piece) → IfSome b (IsSettled n)
        each None None k h = tt
        each None (Some u) k h = absurd h
        each (Some t) None k h = tt
        each (Some t) (Some u) k h =
            (rests_again end t r k.settled k.next reads u n (subst (λ l. HasStored end l t u) is h) (subst (λ l. n ≡ end + length l) is size)).settled

    pub gains : Gains (option_map (kept_records end) a) (option_map (kept_records n) b) (r ∷ [])
    gains = each a b known stored
      where
        each : (a b : Option Moments) → IfSome a (Ready end r) → Both a b (HasStored end piece) → Gains (option_map (kept_records end) a) (option_map (kept_records n) b) (r ∷ [])
        each None b k h = tt
        each (Some t) None k h = absurd h
        each (Some t) (Some u) k h =
            (rests_again end t r k.settled k.next reads u n (subst (λ l. HasStored end l t u) is h) (subst (λ l. n ≡ end + length l) is size)).same

pub acknowledged : (b : Option Moments) (n : ℕ) → IfSome b (IsSettled n) → IfSome b (λ u. LeavesJournal (kept_records n u) u)
acknowledged None n s = tt
acknowledged (Some u) n s = leaves_journal n u s

-- the records stay where the bytes before the gate do
pub kept : (a b : Option Moments) (end : ℕ) → Both a b (λ t u. take end (now_content u) ≡ take end (now_content t)) → IsKept (option_map (kept_records end) a) (option_map (kept_records end) b)
kept None b end same = tt
kept (Some t) None end same = absurd same
kept (Some t) (Some u) end same = ap records_of same

-- a disk that doesn't report its moments has no records to tell
pub silent : (a b : Option Moments) (m n : ℕ) (Q : Moments → Moments → Type 0) → Both a b Q → option_map (kept_records m) a ≡ None → option_map (kept_records n) b ≡ None
silent None None m n Q q none = refl
silent None (Some u) m n Q q none = absurd q
silent (Some t) b m n Q q none = absurd cc
