-- What a disk held while a journal in its selected file stored records, one after another.
use Rattle.std.specs.Prelude.{◌≡◌, ◌⊎◌, ℕ, List, [], ◌∷◌, ◌++◌, Option, Some, None, refl}
use Rattle.std.proofs.Common.{inl, sym, ap, ◌∙◌, subst, append_assoc, append-nil}
use Rattle.hc_disk.specs.Calls.{Both}
use Rattle.hc_disk.specs.Disk.{Moments}
use Rattle.hc_disk.specs.Runs.{LeavesOnly, WasOnly}
use Rattle.hc_journal.specs.declared.journal.First.{First}
use Rattle.hc_log.specs.declared.record.Record.{Record}
use Rattle.hc_file_journal.specs.FileJournal.{IsWithOrWithout, LeavesJournal, kept_records}

-- a crash at any moment left the journal of these records, with this one more or without
abbrev pub TriedToStore : List Record → Record → Moments → Moments → Type 0
TriedToStore records r t u = WasOnly t u (LeavesOnly (IsWithOrWithout records r) t.now)

-- and now it leaves the one with it
pub record StoredOne (records : List Record) (r : Record) (t u : Moments) : Type 0 where
  pub any_moment : TriedToStore records r t u
  pub acknowledged : LeavesJournal (records ++ r ∷ []) u

-- after these records more were stored, one after another
abbrev pub StoredAll : List Record → List Record → Moments → Moments → Type 0
StoredAll records [] t u = u ≡ t
StoredAll records (r ∷ more) t u = (between : Moments) × (StoredOne records r t between × StoredAll (records ++ r ∷ []) more between u)

-- a journal that goes on did nothing more, and one that has ended may have tried to store one more
abbrev pub EndsWith : Option First → List Record → Moments → Moments → Type 0
EndsWith None records t u = u ≡ t
EndsWith (Some cause) records t u = (u ≡ t) ⊎ ((r : Record) × TriedToStore records r t u)

-- since a journal had acknowledged these records it acknowledged more, one after another, and nothing else was done but what a last
-- call tried that failed
pub record StoredSince (records acknowledged : List Record) (ended : Option First) (t u : Moments) : Type 0 where
  pub stored : List Record
  pub all : acknowledged ≡ records ++ stored
  pub last : Moments
  pub each : StoredAll records stored t last
  pub end : EndsWith ended (records ++ stored) last u

-- the same of a journal over a disk, by the offset of its closed gate before and now, and why it has ended now
abbrev pub Ran : ℕ → ℕ → Option First → Option Moments → Option Moments → Type 0
Ran before now ended old new = Both old new (λ t u. StoredSince (kept_records before t) (kept_records now u) ended t u)

-- ---- over no call, and over some calls and then others

nothing_more : (ended : Option First) (records : List Record) (t : Moments) → EndsWith ended records t t
nothing_more None records t = refl
nothing_more (Some cause) records t = inl refl

nothing_stored : (records : List Record) (ended : Option First) (t : Moments) → StoredSince records records ended t t
nothing_stored records ended t = record {
  stored = [];
  all = sym (append-nil records);
  last = t;
  each = refl;
  end = nothing_more ended (records ++ []) t;
}

pub ran_nothing : (end : ℕ) (ended : Option First) (disk : Option Moments) → Ran end end ended disk disk
ran_nothing end ended None = tt
ran_nothing end ended (Some t) = nothing_stored (kept_records end t) ended t

all_then : (records some more : List Record) (t u v : Moments) → StoredAll records some t u → StoredAll (records ++ some) more u v → StoredAll records (some ++ more) t v
all_then records [] more t u v first second =
    subst (λ (w : Moments). StoredAll records more w v) first (subst (λ (l : List Record). StoredAll l more u v) (append-nil records) second)
all_then records (r ∷ some) more t u v first second = (
  first.0,
  (
    first.1.0,
    all_then (records ++ r ∷ []) some more first.0 u v first.1.1
        (subst (λ (l : List Record). StoredAll l more u v) (sym (append_assoc records (r ∷ []) some)) second),
  ),
)

then_since : (a b c : List Record) (between ended : Option First) (t u v : Moments) → between ≡ None → StoredSince a b between t u → StoredSince b c ended u v → StoredSince a c ended t v
then_since a b c between ended t u v going first second =
    let all : b ++ second.stored ≡ a ++ (first.stored ++ second.stored) = ap (λ (l : List Record). l ++ second.stored) first.all ∙ append_assoc a first.stored second.stored in
    let still : u ≡ first.last = subst (λ (e : Option First). EndsWith e (a ++ first.stored) first.last u) going first.end in
    record {
      stored = first.stored ++ second.stored;
      all = second.all ∙ all;
      last = second.last;
      each = all_then a first.stored second.stored t first.last second.last first.each
          (subst (λ (w : Moments). StoredAll (a ++ first.stored) second.stored w second.last) still
          (subst (λ (l : List Record). StoredAll l second.stored u second.last) first.all second.each));
      end = subst (λ (l : List Record). EndsWith ended l second.last v) all second.end;
    }

pub ran_then : (before between now : ℕ) (going ended : Option First) (a b c : Option Moments) → going ≡ None → Ran before between going a b → Ran between now ended b c → Ran before now ended a c
ran_then before between now going ended None None None none first second = tt
ran_then before between now going ended None None (Some v) none first second = absurd second
ran_then before between now going ended None (Some u) c none first second = absurd first
ran_then before between now going ended (Some t) None c none first second = absurd first
ran_then before between now going ended (Some t) (Some u) None none first second = absurd second
ran_then before between now going ended (Some t) (Some u) (Some v) none first second =
    then_since (kept_records before t) (kept_records between u) (kept_records now v) going ended t u v none first second
