-- A recovery: the file is synced and read, and then put in order.
use Rattle.std.proofs.Common.{◌≡◌, inl, inr, ℕ, ◌≤◌, List, ◌∷◌, length, Option, Some, None, IfSome, Ok, Err, refl, sym, ap, ◌∙◌, subst, arith, length-append}
use Rattle.std.specs.Prelude.{option_map}
use Rattle.r2_base.specs.declared.fault.Failed.{Failed}
use Rattle.hc_disk.specs.Disk.{MayLeave, Moments, now_content, selected_file, synced, with_file}
use Rattle.hc_disk.specs.Calls.{Both, Makes}
use Rattle.hc_disk.specs.Runs.{LeavesOnly, SinceThen}
use Rattle.hc_disk.proofs.Moments.{Both-last, Both-next, Both-weaker}
use Rattle.hc_disk.proofs.Standing as standing
use Rattle.hc_log.specs.Durable.{State, begun, replay}
use Rattle.hc_log.proofs.Replays.{replay_none}
use Rattle.hc_file_journal.specs.File.{IsDamaged, IsJournal, row}
use Rattle.hc_file_journal.specs.FileJournal.{IsSameJournal, IsSettled, StaysJournal, TellsJournal, kept_records}
use Rattle.hc_file_journal.specs.Recovery.{EndsAt, IsBlank, IsRecovered, Recovers}
use Rattle.hc_file_journal.specs.RowReading.{EndsRow}
use Rattle.hc_file_journal.proofs.Rows.{few_records, one_row_ends}

abbrev K : Moments → Type 0
K t = Unit {0}

-- from a on the file was synced, and nothing else
abbrev pub Synced : Option Moments → Option Moments → Type 0
Synced a b = standing.Standing K StaysJournal a b now_content (λ t left. left ≡ now_content t)

nothing : (a : Option Moments) → IfSome a K
nothing None = tt
nothing (Some t) = tt

pub was_synced : (a b : Option Moments) → Makes a b (Ok tt) (with_file synced) → Synced a b
was_synced a b made =
    standing.sync_ok K StaysJournal a a now_content (λ t left. MayLeave (selected_file t.now) left) (nothing a) (standing.begins K StaysJournal a) b made (λ t k. inr (inl refl))

-- and what was read from it then tells no other moments
pub synced_then : (a b c : Option Moments) → Makes a b (Ok tt) (with_file synced) → c ≡ b → Synced a c
synced_then a b c made same = subst (λ x. Synced a x) (sym same) (was_synced a b made)

pub read_then : (b c : Option Moments) (bytes : List ℕ) → IfSome b (λ t. bytes ≡ now_content t) → c ≡ b → IfSome c (λ t. bytes ≡ now_content t)
read_then b c bytes read same = subst (λ x. IfSome x (λ t. bytes ≡ now_content t)) (sym same) read

pub not_synced : (a b : Option Moments) (fault : Failed) → Makes a b (Err fault) (with_file synced) → SinceThen a b (λ t held. LeavesOnly (StaysJournal t) t.now held)
not_synced a b fault made =
    standing.was_ending K StaysJournal a b (λ t file. Unit {0})
    (standing.sync_err K StaysJournal a a now_content (λ t left. MayLeave (selected_file t.now) left) (nothing a) (standing.begins K StaysJournal a) b fault (λ t file. Unit {0}) made (λ t k. tt))

pub was_all : (a b : Option Moments) → Synced a b → SinceThen a b (λ t held. LeavesOnly (StaysJournal t) t.now held)
was_all a b was = standing.was_standing K StaysJournal a b now_content (λ t left. left ≡ now_content t) was

pub unchanged : (a b : Option Moments) → Synced a b → Both a b (λ t u. now_content u ≡ now_content t)
unchanged a b was =
    Both-weaker a b (λ t u. standing.Stands t u (StaysJournal t) (now_content t) (λ left. left ≡ now_content t)) (λ t u. now_content u ≡ now_content t) (λ t u s. s.is) was

-- and then another stretch, of which a crash leaves the same journal
pub then_same : (a b c : Option Moments) → Synced a b → SinceThen b c (λ t held. LeavesOnly (IsSameJournal (now_content t)) t.now held) → SinceThen a c (λ t held. LeavesOnly (StaysJournal t) t.now held)
then_same a b c was more =
    standing.then_only K StaysJournal a b c now_content (λ t left. left ≡ now_content t) (λ u. IsSameJournal (now_content u)) was more
    (λ t u is left same. inr (inr (subst (λ l. IsSameJournal l left) is same)))

-- the bytes that were read are the file's
module _ (a b : Option Moments) (bytes : List ℕ) (was : Synced a b) (read : IfSome b (λ t. bytes ≡ now_content t)) where
  known : Both a b (λ t u. standing.Stands t u (StaysJournal t) (now_content t) (λ left. left ≡ now_content t) × (bytes ≡ now_content u))
  known = each a b was read
    where
      each : (a b : Option Moments) → Synced a b → IfSome b (λ t. bytes ≡ now_content t) → Both a b (λ t u. standing.Stands t u (StaysJournal t) (now_content t) (λ left. left ≡ now_content t) × (bytes ≡ now_content u))
      each None None w r = tt
      each None (Some u) w r = absurd w
      each (Some t) None w r = absurd w
      each (Some t) (Some u) w r = (w, r)

  abbrev Fact : Moments → Moments → Type 0
  Fact t u = standing.Stands t u (StaysJournal t) (now_content t) (λ left. left ≡ now_content t) × (bytes ≡ now_content u)

  stable_now : (t u : Moments) → Fact t u → (left : List ℕ) → MayLeave (selected_file u.now) left → left ≡ now_content u
  stable_now t u f left may = f.0.left left may ∙ sym f.0.is

  pub is_blank : length bytes ≤ 1 → IfSome b IsBlank
  is_blank few = Both-last a b Fact IsBlank (λ t u f. record { few = omega (arith, few, ap length f.1); stable = stable_now t u f }) known

  pub ends_at : (end : ℕ) (d : State) → EndsRow end d bytes → IfSome b (EndsAt end)
  ends_at end d ends = Both-last a b Fact (EndsAt end) (λ t u f. record {
    records = ends.reads.records;
    has = record {
      history = ends.reads.history;
      read = ends.reads.read;
      gate = ends.gate;
      closed = ends.closed;
      rest = ends.rest;
      same = sym f.1 ∙ ends.reads.same;
    };
    place = omega (arith, ends.place, ap length ends.reads.same, length-append (row ends.reads.records) (ends.gate ∷ ends.rest));
    stable = stable_now t u f;
  }) known

  pub damaged : (at : ℕ) → IsDamaged at bytes → IfSome a (λ t. IsDamaged at (now_content t))
  damaged at is = each a b known
    where
      each : (a b : Option Moments) → Both a b Fact → IfSome a (λ t. IsDamaged at (now_content t))
      each None b k = tt
      each (Some t) None k = absurd k
      each (Some t) (Some u) k = subst (IsDamaged at) (k.1 ∙ k.0.is) is

  -- what was read is the journal that stays
  pub found : (c : Option Moments) (end : ℕ) (d : State) → EndsRow end d bytes → Both b c (Recovers end) → Both a c (IsRecovered end d)
  found c end d ends more = Both-next a b c Fact (Recovers end) (IsRecovered end d) (λ t u v f r. record {
    settled = r.settled;
    journal = subst (IsJournal (kept_records end v)) f.0.is r.journal;
    replayed = ends.reads.leads ∙ ap replay (sym (one_row_ends (kept_records end v) end d bytes ends (subst (IsJournal (kept_records end v)) (sym f.1) r.journal)));
  }) known more

  pub found_none : (c : Option Moments) (d : State) → length bytes ≤ 1 → d ≡ begun → Both b c (Recovers 0) → Both a c (IsRecovered 0 d)
  found_none c d few is more = Both-next a b c Fact (Recovers 0) (IsRecovered 0 d) (λ t u v f r. record {
    settled = r.settled;
    journal = subst (IsJournal (kept_records 0 v)) f.0.is r.journal;
    replayed = is ∙ sym replay_none ∙ ap replay (sym (few_records bytes (kept_records 0 v) few (subst (IsJournal (kept_records 0 v)) (sym f.1) r.journal)));
  }) known more

-- what the recovered journal tells
pub tells : (a c : Option Moments) (end : ℕ) (d : State) → Both a c (IsRecovered end d) → TellsJournal a (option_map (kept_records end) c) d
tells None c end d f = tt
tells (Some t) None end d f = absurd f
tells (Some t) (Some u) end d f = record { journal = f.journal; replayed = f.replayed }

pub settled : (a c : Option Moments) (end : ℕ) (d : State) → Both a c (IsRecovered end d) → IfSome c (IsSettled end)
settled a c end d f = Both-last a c (IsRecovered end d) (IsSettled end) (λ t u r. r.settled) f
