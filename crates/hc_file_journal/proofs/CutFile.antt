-- A recovery cuts what comes after the closed gate.
use Rattle.std.proofs.Common.{◌≡◌, inr, ℕ, ◌+◌, ◌-◌, ◌≤◌, List, [], ◌∷◌, ◌++◌, length, take, Option, IfSome, Ok, Err, refl, sym, ap, ◌∙◌, subst, arith, append_assoc, length-append}
use Rattle.std.proofs.Math.Seq.{take-append-add}
use Rattle.r2_base.specs.declared.fault.Failed.{Failed}
use Rattle.hc_disk.specs.Disk.{IsPrefix, MayLeave, Moments, now_content, selected_file, synced, with_file}
use Rattle.hc_disk.specs.Calls.{Both, Cuts, Makes}
use Rattle.hc_disk.specs.Runs.{LeavesOnly, SinceThen}
use Rattle.hc_disk.proofs.Moments.{Both-known, Both-weaker}
use Rattle.hc_disk.proofs.Standing as standing
use Rattle.hc_file_journal.specs.File.{IsJournal, row}
use Rattle.hc_file_journal.specs.FileJournal.{IsSameJournal}
use Rattle.hc_file_journal.specs.Recovery.{EndsAt, Recovers}
use Rattle.hc_file_journal.proofs.Settled.{rests}

abbrev P : Moments → List ℕ → Type 0
P t = IsSameJournal (now_content t)

-- whatever fails, no more is said than what a crash may leave
abbrev Anything : Moments → List ℕ → Type 0
Anything t file = Unit {0}

-- the cut after the closed gate
module _ (end : ℕ) where
  abbrev K : Moments → Type 0
  K = EndsAt end

  abbrev cut_file : Moments → List ℕ
  cut_file t = take (end + 1) (now_content t)

  abbrev pub At : Option Moments → Option Moments → (Moments → List ℕ) → Type 0
  At a b file = standing.Standing K P a b file (λ t left. left ≡ file t)

  abbrev pub Was : Option Moments → Option Moments → (Moments → List ℕ) → Type 0
  Was a b file = standing.Standing K P a b file P

  pub begun_at : (a : Option Moments) → IfSome a K → At a a now_content
  begun_at a known =
      standing.left_is K P a a now_content (λ t left. MayLeave (selected_file t.now) left) known (standing.begins K P a) (λ t left. left ≡ now_content t)
      (λ t k. k.stable)

  -- with so much of what comes after the gate
  kept_is : (t : Moments) (k : K t) (more : ℕ) → take (end + 1 + more) (now_content t) ≡ row k.records ++ k.has.gate ∷ take more k.has.rest
  kept_is t k more =
      let front = row k.records ++ k.has.gate ∷ [] in
      let long : length front ≡ end + 1 = omega (arith, length-append (row k.records) (k.has.gate ∷ []), k.place) in
      ap (take (end + 1 + more)) (k.has.same ∙ sym (append_assoc (row k.records) (k.has.gate ∷ []) k.has.rest))
      ∙ ap (λ (n : ℕ). take (n + more) (front ++ k.has.rest)) (sym long)
      ∙ take-append-add front k.has.rest more
      ∙ append_assoc (row k.records) (k.has.gate ∷ []) (take more k.has.rest)

  same_journal : (t : Moments) → K t → (kept : ℕ) (left : List ℕ) → end + 1 ≤ kept → left ≡ take kept (now_content t) → P t left
  same_journal t k kept left least is = record {
    records = k.records;
    was = inr k.has;
    is = inr (record {
      history = k.has.history;
      read = k.has.read;
      gate = k.has.gate;
      closed = k.has.closed;
      rest = take (kept - (end + 1)) k.has.rest;
      same = is ∙ ap (λ (n : ℕ). take n (now_content t)) (split kept least) ∙ kept_is t k (kept - (end + 1));
    });
  }
    where
      split : (n : ℕ) → end + 1 ≤ n → n ≡ end + 1 + (n - (end + 1))
      split n least = omega arith

  cut_outcome : (t : Moments) → K t → (between left : List ℕ) → between ≡ now_content t → IsPrefix (end + 1) between left → P t left
  cut_outcome t k between left is cut = same_journal t k cut.kept left cut.least (cut.same ∙ ap (take cut.kept) is)

  cut_content : (t : Moments) (k : K t) → cut_file t ≡ row k.records ++ k.has.gate ∷ []
  cut_content t k = ap (λ (n : ℕ). take n (now_content t)) (same_place end) ∙ kept_is t k 0
    where
      same_place : (n : ℕ) → n + 1 ≡ n + 1 + 0
      same_place n = omega arith

  module _ (a : Option Moments) (known : IfSome a K) where
    pub was_cut : (b : Option Moments) → Cuts a b (Ok tt) (end + 1) → Was a b cut_file
    was_cut b cut =
        standing.cut_ok K P a a now_content (λ t left. left ≡ now_content t) known (begun_at a known) b (end + 1) P cut
        (λ t k between left is front. (cut_outcome t k between left is front, cut_outcome t k between left is front))

    pub not_cut : (b : Option Moments) (fault : Failed) → Cuts a b (Err fault) (end + 1) → SinceThen a b (λ t held. LeavesOnly (P t) t.now held)
    not_cut b fault cut =
        standing.was_ending K P a b Anything
        (standing.cut_err K P a a now_content (λ t left. left ≡ now_content t) known (begun_at a known) b (end + 1) fault Anything cut cut_outcome (λ t k. tt) (λ t k kept least. tt))

    pub was_synced : (b c : Option Moments) → Was a b cut_file → Makes b c (Ok tt) (with_file synced) → At a c cut_file
    was_synced b c was made =
        standing.sync_ok K P a b cut_file P known was c made (λ t k. same_journal t k (end + 1) (cut_file t) (omega arith) refl)

    pub not_synced : (b c : Option Moments) (fault : Failed) → Was a b cut_file → Makes b c (Err fault) (with_file synced) → SinceThen a c (λ t held. LeavesOnly (P t) t.now held)
    not_synced b c fault was made =
        standing.was_ending K P a c Anything (standing.sync_err K P a b cut_file P known was c fault Anything made (λ t k. tt))

    pub was_all : (b : Option Moments) → At a b cut_file → SinceThen a b (λ t held. LeavesOnly (P t) t.now held)
    was_all b was = standing.was_standing K P a b cut_file (λ t left. left ≡ cut_file t) was

    pub recovers : (b : Option Moments) → At a b cut_file → Both a b (Recovers end)
    recovers b was =
        Both-weaker a b (λ t u. K t × standing.Stands t u (P t) (cut_file t) (λ left. left ≡ cut_file t)) (Recovers end) each
        (Both-known a b K (λ t u. standing.Stands t u (P t) (cut_file t) (λ left. left ≡ cut_file t)) known was)
      where
        each : (t u : Moments) → K t × standing.Stands t u (P t) (cut_file t) (λ left. left ≡ cut_file t) → Recovers end t u
        each t u s =
            let k = s.0 in
            let r = rests k.records u end k.has.gate (s.1.is ∙ cut_content t k) k.has.closed k.place k.has.history k.has.read (λ left may. s.1.left left may ∙ sym s.1.is) in
            record { settled = r.settled; journal = subst (λ l. IsJournal l (now_content t)) (sym r.same) (inr k.has) }
