-- A recovery of a file of at most one byte makes an empty journal.
use Rattle.std.proofs.Common.{◌≡◌, ◌≢◌, inl, ℕ, ◌≤◌, List, [], ◌∷◌, length, Option, IfSome, Ok, Err, refl, sym, ap, ◌∙◌, arith, length-take}
use Rattle.std.proofs.lemmas.List.Elements.{All-nil}
use Rattle.r2_base.specs.declared.fault.Failed.{Failed}
use Rattle.hc_disk.specs.Disk.{IsPrefix, IsTorn, MayLeave, Moments, now_content, selected_file, synced, with_file}
use Rattle.hc_disk.specs.Calls.{Both, Cuts, Makes, Writes}
use Rattle.hc_disk.specs.Runs.{LeavesOnly, SinceThen}
use Rattle.hc_disk.proofs.Moments.{Both-known, Both-weaker}
use Rattle.hc_disk.proofs.Standing as standing
use Rattle.hc_log.proofs.Replays.{history_none}
use Rattle.hc_file_journal.specs.File.{ReadsBack, open_gate}
use Rattle.hc_file_journal.specs.FileJournal.{IsSameJournal}
use Rattle.hc_file_journal.specs.Recovery.{IsBlank, Recovers}
use Rattle.hc_file_journal.proofs.Settled.{rests}

abbrev P : Moments → List ℕ → Type 0
P t = IsSameJournal (now_content t)

-- whatever fails, no more is said than what a crash may leave
abbrev Anything : Moments → List ℕ → Type 0
Anything t file = Unit {0}

-- an empty journal is made
module _ (a : Option Moments) (known : IfSome a IsBlank) where
  abbrev none : Moments → List ℕ
  none t = []

  abbrev gate : Moments → List ℕ
  gate t = 0 ∷ []

  abbrev pub At : Option Moments → (Moments → List ℕ) → Type 0
  At b file = standing.Standing IsBlank P a b file (λ t left. left ≡ file t)

  abbrev pub Was : Option Moments → (Moments → List ℕ) → Type 0
  Was b file = standing.Standing IsBlank P a b file P

  blank : (t : Moments) → IsBlank t → (left : List ℕ) → length left ≤ 1 → P t left
  blank t k left few = record { records = []; was = inl (k.few, refl); is = inl (few, refl) }

  begun_at : standing.Standing IsBlank P a a now_content (λ t left. left ≡ now_content t)
  begun_at =
      standing.left_is IsBlank P a a now_content (λ t left. MayLeave (selected_file t.now) left) known (standing.begins IsBlank P a) (λ t left. left ≡ now_content t)
      (λ t k. k.stable)

  cut_outcome : (t : Moments) → IsBlank t → (between left : List ℕ) → between ≡ now_content t → IsPrefix 0 between left → P t left
  cut_outcome t k between left is cut =
      blank t k left (omega (arith, k.few, ap length is, ap length cut.same, length-take cut.kept between))

  pub was_cut : (b : Option Moments) → Cuts a b (Ok tt) 0 → Was b none
  was_cut b cut =
      standing.cut_ok IsBlank P a a now_content (λ t left. left ≡ now_content t) known begun_at b 0 P cut
      (λ t k between left is front. (cut_outcome t k between left is front, cut_outcome t k between left is front))

  pub not_cut : (b : Option Moments) (fault : Failed) → Cuts a b (Err fault) 0 → SinceThen a b (λ t held. LeavesOnly (P t) t.now held)
  not_cut b fault cut =
      standing.was_ending IsBlank P a b Anything
      (standing.cut_err IsBlank P a a now_content (λ t left. left ≡ now_content t) known begun_at b 0 fault Anything cut cut_outcome (λ t k. tt) (λ t k kept least. tt))

  pub was_synced : (b c : Option Moments) → Was b none → Makes b c (Ok tt) (with_file synced) → At c none
  was_synced b c was made = standing.sync_ok IsBlank P a b none P known was c made (λ t k. blank t k [] (omega arith))

  pub not_synced : (b c : Option Moments) (fault : Failed) (file : Moments → List ℕ) → Was b file → Makes b c (Err fault) (with_file synced) → SinceThen a c (λ t held. LeavesOnly (P t) t.now held)
  not_synced b c fault file was made =
      standing.was_ending IsBlank P a c Anything (standing.sync_err IsBlank P a b file P known was c fault Anything made (λ t k. tt))

  torn_outcome : (t : Moments) → IsBlank t → (between left : List ℕ) → between ≡ [] → IsTorn 0 1 between left → P t left
  torn_outcome t k between left is torn = blank t k left (omega (arith, ap length is, torn.no_longer))

  pub was_written : (b c : Option Moments) → At b none → Writes b c (Ok tt) 0 (0 ∷ []) → Was c gate
  was_written b c was wrote =
      standing.write_ok IsBlank P a b none (λ t left. left ≡ []) known was c 0 (0 ∷ []) P wrote
      (λ t k between left is torn. (torn_outcome t k between left is torn, torn_outcome t k between left is torn))

  pub not_written : (b c : Option Moments) (fault : Failed) → At b none → Writes b c (Err fault) 0 (0 ∷ []) → SinceThen a c (λ t held. LeavesOnly (P t) t.now held)
  not_written b c fault was wrote =
      standing.was_ending IsBlank P a c Anything
      (standing.write_err IsBlank P a b none (λ t left. left ≡ []) known was c 0 (0 ∷ []) fault Anything wrote torn_outcome (λ t k. tt) (λ t k bytes within. tt))

  pub was_synced_again : (b c : Option Moments) → Was b gate → Makes b c (Ok tt) (with_file synced) → At c gate
  was_synced_again b c was made = standing.sync_ok IsBlank P a b gate P known was c made (λ t k. blank t k (0 ∷ []) (omega arith))

  pub was_all : (b : Option Moments) → At b gate → SinceThen a b (λ t held. LeavesOnly (P t) t.now held)
  was_all b was = standing.was_standing IsBlank P a b gate (λ t left. left ≡ gate t) was

  pub recovers : (b : Option Moments) → At b gate → Both a b (Recovers 0)
  recovers b was =
      Both-weaker a b (λ t u. IsBlank t × standing.Stands t u (P t) (gate t) (λ left. left ≡ gate t)) (Recovers 0) each
      (Both-known a b IsBlank (λ t u. standing.Stands t u (P t) (gate t) (λ left. left ≡ gate t)) known was)
    where
      closed : 0 ≢ open_gate
      closed e = omega (arith, e)

      each : (t u : Moments) → IsBlank t × standing.Stands t u (P t) (gate t) (λ left. left ≡ gate t) → Recovers 0 t u
      each t u s =
          let r = rests [] u 0 0 s.1.is closed refl history_none (All-nil ReadsBack) (λ left may. s.1.left left may ∙ sym s.1.is) in
          record { settled = r.settled; journal = inl (s.0.few, r.same) }
