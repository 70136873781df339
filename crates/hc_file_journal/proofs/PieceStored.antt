-- The four calls that store a piece after a closed gate.
use Rattle.std.proofs.Common.{◌≡◌, inl, inr, ℕ, ◌+◌, ◌<◌, ◌≤◌, List, [], ◌∷◌, ◌++◌, length, get_or, take, drop, Option, IfSome, Ok, Err, refl, sym, ap, ◌∙◌, subst, arith, append_assoc, length-append, length-take}
use Rattle.std.proofs.lemmas.List.{drop_all, drop_at, take_at}
use Rattle.r2_base.specs.declared.fault.Failed.{Failed}
use Rattle.hc_disk.specs.Disk.{IsTorn, MayLeave, Moments, Wrote, changed, now_content, selected_file, synced, with_file}
use Rattle.hc_disk.specs.Calls.{Both, Makes, Writes}
use Rattle.hc_disk.specs.Runs.{LeavesOnly, SinceThen}
use Rattle.hc_disk.proofs.Moments.{Both-known, Both-last, Both-weaker}
use Rattle.hc_disk.proofs.Standing as standing
use Rattle.hc_disk.proofs.Torn.{changed-end, split_at_byte, take-changed, torn-byte, torn-end}
use Rattle.hc_file_journal.specs.File.{open_gate}
use Rattle.hc_file_journal.specs.FileJournal.{IsAtRest}
use Rattle.hc_file_journal.specs.Stored.{HasStored, StoresOnly}

module _ (end : ℕ) (piece : List ℕ) where
  abbrev K : Moments → Type 0
  K = IsAtRest end

  abbrev P : Moments → List ℕ → Type 0
  P = StoresOnly end piece

  -- the file with the piece after the closed gate, and with that gate opened
  abbrev staged : Moments → List ℕ
  staged t = take end (now_content t) ++ get_or (now_content t) end 0 ∷ piece

  abbrev stored : Moments → List ℕ
  stored t = take end (now_content t) ++ open_gate ∷ piece

  -- what stays whatever fails
  abbrev pub Keeps : Moments → List ℕ → Type 0
  Keeps t file = take end file ≡ take end (now_content t)

  abbrev pub At : Option Moments → Option Moments → (Moments → List ℕ) → Type 0
  At a b file = standing.Standing K P a b file (λ t left. left ≡ file t)

  abbrev pub Written : Option Moments → Option Moments → (Moments → List ℕ) → Type 0
  Written a b file = standing.Standing K P a b file P

  abbrev pub Failing : Option Moments → Option Moments → Type 0
  Failing a b = standing.Ending K P a b Keeps

  length-front : (t : Moments) → K t → length (take end (now_content t)) ≡ end
  length-front t k = omega (arith, length-take end (now_content t), k.long)

  split : (t : Moments) → K t → now_content t ≡ take end (now_content t) ++ get_or (now_content t) end 0 ∷ []
  split t k =
      split_at_byte end (now_content t) (omega (arith, k.long))
      ∙ ap (λ (l : List ℕ). take end (now_content t) ++ get_or (now_content t) end 0 ∷ l) (none (now_content t) (end + 1) k.long)
    where
      none : (file : List ℕ) (n : ℕ) → length file ≡ n → drop n file ≡ []
      none file n is = drop_all n file (omega (arith, is))

  -- the closed gate is in the file before, whatever comes after it
  shut : (t : Moments) → K t → (rest left : List ℕ) → left ≡ now_content t ++ rest → P t left
  shut t k rest left is =
      inl (record {
        gate = get_or (now_content t) end 0;
        closed = k.closed;
        rest = rest;
        same = is
            ∙ ap (λ (l : List ℕ). l ++ rest) (split t k)
            ∙ append_assoc (take end (now_content t)) (get_or (now_content t) end 0 ∷ []) rest;
      })

  begun : (a : Option Moments) → IfSome a K → At a a now_content
  begun a known =
      standing.left_is K P a a now_content (λ t left. MayLeave (selected_file t.now) left) known (standing.begins K P a) (λ t left. left ≡ now_content t)
      (λ t k. k.stable)

  torn_piece : (t : Moments) → K t → (between left : List ℕ) → between ≡ now_content t → IsTorn (end + 1) (length piece) between left → P t left
  torn_piece t k between left is torn =
      shut t k (drop (end + 1) left) left (torn-end (end + 1) (length piece) between left (ap length is ∙ k.long) torn ∙ ap (λ (l : List ℕ). l ++ drop (end + 1) left) is)

  staged_is : (t : Moments) → K t → changed (now_content t) (Wrote (end + 1) (length piece) piece) ≡ staged t
  staged_is t k =
      changed-end (end + 1) (length piece) piece (now_content t) k.long
      ∙ ap (λ (l : List ℕ). l ++ piece) (split t k)
      ∙ append_assoc (take end (now_content t)) (get_or (now_content t) end 0 ∷ []) piece

  -- what is staged, with any gate
  front_is : (t : Moments) → K t → take end (staged t) ≡ take end (now_content t)
  front_is t k = take_at (take end (now_content t)) (get_or (now_content t) end 0 ∷ piece) end (length-front t k)

  back_is : (t : Moments) → K t → drop (end + 1) (staged t) ≡ piece
  back_is t k =
      ap (drop (end + 1)) (sym (append_assoc (take end (now_content t)) (get_or (now_content t) end 0 ∷ []) piece))
      ∙ drop_at (take end (now_content t) ++ get_or (now_content t) end 0 ∷ []) piece (end + 1)
      (omega (arith, length-front t k, length-append (take end (now_content t)) (get_or (now_content t) end 0 ∷ [])))

  long_staged : (t : Moments) → K t → end < length (staged t)
  long_staged t k = omega (arith, length-front t k, length-append (take end (now_content t)) (get_or (now_content t) end 0 ∷ piece))

  torn_gate : (t : Moments) → K t → (between left : List ℕ) → between ≡ staged t → IsTorn end 1 between left → P t left
  torn_gate t k between left is torn =
      inr (record {
        gate = get_or left end 0;
        same = torn-byte end between left (subst (λ (l : List ℕ). end < length l) (sym is) (long_staged t k)) torn
            ∙ ap (λ (l : List ℕ). take end l ++ get_or left end 0 ∷ drop (end + 1) l) is
            ∙ ap (λ (l : List ℕ). l ++ get_or left end 0 ∷ drop (end + 1) (staged t)) (front_is t k)
            ∙ ap (λ (l : List ℕ). take end (now_content t) ++ get_or left end 0 ∷ l) (back_is t k);
      })

  stored_is : (t : Moments) → K t → changed (staged t) (Wrote end 1 (open_gate ∷ [])) ≡ stored t
  stored_is t k =
      ap (λ (l : List ℕ). l ++ open_gate ∷ drop (end + 1) (staged t)) (front_is t k)
      ∙ ap (λ (l : List ℕ). take end (now_content t) ++ open_gate ∷ l) (back_is t k)

  has_piece : (t : Moments) (gate : ℕ) → P t (take end (now_content t) ++ gate ∷ piece)
  has_piece t gate = inr (record { gate = gate; same = refl })

  keeps_stored : (t : Moments) → K t → Keeps t (stored t)
  keeps_stored t k = take_at (take end (now_content t)) (open_gate ∷ piece) end (length-front t k)

  -- one lemma for each outcome of each call
  module _ (a : Option Moments) (known : IfSome a K) where
    pub written : (b : Option Moments) → Writes a b (Ok tt) (end + 1) piece → Written a b staged
    written b wrote =
        standing.file_is K P a b (λ t. changed (now_content t) (Wrote (end + 1) (length piece) piece)) P known
        (standing.write_ok K P a a now_content (λ t left. left ≡ now_content t) known (begun a known) b (end + 1) piece P wrote
        (λ t k between left is torn. (torn_piece t k between left is torn, torn_piece t k between left is torn)))
        staged staged_is

    pub not_written : (b : Option Moments) (fault : Failed) → Writes a b (Err fault) (end + 1) piece → Failing a b
    not_written b fault wrote =
        standing.write_err K P a a now_content (λ t left. left ≡ now_content t) known (begun a known) b (end + 1) piece fault Keeps wrote
        torn_piece (λ t k. refl)
        (λ t k bytes within. take-changed end (end + 1) (length piece) bytes (now_content t) (omega arith) (omega (arith, k.long)))

    pub synced_piece : (b c : Option Moments) → Written a b staged → Makes b c (Ok tt) (with_file synced) → At a c staged
    synced_piece b c was made = standing.sync_ok K P a b staged P known was c made (λ t k. has_piece t (get_or (now_content t) end 0))

    pub not_synced_piece : (b c : Option Moments) (fault : Failed) → Written a b staged → Makes b c (Err fault) (with_file synced) → Failing a c
    not_synced_piece b c fault was made = standing.sync_err K P a b staged P known was c fault Keeps made front_is

    -- the gate is within what was staged
    pub may_open : (b : Option Moments) → At a b staged → IfSome b (λ u. end ≤ length (now_content u))
    may_open b was =
        Both-last a b (λ t u. K t × standing.Stands t u (P t) (staged t) (λ left. left ≡ staged t)) (λ u. end ≤ length (now_content u))
        (λ t u s. omega (arith, long_staged t s.0, ap length s.1.is))
        (Both-known a b K (λ t u. standing.Stands t u (P t) (staged t) (λ left. left ≡ staged t)) known was)

    pub opened : (b c : Option Moments) → At a b staged → Writes b c (Ok tt) end (open_gate ∷ []) → Written a c stored
    opened b c was wrote =
        standing.file_is K P a c (λ t. changed (staged t) (Wrote end 1 (open_gate ∷ []))) P known
        (standing.write_ok K P a b staged (λ t left. left ≡ staged t) known was c end (open_gate ∷ []) P wrote
        (λ t k between left is torn. (torn_gate t k between left is torn, torn_gate t k between left is torn)))
        stored stored_is

    pub not_opened : (b c : Option Moments) (fault : Failed) → At a b staged → Writes b c (Err fault) end (open_gate ∷ []) → Failing a c
    not_opened b c fault was wrote =
        standing.write_err K P a b staged (λ t left. left ≡ staged t) known was c end (open_gate ∷ []) fault Keeps wrote
        torn_gate front_is
        (λ t k bytes within. take-changed end end 1 bytes (staged t) (omega arith) (omega (arith, long_staged t k)) ∙ front_is t k)

    pub synced_gate : (b c : Option Moments) → Written a b stored → Makes b c (Ok tt) (with_file synced) → At a c stored
    synced_gate b c was made = standing.sync_ok K P a b stored P known was c made (λ t k. has_piece t open_gate)

    pub not_synced_gate : (b c : Option Moments) (fault : Failed) → Written a b stored → Makes b c (Err fault) (with_file synced) → Failing a c
    not_synced_gate b c fault was made = standing.sync_err K P a b stored P known was c fault Keeps made keeps_stored

    pub has_stored : (b : Option Moments) → At a b stored → Both a b (HasStored end piece)
    has_stored b was =
        Both-weaker a b (λ t u. standing.Stands t u (P t) (stored t) (λ left. left ≡ stored t)) (HasStored end piece)
        (λ t u s. record { same = s.is; stable = λ left may. s.left left may ∙ sym s.is }) was

    pub keeps : (b : Option Moments) → At a b stored → Failing a b
    keeps b was = standing.ends_here K P a b stored (λ t left. left ≡ stored t) known was Keeps keeps_stored

    -- what the caller is told
    pub was_failing : (b : Option Moments) → Failing a b → SinceThen a b (λ t held. LeavesOnly (P t) t.now held)
    was_failing b ends = standing.was_ending K P a b Keeps ends

    pub kept_failing : (b : Option Moments) → Failing a b → Both a b (λ t u. Keeps t (now_content u))
    kept_failing b ends = standing.content_ending K P a b Keeps ends
