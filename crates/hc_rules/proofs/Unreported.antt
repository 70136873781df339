-- Which indexes are unreported.
use Rattle.std.proofs.Common.{◌≡◌, ℕ, zero, suc, ◌+◌, ◌-◌, ◌<◌, inl, inr, Bool, true, false, if◌then◌else◌, List, [], ◌∷◌, length, drop, refl, sym, ap, subst, ◌∙◌, arith, length-drop}
use Rattle.std.proofs.lemmas.List.{get_or-drop}
use Rattle.r2_base.specs.declared.entry.Entry.{Entry}
use Rattle.r2_base.specs.Entry.{blank_entry}
use Rattle.hc_rules.specs.Laws.{AreTheUnreported, IsRising, IsUnreported}
use Rattle.hc_rules.specs.Log.{In, entry_at}
use Rattle.hc_rules.specs.Protocol.{ProtocolState, indexes_of, is_to, reported, unreported}

-- an index of an entry that passes the test, where so many come before the log
record IsFound (f : Entry → Bool) (before : ℕ) (log : List Entry) (index : ℕ) : Type 0 where
  place : ℕ
  within : place < length log
  is : index ≡ suc (before + place)
  passes : f (entry_at log (suc place)) ≡ true

later : (f : Entry → Bool) (before : ℕ) (x : Entry) (log : List Entry) (index : ℕ) → IsFound f (suc before) log index → IsFound f before (x ∷ log) index
later f before x log index h = record { place = suc h.place; within = omega (arith, h.within); is = omega (arith, h.is); passes = h.passes }

found_by : (f : Entry → Bool) (before : ℕ) (x : Entry) (log : List Entry) (index : ℕ) (rest : List ℕ) (b : Bool) → f x ≡ b
    → (In index rest → IsFound f (suc before) log index) → In index (if b then suc before ∷ rest else rest) → IsFound f before (x ∷ log) index
found_by f before x log index rest true e found (inl g) = record { place = 0; within = omega arith; is = omega (arith, g); passes = e }
found_by f before x log index rest true e found (inr h) = later f before x log index (found h)
found_by f before x log index rest false e found h = later f before x log index (found h)

found : (f : Entry → Bool) (before : ℕ) (log : List Entry) (index : ℕ) → In index (indexes_of f before log) → IsFound f before log index
found f before [] index h = absurd h
found f before (x ∷ log) index h =
    found_by f before x log index (indexes_of f (suc before) log) (f x) refl (found f (suc before) log index) h

in_more_or_same : (b : Bool) (index first : ℕ) (rest : List ℕ) → In index rest → In index (if b then first ∷ rest else rest)
in_more_or_same true index first rest h = inr h
in_more_or_same false index first rest h = h

in_first : (b : Bool) (index first : ℕ) (rest : List ℕ) → b ≡ true → index ≡ first → In index (if b then first ∷ rest else rest)
in_first true index first rest e f = inl f
in_first false index first rest e f = cc

listed : (f : Entry → Bool) (before : ℕ) (log : List Entry) (place : ℕ) → place < length log → f (entry_at log (suc place)) ≡ true
    → In (suc (before + place)) (indexes_of f before log)
listed f before [] place h p = absurd (omega (arith, h))
listed f before (x ∷ log) zero h p = in_first (f x) (suc (before + 0)) (suc before) (indexes_of f (suc before) log) p (omega arith)
listed f before (x ∷ log) (suc place) h p =
    let rest = listed f (suc before) log place (omega (arith, h)) p in
    let same : suc (suc before + place) ≡ suc (before + suc place) = omega arith in
    in_more_or_same (f x) (suc (before + suc place)) (suc before) (indexes_of f (suc before) log) (subst (λ (i : ℕ). In i (indexes_of f (suc before) log)) same rest)

rising_by : (before : ℕ) (rest : List ℕ) (b : Bool) → ((y : ℕ) → In y rest → suc before < y) → IsRising rest → IsRising (if b then suc before ∷ rest else rest)
rising_by before rest true above h = (above, h)
rising_by before rest false above h = h

rising : (f : Entry → Bool) (before : ℕ) (log : List Entry) → IsRising (indexes_of f before log)
rising f before [] = tt
rising f before (x ∷ log) =
    rising_by before (indexes_of f (suc before) log) (f x)
    (λ y h. let at = found f (suc before) log y h in omega (arith, at.is)) (rising f (suc before) log)

module _ (w : ProtocolState) (v p : ℕ) where
  abbrev test : Entry → Bool
  test = is_to (w.term v) p

  abbrev known : ℕ
  known = reported w.reports v (w.term v) p

  only : (index : ℕ) → In index (unreported w v p) → IsUnreported w v p index
  only index h =
      let at = found test known (drop known (w.log v)) index h in
      let left = length-drop known (w.log v) in
      let same : entry_at (drop known (w.log v)) (suc at.place) ≡ entry_at (w.log v) (suc (known + at.place)) = get_or-drop known (w.log v) at.place (blank_entry 0) in
      record {
        above = omega (arith, at.is);
        within = omega (arith, at.is, at.within, left);
        given = ap (λ (i : ℕ). test (entry_at (w.log v) i)) at.is ∙ (sym (ap test same) ∙ at.passes);
      }

  each : (index : ℕ) → IsUnreported w v p index → In index (unreported w v p)
  each index h =
      let left = length-drop known (w.log v) in
      let place : ℕ = index - suc known in
      let is : index ≡ suc (known + place) = omega (arith, h.above) in
      let same : entry_at (drop known (w.log v)) (suc place) ≡ entry_at (w.log v) (suc (known + place)) = get_or-drop known (w.log v) place (blank_entry 0) in
      subst (λ (i : ℕ). In i (unreported w v p)) (sym is)
      (listed test known (drop known (w.log v)) place (omega (arith, h.above, h.within, left)) (ap test same ∙ (sym (ap (λ (i : ℕ). test (entry_at (w.log v) i)) is) ∙ h.given)))

  pub unreported_are : AreTheUnreported w v p (unreported w v p)
  unreported_are = record { each = each; only = only; rising = rising test known (drop known (w.log v)) }
