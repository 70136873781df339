-- Entries whose terms never fall: as a reader meets them one after the other, and as a list.
use Rattle.std.proofs.Common.{◌≡◌, ℕ, zero, suc, ◌+◌, ◌^◌, ◌<◌, ◌≤◌, max, List, [], ◌∷◌, ◌++◌, All, length, Ok, refl, ap, subst, ◌∙◌, append_assoc, arith}
use Rattle.std.specs.List.{flat_map}
use Rattle.std.specs.List.Sorted.{IsNonDecreasingBy}
use Rattle.std.proofs.lemmas.List.Concat.{flat_map-cons}
use Rattle.std.proofs.lemmas.List.Elements.{All-cons, All-head, All-nil, All-weaker}
use Rattle.r2_base.specs.declared.entry.Entry.{Entry}
use Rattle.r2_base.specs.Numbers.{AreBytes}
use Rattle.r2_base.specs.Limits.{greatest_number, most_entries}
use Rattle.hc_message.specs.Entry.{narrow_entry_bytes}
use Rattle.r2_base.specs.Names.{FitsRid}
use Rattle.hc_message.specs.Message.{AreOrdered}
use Rattle.hc_message.specs.Reading.{front_entries}
use Rattle.hc_message.proofs.Takes.{Takes, Takes-then, bind_ok, ok_is}
use Rattle.hc_message.proofs.FieldLaws.{IsWithin, entry_again, entry_takes}

-- each entry's term is from that of the one before it on
abbrev pub AreChained : ℕ → ℕ → List Entry → Type 0
AreChained least most [] = Unit {0}
AreChained least most (e ∷ es) = IsWithin least most e × AreChained e.term most es

pub entries_take : (count least most : ℕ) (bytes : List ℕ) (x : List Entry × List ℕ) → AreBytes bytes → front_entries count least most bytes ≡ Ok x → Takes bytes (flat_map narrow_entry_bytes x.0) x.1 × (length x.0 ≡ count) × AreChained least most x.0
unfolding front_entries
entries_take zero least most bytes x are e =
    subst (λ (y : List Entry × List ℕ). Takes bytes (flat_map narrow_entry_bytes y.0) y.1 × (length y.0 ≡ 0) × AreChained least most y.0) (ok_is ([], bytes) x e) (record { parts = refl; rest_are = are }, refl, tt)
entries_take (suc count) least most bytes x are e =
    let a = bind_ok _ _ _ e in
    let b = bind_ok _ _ _ a.2 in
    let first = entry_takes least most bytes a.0 are a.1 in
    let others = entries_take count a.0.0.term most a.0.1 b.0 first.0.rest_are b.1 in
    let both = Takes-then bytes (narrow_entry_bytes a.0.0) a.0.1 (flat_map narrow_entry_bytes b.0.0) b.0.1 first.0 others.0 in
    let made : List Entry × List ℕ = (a.0.0 ∷ b.0.0, b.0.1) in
    subst (λ (y : List Entry × List ℕ). Takes bytes (flat_map narrow_entry_bytes y.0) y.1 × (length y.0 ≡ suc count) × AreChained least most y.0) (ok_is made x b.2) (rw flat_map-cons both, ap suc others.1, (first.1, others.2))

pub entries_again : (es : List Entry) (least most : ℕ) (rest : List ℕ) → most < 2 ^ 64 → AreChained least most es → front_entries (length es) least most (flat_map narrow_entry_bytes es ++ rest) ≡ Ok (es, rest)
unfolding front_entries
entries_again [] least most rest below chained = refl
entries_again (e ∷ es) least most rest below chained =
    let regrouped : flat_map narrow_entry_bytes (e ∷ es) ++ rest ≡ narrow_entry_bytes e ++ (flat_map narrow_entry_bytes es ++ rest) = ap (λ (t : List ℕ). t ++ rest) (flat_map-cons narrow_entry_bytes e es) ∙ append_assoc (narrow_entry_bytes e) (flat_map narrow_entry_bytes es) rest in
    ap (front_entries (suc (length es)) least most) regrouped ∙ rw (entry_again least most e (flat_map narrow_entry_bytes es ++ rest) below chained.0, entries_again es e.term most rest below chained.1) refl

-- a list in order, and before it a term that is at most each
rises-cons : (e : Entry) (es : List Entry) → All (λ f. e.term ≤ f.term) es → IsNonDecreasingBy (λ f. f.term) es → IsNonDecreasingBy (λ f. f.term) (e ∷ es)
rises-cons e es low rises zero zero d le lt = omega arith
rises-cons e es low rises zero (suc j) d le lt = low j d (omega arith)
rises-cons e es low rises (suc i) zero d le lt = absurd (omega arith)
rises-cons e es low rises (suc i) (suc j) d le lt = rises i j d (omega arith) (omega arith)

-- from one after the other to the list
each_chained : (least most : ℕ) (es : List Entry) → AreChained least most es → All (IsWithin least most) es
each_chained least most [] chained = All-nil (IsWithin least most)
each_chained least most (e ∷ es) chained =
    let first = chained.0 in
    All-cons (IsWithin least most) e es first
    (All-weaker (IsWithin e.term most) (IsWithin least most) (λ f within.
    let low = within.low in
    record { low = omega (arith, first.low); high = within.high; replier = within.replier; fits = within.fits }) es (each_chained e.term most es chained.1))

rises_chained : (least most : ℕ) (es : List Entry) → AreChained least most es → IsNonDecreasingBy (λ e. e.term) es
rises_chained least most [] chained = λ i j d le lt. absurd (omega arith)
rises_chained least most (e ∷ es) chained =
    rises-cons e es (All-weaker (IsWithin e.term most) (λ f. e.term ≤ f.term) (λ f within. within.low) es (each_chained e.term most es chained.1)) (rises_chained e.term most es chained.1)

pub ordered_chained : (index least most : ℕ) (es : List Entry) → length es ≤ most_entries → index + length es ≤ greatest_number → most ≤ greatest_number → AreChained (max 1 least) most es → AreOrdered index least most es × All (λ e. FitsRid e.rid) es
ordered_chained index least most es count room below chained =
    let each = each_chained (max 1 least) most es chained in (
      record {
        count = count;
        room = room;
        each = λ k d lt.
            let within = each k d lt in
            record { term = record { least = omega (arith, within.low); most = omega (arith, within.high) }; replier = within.replier };
        low = λ k d lt. omega (arith, (each k d lt).low);
        high = λ k d lt. (each k d lt).high;
        never_fall = rises_chained (max 1 least) most es chained;
      },
      λ k d lt. (each k d lt).fits,
    )

-- and from the list to one after the other
chained_each : (least most : ℕ) (es : List Entry) → All (IsWithin least most) es → IsNonDecreasingBy (λ e. e.term) es → AreChained least most es
chained_each least most [] each rises = tt
chained_each least most (e ∷ es) each rises = (
  All-head (IsWithin least most) e es each,
  chained_each e.term most es (λ k d lt.
      let within = each (suc k) d (omega arith) in
      record { low = rises 0 (suc k) d (omega arith) (omega arith); high = within.high; replier = within.replier; fits = within.fits }) (λ i j d le lt. rises (suc i) (suc j) d (omega arith) (omega arith)),
)

pub chained_ordered : (index least most : ℕ) (es : List Entry) → AreOrdered index least most es → All (λ e. FitsRid e.rid) es → AreChained (max 1 least) most es
chained_ordered index least most es ordered fit =
    chained_each (max 1 least) most es (λ k d lt.
    let here = ordered.each k d lt in
    let low = ordered.low k d lt in
    record { low = omega (arith, here.term.least, low); high = ordered.high k d lt; replier = here.replier; fits = fit k d lt }) ordered.never_fall
