-- What follows of a loop that ran: its party keeps each rule that follows from its own, and what passed may be told otherwise.
use Rattle.std.proofs.Common.{◌≡◌, inl, inr, ℕ, List, [], ◌++◌, Option, Some, None, refl, sym, ap, ◌∙◌, subst, arith}
use Rattle.r2_base.specs.declared.datagram.Datagram.{Datagram}
use Rattle.r2_link.specs.declared.lane.Item.{Item}
use Rattle.r2_link.specs.Links.{LinkTold, Rejoins, Splits}
use Rattle.r2_link.specs.Told.{Gains, IsKept, Joins, RanDry}
use Rattle.r2_link.proofs.Told.{Gains-joined, Gains-nil}
use Rattle.hc_log.specs.declared.record.Record.{Record}
use Rattle.r2_link.specs.Faults.{Rose, calm}
use Rattle.cmd_status.specs.Causes.{IsCaused}
use Rattle.cmd_status.specs.declared.status.Status.{Status}
use Rattle.cmd_status.specs.declared.status.Status.TheVariants.{Done, Memory, LinkFault, DiskFault, ClockFault, TurnsSpent}
use Rattle.cmd_loop.specs.declared.pace.Pace.{Pace}
use Rattle.cmd_loop.specs.Ends.{Ends, Passes, passing}
use Rattle.cmd_loop.specs.Events.{events}
use Rattle.cmd_loop.specs.Happenings.{Happening, came, happenings}
use Rattle.cmd_loop.specs.Loop.{EndsBetween, Ended, GivesPart, IsServed, LosesTurn, Rule, Serves}
use Rattle.cmd_loop.specs.Round.{Makes}
use Rattle.cmd_loop.proofs.Passing.{Passes-nothing}

-- what one rule gives the other one gives too
abbrev pub Gives : Rule → Rule → Type 0
Gives S S' = (happened : List Happening) (stored : List Record) (sends : List Datagram) → S happened stored sends → S' happened stored sends

-- what is stored by a rule is of that kind
abbrev pub StoresOnly : (List Record → Type 0) → Rule → Type 0
StoresOnly Q S = (happened : List Happening) (stored : List Record) (sends : List Datagram) → S happened stored sends → Q stored

-- what passes from one moment to another passes from a third to a fourth too, where what was stored is of that kind
pub record Carries (Q : List Record → Type 0) (a b c d : Ends) : Type 0 where
  pub passes : (items : List Item) (moments : List ℕ) (stored : List Record) (sends : List Datagram)
      → Q stored → Passes a b (passing items moments stored sends) → Passes c d (passing items moments stored sends)
  pub dry : RanDry a.link.left b.link.left → RanDry c.link.left d.link.left

module _ (Q : List Record → Type 0) (S S' : Rule) (only : StoresOnly Q S) (on : Gives S S') (a b c d : Ends) (over : Carries Q a b c d) (items : List Item) (moments : List ℕ) where
  all-by : (made : List Happening) → Makes (S made) a b items moments → Makes (S' made) c d items moments
  all-by made all = record {
    stored = all.stored;
    sends = all.sends;
    right = on made all.stored all.sends all.right;
    passed = over.passes items moments all.stored all.sends (only made all.stored all.sends all.right) all.passed;
  }

  part-by : (made : List Happening) → GivesPart S made a b items moments → GivesPart S' made c d items moments
  part-by made part = record {
    before = part.before;
    last = part.last;
    is_last = part.is_last;
    records = part.records;
    earlier = part.earlier;
    stored = part.stored;
    sent = part.sent;
    unsent = part.unsent;
    right_before = on part.before part.records part.earlier part.right_before;
    right = on made (part.records ++ part.stored) (part.earlier ++ (part.sent ++ part.unsent)) part.right;
    passed = over.passes items moments (part.records ++ part.stored) (part.earlier ++ part.sent)
        (only made (part.records ++ part.stored) (part.earlier ++ (part.sent ++ part.unsent)) part.right) part.passed;
  }

  lost-by : (made : List Happening) → LosesTurn S made a b items moments → LosesTurn S' made c d items moments
  lost-by made lost = record { before = lost.before; last = lost.last; is_last = lost.is_last; made = all-by lost.before lost.made }

  between-by : (pace : Pace) → EndsBetween S pace a b items moments → EndsBetween S' pace c d items moments
  between-by pace ends = record { asked = ends.asked; within = ends.within; made = all-by (came (events pace.tick_ms items moments)) ends.made }

module _ (Q : List Record → Type 0) (none : Q []) (D D' W W' S S' : Rule) (only_done : StoresOnly Q D) (only_whole : StoresOnly Q W) (only : StoresOnly Q S)
    (done : Gives D D') (whole : Gives W W') (on : Gives S S') (pace : Pace) (a b c d : Ends) (over : Carries Q a b c d) where
  ended-by : (items : List Item) (moments : List ℕ) (n : ℕ) (status : Status) → Ended D W S pace a b items moments n status → Ended D' W' S' pace c d items moments n status
  ended-by items moments n Done ended = (ended.0, all-by Q D D' only_done done a b c d over items moments (happenings pace.tick_ms items moments n) ended.1)
  ended-by items moments n TurnsSpent ended =
      (ended.0, ended.1, ended.2, all-by Q W W' only_whole whole a b c d over items moments (came (events pace.tick_ms items moments)) ended.3)
  ended-by items moments n ClockFault ended = (ended.0, ended.1, all-by Q S S' only on a b c d over items moments (came (events pace.tick_ms items moments)) ended.2)
  ended-by items moments n LinkFault (inl ends) = inl (ends.0, between-by Q S S' only on a b c d over items moments pace ends.1)
  ended-by items moments n LinkFault (inr part) = inr (part-by Q S S' only on a b c d over items moments (happenings pace.tick_ms items moments n) part)
  ended-by items moments n DiskFault ended = (ended.0, lost-by Q S S' only on a b c d over items moments (came (events pace.tick_ms items moments)) ended.1)
  ended-by items moments n Memory (inl nothing) = inl (over.passes [] [] [] [] none nothing.0, nothing.1, nothing.2, nothing.3)
  ended-by items moments n Memory (inr (inl ends)) = inr (inl (ends.0, between-by Q S S' only on a b c d over items moments pace ends.1))
  ended-by items moments n Memory (inr (inr lost)) = inr (inr (lost-by Q S S' only on a b c d over items moments (happenings pace.tick_ms items moments n) lost))
  ended-by items moments n _ ended = absurd ended

  serves-by : (status : Status) → Serves D W S pace a b status → Serves D' W' S' pace c d status
  serves-by status serves = record {
    items = serves.items;
    moments = serves.moments;
    closings = serves.closings;
    within = serves.within;
    found_end = λ some. let found = serves.found_end some in record { asked = found.asked; within = found.within; dry = over.dry found.dry };
    ended = ended-by serves.items serves.moments serves.closings status serves.ended;
  }

-- where anything may be stored
abbrev Any : List Record → Type 0
Any stored = Unit {0}

any-only : (S : Rule) → StoresOnly Any S
any-only S happened stored sends right = tt

pub serves-weaker : (D D' W W' S S' : Rule) → Gives D D' → Gives W W' → Gives S S' → (pace : Pace) (a b : Ends) (status : Status)
    → Serves D W S pace a b status → Serves D' W' S' pace a b status
serves-weaker D D' W W' S S' done whole on pace a b status =
    serves-by Any tt D D' W W' S S' (any-only D) (any-only W) (any-only S) done whole on pace a b a b
    (record { passes = λ items moments stored sends any passed. passed; dry = λ ran. ran }) status

pub serves-over : (Q : List Record → Type 0) → Q [] → (D W S : Rule) → StoresOnly Q D → StoresOnly Q W → StoresOnly Q S → (pace : Pace) (a b c d : Ends) → Carries Q a b c d → (status : Status)
    → Serves D W S pace a b status → Serves D W S pace c d status
serves-over Q none D W S only_done only_whole only pace a b c d over status =
    serves-by Q none D D W W S S only_done only_whole only (λ happened stored sends right. right) (λ happened stored sends right. right) (λ happened stored sends right. right) pace a b c d over status

-- memory ran out before anything was taken in
pub serves-nothing : (D W S : Rule) (pace : Pace) (a : Ends) → Serves D W S pace a a Memory
serves-nothing D W S pace a = record {
  items = [];
  moments = [];
  closings = 0;
  within = omega arith;
  found_end = λ some. absurd (omega (arith, some));
  ended = inl (Passes-nothing a, refl, refl, refl);
}

kept-Joins : {A : Type 0} (a b c m : Option (List A)) → IsKept a b → Joins b c m → Joins a c m
kept-Joins a b c None kept joined = tt
kept-Joins None b c (Some more) kept joined = tt
kept-Joins (Some x) None c (Some more) kept joined = absurd kept
kept-Joins (Some x) (Some y) None (Some more) kept joined = absurd joined
kept-Joins (Some x) (Some y) (Some z) (Some more) kept joined = joined ∙ ap (λ l. l ++ more) kept

-- a loop on a twin is one on the link that the twin was split from and came back to, as if the link had the items of the twin's lane:
-- what the twin sent, the link sent
pub serves-rejoined : (D W S : Rule) (pace : Pace) (a b : Ends) (old split new : LinkTold) (status : Status)
    → Splits old split a.link → Rejoins split new b.link → Serves D W S pace a b status
    → Serves D W S pace (record a { link = record old { left = a.link.left; lanes = None } }) (record b { link = record new { left = b.link.left; lanes = None } }) status
serves-rejoined D W S pace a b old split new status splits rejoins serves =
    serves-over Any tt D W S (any-only D) (any-only W) (any-only S) pace a b (record a { link = record old { left = a.link.left; lanes = None } }) (record b { link = record new { left = b.link.left; lanes = None } })
    (record {
      passes = λ items moments stored sends any passed. record {
        source = passed.source;
        sink = passed.sink;
        link = record {
          took = passed.link.took;
          gave = Gains-joined old.sent a.link.sent b.link.sent new.sent sends splits.unsent passed.link.gave (kept-Joins old.sent split.sent new.sent b.link.sent splits.sent rejoins.sent);
          lanes = tt;
          me = rejoins.me ∙ splits.me;
        };
        clock = passed.clock;
        journal = passed.journal;
      };
      dry = λ ran. ran;
    }) status serves

-- where nothing is stored, whatever a journal tells is told as before
pub serves-unstored : (D W S : Rule) → StoresOnly (λ stored. stored ≡ []) D → StoresOnly (λ stored. stored ≡ []) W → StoresOnly (λ stored. stored ≡ []) S
    → (pace : Pace) (a b : Ends) (told : Option (List Record)) (status : Status)
    → Serves D W S pace a b status → Serves D W S pace (record a { records = told }) (record b { records = told }) status
serves-unstored D W S only_done only_whole only pace a b told status serves =
    serves-over (λ stored. stored ≡ []) refl D W S only_done only_whole only pace a b (record a { records = told }) (record b { records = told })
    (record {
      passes = λ items moments stored sends none passed. record {
        source = passed.source;
        sink = passed.sink;
        link = passed.link;
        clock = passed.clock;
        journal = subst (Gains told told) (sym none) (Gains-nil told);
      };
      dry = λ ran. ran;
    }) status serves

-- a loop that stores nothing is served where neither its link nor its clock failed
pub serves-calm : (D W S : Rule) (pace : Pace) (a b : Ends) (l l' c c' : ℕ) (status : Status) → Serves D W S pace a b status
    → IsCaused (record calm { link = l; clock = c }) (record calm { link = l'; clock = c' }) status → (Rose l l' → ⊥) → (Rose c c' → ⊥) → IsServed status
serves-calm D W S pace a b l l' c c' Done serves caused link clock = tt
serves-calm D W S pace a b l l' c c' TurnsSpent serves caused link clock = tt
serves-calm D W S pace a b l l' c c' Memory serves caused link clock = tt
serves-calm D W S pace a b l l' c c' LinkFault serves caused link clock = absurd (link (caused.link refl))
serves-calm D W S pace a b l l' c c' ClockFault serves caused link clock = absurd (clock (caused.clock refl))
serves-calm D W S pace a b l l' c c' DiskFault serves caused link clock = absurd (omega (arith, caused.disk refl))
serves-calm D W S pace a b l l' c c' _ serves caused link clock = absurd serves.ended
