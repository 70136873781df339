-- Statements on a disk before and after several calls, where it reports its moments.
use Rattle.std.proofs.Common.{List, [], ◌∷◌, ◌++◌, Option, Some, None, IfSome, sym, ap, ◌∙◌, append_assoc}
use Rattle.std.proofs.lemmas.List.{append-nil}
use Rattle.std.proofs.lemmas.List.Elements.{All-nil, All-push, All-append, All-weaker}
use Rattle.hc_disk.specs.Disk.{Held, Moments, all_moments, later}
use Rattle.hc_disk.specs.Calls.{Both}
use Rattle.hc_disk.specs.Runs.{WasOnly}

pub Both-same : (a : Option Moments) (Q : Moments → Moments → Type 0) → ((t : Moments) → Q t t) → Both a a Q
Both-same None Q same = tt
Both-same (Some t) Q same = same t

pub Both-weaker : (a b : Option Moments) (Q R : Moments → Moments → Type 0) → ((t u : Moments) → Q t u → R t u) → Both a b Q → Both a b R
Both-weaker None None Q R weaker q = tt
Both-weaker None (Some u) Q R weaker q = absurd q
Both-weaker (Some t) None Q R weaker q = absurd q
Both-weaker (Some t) (Some u) Q R weaker q = weaker t u q

-- one stretch and then another
pub Both-next : (a b c : Option Moments) (Q R S : Moments → Moments → Type 0) → ((t u v : Moments) → Q t u → R u v → S t v) → Both a b Q → Both b c R → Both a c S
Both-next None None None Q R S next q r = tt
Both-next None None (Some v) Q R S next q r = absurd r
Both-next None (Some u) c Q R S next q r = absurd q
Both-next (Some t) None c Q R S next q r = absurd q
Both-next (Some t) (Some u) None Q R S next q r = absurd r
Both-next (Some t) (Some u) (Some v) Q R S next q r = next t u v q r

-- what is known of the first moment
pub Both-known : (a b : Option Moments) (K : Moments → Type 0) (Q : Moments → Moments → Type 0) → IfSome a K → Both a b Q → Both a b (λ t u. K t × Q t u)
Both-known None None K Q known q = tt
Both-known None (Some u) K Q known q = absurd q
Both-known (Some t) None K Q known q = absurd q
Both-known (Some t) (Some u) K Q known q = (known, q)

-- what follows of the last moment
pub Both-last : (a b : Option Moments) (Q : Moments → Moments → Type 0) (K : Moments → Type 0) → ((t u : Moments) → Q t u → K u) → Both a b Q → IfSome b K
Both-last None None Q K last q = tt
Both-last None (Some u) Q K last q = absurd q
Both-last (Some t) None Q K last q = absurd q
Both-last (Some t) (Some u) Q K last q = last t u q

-- no moment passed
pub WasOnly-begun : (t : Moments) (P : Held → Type 0) → WasOnly t t P
WasOnly-begun t P = record { more = []; since = sym (append-nil (all_moments t)); each = All-nil P }

-- one more moment passed
pub WasOnly-later : (t u : Moments) (held : Held) (P : Held → Type 0) → P held → WasOnly t u P → WasOnly t (later u held) P
WasOnly-later t u held P is before = record {
  more = before.more ++ held ∷ [];
  since = ap (λ (l : List Held). l ++ held ∷ []) before.since ∙ append_assoc (all_moments t) before.more (held ∷ []);
  each = All-push P before.more held before.each is;
}

-- one stretch and then another
pub WasOnly-next : (t u v : Moments) (P : Held → Type 0) → WasOnly t u P → WasOnly u v P → WasOnly t v P
WasOnly-next t u v P first second = record {
  more = first.more ++ second.more;
  since = second.since ∙ ap (λ (l : List Held). l ++ second.more) first.since ∙ append_assoc (all_moments t) first.more second.more;
  each = All-append P first.more second.more first.each second.each;
}

pub WasOnly-weaker : (t u : Moments) (P Q : Held → Type 0) → ((held : Held) → P held → Q held) → WasOnly t u P → WasOnly t u Q
WasOnly-weaker t u P Q weaker was =
    record { more = was.more; since = was.since; each = All-weaker P Q weaker was.more was.each }
