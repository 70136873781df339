-- What several calls did to the bytes that a sink or a source tells, one after the other.
use Rattle.std.proofs.Common.{◌≡◌, ℕ, List, [], ◌++◌, Option, refl, sym, ap, ◌∙◌, append_assoc, append-nil, take, drop, take-append-drop, subst}
use Rattle.std.specs.Io.KnownBytes.{Appends, Keeps}
use Rattle.r2_link.specs.Streams.{AppendsPrefix}
-- of bytes that were appended or consumed in one call after another, or in none
pub use Rattle.std.proofs.KnownBytes.{Appends-nil, Appends-trans, Appends-kept, Consumes-nil, Consumes-trans, Consumes-kept, Keeps-refl, Keeps-trans}

-- the whole piece is a prefix of it
pub AppendsPrefix-whole : (a b : Option (List ℕ)) (x : List ℕ) → Appends a b x → AppendsPrefix a b x
AppendsPrefix-whole a b x gave = record { prefix = x; rest = []; split = sym (append-nil x); gave = gave }

-- nothing is a prefix of each piece
pub AppendsPrefix-nothing : (a b : Option (List ℕ)) (x : List ℕ) → Keeps a b → AppendsPrefix a b x
AppendsPrefix-nothing a b x kept =
    record { prefix = []; rest = x; split = refl; gave = Appends-kept a a b [] (Appends-nil a) kept }

-- a prefix of a piece is a prefix of a longer one
pub AppendsPrefix-longer : (a b : Option (List ℕ)) (x y : List ℕ) → AppendsPrefix a b x → AppendsPrefix a b (x ++ y)
AppendsPrefix-longer a b x y cut =
    record { prefix = cut.prefix; rest = cut.rest ++ y; split = ap (λ l. l ++ y) cut.split ∙ append_assoc cut.prefix cut.rest y; gave = cut.gave }

-- a whole piece, and then a prefix of the next
pub AppendsPrefix-then : (a b c : Option (List ℕ)) (x y : List ℕ) → AppendsPrefix b c y → Appends a b x → AppendsPrefix a c (x ++ y)
AppendsPrefix-then a b c x y cut first = record {
  prefix = x ++ cut.prefix;
  rest = cut.rest;
  split = ap (λ l. x ++ l) cut.split ∙ sym (append_assoc x cut.prefix cut.rest);
  gave = Appends-trans a b c x cut.prefix first cut.gave;
}

-- a prefix of a piece, where nothing else was written since
pub AppendsPrefix-kept : (a b c : Option (List ℕ)) (x : List ℕ) → AppendsPrefix a b x → Keeps b c → AppendsPrefix a c x
AppendsPrefix-kept a b c x cut kept =
    record { prefix = cut.prefix; rest = cut.rest; split = cut.split; gave = Appends-kept a b c cut.prefix cut.gave kept }

-- the prefix of a piece was appended, and this rest of it was not yet
pub record Partly (old new : Option (List ℕ)) (piece rest : List ℕ) : Type 0 where
  pub prefix : List ℕ
  pub split : piece ≡ prefix ++ rest
  pub gave : Appends old new prefix

pub Partly-begun : (a : Option (List ℕ)) (x : List ℕ) → Partly a a x x
Partly-begun a x = record { prefix = []; split = refl; gave = Appends-nil a }

pub Partly-more : (a b c : Option (List ℕ)) (x y z : List ℕ) (n : ℕ) → Partly a b x y → Appends b c (take n y) → z ≡ drop n y → Partly a c x z
Partly-more a b c x y z n before now is = record {
  prefix = before.prefix ++ take n y;
  split = before.split ∙ ap (λ l. before.prefix ++ l) (sym (take-append-drop n y) ∙ ap (λ l. take n y ++ l) (sym is)) ∙ sym (append_assoc before.prefix (take n y) z);
  gave = Appends-trans a b c before.prefix (take n y) before.gave now;
}

pub Partly-done : (a b : Option (List ℕ)) (x : List ℕ) → Partly a b x [] → Appends a b x
Partly-done a b x before = subst (Appends a b) (sym (before.split ∙ append-nil before.prefix)) before.gave

pub Partly-failed : (a b c : Option (List ℕ)) (x y : List ℕ) → Partly a b x y → Keeps b c → AppendsPrefix a c x
Partly-failed a b c x y before kept =
    record { prefix = before.prefix; rest = y; split = before.split; gave = Appends-kept a b c before.prefix before.gave kept }

-- the steps of calls that append, consume or are cut short
pub ruleset stream_steps = (Appends-nil, Appends-trans, Consumes-nil, Consumes-trans, AppendsPrefix-whole, AppendsPrefix-nothing, AppendsPrefix-longer, AppendsPrefix-then)
