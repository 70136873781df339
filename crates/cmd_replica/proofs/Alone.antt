-- A group of one, as the tests have it.
use Rattle.std.proofs.Common.{◌≡◌, ℕ, ◌≤◌, List, [], ◌∷◌, length, None, refl, sym, ap, ◌∙◌, subst, arith}
use Rattle.std.proofs.lemmas.List.Elements.{All-cons, All-nil}
use Rattle.r2_base.specs.declared.addr.Addr.{Addr}
use Rattle.hc_replier.specs.Bounds.{AreBounds, most_bound}
use Rattle.hc_member.specs.Setup.{IsSetup}

one_bound : AreBounds (64 ∷ [])
one_bound = record {
  few = omega arith;
  each = All-cons (λ bound. bound ≤ most_bound) 64 [] (omega arith) (All-nil (λ bound. bound ≤ most_bound));
  some = (0, 64, omega arith, refl, omega arith);
}

pub alone : (a : Addr) (members : List Addr) (bounds : List ℕ) → members ≡ a ∷ [] → bounds ≡ 64 ∷ []
    → IsSetup (record { members = members; me = 0; aggregator = None; bounds = bounds; election = 1 })
alone a members bounds one bound = record {
  few = omega (arith, ap length one);
  own = omega (arith, ap length one);
  distinct = λ i j d before inside. absurd (omega (arith, before, inside, ap length one));
  apart = tt;
  bounds = subst AreBounds (sym bound) one_bound;
  bound_each = ap length bound ∙ sym (ap length one);
  election_low = omega arith;
  election_high = omega arith;
}
