-- What the options of a replay say over the members that were read.
use Rattle.std.proofs.Common.{◌≡◌, ℕ, ◌+◌, ◌≤◌, List, length, Option, arith, sym, subst}
use Rattle.clap.specs.Words.{Row}
use Rattle.r2_base.specs.declared.addr.Addr.{Addr}
use Rattle.hc_text.specs.Options.{HasOption}
use Rattle.hc_text.specs.Texts.{IsBoundsText, IsMemberText, IsNumberText}
use Rattle.hc_text.specs.Words.{IsApart}

-- a member's number is at most that of the last member
pub own_number : {rows : List Row} {name : List ℕ} {members : List Addr} {me most : ℕ} → HasOption rows name (IsMemberText members me) → length members ≤ most + 1
    → HasOption rows name (IsNumberText 0 most me)
own_number own last = record {
  text = own.text;
  given = own.given;
  holds = record { from_least = omega arith; to_most = omega (arith, own.holds.is_member, last); spelled = own.holds.spelled };
}

pub bounds_along : {rows : List Row} {name : List ℕ} {m n : ℕ} {bounds : List ℕ} → m ≡ n → HasOption rows name (IsBoundsText m bounds) → HasOption rows name (IsBoundsText n bounds)
bounds_along {rows} {name} {m} {n} {bounds} same bounded = subst (λ k. HasOption rows name (IsBoundsText k bounds)) same bounded

pub apart_along : {a b : Option Addr} {xs ys : List Addr} → a ≡ b → xs ≡ ys → IsApart b ys → IsApart a xs
apart_along {a} {b} {xs} {ys} same same' apart = subst (λ l. IsApart a l) (sym same') (subst (λ x. IsApart x ys) (sym same) apart)
