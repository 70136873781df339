-- A member that hears of a term stays sound.
use Rattle.std.proofs.Common.{◌≡◌, ℕ, ◌<◌, ◌≤◌, Bool, true, false, [], None, refl, arith}
use Rattle.std.specs.Prelude.{nat_lt, if◌then◌else◌}
use Rattle.std.proofs.lemmas.Bool.{ltb-false, ltb-true}
use Rattle.std.proofs.lemmas.List.Elements.{All-weaker}
use Rattle.hc_log.specs.declared.stored.Stored.{Stored}
use Rattle.hc_message.specs.Entry.{IsTerm}
use Rattle.hc_member.specs.declared.setup.Setup.{Setup}
use Rattle.hc_member.specs.declared.role.Role.TheVariants.{Follower}
use Rattle.hc_member.specs.Member.{Member}
use Rattle.hc_member.specs.Sound.{IsSound}
use Rattle.hc_member.specs.Votes.{rise_to}
use Rattle.hc_member.proofs.Goes.{Advances, keeps_vote}
use Rattle.hc_member.proofs.Sound.{sound-part}

-- a member of a term at least as great, with the same log, in whose own term nothing changed
pub record Rises (s : Setup) (term : ℕ) (m n : Member) : Type 0 where
  pub sound : IsSound s n
  pub log : n.log ≡ m.log
  pub commit : n.commit ≡ m.commit
  pub applied : n.applied ≡ m.applied
  pub low : m.term ≤ n.term
  pub high : term ≤ n.term
  pub vote : m.term ≡ n.term → n.vote ≡ m.vote

-- a follower of a higher term that hasn't voted
abbrev raised : ℕ → Member → Member
raised term m = record m { term = term; vote = None; role = Follower; votes = []; matched = 0 }

sound-raised : (s : Setup) (term : ℕ) (m : Member) → IsTerm term → m.term < term → IsSound s m → IsSound s (raised term m)
sound-raised s term m is higher sound =
    let valid = sound.durable in
    let committed = sound.committed in
    sound-part s m term None Follower [] 0 m.silent m.commit m.lead sound
    (record {
      term = is.most;
      vote = tt;
      unset = λ none. refl;
      log = valid.log;
      terms = All-weaker (λ (x : Stored). x.entry.term ≤ m.term) (λ (x : Stored). x.entry.term ≤ term) (λ x below. omega (arith, below, higher)) m.log valid.terms;
    })
    (omega arith) committed (omega arith) tt

rises-by : (s : Setup) (term : ℕ) (m : Member) (b : Bool) → nat_lt m.term term ≡ b → IsTerm term → IsSound s m → Rises s term m (if b then raised term m else m)
rises-by s term m true e is sound =
    let higher = ltb-true m.term term e in
    record {
      sound = sound-raised s term m is higher sound;
      log = refl;
      commit = refl;
      applied = refl;
      low = omega (arith, higher);
      high = omega arith;
      vote = λ same. absurd (omega (arith, same, higher));
    }
rises-by s term m false e is sound =
    let lower = ltb-false m.term term e in
    record { sound = sound; log = refl; commit = refl; applied = refl; low = omega arith; high = omega (arith, lower); vote = λ same. refl }

pub rises : (s : Setup) (term : ℕ) (m : Member) → IsTerm term → IsSound s m → Rises s term m (rise_to term m)
unfolding rise_to
rises s term m is sound = rises-by s term m (nat_lt m.term term) refl is sound

-- it goes on from the one before
pub rises-on : (s : Setup) (term : ℕ) (m n : Member) → Rises s term m n → Advances m n
rises-on s term m n r =
    let commit = r.commit in
    record { log = r.log; term = r.low; vote = λ same. keeps_vote m.vote n.vote (r.vote same); commit = omega (arith, commit); applied = r.applied }
