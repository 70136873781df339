-- What is printed after the last line, batch by batch.
use Rattle.std.proofs.Common.{◌≡◌, ℕ, ◌-◌, ◌<◌, ◌≤◌, ◌++◌, true, false, List, [], Option, suc, refl, sym, ap, subst, ◌∙◌, arith, append_assoc, append-nil}
use Rattle.std.specs.Prelude.{◌==◌}
use Rattle.std.proofs.lemmas.Bool.Decides.{nat_tests}
use Rattle.std.specs.Io.KnownBytes.{Appends}
use Rattle.r2_link.specs.Streams.{AppendsPrefix}
use Rattle.r2_link.proofs.Streams.{Appends-nil, Appends-trans, AppendsPrefix-longer, AppendsPrefix-then}
use Rattle.hc_member.specs.declared.setup.Setup.{Setup}
use Rattle.hc_member.specs.Finish.{finished}
use Rattle.hc_member.specs.Member.{Member}
use Rattle.hc_member.specs.Sound.{IsSound}
use Rattle.cmd_replay.specs.Script.{batch_text, closing_text, last_text}
use Rattle.hc_member.proofs.Progress.{finished-nearer}
use Rattle.cmd_replay.proofs.Batches.{closing_text-end, closing_text-more}

-- what was printed, and what is left to print from the member as it is now, are all that the first one prints
pub record IsClosing (s : Setup) (first m : Member) (old new : Option (List ℕ)) : Type 0 where
  pub more : ℕ
  pub printed : List ℕ
  pub enough : m.commit - m.applied ≤ more
  pub all : printed ++ closing_text s more m ≡ last_text s first
  pub gave : Appends old new printed

pub closing-first : (s : Setup) (m : Member) (a : Option (List ℕ)) → IsClosing s m m a a
closing-first s m a = record { more = m.commit - m.applied; printed = []; enough = omega arith; all = refl; gave = Appends-nil a }

-- something is committed that isn't applied
pub still-waits : (s : Setup) (m : Member) → IsSound s m → (m.applied == m.commit) ≡ false → m.applied < m.commit
still-waits s m sound some =
    let batch = sound.batch in
    waits m.applied m.commit (omega (arith, batch)) some
  where
    waits : (a b : ℕ) → a ≤ b → (a == b) ≡ false → a < b
    waits a b below e = grind (arith, nat_tests)

-- what is left is one batch, and what is left after it
closing-split : (s : Setup) (first m : Member) (a b : Option (List ℕ)) (closing : IsClosing s first m a b) → m.applied < m.commit → (m.applied == m.commit) ≡ false
    → (closing.printed ++ batch_text s m) ++ closing_text s (closing.more - 1) (finished s m).member ≡ last_text s first
closing-split s first m a b closing waits some =
    let enough = closing.enough in
    let is : closing.more ≡ suc (closing.more - 1) = omega (arith, enough, waits) in
    let text = ap (λ (k : ℕ). closing_text s k m) is ∙ closing_text-more s (closing.more - 1) m some in
    append_assoc closing.printed (batch_text s m) (closing_text s (closing.more - 1) (finished s m).member)
    ∙ ap (λ x. closing.printed ++ x) (sym text) ∙ closing.all

pub closing-more : (s : Setup) (first m n : Member) (a b c : Option (List ℕ)) → IsSound s m → (m.applied == m.commit) ≡ false → n ≡ (finished s m).member
    → IsClosing s first m a b → Appends b c (batch_text s m) → IsClosing s first n a c
closing-more s first m n a b c sound some at closing gave =
    let waits = still-waits s m sound some in
    let near = finished-nearer s m waits in
    let enough = closing.enough in
    let applied = near.applied in
    let commit = near.commit in
    let next : IsClosing s first (finished s m).member a c =
    record {
      more = closing.more - 1;
      printed = closing.printed ++ batch_text s m;
      enough = omega (arith, enough, applied, commit);
      all = closing-split s first m a b closing waits some;
      gave = Appends-trans a b c closing.printed (batch_text s m) closing.gave gave;
    } in
    subst (λ (x : Member). IsClosing s first x a c) (sym at) next

-- it comes nearer to the end
pub closing-smaller : (s : Setup) (m n : Member) → IsSound s m → (m.applied == m.commit) ≡ false → n ≡ (finished s m).member → n.commit - n.applied < m.commit - m.applied
closing-smaller s m n sound some at =
    let waits = still-waits s m sound some in
    let near = finished-nearer s m waits in
    let applied = near.applied in
    let commit = near.commit in
    let next : (finished s m).member.commit - (finished s m).member.applied < m.commit - m.applied = omega (arith, applied, commit, waits) in
    subst (λ (x : Member). x.commit - x.applied < m.commit - m.applied) (sym at) next

-- a prefix of the batch was printed
pub closing-cut : (s : Setup) (first m : Member) (a b c : Option (List ℕ)) → IsSound s m → (m.applied == m.commit) ≡ false
    → IsClosing s first m a b → AppendsPrefix b c (batch_text s m) → AppendsPrefix a c (last_text s first)
closing-cut s first m a b c sound some closing cut =
    let waits = still-waits s m sound some in
    subst (AppendsPrefix a c) (closing-split s first m a b closing waits some)
    (AppendsPrefix-longer a c (closing.printed ++ batch_text s m) (closing_text s (closing.more - 1) (finished s m).member)
    (AppendsPrefix-then a b c closing.printed (batch_text s m) cut closing.gave))

-- all is printed
pub closing-done : (s : Setup) (first m : Member) (a b : Option (List ℕ)) → (m.applied == m.commit) ≡ true → IsClosing s first m a b → Appends a b (last_text s first)
closing-done s first m a b none closing =
    let all = sym (append-nil closing.printed) ∙ ap (λ x. closing.printed ++ x) (sym (closing_text-end s closing.more m none)) ∙ closing.all in
    subst (Appends a b) all closing.gave
