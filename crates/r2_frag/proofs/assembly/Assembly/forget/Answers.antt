use Rattle.std.proofs.Common.{◌≡◌, ◌∙◌, List, refl, subst, sym, ap, rules}
use Rattle.std.specs.List.{remove}
use Rattle.r2_frag.specs.declared.unfinished.Unfinished.{Unfinished}
use Rattle.r2_frag.specs.declared.key.Key.{Key}
use Rattle.r2_frag.specs.Assembly.{begun, is_begun, without}
use Rattle.r2_frag.specs.Pending.{ArePending}
use Rattle.r2_frag.proofs.Pending.{pending-without}
use Rattle.r2_frag.proofs.Places.{IsAbsent-position, IsFirst-position}
use Rattle.r2_frag.proofs.assembly.Assembly.forget.Goals as goal

pub returns-in-None-clause-found : goal.returns-in-None-clause-found
unfolding is_begun
returns-in-None-clause-found c =
    let a = IsAbsent-position c.args.key.now c.args.self.now (search rules) in rw a.found refl

pub returns-in-None-clause-left : goal.returns-in-None-clause-left
returns-in-None-clause-left c =
    let a = IsAbsent-position c.args.key.now c.args.self.now (search rules) in sym a.left

pub returns-in-Some-clause-found : goal.returns-in-Some-clause-found
unfolding is_begun
returns-in-Some-clause-found c =
    let f = IsFirst-position c.args.key.now c.args.self.now c.in-Some.place (begun c.args.key.now) (search rules) in
    rw f.found refl

pub returns-in-Some-clause-left : goal.returns-in-Some-clause-left
returns-in-Some-clause-left c =
    let f = IsFirst-position c.args.key.now c.args.self.now c.in-Some.place (begun c.args.key.now) (search rules) in
    c.remove-message.ensures.items ∙ ap (λ (xs : List Unfinished). remove xs c.in-Some.place) c.self.view_is ∙ sym f.left

-- what is left without the message
left-pending : (key : Key) (messages now : List Unfinished) → ArePending messages → now ≡ without key messages → ArePending now
left-pending key messages now p e = subst ArePending (sym e) (pending-without key messages p)

pub returns-in-Some-clause-pending : goal.returns-in-Some-clause-pending
returns-in-Some-clause-pending c =
    let f = IsFirst-position c.args.key.now c.args.self.now c.in-Some.place (begun c.args.key.now) (search rules) in
    let e = c.remove-message.ensures.items ∙ ap (λ (xs : List Unfinished). remove xs c.in-Some.place) c.self.view_is ∙ sym f.left in
    left-pending c.args.key.now c.args.self.now c.remove-message.new.self.items (subst ArePending c.self.view_is c.self.invariant) e

pub invariant_of-self : goal.invariant_of-self
invariant_of-self c =
    let f = IsFirst-position c.args.key.now c.args.self.now c.in-Some.place (begun c.args.key.now) (search rules) in
    let e = c.remove-message.ensures.items ∙ ap (λ (xs : List Unfinished). remove xs c.in-Some.place) c.self.view_is ∙ sym f.left in
    left-pending c.args.key.now c.args.self.now c.remove-message.new.self.items (subst ArePending c.self.view_is c.self.invariant) e
