use Rattle.std.proofs.Common.{get_or, sym, subst, ◌∙◌}
use Rattle.std.proofs.lemmas.List.{get_or_default}
use Rattle.r2_base.specs.declared.entry.Entry.{Entry}
use Rattle.r2_base.specs.declared.entry.Kind.TheVariants.{Blank}
use Rattle.r2_base.specs.Entry.{no_rid}
use Rattle.hc_order.specs.Taking.{Grown}
use Rattle.hc_order.specs.Apart.{ShareNoRequest}
use Rattle.hc_order.proofs.Grown.{appending-apart}
use Rattle.hc_order.proofs.Growing.{are-next-step, grown-end, grown-step, grown-stop}
use Rattle.hc_order.proofs.appending.append_each.Goals as goal

-- what is read past the end
abbrev none : Entry
none = record { term = 0; kind = Blank; rid = no_rid; replier = 0 }

pub entries-preserved : goal.entries-preserved
entries-preserved c =
    let entries = c.args.entries.now in
    let i = c.entries.i in
    let e = get_or entries i none in
    let is = get_or_default entries i none e c.entries-test.true in
    let did = c.in_ok-append_entry.ensures in
    let some = sym did.more ∙ c.if-not-branch.false in
    record {
      same = grown-step _ entries i c.entries.log c.entries.pool c.entries.invariant.same e c.append_entry.new.log c.append_entry.new.pool c.entries-test.true is some did.log did.pool;
      next = are-next-step entries i e c.entries.log c.append_entry.new.log c.entries.pool c.entries-test.true is c.entries.invariant.next some did.log;
    }

pub returns-then-not-branch-clause-apart : goal.returns-then-not-branch-clause-apart
returns-then-not-branch-clause-apart c = λ apart.
    let entries = c.args.entries.now in
    let i = c.entries.i in
    let e = get_or entries i none in
    let is = get_or_default entries i none e c.entries-test.true in
    let did = c.in_ok-append_entry.ensures in
    let stopped = sym did.more ∙ c.if-not-branch.true in
    subst (λ (g : Grown). ShareNoRequest g.log g.pool)
    (grown-stop _ entries i c.entries.log c.entries.pool c.entries.invariant.same e c.append_entry.new.log c.append_entry.new.pool c.entries-test.true is stopped did.log did.pool)
    (appending-apart entries c.args.log.now c.args.pool.now apart)

pub returns-clause-apart : goal.returns-clause-apart
returns-clause-apart c = λ apart.
    let entries = c.args.entries.now in
    subst (λ (g : Grown). ShareNoRequest g.log g.pool)
    (grown-end _ entries c.entries.i c.entries.log c.entries.pool c.entries.invariant.same c.entries-test.false)
    (appending-apart entries c.args.log.now c.args.pool.now apart)
