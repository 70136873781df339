use Rattle.std.proofs.Common.{List, rules, sym}
use Rattle.r2_frag.specs.declared.unfinished.Unfinished.{Unfinished}
use Rattle.r2_frag.proofs.Pending.{body-after, body-of, pending-after}
use Rattle.r2_frag.proofs.Taken.{added-refused}
use Rattle.r2_frag.proofs.assembly.Assembly.add.Goals as goal

pub returns-in-Some-clause-ok : goal.returns-in-Some-clause-ok
returns-in-Some-clause-ok c =
    sym (added-refused c.args.self.now c.args.key c.args.header.now c.args.payload.now c.in-Some.answer (search rules))

pub invariant_of-self : goal.invariant_of-self
invariant_of-self c =
    let messages : List Unfinished = c.self.inside.messages.items in
    pending-after c.add_to.result messages c.add_to.new.messages.items c.args.key c.args.header.now c.args.payload.now c.self.invariant c.requires.valid c.requires.class c.add_to.ensures.ok c.add_to.ensures.err

pub invariant_of-self-in-None : goal.invariant_of-self-in-None
invariant_of-self-in-None c =
    let messages : List Unfinished = c.self.inside.messages.items in
    pending-after c.add_new.result messages c.add_new.new.messages.items c.args.key c.args.header.now c.args.payload.now c.self.invariant c.requires.valid c.requires.class c.add_new.ensures.ok c.add_new.ensures.err

pub returns-in-Some-clause-body : goal.returns-in-Some-clause-body
returns-in-Some-clause-body c =
    let messages : List Unfinished = c.self.inside.messages.items in
    body-of c.in-Some.answer messages messages c.args.key c.args.header.now c.args.payload.now c.self.invariant c.requires.valid c.requires.class (sym (added-refused messages c.args.key c.args.header.now c.args.payload.now c.in-Some.answer (search rules)))

pub returns-in-Some-place-clause-body : goal.returns-in-Some-place-clause-body
returns-in-Some-place-clause-body c =
    let messages : List Unfinished = c.self.inside.messages.items in
    body-after c.add_to.result messages c.add_to.new.messages.items c.args.key c.args.header.now c.args.payload.now c.self.invariant c.requires.valid c.requires.class c.add_to.ensures.ok

pub returns-in-Some-place-clause-pending : goal.returns-in-Some-place-clause-pending
returns-in-Some-place-clause-pending c =
    let messages : List Unfinished = c.self.inside.messages.items in
    pending-after c.add_to.result messages c.add_to.new.messages.items c.args.key c.args.header.now c.args.payload.now c.self.invariant c.requires.valid c.requires.class c.add_to.ensures.ok c.add_to.ensures.err

pub returns-in-None-clause-body : goal.returns-in-None-clause-body
returns-in-None-clause-body c =
    let messages : List Unfinished = c.self.inside.messages.items in
    body-after c.add_new.result messages c.add_new.new.messages.items c.args.key c.args.header.now c.args.payload.now c.self.invariant c.requires.valid c.requires.class c.add_new.ensures.ok

pub returns-in-None-clause-pending : goal.returns-in-None-clause-pending
returns-in-None-clause-pending c =
    let messages : List Unfinished = c.self.inside.messages.items in
    pending-after c.add_new.result messages c.add_new.new.messages.items c.args.key c.args.header.now c.args.payload.now c.self.invariant c.requires.valid c.requires.class c.add_new.ensures.ok c.add_new.ensures.err
