use Rattle.std.proofs.Common.{◌≡◌, ◌+◌, ◌≤◌, ◌++◌, ◌∷◌, [], length, ap, sym, subst, length-append, arith}
use Rattle.std.specs.Prelude.{All}
use Rattle.std.proofs.lemmas.Grind.{common_steps}
use Rattle.r2_link.proofs.Records.{sent_upto-push, inside-push, CameWithin-more}
use Rattle.r2_link.proofs.sent.append.Goals as goal

pub returns-clause-sent : goal.returns-clause-sent
returns-clause-sent c =
    sent_upto-push c.args.own.now.heads.items c.push.new.self.items c.args.own.now.bytes.items c.extend_from_slice.new.self.items c.args.own.now.joined c.args.d.now
    (record { from = c.args.d.now.from; to = c.args.d.now.to; start = c.len.result; len = c.len-2.result })
    (grind (arith, common_steps)) (grind (arith, common_steps)) (grind (arith, common_steps)) c.requires.ready.inside c.requires.ready.joined

pub returns-clause-ready : goal.returns-clause-ready
returns-clause-ready c =
    let bytes : c.extend_from_slice.new.self.items ≡ c.args.own.now.bytes.items ++ c.args.d.now.bytes = grind (arith, common_steps) in
    let heads : c.push.new.self.items ≡ c.args.own.now.heads.items ++ record { from = c.args.d.now.from; to = c.args.d.now.to; start = c.len.result; len = c.len-2.result } ∷ [] = grind (arith, common_steps) in
    record {
      bytes = grind (arith, common_steps);
      heads = grind (arith, common_steps);
      inside = subst (λ l. All (λ g. g.start + g.len ≤ length c.extend_from_slice.new.self.items) l) (sym heads)
          (inside-push c.args.own.now.heads.items (record { from = c.args.d.now.from; to = c.args.d.now.to; start = c.len.result; len = c.len-2.result }) (length c.args.own.now.bytes.items) (length c.extend_from_slice.new.self.items)
          (omega (arith, ap length bytes, length-append c.args.own.now.bytes.items c.args.d.now.bytes)) (grind (arith, common_steps)) c.requires.ready.inside);
      joined = CameWithin-more (length c.args.own.now.heads.items) (length c.push.new.self.items) c.args.own.now.joined
          (omega (arith, ap length heads, length-append c.args.own.now.heads.items (record { from = c.args.d.now.from; to = c.args.d.now.to; start = c.len.result; len = c.len-2.result } ∷ []))) c.requires.ready.joined;
    }
