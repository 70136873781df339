use Rattle.std.proofs.Common.{◌≡◌, rules, subst, sym, length, ◌≤◌}
use Rattle.std.specs.Prelude.{List, ℕ}
use Rattle.hc_message.specs.Laws.{most_bytes}
use Rattle.hc_message.specs.Message.{message_bytes}
use Rattle.hc_message.proofs.Again.{spelling_is_read}
use Rattle.hc_message.proofs.Sizes.{spellings_are_short}
use Rattle.hc_message.proofs.writing.write.Goals as goal

pub returns-clause-read_back : goal.returns-clause-read_back
returns-clause-read_back c = spelling_is_read c.args.m.now c.from_vec.result (search rules) (search rules)

pub returns-clause-short : goal.returns-clause-short
returns-clause-short c =
    let same : c.from_vec.result ≡ message_bytes c.args.m.now = search rules in
    subst (λ (bytes : List ℕ). length bytes ≤ most_bytes c.args.m.now) (sym same) (spellings_are_short c.args.m.now c.requires)
