use Rattle.std.proofs.Common.{drop, rules}
use Rattle.r2_header.proofs.Sound.{read_back}
use Rattle.r2_header.proofs.writing.write.Goals as goal

pub returns-clause-read_back : goal.returns-clause-read_back
returns-clause-read_back c =
    read_back c.args.h.now c.write_bytes.new.out (drop c.from.result c.args.out.now) c.from.result (search rules) c.requires.valid (search rules) (search rules)
