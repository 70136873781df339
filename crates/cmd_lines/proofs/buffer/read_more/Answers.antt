-- What a read gave comes after what the buffer held.
use Rattle.std.proofs.Common.{◌≡◌, ◌+◌, ◌≤◌, length, take, sym, ◌∙◌, arith}
use Rattle.r2_link.proofs.Streams.{Keeps-refl}
use Rattle.cmd_lines.proofs.Buffers.{after_old}
use Rattle.cmd_lines.proofs.buffer.read_more.Goals as goal

pub returns-in-Err-clause-kept : goal.returns-in-Err-clause-kept
returns-in-Err-clause-kept g c = Keeps-refl _

pub returns-in-Ok-clause-read : goal.returns-in-Ok-clause-read
returns-in-Ok-clause-read g c =
    let old = c.args.buffer.now in
    let is : c.len-len.result ≡ length old.items = omega (arith, c.len-len.ensures, old.ok.0) in
    let inside : c.len-len.result + c.in-Ok.count ≤ c.extend_from_slice.new.self.len =
    omega (arith, c.len-len.ensures, c.in_default.ensures.len, c.in-Ok.ensures.bound.0, c.min-room.ensures, c.read.auto.into) in
    record {
      piece = take c.in-Ok.count c.read.new.into;
      took = c.in-Ok.ensures.bytes.0;
      appended = c.truncate.ensures.items
          ∙ after_old _ old.items _ c.read.new.into _ _ c.len-len.result _ c.in-Ok.count (c.deref_mut.ensures.value ∙ c.in_default.ensures.items) is inside c.in-Ok.ensures.bound.0;
      size = sym c.in-Ok.ensures.bound.1;
      bound = omega (arith, c.in-Ok.ensures.bound.0, c.min-room.ensures, c.read.auto.into);
      one_read = omega (arith, c.in-Ok.ensures.bound.0, c.min-room.ensures, c.read.auto.into);
      none_left = λ none. c.in-Ok.ensures.bytes.1 none (omega (arith, c.min-room.ensures, c.read.auto.into, c.requires));
    }
