-- The request ids of entries that were written fit, one entry after the other.
use Rattle.std.proofs.Common.{ℕ, ◌+◌, ◌<◌, List, All, get_or, length, take}
use Rattle.std.proofs.lemmas.List.{take_more}
use Rattle.std.proofs.lemmas.List.Elements.{All-push}
use Rattle.r2_base.specs.declared.entry.Entry.{Entry}
use Rattle.r2_base.specs.Names.{FitsRid}

pub fits_more : (es : List Entry) (i : ℕ) (d : Entry) → i < length es → All (λ e. FitsRid e.rid) (take i es) → FitsRid (get_or es i d).rid → All (λ e. FitsRid e.rid) (take (i + 1) es)
fits_more es i d lt so_far here =
    rw (take_more es i d lt) (All-push (λ e. FitsRid e.rid) (take i es) (get_or es i d) so_far here)
