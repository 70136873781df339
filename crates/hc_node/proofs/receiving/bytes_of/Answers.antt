use Rattle.hc_node.proofs.receiving.bytes_of.Goals as goal

pub returns-clause-fits : goal.returns-clause-fits
returns-clause-fits c = rw (← c.as_slice.ensures) c.fitting.ensures.fits
