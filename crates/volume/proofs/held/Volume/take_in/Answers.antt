use Rattle.volume_items.proofs.Fitting.{done, fits_on}
use Rattle.volume.proofs.held.Volume.take_in.Goals as goal

pub invariant_of-self : goal.invariant_of-self
invariant_of-self c =
    let old = c.args.self.now in
    record {
      fit = fits_on old.block.version old.index.spots c.enter.new.self.spots old.end old.end c.args.taken c.args.entry.now c.requires.entry
          (done c.enter.result (c.enter.ensures.succeeds c.requires.room) c.enter.ensures.ok) old.fit;
    }
