use Rattle.std.proofs.Common.{◌≡◌, length, ◌∙◌, arith}
use Rattle.meta_log.proofs.Pieces.{grown, resized_front}
use Rattle.meta_log.proofs.reading.extend_from.Goals as goal

pub returns-clause-grows : goal.returns-clause-grows
returns-clause-grows g c =
    let end_is : c.len-end.result ≡ length c.args.bytes.now.items = omega (arith, c.len-end.ensures) in
    let long = c.in_ok-resize.ensures.len in
    let fits : length c.read_at.new.room ≡ c.args.room = omega (arith, long, end_is) in
    grown (g.D.Disk.files c.args.disk.now) c.args.name.now c.args.at c.args.room c.in_ok-count.count c.len-end.result c.args.bytes.now.items _ c.read_at.new.room _ _ c.truncate.new.self.items c.resize.new.self.len end_is
    (resized_front _ _ _ _ c.args.room end_is (c.deref_mut.ensures.value ∙ c.in_ok-resize.ensures.items)) c.truncate.ensures.items fits c.in_ok-count.ensures.bound
    (omega (arith, fits, long, end_is, c.in_ok-count.ensures.bound)) c.in_ok-count.ensures.bytes
